-- The pieces of a text, one after the other.
use Rattle.std.proofs.Common.{subst, ◌≡◌, ◌∙◌, ◌≤◌, ◌<◌, ◌+◌, ◌-◌, ◌==◌, not, ℕ, zero, suc, List, [], ◌∷◌, ◌++◌, length, take, drop, true, refl, sym, ap, arith, append_assoc}
use Rattle.std.proofs.lemmas.Bool.{and_parts}
use Rattle.std.proofs.lemmas.List.{append-nil, drop_all, drop-drop}
use Rattle.csv.specs.Reading.{default_config, records}
use Rattle.csv.specs.declared.parser.State.TheVariants as st
use Rattle.pipe_scan.specs.Records.{Records}
use Rattle.pipe_scan.specs.Pieces.{ArePieces, IsPiece, records_of_pieces}
use Rattle.pipe_scan.specs.Lines.{has_no_quote}
use Rattle.pipe_scan.specs.Records.{between, records_at}
use Rattle.pipe_scan.proofs.PieceEnds.{Pieces}
use Rattle.pipe_scan.proofs.RecordList.{all-none, ends-none}

-- where the last piece ends
abbrev pub last_end : ℕ → List ℕ → ℕ
last_end at [] = at
last_end at (e ∷ es) = last_end e es

-- pieces up to a place
abbrev pub AreFirst : List ℕ → ℕ → ℕ → List ℕ → Type 0
AreFirst text size at [] = Unit {0}
AreFirst text size at (e ∷ es) = (at < e) × IsPiece text size at e × AreFirst text size e es

-- parts of a text without a quote have none
plain-drop : (n : ℕ) (xs : List ℕ) → has_no_quote xs ≡ true → has_no_quote (drop n xs) ≡ true
plain-drop zero xs h = h
plain-drop (suc n) [] h = refl
plain-drop (suc n) (c ∷ cs) h = plain-drop n cs (and_parts (not (c == 34)) (has_no_quote cs) h).1

-- so has a front
plain-take : (n : ℕ) (xs : List ℕ) → has_no_quote xs ≡ true → has_no_quote (take n xs) ≡ true
plain-take zero xs h = refl
plain-take (suc n) [] h = refl
plain-take (suc n) (c ∷ cs) h = let k = and_parts (not (c == 34)) (has_no_quote cs) h in rw (k.0, plain-take n cs k.1) refl

-- so has a piece
plain_piece : (text : List ℕ) (at low high : ℕ) → at ≤ low → has_no_quote (drop at text) ≡ true → has_no_quote (between text low high) ≡ true
plain_piece text at low high l h =
    let j : at + (low - at) ≡ low = omega (arith, l) in
    let d : drop (low - at) (drop at text) ≡ drop low text = drop-drop (low - at) at text ∙ ap (λ (n : ℕ). drop n text) j in
    plain-take (high - low) (drop low text) (subst (λ (xs : List ℕ). has_no_quote xs ≡ true) d (plain-drop (low - at) (drop at text) h))

-- one piece more
pieces-push : (text : List ℕ) (at : ℕ) (es : List ℕ) (e : ℕ) → records_of_pieces text at (es ++ (e ∷ [])) ≡ records_of_pieces text at es ++ records default_config (between text (last_end at es) e)
pieces-push text at [] e = append-nil (records default_config (between text at e))
pieces-push text at (d ∷ es) e =
    ap (λ (rs : Records). records default_config (between text at d) ++ rs) (pieces-push text d es e)
    ∙ sym (append_assoc (records default_config (between text at d)) (records_of_pieces text d es) (records default_config (between text (last_end d es) e)))

-- the last piece ends at the last end
last-push : (at : ℕ) (es : List ℕ) (e : ℕ) → last_end at (es ++ (e ∷ [])) ≡ e
last-push at [] e = refl
last-push at (d ∷ es) e = last-push d es e

-- one piece more lies behind them
first-push : (text : List ℕ) (size at : ℕ) (es : List ℕ) (e : ℕ) → AreFirst text size at es → last_end at es < e → IsPiece text size (last_end at es) e → AreFirst text size at (es ++ (e ∷ []))
first-push text size at [] e p l q = (l, q, tt)
first-push text size at (d ∷ es) e p l q = (p.0, p.1, first-push text size d es e p.2 l q)

-- they end behind the place where they begin
first-low : (text : List ℕ) (size at : ℕ) (es : List ℕ) → AreFirst text size at es → at ≤ last_end at es
first-low text size at [] p = omega arith
first-low text size at (e ∷ es) p = let k = first-low text size e es p.2 in omega (arith, k, p.0)

-- where they reach the end they are all
first-all : (text : List ℕ) (size at : ℕ) (es : List ℕ) → AreFirst text size at es → last_end at es ≡ length text → ArePieces text size at es
first-all text size at [] p e = e
first-all text size at (d ∷ es) p e = (p.0, p.1, first-all text size d es p.2 e)

-- a text from a place on, cut into pieces up to another
pub record IsCut (text : List ℕ) (size at low : ℕ) (es : List ℕ) : Type 0 where
  pub first : AreFirst text size at es
  pub last : last_end at es ≡ low
  pub within : low ≤ length text
  pub records : has_no_quote (drop at text) ≡ true → records_at text at ≡ records_of_pieces text at es ++ records_at text low

-- not cut yet
pub cut_none : (text : List ℕ) (size at : ℕ) → at ≤ length text → IsCut text size at at []
cut_none text size at l = record { first = tt; last = refl; within = l; records = λ h. refl }

-- cut once more
pub cut_more : (text : List ℕ) (size at low high : ℕ) (es : List ℕ) → IsCut text size at low es → low < length text → IsPiece text size low high → Pieces text low high → IsCut text size at high (es ++ (high ∷ []))
cut_more text size at low high es c l q piece =
    let a : at ≤ low = subst (λ (n : ℕ). at ≤ n) c.last (first-low text size at es c.first) in record {
      first = first-push text size at es high c.first (rw c.last (q.more l)) (rw c.last q);
      last = last-push at es high;
      within = q.within;
      records = λ p.
          c.records p
          ∙ ap (λ (rs : Records). records_of_pieces text at es ++ rs) (piece (plain_piece text at low high a p))
          ∙ sym (append_assoc (records_of_pieces text at es) (records default_config (between text low high)) (records_at text high))
          ∙ ap (λ (rs : Records). rs ++ records_at text high) (sym (pieces-push text at es high ∙ rw c.last refl));
    }

-- the records of pieces up to the end
pub cut_records : (text : List ℕ) (size at low : ℕ) (es : List ℕ) → IsCut text size at low es → length text ≤ low → has_no_quote (drop at text) ≡ true → records_at text at ≡ records_of_pieces text at es
cut_records text size at low es c l p =
    let none : records_at text low ≡ [] = rw (drop_all low text l) (all-none default_config st.StartRecord [] (ends-none default_config st.StartRecord tt)) in
    c.records p ∙ rw none (append-nil (records_of_pieces text at es))

-- pieces up to the end are all
pub cut_pieces : (text : List ℕ) (size at low : ℕ) (es : List ℕ) → IsCut text size at low es → length text ≤ low → ArePieces text size at es
cut_pieces text size at low es c l = first-all text size at es c.first (c.last ∙ omega (arith, l, c.within))
