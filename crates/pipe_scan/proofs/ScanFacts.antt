-- A scan that stands within a record.
use Rattle.std.proofs.Common.{◌≢◌, set, inl, inr, ◌⊎◌, ◌≡◌, ◌∙◌, ◌≤◌, ◌<◌, ◌+◌, ◌-◌, ◌==◌, ℕ, suc, List, [], ◌∷◌, ◌++◌, length, take, drop, get_or, Bool, true, false, Some, Option, refl, sym, ap, arith, if◌then◌else◌}
use Rattle.std.specs.Prelude.{⊤}
use Rattle.std.specs.Bool.{MatchBool}
use Rattle.std.proofs.lemmas.List.{drop_all, drop_more, get_or-drop, length-drop, length-take, length-take-le, length_push, take_more, take_more_set}
use Rattle.std.proofs.lemmas.Bool.{ne_eqb}
use Rattle.csv.specs.Machine.{Read, next_record, step, is_end, fields_after, field_after, in_field}
use Rattle.csv.specs.Reading.{default_config, records}
use Rattle.csv.specs.declared.parser.State.{State}
use Rattle.csv.specs.declared.parser.State.TheVariants as st
use Rattle.csv.specs.declared.parser.Action.{Action}
use Rattle.pipe_scan.proofs.Between.{IsBetween, all_from}
use Rattle.pipe_scan.specs.Records.{Records}
use Rattle.pipe_scan.specs.InRecord.{IsInside, Reads, from}
use Rattle.pipe_scan.specs.Lines.{ends_line}
use Rattle.pipe_scan.specs.Records.{InOrder, between, cut, records_at}
use Rattle.pipe_scan.specs.NextRecord.{next_at}
use Rattle.pipe_scan.proofs.ByteKinds.{IsOther, kind}
use Rattle.pipe_scan.proofs.NextPlain.{skips, starts}
use Rattle.pipe_scan.proofs.OnePass.{all-one_pass}
use Rattle.pipe_scan.proofs.Cuts.{one_pass-alike}
use Rattle.pipe_scan.proofs.RecordList.{all-none, all-some, ends-none}

-- one field more
pub cut-push : (text : List ℕ) (start : ℕ) (es : List ℕ) (e : ℕ) → cut text start (es ++ (e ∷ [])) ≡ cut text start es ++ (between text (from start es) e ∷ [])
cut-push text start [] e = refl
cut-push text start (d ∷ es) e = ap (λ (fs : List (List ℕ)). between text start d ∷ fs) (cut-push text (d + 1) es e)

-- the next field begins behind the last end
pub from-push : (start : ℕ) (es : List ℕ) (e : ℕ) → from start (es ++ (e ∷ [])) ≡ e + 1
from-push start [] e = refl
from-push start (d ∷ es) e = from-push (d + 1) es e

-- one end more stays in order
order-push : (n start : ℕ) (es : List ℕ) (e : ℕ) → InOrder n start es → from start es ≤ e → e ≤ n → InOrder n start (es ++ (e ∷ []))
order-push n start [] e o l m = (l, m, tt)
order-push n start (d ∷ es) e o l m = (o.0, o.1, order-push n (d + 1) es e o.2 l m)

-- as many fields as ends
pub length-cut : (text : List ℕ) (start : ℕ) (es : List ℕ) → length (cut text start es) ≡ length es
length-cut text start [] = refl
length-cut text start (e ∷ es) = ap (λ (n : ℕ). suc n) (length-cut text (e + 1) es)

-- the next byte of a text
pub rest_at : (text : List ℕ) (i c : ℕ) → i < length text → get_or text i 0 ≡ c → drop i text ≡ c ∷ drop (i + 1) text
rest_at text i c h e = drop_more text i 0 h ∙ ap (λ (x : ℕ). x ∷ drop (i + 1) text) e

-- one byte more of a field
pub between_more : (text : List ℕ) (low i c : ℕ) → low ≤ i → i < length text → get_or text i 0 ≡ c → between text low (i + 1) ≡ between text low i ++ (c ∷ [])
between_more text low i c l h e =
    let k : i + 1 - low ≡ i - low + 1 = omega arith in
    let j : low + (i - low) ≡ i = omega arith in
    let g : get_or (drop low text) (i - low) 0 ≡ c = get_or-drop low text (i - low) 0 ∙ ap (λ (n : ℕ). get_or text n 0) j ∙ e in
    let s : i - low < length (drop low text) = rw length-drop (omega arith) in
    ap (λ (n : ℕ). take n (drop low text)) k ∙ take_more (drop low text) (i - low) 0 s ∙ ap (λ (x : ℕ). take (i - low) (drop low text) ++ (x ∷ [])) g

-- no byte of a field
pub between_none : (text : List ℕ) (i : ℕ) → between text i i ≡ []
between_none text i = let z : i - i ≡ 0 = omega arith in rw z refl

-- the first byte of a field that isn't empty
pub between_first : (text : List ℕ) (low high : ℕ) → low < high → high ≤ length text → between text low high ≡ get_or text low 0 ∷ between text (low + 1) high
between_first text low high l h =
    let k : high - low ≡ suc (high - (low + 1)) = omega (arith, l) in
    rw (k, drop_more text low 0 (omega (arith, l, h))) refl

-- how many bytes a field has
pub length-between : (text : List ℕ) (low high : ℕ) → low ≤ high → high ≤ length text → length (between text low high) ≡ high - low
length-between text low high l h = rw (length-take, length-drop) (omega arith)

-- a byte of a field
copies : (s : State) (fs : List (List ℕ)) (p : List ℕ) (c : ℕ) (rest : List ℕ) → IsInside s → IsOther c → next_record default_config s fs p (c ∷ rest) ≡ next_record default_config st.InField fs (p ++ (c ∷ [])) rest
unfolding next_record
copies st.StartField fs p c rest i o = rw (o.quote, o.comma, o.cr, o.lf) refl
copies st.InField fs p c rest i o = rw (o.comma, o.cr, o.lf) refl
copies st.StartRecord fs p c rest i o = absurd i
copies st.AfterCr fs p c rest i o = absurd i
copies st.InQuoted fs p c rest i o = absurd i
copies st.AfterQuote fs p c rest i o = absurd i
copies st.InEscape fs p c rest i o = absurd i
copies st.InComment fs p c rest i o = absurd i

-- a comma
parts : (s : State) (fs : List (List ℕ)) (p rest : List ℕ) → IsInside s → next_record default_config s fs p (44 ∷ rest) ≡ next_record default_config st.StartField (fs ++ (p ∷ [])) [] rest
unfolding next_record
parts st.StartField fs p rest i = refl
parts st.InField fs p rest i = refl
parts st.StartRecord fs p rest i = absurd i
parts st.AfterCr fs p rest i = absurd i
parts st.InQuoted fs p rest i = absurd i
parts st.AfterQuote fs p rest i = absurd i
parts st.InEscape fs p rest i = absurd i
parts st.InComment fs p rest i = absurd i

-- past a byte that ends a line, before a record
pub skips_at : (text : List ℕ) (i : ℕ) → i < length text → ends_line (get_or text i 0) ≡ true → next_at text i ≡ next_at text (i + 1)
skips_at text i l e = rw (rest_at text i (get_or text i 0) l refl) (skips st.StartRecord (get_or text i 0) (drop (i + 1) text) tt e)

-- what the end of a line leaves
abbrev pub Closes : Option Read → List (List ℕ) → List ℕ → Type 0
Closes o fs rest = (s : State) × IsBetween s × (o ≡ Some (fs, s, rest))

-- the end of a line
closes : (s : State) (fs : List (List ℕ)) (p : List ℕ) (c : ℕ) (rest : List ℕ) → IsInside s → (c ≡ 13) ⊎ (c ≡ 10) → Closes (next_record default_config s fs p (c ∷ rest)) (fs ++ (p ∷ [])) rest
unfolding next_record
closes st.StartField fs p c rest i (inl e) = rw e (st.AfterCr, tt, refl)
closes st.StartField fs p c rest i (inr e) = rw e (st.StartRecord, tt, refl)
closes st.InField fs p c rest i (inl e) = rw e (st.AfterCr, tt, refl)
closes st.InField fs p c rest i (inr e) = rw e (st.StartRecord, tt, refl)
closes st.StartRecord fs p c rest i e = absurd i
closes st.AfterCr fs p c rest i e = absurd i
closes st.InQuoted fs p c rest i e = absurd i
closes st.AfterQuote fs p c rest i e = absurd i
closes st.InEscape fs p c rest i e = absurd i
closes st.InComment fs p c rest i e = absurd i

-- the end of a text
closes_last : (s : State) (fs : List (List ℕ)) (p : List ℕ) → IsInside s → Closes (next_record default_config s fs p []) (fs ++ (p ∷ [])) []
unfolding next_record
closes_last st.StartField fs p i = (st.StartRecord, tt, refl)
closes_last st.InField fs p i = (st.StartRecord, tt, refl)
closes_last st.StartRecord fs p i = absurd i
closes_last st.AfterCr fs p i = absurd i
closes_last st.InQuoted fs p i = absurd i
closes_last st.AfterQuote fs p i = absurd i
closes_last st.InEscape fs p i = absurd i
closes_last st.InComment fs p i = absurd i

-- a scan that begins
pub reads-starts : (text : List ℕ) (at start : ℕ) → next_at text at ≡ next_at text start → start < length text → ends_line (get_or text start 0) ≡ false → Reads text at start [] start
reads-starts text at start e l n =
    let d = rest_at text start (get_or text start 0) l refl in record {
      state = st.StartField;
      inside = tt;
      behind = omega arith;
      order = tt;
      reads = e ∙ rw (between_none text start, d) (starts st.StartRecord (get_or text start 0) (drop (start + 1) text) tt (kind (get_or text start 0)) n);
    }

-- past a byte of a field
pub reads-copies : (text : List ℕ) (at start : ℕ) (ends : List ℕ) (i : ℕ) → Reads text at start ends i → i < length text → IsOther (get_or text i 0) → Reads text at start ends (i + 1)
reads-copies text at start ends i r l o = record {
  state = st.InField;
  inside = tt;
  behind = omega (arith, r.behind);
  order = r.order;
  reads = r.reads ∙ rw (rest_at text i (get_or text i 0) l refl, between_more text (from start ends) i (get_or text i 0) r.behind l refl)
      (copies r.state (cut text start ends) (between text (from start ends) i) (get_or text i 0) (drop (i + 1) text) r.inside o);
}

-- past a comma
pub reads-parts : (text : List ℕ) (at start : ℕ) (ends : List ℕ) (i : ℕ) → Reads text at start ends i → i < length text → get_or text i 0 ≡ 44 → Reads text at start (ends ++ (i ∷ [])) (i + 1)
reads-parts text at start ends i r l e = record {
  state = st.StartField;
  inside = tt;
  behind = rw (from-push start ends i) (omega arith);
  order = order-push (length text) start ends i r.order r.behind (omega arith);
  reads = r.reads ∙ rw (rest_at text i 44 l e, cut-push text start ends i, from-push start ends i, between_none text (i + 1))
      (parts r.state (cut text start ends) (between text (from start ends) i) (drop (i + 1) text) r.inside);
}

-- a record, and those behind it
pub record Ends (text : List ℕ) (at start : ℕ) (ends : List ℕ) (next : ℕ) : Type 0 where
  pub records : records_at text at ≡ cut text start ends ∷ records_at text next
  pub order : InOrder (length text) start ends

-- between records all states give the same
pub all-alike : (s : State) (xs : List ℕ) → IsBetween s → all_from default_config s xs ≡ records default_config xs
all-alike s xs b = all-one_pass s xs b ∙ one_pass-alike s xs b ∙ sym (all-one_pass st.StartRecord xs tt)

-- the next record, and those behind it
pub records_next : (text : List ℕ) (at next : ℕ) (fs : List (List ℕ)) → Closes (next_at text at) fs (drop next text) → records_at text at ≡ fs ∷ records_at text next
records_next text at next fs c =
    all-some default_config st.StartRecord (drop at text) (fs, c.0, drop next text) tt c.2 ∙ ap (λ (rs : Records). fs ∷ rs) (all-alike c.0 (drop next text) c.1)

-- where nothing is next there is no record
pub records_none : (text : List ℕ) (at : ℕ) → next_at text at ≡ next_at text (length text) → records_at text at ≡ []
records_none text at e = all-none default_config st.StartRecord (drop at text) (e ∙ rw (drop_all (length text) text (omega arith)) (ends-none default_config st.StartRecord tt))

-- at the end of a line
pub reads-ends : (text : List ℕ) (at start : ℕ) (ends : List ℕ) (i : ℕ) → Reads text at start ends i → i < length text → (get_or text i 0 ≡ 13) ⊎ (get_or text i 0 ≡ 10) → Ends text at start (ends ++ (i ∷ [])) (i + 1)
reads-ends text at start ends i r l e = record {
  records = records_next text at (i + 1) (cut text start (ends ++ (i ∷ [])))
      (let k = closes r.state (cut text start ends) (between text (from start ends) i) (get_or text i 0) (drop (i + 1) text) r.inside e in
      (k.0, k.1, r.reads ∙ rw (rest_at text i (get_or text i 0) l refl, cut-push text start ends i) k.2));
  order = order-push (length text) start ends i r.order r.behind (omega arith);
}

-- at the end of the text
pub reads-ends_last : (text : List ℕ) (at start : ℕ) (ends : List ℕ) → Reads text at start ends (length text) → Ends text at start (ends ++ (length text ∷ [])) (length text)
reads-ends_last text at start ends r =
    let n = length text in
    let z = drop_all n text (omega arith) in record {
      records = records_next text at n (cut text start (ends ++ (n ∷ [])))
          (let k = closes_last r.state (cut text start ends) (between text (from start ends) n) r.inside in
          (k.0, k.1, r.reads ∙ rw (z, cut-push text start ends n) k.2));
      order = order-push n start ends n r.order r.behind (omega arith);
    }

-- a state from which a record ends, at the end of the text at the latest
abbrev IsWithin : State → Type 0
IsWithin st.StartRecord = ⊥
IsWithin st.AfterCr = ⊥
IsWithin st.StartField = ⊤
IsWithin st.InField = ⊤
IsWithin st.InQuoted = ⊤
IsWithin st.AfterQuote = ⊤
IsWithin st.InEscape = ⊤
IsWithin st.InComment = ⊥

-- inside is within
within : (s : State) → IsInside s → IsWithin s
within st.StartField i = tt
within st.InField i = tt
within st.StartRecord i = absurd i
within st.AfterCr i = absurd i
within st.InQuoted i = absurd i
within st.AfterQuote i = absurd i
within st.InEscape i = absurd i
within st.InComment i = absurd i

-- a byte ends the record with one field more, or stays within it
abbrev Keeps : List (List ℕ) → List ℕ → State × Action → Type 0
Keeps fs p a = MatchBool (is_end a.1) (length fs < length (fields_after a.1 fs p)) (IsWithin a.0 × (length fs ≤ length (fields_after a.1 fs p)))

-- a choice keeps what both of its cases keep
choice : (fs : List (List ℕ)) (p : List ℕ) (b : Bool) (x y : State × Action) → Keeps fs p x → Keeps fs p y → Keeps fs p (if b then x else y)
choice fs p true x y h k = h
choice fs p false x y h k = k

-- a byte within a field does
in_field-keeps : (fs : List (List ℕ)) (p : List ℕ) (c : ℕ) → Keeps fs p (in_field default_config c)
in_field-keeps fs p c =
    let l = length_push fs p in
    choice fs p (c == 44) _ _ (tt, omega (arith, l)) (choice fs p (ends_line c) _ _ (omega (arith, l)) (tt, omega arith))

-- so does each step
step-keeps : (s : State) (fs : List (List ℕ)) (p : List ℕ) (c : ℕ) → IsWithin s → Keeps fs p (step default_config s c)
step-keeps st.StartField fs p c w = choice fs p (c == 34) _ _ (tt, omega arith) (in_field-keeps fs p c)
step-keeps st.InField fs p c w = in_field-keeps fs p c
step-keeps st.InQuoted fs p c w = choice fs p (c == 34) _ _ (tt, omega arith) (tt, omega arith)
step-keeps st.AfterQuote fs p c w = choice fs p (c == 34) _ _ (tt, omega arith) (in_field-keeps fs p c)
step-keeps st.InEscape fs p c w = (tt, omega arith)
step-keeps st.StartRecord fs p c w = absurd w
step-keeps st.AfterCr fs p c w = absurd w
step-keeps st.InComment fs p c w = absurd w

-- a record of more fields than those
abbrev IsWider : List (List ℕ) → Option Read → Type 0
IsWider fs o = (q : Read) × (o ≡ Some q) × (length fs < length q.0)

-- a step that keeps fields, before a record that is wider
wider_step : (b : Bool) (fs fs2 : List (List ℕ)) (s2 : State) (rest : List ℕ) (o : Option Read) → MatchBool b (length fs < length fs2) (IsWithin s2 × (length fs ≤ length fs2))
    → (IsWithin s2 → IsWider fs2 o) → IsWider fs (if b then Some (fs2, s2, rest) else o)
wider_step true fs fs2 s2 rest o k h = ((fs2, s2, rest), refl, k)
wider_step false fs fs2 s2 rest o k h = let m = h k.0 in (m.0, m.1, omega (arith, m.2, k.1))

-- the end of the text ends the record with one field more
wider_last : (s : State) (fs : List (List ℕ)) (p : List ℕ) → IsWithin s → IsWider fs (next_record default_config s fs p [])
unfolding next_record
wider_last st.StartField fs p w = ((fs ++ (p ∷ []), st.StartRecord, []), refl, omega (arith, length_push fs p))
wider_last st.InField fs p w = ((fs ++ (p ∷ []), st.StartRecord, []), refl, omega (arith, length_push fs p))
wider_last st.InQuoted fs p w = ((fs ++ (p ∷ []), st.StartRecord, []), refl, omega (arith, length_push fs p))
wider_last st.AfterQuote fs p w = ((fs ++ (p ∷ []), st.StartRecord, []), refl, omega (arith, length_push fs p))
wider_last st.InEscape fs p w = ((fs ++ (p ∷ []), st.StartRecord, []), refl, omega (arith, length_push fs p))
wider_last st.StartRecord fs p w = absurd w
wider_last st.AfterCr fs p w = absurd w
wider_last st.InComment fs p w = absurd w

-- from within a record of some fields the record has more
wider : (s : State) (fs : List (List ℕ)) (p xs : List ℕ) → IsWithin s → IsWider fs (next_record default_config s fs p xs)
unfolding next_record
wider s fs p [] w = wider_last s fs p w
wider s fs p (c ∷ rest) w =
    wider_step (is_end (step default_config s c).1) fs (fields_after (step default_config s c).1 fs p) (step default_config s c).0 rest _ (step-keeps s fs p c w)
    (λ v. wider (step default_config s c).0 (fields_after (step default_config s c).1 fs p) (field_after (step default_config s c).1 c p) rest v)

-- from within a record it has one field more at least
pub reads-wide : (text : List ℕ) (at start : ℕ) (ends : List ℕ) (i : ℕ) → Reads text at start ends i → (r : List (List ℕ)) × (rs : Records) × (records_at text at ≡ r ∷ rs) × (length ends < length r)
reads-wide text at start ends i r =
    let w = wider r.state (cut text start ends) (between text (from start ends) i) (drop i text) (within r.state r.inside) in
    let l : length ends < length w.0.0 = omega (arith, w.2, length-cut text start ends) in
    (w.0.0, all_from default_config w.0.1 w.0.2, all-some default_config st.StartRecord (drop at text) w.0 tt (r.reads ∙ w.1), l)

-- a byte above the comma is of a field
pub other_above : (c : ℕ) → 44 < c → IsOther c
other_above c h = record { comma = ne_eqb c 44 (omega arith); quote = ne_eqb c 34 (omega arith); cr = ne_eqb c 13 (omega arith); lf = ne_eqb c 10 (omega arith) }

-- a byte that is none of the four
pub other_than : (c : ℕ) → c ≢ 44 → c ≢ 34 → c ≢ 13 → c ≢ 10 → IsOther c
other_than c n m k j = record { comma = ne_eqb c 44 n; quote = ne_eqb c 34 m; cr = ne_eqb c 13 k; lf = ne_eqb c 10 j }

-- the end of a field is written down
pub scans-part : (text : List ℕ) (at start : ℕ) (ends : List ℕ) (count i : ℕ) → Reads text at start (take count ends) i → count < length ends → i < length text → get_or text i 0 ≡ 44
    → Reads text at start (take (count + 1) (set ends count i)) (i + 1)
scans-part text at start ends count i r l h e = rw (take_more_set ends count i l) (reads-parts text at start (take count ends) i r h e)

-- the record ends with a line
pub scans-end : (text : List ℕ) (at start : ℕ) (ends : List ℕ) (count i : ℕ) → Reads text at start (take count ends) i → count < length ends → i < length text → (get_or text i 0 ≡ 13) ⊎ (get_or text i 0 ≡ 10)
    → Ends text at start (take (count + 1) (set ends count i)) (i + 1)
scans-end text at start ends count i r l h e = rw (take_more_set ends count i l) (reads-ends text at start (take count ends) i r h e)

-- the record ends with the text
pub scans-last : (text : List ℕ) (at start : ℕ) (ends : List ℕ) (count : ℕ) → Reads text at start (take count ends) (length text) → count < length ends
    → Ends text at start (take (count + 1) (set ends count (length text))) (length text)
scans-last text at start ends count r l = rw (take_more_set ends count (length text) l) (reads-ends_last text at start (take count ends) r)

-- there is no room for one end more
pub scans-wide : (text : List ℕ) (at start : ℕ) (ends : List ℕ) (count i : ℕ) → Reads text at start (take count ends) i → count ≡ length ends
    → (r : List (List ℕ)) × (rs : Records) × (records_at text at ≡ r ∷ rs) × (length ends < length r)
scans-wide text at start ends count i r e =
    let w = reads-wide text at start (take count ends) i r in
    let n : length (take count ends) ≡ count = length-take-le count ends (omega (arith, e)) in
    (w.0, w.1, w.2, omega (arith, n, e, w.3))
