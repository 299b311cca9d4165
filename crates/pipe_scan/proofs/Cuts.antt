-- A text that is cut behind the end of a line, before which there is no quote.
use Rattle.std.proofs.Common.{inl, inr, ◌⊎◌, ◌≡◌, ◌∙◌, ◌==◌, not, ℕ, List, [], ◌∷◌, ◌++◌, true, false, refl, sym, ap}
use Rattle.std.specs.Prelude.{⊤}
use Rattle.std.proofs.lemmas.Bool.{and_parts, not-true}
use Rattle.csv.specs.Reading.{default_config, records}
use Rattle.csv.specs.declared.parser.State.{State}
use Rattle.csv.specs.declared.parser.State.TheVariants as st
use Rattle.pipe_scan.proofs.Between.{IsBetween}
use Rattle.pipe_scan.specs.Records.{Records}
use Rattle.pipe_scan.specs.Lines.{ends_line, ends_with_line, has_no_quote}
use Rattle.pipe_scan.proofs.ByteKinds.{Kind, kind, comma, quote, cr, lf, other}
use Rattle.pipe_scan.proofs.NextPlain.{between_alike}
use Rattle.pipe_scan.proofs.OnePass.{all-one_pass, in_one_pass, one_pass, one_pass-next}

-- a state without a quote, with the field at hand: between two records there is none
abbrev IsAt : State → List (List ℕ) → List ℕ → Type 0
IsAt st.StartRecord fields field = (fields ≡ []) × (field ≡ [])
IsAt st.AfterCr fields field = (fields ≡ []) × (field ≡ [])
IsAt st.StartField fields field = ⊤
IsAt st.InField fields field = ⊤
IsAt st.InQuoted fields field = ⊥
IsAt st.AfterQuote fields field = ⊥
IsAt st.InEscape fields field = ⊥
IsAt st.InComment fields field = ⊥

-- between two records all states give the same
pub one_pass-alike : (s : State) (xs : List ℕ) → IsBetween s → one_pass s xs ≡ one_pass st.StartRecord xs
one_pass-alike s xs b = one_pass-next s [] [] xs ∙ rw (between_alike s xs b) (sym (one_pass-next st.StartRecord [] [] xs))

-- the records of a text, and then those of another
abbrev Splits : State → List (List ℕ) → List ℕ → List ℕ → List ℕ → Type 0
Splits s fields field xs ys = in_one_pass s fields field (xs ++ ys) ≡ in_one_pass s fields field xs ++ one_pass st.StartRecord ys

-- a byte that ends a line
end_byte : (c : ℕ) → Kind c → ends_line c ≡ true → (c ≡ 13) ⊎ (c ≡ 10)
end_byte c (comma e) h = absurd (cc (rw e at h))
end_byte c (quote e) h = absurd (cc (rw e at h))
end_byte c (cr e) h = inl e
end_byte c (lf e) h = inr e
end_byte c (other o) h = absurd (cc (rw (o.cr, o.lf) at h))

-- a record in front
in_turn : (f : List (List ℕ)) (xs ys zs : Records) → xs ≡ ys ++ zs → f ∷ xs ≡ (f ∷ ys) ++ zs
in_turn f xs ys zs e = ap (λ (t : Records). f ∷ t) e

-- a text of a single byte that ends a line
last_byte : (s : State) (fields : List (List ℕ)) (field : List ℕ) (c : ℕ) (ys : List ℕ) → (c ≡ 13) ⊎ (c ≡ 10) → IsAt s fields field → Splits s fields field (c ∷ []) ys
last_byte st.StartRecord fields field c ys (inl e) a = rw (e, a.0, a.1) refl
last_byte st.StartRecord fields field c ys (inr e) a = rw (e, a.0, a.1) refl
last_byte st.AfterCr fields field c ys (inl e) a = rw (e, a.0, a.1) refl
last_byte st.AfterCr fields field c ys (inr e) a = rw (e, a.0, a.1) refl
last_byte st.StartField fields field c ys (inl e) a = rw e (in_turn _ _ [] _ (one_pass-alike st.AfterCr ys tt))
last_byte st.StartField fields field c ys (inr e) a = rw e refl
last_byte st.InField fields field c ys (inl e) a = rw e (in_turn _ _ [] _ (one_pass-alike st.AfterCr ys tt))
last_byte st.InField fields field c ys (inr e) a = rw e refl
last_byte st.InQuoted fields field c ys k a = absurd a
last_byte st.AfterQuote fields field c ys k a = absurd a
last_byte st.InEscape fields field c ys k a = absurd a
last_byte st.InComment fields field c ys k a = absurd a

-- one byte more in front
more_byte : (s : State) (fields : List (List ℕ)) (field : List ℕ) (c : ℕ) (xs ys : List ℕ) → Kind c → IsAt s fields field → (c == 34) ≡ false
    → ((s2 : State) (f : List (List ℕ)) (p : List ℕ) → IsAt s2 f p → Splits s2 f p xs ys) → Splits s fields field (c ∷ xs) ys
more_byte st.StartRecord fields field c xs ys (comma e) a q more = rw e (more st.StartField (fields ++ (field ∷ [])) [] tt)
more_byte st.StartRecord fields field c xs ys (quote e) a q more = absurd (cc (rw e at q))
more_byte st.StartRecord fields field c xs ys (cr e) a q more = rw e (more st.StartRecord fields field a)
more_byte st.StartRecord fields field c xs ys (lf e) a q more = rw e (more st.StartRecord fields field a)
more_byte st.StartRecord fields field c xs ys (other o) a q more = rw (o.cr, o.lf, o.quote, o.comma) (more st.InField fields (field ++ (c ∷ [])) tt)
more_byte st.AfterCr fields field c xs ys (comma e) a q more = rw e (more st.StartField (fields ++ (field ∷ [])) [] tt)
more_byte st.AfterCr fields field c xs ys (quote e) a q more = absurd (cc (rw e at q))
more_byte st.AfterCr fields field c xs ys (cr e) a q more = rw e (more st.StartRecord fields field a)
more_byte st.AfterCr fields field c xs ys (lf e) a q more = rw e (more st.StartRecord fields field a)
more_byte st.AfterCr fields field c xs ys (other o) a q more = rw (o.lf, o.cr, o.quote, o.comma) (more st.InField fields (field ++ (c ∷ [])) tt)
more_byte st.StartField fields field c xs ys (comma e) a q more = rw e (more st.StartField (fields ++ (field ∷ [])) [] tt)
more_byte st.StartField fields field c xs ys (quote e) a q more = absurd (cc (rw e at q))
more_byte st.StartField fields field c xs ys (cr e) a q more = rw e (in_turn (fields ++ (field ∷ [])) (in_one_pass st.AfterCr [] [] (xs ++ ys)) (in_one_pass st.AfterCr [] [] xs) (one_pass st.StartRecord ys) (more st.AfterCr [] [] (refl, refl)))
more_byte st.StartField fields field c xs ys (lf e) a q more = rw e (in_turn (fields ++ (field ∷ [])) (in_one_pass st.StartRecord [] [] (xs ++ ys)) (in_one_pass st.StartRecord [] [] xs) (one_pass st.StartRecord ys) (more st.StartRecord [] [] (refl, refl)))
more_byte st.StartField fields field c xs ys (other o) a q more = rw (o.quote, o.comma, o.cr, o.lf) (more st.InField fields (field ++ (c ∷ [])) tt)
more_byte st.InField fields field c xs ys (comma e) a q more = rw e (more st.StartField (fields ++ (field ∷ [])) [] tt)
more_byte st.InField fields field c xs ys (quote e) a q more = absurd (cc (rw e at q))
more_byte st.InField fields field c xs ys (cr e) a q more = rw e (in_turn (fields ++ (field ∷ [])) (in_one_pass st.AfterCr [] [] (xs ++ ys)) (in_one_pass st.AfterCr [] [] xs) (one_pass st.StartRecord ys) (more st.AfterCr [] [] (refl, refl)))
more_byte st.InField fields field c xs ys (lf e) a q more = rw e (in_turn (fields ++ (field ∷ [])) (in_one_pass st.StartRecord [] [] (xs ++ ys)) (in_one_pass st.StartRecord [] [] xs) (one_pass st.StartRecord ys) (more st.StartRecord [] [] (refl, refl)))
more_byte st.InField fields field c xs ys (other o) a q more = rw (o.comma, o.cr, o.lf) (more st.InField fields (field ++ (c ∷ [])) tt)
more_byte st.InQuoted fields field c xs ys k a q more = absurd a
more_byte st.AfterQuote fields field c xs ys k a q more = absurd a
more_byte st.InEscape fields field c xs ys k a q more = absurd a
more_byte st.InComment fields field c xs ys k a q more = absurd a

-- a text that ends with a line
splits : (s : State) (fields : List (List ℕ)) (field xs ys : List ℕ) → IsAt s fields field → has_no_quote xs ≡ true → ends_with_line xs ≡ true → Splits s fields field xs ys
splits s fields field [] ys a h e = absurd (cc e)
splits s fields field (c ∷ []) ys a h e = last_byte s fields field c ys (end_byte c (kind c) e) a
splits s fields field (c ∷ d ∷ xs) ys a h e =
    let h2 = and_parts (not (c == 34)) (has_no_quote (d ∷ xs)) h in
    more_byte s fields field c (d ∷ xs) ys (kind c) a (not-true (c == 34) h2.0) (λ s2 f p b. splits s2 f p (d ∷ xs) ys b h2.1 e)

-- the records of a text that is cut there are those of its parts
pub cut-records : (xs ys : List ℕ) → has_no_quote xs ≡ true → ends_with_line xs ≡ true → records default_config (xs ++ ys) ≡ records default_config xs ++ records default_config ys
cut-records xs ys h e =
    all-one_pass st.StartRecord (xs ++ ys) tt ∙ splits st.StartRecord [] [] xs ys (refl, refl) h e
    ∙ rw (all-one_pass st.StartRecord xs tt, all-one_pass st.StartRecord ys tt) refl
