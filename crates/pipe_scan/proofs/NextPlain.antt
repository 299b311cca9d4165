-- What a read gives where no quote is met.
use Rattle.std.proofs.Common.{◌≡◌, ◌∙◌, ◌==◌, ℕ, List, [], ◌∷◌, ◌++◌, Bool, true, false, Some, Option, refl, sym, ap, if◌then◌else◌}
use Rattle.std.specs.List.{onto_first}
use Rattle.std.proofs.lemmas.List.{append-nil, append_assoc}
use Rattle.csv.specs.Machine.{Read, next_record}
use Rattle.csv.specs.Reading.{default_config}
use Rattle.csv.specs.declared.parser.State.{State}
use Rattle.csv.specs.declared.parser.State.TheVariants as st
use Rattle.pipe_scan.proofs.ByteKinds.{IsOther, Kind, kind, comma, quote, cr, lf, other}
use Rattle.pipe_scan.proofs.Between.{IsBetween}
use Rattle.pipe_scan.proofs.RecordList.{ends-none}
use Rattle.pipe_scan.specs.Lines.{ends_line, is_comma, has_no_quote, fields_of_line}
use Rattle.pipe_scan.proofs.FirstLine.{skip_ends, line_of, after_line, state_after, first_line_record, next_line_record}

-- bytes in front of the first of some fields
abbrev in_front : List ℕ → List (List ℕ) → List (List ℕ)
in_front p [] = p ∷ []
in_front p (f ∷ fs) = (p ++ f) ∷ fs

-- what a read gives from within a field
abbrev rest_of : List (List ℕ) → List ℕ → List ℕ → Option Read
rest_of fields field xs = Some (fields ++ in_front field (fields_of_line (line_of xs)), state_after xs, after_line xs)

-- a read that goes on in the middle of a field, or at the start of one
record Goes (fields : List (List ℕ)) (field xs : List ℕ) : Type 0 where
  inside : next_record default_config st.InField fields field xs ≡ rest_of fields field xs
  start : next_record default_config st.StartField fields field xs ≡ rest_of fields field xs

-- bytes in front of a byte in front of fields
in_front-onto : (p : List ℕ) (c : ℕ) (fs : List (List ℕ)) → in_front p (onto_first c fs) ≡ in_front (p ++ (c ∷ [])) fs
in_front-onto p c [] = refl
in_front-onto p c (f ∷ fs) = rw (append_assoc p (c ∷ []) f) refl

-- no bytes in front of a byte
in_front-first : (c : ℕ) (fs : List (List ℕ)) → in_front [] (onto_first c fs) ≡ onto_first c fs
in_front-first c [] = refl
in_front-first c (f ∷ fs) = refl

-- a choice has what both of its cases have
either : (P : List (List ℕ) → Type 0) (b : Bool) (x y : List (List ℕ)) → P x → P y → P (if b then x else y)
either P true x y p q = p
either P false x y p q = q

-- no bytes in front of the fields of a line
in_front-nil : (line : List ℕ) → in_front [] (fields_of_line line) ≡ fields_of_line line
in_front-nil [] = refl
in_front-nil (c ∷ cs) = either (λ x. in_front [] x ≡ x) (is_comma c) _ _ refl (in_front-first c (fields_of_line cs))

-- at the end of the text
goes_nil : (fields : List (List ℕ)) (field : List ℕ) → Goes fields field []
unfolding next_record
goes_nil fields field = record { inside = rw (append-nil field) refl; start = rw (append-nil field) refl }

-- past a comma
goes_comma : (fields : List (List ℕ)) (field cs : List ℕ) → Goes (fields ++ (field ∷ [])) [] cs → Goes fields field (44 ∷ cs)
unfolding next_record
goes_comma fields field cs h = record {
  inside = h.start ∙ rw (in_front-nil (line_of cs), append_assoc fields (field ∷ []) (fields_of_line (line_of cs)), append-nil field) refl;
  start = h.start ∙ rw (in_front-nil (line_of cs), append_assoc fields (field ∷ []) (fields_of_line (line_of cs)), append-nil field) refl;
}

-- at a CR
goes_cr : (fields : List (List ℕ)) (field cs : List ℕ) → Goes fields field (13 ∷ cs)
unfolding next_record
goes_cr fields field cs = record { inside = rw (append-nil field) refl; start = rw (append-nil field) refl }

-- at a LF
goes_lf : (fields : List (List ℕ)) (field cs : List ℕ) → Goes fields field (10 ∷ cs)
unfolding next_record
goes_lf fields field cs = record { inside = rw (append-nil field) refl; start = rw (append-nil field) refl }

-- past a byte of a field
goes_other : (fields : List (List ℕ)) (field : List ℕ) (c : ℕ) (cs : List ℕ) → IsOther c → Goes fields (field ++ (c ∷ [])) cs → Goes fields field (c ∷ cs)
unfolding next_record
goes_other fields field c cs o h = record {
  inside = rw (o.comma, o.cr, o.lf, o.comma, in_front-onto field c (fields_of_line (line_of cs))) h.inside;
  start = rw (o.quote, o.comma, o.cr, o.lf, o.comma, in_front-onto field c (fields_of_line (line_of cs))) h.inside;
}

-- past a byte of any kind
goes_by : (fields : List (List ℕ)) (field : List ℕ) (c : ℕ) (cs : List ℕ) → Kind c → has_no_quote (line_of (c ∷ cs)) ≡ true
    → ((f : List (List ℕ)) (p : List ℕ) → has_no_quote (line_of cs) ≡ true → Goes f p cs) → Goes fields field (c ∷ cs)
goes_by fields field c cs (comma e) h more = rw e (goes_comma fields field cs (more (fields ++ (field ∷ [])) [] (rw e at h)))
goes_by fields field c cs (quote e) h more = absurd (cc (rw e at h))
goes_by fields field c cs (cr e) h more = rw e (goes_cr fields field cs)
goes_by fields field c cs (lf e) h more = rw e (goes_lf fields field cs)
goes_by fields field c cs (other o) h more = goes_other fields field c cs o (more fields (field ++ (c ∷ [])) (rw (o.cr, o.lf, o.quote) at h))

-- so reads go on
goes : (fields : List (List ℕ)) (field xs : List ℕ) → has_no_quote (line_of xs) ≡ true → Goes fields field xs
goes fields field [] h = goes_nil fields field
goes fields field (c ∷ cs) h = goes_by fields field c cs (kind c) h (λ f p k. goes f p cs k)

-- a byte that ends no line starts a record as it starts a field
pub starts : (s : State) (c : ℕ) (cs : List ℕ) → IsBetween s → Kind c → ends_line c ≡ false → next_record default_config s [] [] (c ∷ cs) ≡ next_record default_config st.StartField [] [] (c ∷ cs)
unfolding next_record
starts st.StartRecord c cs b (comma e) n = rw e refl
starts st.StartRecord c cs b (quote e) n = rw e refl
starts st.StartRecord c cs b (cr e) n = absurd (cc (rw e at n))
starts st.StartRecord c cs b (lf e) n = absurd (cc (rw e at n))
starts st.StartRecord c cs b (other o) n = rw (o.cr, o.lf) refl
starts st.AfterCr c cs b (comma e) n = rw e refl
starts st.AfterCr c cs b (quote e) n = rw e refl
starts st.AfterCr c cs b (cr e) n = absurd (cc (rw e at n))
starts st.AfterCr c cs b (lf e) n = absurd (cc (rw e at n))
starts st.AfterCr c cs b (other o) n = rw (o.lf, o.cr) refl
starts st.StartField c cs b k n = absurd b
starts st.InField c cs b k n = absurd b
starts st.InQuoted c cs b k n = absurd b
starts st.AfterQuote c cs b k n = absurd b
starts st.InEscape c cs b k n = absurd b
starts st.InComment c cs b k n = absurd b

-- a byte that ends a line is skipped between records
pub skips : (s : State) (c : ℕ) (cs : List ℕ) → IsBetween s → ends_line c ≡ true → next_record default_config s [] [] (c ∷ cs) ≡ next_record default_config st.StartRecord [] [] cs
unfolding next_record
skips st.StartRecord c cs b e = rw e refl
skips st.AfterCr c cs b e = after_cr (c == 10) refl where
  after_cr : (t : Bool) → (c == 10) ≡ t → next_record default_config st.AfterCr [] [] (c ∷ cs) ≡ next_record default_config st.StartRecord [] [] cs
  after_cr true l = rw l refl
  after_cr false l = let e2 = rw l at e in rw (l, e2) refl
skips st.StartField c cs b e = absurd b
skips st.InField c cs b e = absurd b
skips st.InQuoted c cs b e = absurd b
skips st.AfterQuote c cs b e = absurd b
skips st.InEscape c cs b e = absurd b
skips st.InComment c cs b e = absurd b

-- a line that isn't empty, as a record
line_next : (s : State) (c : ℕ) (cs : List ℕ) → IsBetween s → ends_line c ≡ false → has_no_quote (line_of (c ∷ cs)) ≡ true
    → next_record default_config s [] [] (c ∷ cs) ≡ Some (fields_of_line (line_of (c ∷ cs)), state_after (c ∷ cs), after_line (c ∷ cs))
line_next s c cs b n h = starts s c cs b (kind c) n ∙ (goes [] [] (c ∷ cs) h).start ∙ ap (λ (fs : List (List ℕ)). Some (fs, state_after (c ∷ cs), after_line (c ∷ cs))) (in_front-nil (line_of (c ∷ cs)))

-- nothing is skipped before a byte that ends no line
pub no_skip : (c : ℕ) (cs : List ℕ) → ends_line c ≡ false → skip_ends (c ∷ cs) ≡ c ∷ cs
no_skip c cs e = rw e refl

-- the next record, by whether a byte ends a line
next_by : (s : State) (c : ℕ) (cs : List ℕ) → IsBetween s → (b : Bool) → ends_line c ≡ b → has_no_quote (line_of (skip_ends (c ∷ cs))) ≡ true
    → (has_no_quote (line_of (skip_ends cs)) ≡ true → next_record default_config st.StartRecord [] [] cs ≡ next_line_record cs)
    → next_record default_config s [] [] (c ∷ cs) ≡ next_line_record (c ∷ cs)
next_by s c cs w true e h more = skips s c cs w e ∙ more (rw e at h) ∙ rw e refl
next_by s c cs w false e h more = line_next s c cs w e (rw (no_skip c cs e) at h) ∙ sym (ap first_line_record (no_skip c cs e))

-- where the first line that isn't empty has no quote, it is the next record
pub next_plain : (s : State) (xs : List ℕ) → IsBetween s → has_no_quote (line_of (skip_ends xs)) ≡ true → next_record default_config s [] [] xs ≡ next_line_record xs
next_plain s [] b h = ends-none default_config s b
next_plain s (c ∷ cs) b h = next_by s c cs b (ends_line c) refl h (λ k. next_plain st.StartRecord cs tt k)

-- from between two records all states read alike
pub between_alike : (s : State) (xs : List ℕ) → IsBetween s → next_record default_config s [] [] xs ≡ next_record default_config st.StartRecord [] [] xs
between_alike s [] b = ends-none default_config s b ∙ sym (ends-none default_config st.StartRecord tt)
between_alike s (c ∷ cs) b = alike (ends_line c) refl where
  alike : (e : Bool) → ends_line c ≡ e → next_record default_config s [] [] (c ∷ cs) ≡ next_record default_config st.StartRecord [] [] (c ∷ cs)
  alike true e = skips s c cs b e ∙ sym (skips st.StartRecord c cs tt e)
  alike false e = starts s c cs b (kind c) e ∙ sym (starts st.StartRecord c cs tt (kind c) e)
