-- The records of a text without a quote are its lines.
use Rattle.std.proofs.Common.{subst, ◌≡◌, ◌∙◌, ◌<◌, ◌+◌, ◌==◌, not, ℕ, zero, suc, List, [], ◌∷◌, length, map, Bool, true, false, Some, None, Option, refl, sym, ap, arith, if◌then◌else◌}
use Rattle.std.specs.List.{filter, slice_split}
use Rattle.std.proofs.lemmas.Bool.{and_parts}
use Rattle.csv.specs.Machine.{Read, next_record}
use Rattle.csv.specs.Reading.{default_config, records, records_from, records_next}
use Rattle.csv.specs.declared.parser.State.{State}
use Rattle.csv.specs.declared.parser.State.TheVariants as st
use Rattle.pipe_scan.proofs.Between.{IsBetween}
use Rattle.pipe_scan.specs.Records.{Records}
use Rattle.pipe_scan.proofs.FirstLine.{after_line, line_of, first_line_record, next_line_record, skip_ends}
use Rattle.pipe_scan.specs.Lines.{ends_line, fields_of_line, has_bytes, has_no_quote, records_of_lines}
use Rattle.pipe_scan.proofs.NextPlain.{next_plain, no_skip}
use Rattle.pipe_scan.proofs.RecordList.{between-leaves, same_next}

-- a choice has what both of its cases have
if_both : {A : Type 0} (P : A → Type 0) (b : Bool) (x y : A) → P x → P y → P (if b then x else y)
if_both P true x y p q = p
if_both P false x y p q = q

-- a part of a plain text is plain
pub plain-skip : (xs : List ℕ) → has_no_quote xs ≡ true → has_no_quote (skip_ends xs) ≡ true
plain-skip [] h = refl
plain-skip (c ∷ cs) h = if_both (λ (t : List ℕ). has_no_quote t ≡ true) (ends_line c) (skip_ends cs) (c ∷ cs) (plain-skip cs (and_parts (not (c == 34)) (has_no_quote cs) h).1) h

-- so has its first line
pub plain-line : (xs : List ℕ) → has_no_quote xs ≡ true → has_no_quote (line_of xs) ≡ true
plain-line [] h = refl
plain-line (c ∷ cs) h =
    let k = and_parts (not (c == 34)) (has_no_quote cs) h in
    if_both (λ (t : List ℕ). has_no_quote t ≡ true) (ends_line c) [] (c ∷ line_of cs) refl (rw (k.0, plain-line cs k.1) refl)

-- so has what stands behind that
pub plain-after : (xs : List ℕ) → has_no_quote xs ≡ true → has_no_quote (after_line xs) ≡ true
plain-after [] h = refl
plain-after (c ∷ cs) h =
    let k = and_parts (not (c == 34)) (has_no_quote cs) h in
    if_both (λ (t : List ℕ). has_no_quote t ≡ true) (ends_line c) cs (after_line cs) k.1 (plain-after cs k.1)

-- the lines behind the first
abbrev later_lines : List ℕ → List (List ℕ)
later_lines [] = []
later_lines (c ∷ cs) = if ends_line c then slice_split ends_line cs else later_lines cs

-- the first line, by whether a byte ends it
lines_by : (c : ℕ) (cs : List ℕ) (b : Bool) → ends_line c ≡ b → slice_split ends_line cs ≡ line_of cs ∷ later_lines cs → slice_split ends_line (c ∷ cs) ≡ line_of (c ∷ cs) ∷ later_lines (c ∷ cs)
lines_by c cs true e h = rw e refl
lines_by c cs false e h = rw (e, h) refl

-- the first line, and those behind it
first_line : (xs : List ℕ) → slice_split ends_line xs ≡ line_of xs ∷ later_lines xs
first_line [] = refl
first_line (c ∷ cs) = lines_by c cs (ends_line c) refl (first_line cs)

-- the later lines, by whether a byte ends the first
later_by : (c : ℕ) (cs : List ℕ) (b : Bool) → ends_line c ≡ b → filter has_bytes (later_lines cs) ≡ filter has_bytes (slice_split ends_line (after_line cs))
    → filter has_bytes (later_lines (c ∷ cs)) ≡ filter has_bytes (slice_split ends_line (after_line (c ∷ cs)))
later_by c cs true e h = rw e refl
later_by c cs false e h = rw e h

-- they are the lines of the rest
later_lines-after : (xs : List ℕ) → filter has_bytes (later_lines xs) ≡ filter has_bytes (slice_split ends_line (after_line xs))
later_lines-after [] = refl
later_lines-after (c ∷ cs) = later_by c cs (ends_line c) refl (later_lines-after cs)

-- a byte that is skipped or not
skip_by : (c : ℕ) (cs : List ℕ) (b : Bool) → ends_line c ≡ b → records_of_lines (skip_ends cs) ≡ records_of_lines cs → records_of_lines (skip_ends (c ∷ cs)) ≡ records_of_lines (c ∷ cs)
skip_by c cs true e h = rw e h
skip_by c cs false e h = ap records_of_lines (no_skip c cs e)

-- empty lines change nothing
skip-records : (xs : List ℕ) → records_of_lines (skip_ends xs) ≡ records_of_lines xs
skip-records [] = refl
skip-records (c ∷ cs) = skip_by c cs (ends_line c) refl (skip-records cs)

-- what the records of a text are, by its first line
abbrev more_plain : State → List ℕ → Records
more_plain s xs = records_of_lines xs

-- a text that begins with no end of a line, or is empty
abbrev Begins : List ℕ → Type 0
Begins [] = Unit {0}
Begins (c ∷ cs) = ends_line c ≡ false

-- by whether a byte ends a line
begins_by : (c : ℕ) (cs : List ℕ) (b : Bool) → ends_line c ≡ b → Begins (skip_ends cs) → Begins (skip_ends (c ∷ cs))
begins_by c cs true e h = rw e h
begins_by c cs false e h = rw (no_skip c cs e) e

-- so begins what is left of any text
begins : (xs : List ℕ) → Begins (skip_ends xs)
begins [] = tt
begins (c ∷ cs) = begins_by c cs (ends_line c) refl (begins cs)

-- the records of a text that begins with no end of a line
line_records : (xs : List ℕ) → Begins xs → records_of_lines xs ≡ records_next more_plain (first_line_record xs)
line_records [] b = refl
line_records (c ∷ cs) b =
    let first : filter has_bytes (slice_split ends_line (c ∷ cs)) ≡ line_of (c ∷ cs) ∷ filter has_bytes (later_lines (c ∷ cs)) = rw (first_line (c ∷ cs), b) refl in
    ap (λ (ls : List (List ℕ)). map fields_of_line ls) first
    ∙ ap (λ (ls : List (List ℕ)). fields_of_line (line_of (c ∷ cs)) ∷ map fields_of_line ls) (later_lines-after (c ∷ cs))

-- the records of a text by its first record
plain-next : (xs : List ℕ) → records_of_lines xs ≡ records_next more_plain (next_line_record xs)
plain-next xs = sym (skip-records xs) ∙ line_records (skip_ends xs) (begins xs)

-- the rest behind a record has no quote
abbrev PlainRest : Option Read → Type 0
PlainRest None = Unit {0}
PlainRest (Some p) = has_no_quote p.2 ≡ true

-- so has the rest behind the first record
plain_rest : (xs : List ℕ) (p : Read) → has_no_quote xs ≡ true → first_line_record xs ≡ Some p → has_no_quote p.2 ≡ true
plain_rest [] p h e = absurd (cc e)
plain_rest (c ∷ cs) p h e = let w : PlainRest (first_line_record (c ∷ cs)) = plain-after (c ∷ cs) h in subst PlainRest e w

-- with turns enough the records are those of lines
turns-plain : (n : ℕ) (s : State) (xs : List ℕ) → IsBetween s → length xs < n → has_no_quote xs ≡ true → records_from default_config n s xs ≡ records_of_lines xs
unfolding records_from
turns-plain zero s xs b l h = absurd (omega arith)
turns-plain (suc n) s xs b l h =
    let k = plain-skip xs h in
    let now = next_plain s xs b (plain-line (skip_ends xs) k) in
    same_next (records_from default_config n) more_plain (next_record default_config s [] [] xs) (λ p e.
    let w = between-leaves default_config s xs p b e in turns-plain n p.1 p.2 w.1 (omega arith) (plain_rest (skip_ends xs) p k (sym now ∙ e)))
    ∙ ap (records_next more_plain) now ∙ sym (plain-next xs)

-- the records of a text without a quote are its lines that aren't empty, cut at the commas
pub records-plain : (xs : List ℕ) → has_no_quote xs ≡ true → records default_config xs ≡ records_of_lines xs
records-plain xs h = turns-plain (length xs + 1) st.StartRecord xs tt (omega arith) h
