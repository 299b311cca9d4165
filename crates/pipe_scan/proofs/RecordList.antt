-- The records of a text, one after the other.
use Rattle.std.proofs.Common.{◌≡◌, ◌∙◌, ◌≤◌, ◌<◌, ◌+◌, ℕ, zero, suc, List, [], ◌∷◌, ◌++◌, length, Bool, true, false, Some, None, Option, refl, ap, arith, if◌then◌else◌, ◌==◌, ◌&&◌, add-one}
use Rattle.std.specs.Prelude.{⊤}
use Rattle.csv.specs.Machine.{Read, next_record, step, is_end, start_record, start_field, in_field, after_end, ends_with, is_byte, carriage_return, fields_after, field_after, ends_at_end}
use Rattle.csv.specs.Reading.{records_from, records_next}
use Rattle.csv.specs.declared.parser.Config.{Config}
use Rattle.csv.specs.declared.parser.State.{State}
use Rattle.csv.specs.declared.parser.State.TheVariants as st
use Rattle.csv.specs.declared.parser.Terminator.{Terminator}
use Rattle.csv.specs.declared.parser.Terminator.TheVariants as term
use Rattle.csv.specs.declared.parser.Action.{Action}
use Rattle.pipe_scan.proofs.Between.{IsBetween, all_from}
use Rattle.pipe_scan.specs.Records.{Records}

-- a step that ends a record leads between two
abbrev EndsBetween : State × Action → Type 0
EndsBetween p = is_end p.1 ≡ true → IsBetween p.0

-- a choice ends between records where both of its cases do
either : (b : Bool) (x y : State × Action) → EndsBetween x → EndsBetween y → EndsBetween (if b then x else y)
either true x y p q = p
either false x y p q = q

-- after a line's end a reader stands between two records
either_state : (b : Bool) → IsBetween (if b then st.AfterCr else st.StartRecord)
either_state true = tt
either_state false = tt

-- so it does after each terminator
after_end-between : (t : Terminator) (c : ℕ) → IsBetween (after_end t c)
after_end-between term.CRLF c = either_state (c == carriage_return)
after_end-between (term.Any t) c = tt

-- an action that ends no record
no_end : {P : Type 0} → false ≡ true → P
no_end e = cc e

-- a byte within a field
in_field-ends : (cfg : Config) (c : ℕ) → EndsBetween (in_field cfg c)
in_field-ends cfg c = either (c == cfg.delimiter) _ _ no_end (either (ends_with cfg.terminator c) _ _ (λ _. after_end-between cfg.terminator c) no_end)

-- a byte at the start of a field
start_field-ends : (cfg : Config) (c : ℕ) → EndsBetween (start_field cfg c)
start_field-ends cfg c = either (cfg.quoting && (c == cfg.quote)) _ _ no_end (in_field-ends cfg c)

-- a byte at the start of a record
start_record-ends : (cfg : Config) (c : ℕ) → EndsBetween (start_record cfg c)
start_record-ends cfg c = either (ends_with cfg.terminator c) _ _ no_end (either (is_byte cfg.comment c) _ _ no_end (start_field-ends cfg c))

-- a step that ends a record leads between two, from each state
pub step-ends : (cfg : Config) (s : State) (c : ℕ) → EndsBetween (step cfg s c)
step-ends cfg st.StartRecord c = start_record-ends cfg c
step-ends cfg st.StartField c = start_field-ends cfg c
step-ends cfg st.InField c = in_field-ends cfg c
step-ends cfg st.InQuoted c = either (cfg.quoting && (c == cfg.quote)) _ _ no_end (either (cfg.quoting && is_byte cfg.escape c) _ _ no_end no_end)
step-ends cfg st.InEscape c = no_end
step-ends cfg st.AfterQuote c = either (cfg.quoting && cfg.double_quote && (c == cfg.quote)) _ _ no_end (in_field-ends cfg c)
step-ends cfg st.InComment c = either (c == 10) _ _ no_end no_end
step-ends cfg st.AfterCr c = either (c == 10) _ _ no_end (start_record-ends cfg c)

-- what a read record leaves: no more bytes, and a state between two records
pub record Leaves (n : ℕ) (p : Read) : Type 0 where
  pub bytes : length p.2 ≤ n
  pub between : IsBetween p.1

-- what a read leaves, where there was a record
abbrev IfRead : ℕ → Option Read → Type 0
IfRead n None = ⊤
IfRead n (Some p) = Leaves n p

-- the end of a text leaves no byte
at_end : (b : Bool) (fields : List (List ℕ)) → IfRead 0 (if b then Some (fields, st.StartRecord, []) else None)
at_end true fields = record { bytes = omega arith; between = tt }
at_end false fields = tt

-- what leaves n bytes at most leaves m at most
more-bytes : (n m : ℕ) (o : Option Read) → n ≤ m → IfRead n o → IfRead m o
more-bytes n m None h r = tt
more-bytes n m (Some p) h r = record { bytes = omega (arith, r.bytes); between = r.between }

-- one byte ends the record, or the rest does
one_byte : (cfg : Config) (s : State) (c : ℕ) (fields : List (List ℕ)) (rest : List ℕ) (o : Option Read) (b : Bool)
    → is_end (step cfg s c).1 ≡ b → IfRead (length rest) o → IfRead (length rest) (if b then Some (fields, (step cfg s c).0, rest) else o)
one_byte cfg s c fields rest o true e h = record { bytes = omega arith; between = step-ends cfg s c e }
one_byte cfg s c fields rest o false e h = h

-- a read leaves no more bytes than there were
read-leaves : (cfg : Config) (s : State) (fields : List (List ℕ)) (field xs : List ℕ) → IfRead (length xs) (next_record cfg s fields field xs)
unfolding next_record
read-leaves cfg s fields field [] = at_end (ends_at_end s) (fields ++ (field ∷ []))
read-leaves cfg s fields field (c ∷ rest) =
    more-bytes (length rest) (length (c ∷ rest)) _ (omega arith) (one_byte cfg s c _ rest _ (is_end (step cfg s c).1) refl
    (read-leaves cfg (step cfg s c).0 (fields_after (step cfg s c).1 fields field) (field_after (step cfg s c).1 c field) rest))

-- a read of some bytes leaves fewer
leaves-less : (cfg : Config) (s : State) (c : ℕ) (rest : List ℕ) → IfRead (length rest) (next_record cfg s [] [] (c ∷ rest))
unfolding next_record
leaves-less cfg s c rest = one_byte cfg s c _ rest _ (is_end (step cfg s c).1) refl
    (read-leaves cfg (step cfg s c).0 (fields_after (step cfg s c).1 [] []) (field_after (step cfg s c).1 c []) rest)

-- at the end of a text there is no record
pub ends-none : (cfg : Config) (s : State) → IsBetween s → next_record cfg s [] [] [] ≡ None
unfolding next_record
ends-none cfg st.StartRecord b = refl
ends-none cfg st.AfterCr b = refl
ends-none cfg st.StartField b = absurd b
ends-none cfg st.InField b = absurd b
ends-none cfg st.InQuoted b = absurd b
ends-none cfg st.AfterQuote b = absurd b
ends-none cfg st.InEscape b = absurd b
ends-none cfg st.InComment b = absurd b

-- from between two records a record takes a byte at least
pub between-leaves : (cfg : Config) (s : State) (xs : List ℕ) (p : Read) → IsBetween s → next_record cfg s [] [] xs ≡ Some p → (length p.2 < length xs) × IsBetween p.1
between-leaves cfg s [] p b e = absurd (cc (e, ends-none cfg s b))
between-leaves cfg s (c ∷ rest) p b e = let l : Leaves (length rest) p = rw e at (leaves-less cfg s c rest) in (omega arith, l.between)

-- what follows a read depends on no more than the read
pub same_next : (f g : State → List ℕ → Records) (o : Option Read) → ((p : Read) → o ≡ Some p → f p.1 p.2 ≡ g p.1 p.2) → records_next f o ≡ records_next g o
same_next f g None h = refl
same_next f g (Some p) h = ap (λ (t : Records). p.0 ∷ t) (h p refl)

-- turns past the last record change nothing
enough_turns : (cfg : Config) (n m : ℕ) (s : State) (xs : List ℕ) → IsBetween s → length xs < n → length xs < m → records_from cfg n s xs ≡ records_from cfg m s xs
unfolding records_from
enough_turns cfg zero m s xs b h k = absurd (omega arith)
enough_turns cfg (suc n) zero s xs b h k = absurd (omega arith)
enough_turns cfg (suc n) (suc m) s xs b h k = same_next (records_from cfg n) (records_from cfg m) (next_record cfg s [] [] xs) (λ p e.
    let l = between-leaves cfg s xs p b e in enough_turns cfg n m p.1 p.2 l.1 (omega arith) (omega arith))

-- there is no record where none is next
pub all-none : (cfg : Config) (s : State) (xs : List ℕ) → next_record cfg s [] [] xs ≡ None → all_from cfg s xs ≡ []
unfolding records_from
all-none cfg s xs e = rw (add-one, e) refl

-- the next record, then those after it
pub all-some : (cfg : Config) (s : State) (xs : List ℕ) (p : Read) → IsBetween s → next_record cfg s [] [] xs ≡ Some p → all_from cfg s xs ≡ p.0 ∷ all_from cfg p.1 p.2
unfolding records_from
all-some cfg s xs p b e =
    let l = between-leaves cfg s xs p b e in
    let first : records_from cfg (length xs + 1) s xs ≡ p.0 ∷ records_from cfg (length xs) p.1 p.2 = rw (add-one, e) refl in
    first ∙ ap (λ (t : Records). p.0 ∷ t) (enough_turns cfg (length xs) (length p.2 + 1) p.1 p.2 l.1 (omega arith) (omega arith))

-- there are no more records than bytes, as a read and those after it
length-next : (cfg : Config) (n : ℕ) (s : State) (xs : List ℕ) (o : Option Read) → IsBetween s → next_record cfg s [] [] xs ≡ o → ((p : Read) → IsBetween p.1 → length (records_from cfg n p.1 p.2) ≤ length p.2) → length (records_next (records_from cfg n) o) ≤ length xs
length-next cfg n s xs None b e more = omega arith
length-next cfg n s xs (Some p) b e more = let l = between-leaves cfg s xs p b e in omega (arith, l.0, more p l.1)

-- there are no more records than bytes
pub length-records : (cfg : Config) (n : ℕ) (s : State) (xs : List ℕ) → IsBetween s → length (records_from cfg n s xs) ≤ length xs
unfolding records_from
length-records cfg zero s xs b = omega arith
length-records cfg (suc n) s xs b = length-next cfg n s xs (next_record cfg s [] [] xs) b refl (λ p q. length-records cfg n p.1 p.2 q)
