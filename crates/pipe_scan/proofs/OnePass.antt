-- Every record of a text, by one recursion over its bytes.
use Rattle.std.proofs.Common.{◌≡◌, ◌∙◌, ◌<◌, ◌+◌, ℕ, zero, suc, List, [], ◌∷◌, ◌++◌, length, Bool, true, false, Some, None, Option, refl, sym, arith, if◌then◌else◌}
use Rattle.csv.specs.Machine.{Read, next_record, step, is_end, fields_after, field_after, ends_at_end}
use Rattle.csv.specs.Reading.{default_config, records_from, records_next}
use Rattle.csv.specs.declared.parser.State.{State}
use Rattle.csv.specs.declared.parser.State.TheVariants as st
use Rattle.pipe_scan.proofs.Between.{IsBetween, all_from}
use Rattle.pipe_scan.specs.Records.{Records}
use Rattle.pipe_scan.proofs.RecordList.{between-leaves, same_next}

-- every record from a state on, with the fields and the bytes of the field at hand
abbrev pub in_one_pass : State → List (List ℕ) → List ℕ → List ℕ → Records
in_one_pass s fields field [] = if ends_at_end s then (fields ++ (field ∷ [])) ∷ [] else []
in_one_pass s fields field (c ∷ rest) =
    if is_end (step default_config s c).1 then fields_after (step default_config s c).1 fields field ∷ in_one_pass (step default_config s c).0 [] [] rest
    else in_one_pass (step default_config s c).0 (fields_after (step default_config s c).1 fields field) (field_after (step default_config s c).1 c field) rest

-- from between two records on
abbrev pub one_pass : State → List ℕ → Records
one_pass s xs = in_one_pass s [] [] xs

-- at the end of a text
at_end : (b : Bool) (fs : List (List ℕ)) → (if b then fs ∷ [] else []) ≡ records_next one_pass (if b then Some (fs, st.StartRecord, []) else None)
at_end true fs = refl
at_end false fs = refl

-- at a byte, by whether it ends the record
one_byte : (b : Bool) (fs : List (List ℕ)) (s : State) (rest : List ℕ) (all : Records) (o : Option Read) → all ≡ records_next one_pass o
    → (if b then fs ∷ one_pass s rest else all) ≡ records_next one_pass (if b then Some (fs, s, rest) else o)
one_byte true fs s rest all o e = refl
one_byte false fs s rest all o e = e

-- the next record, then those after it
pub one_pass-next : (s : State) (fields : List (List ℕ)) (field xs : List ℕ) → in_one_pass s fields field xs ≡ records_next one_pass (next_record default_config s fields field xs)
unfolding next_record
one_pass-next s fields field [] = at_end (ends_at_end s) (fields ++ (field ∷ []))
one_pass-next s fields field (c ∷ rest) =
    one_byte (is_end (step default_config s c).1) (fields_after (step default_config s c).1 fields field) (step default_config s c).0 rest _ _
    (one_pass-next (step default_config s c).0 (fields_after (step default_config s c).1 fields field) (field_after (step default_config s c).1 c field) rest)

-- with turns enough, all records are those
pub turns-one_pass : (n : ℕ) (s : State) (xs : List ℕ) → IsBetween s → length xs < n → records_from default_config n s xs ≡ one_pass s xs
unfolding records_from
turns-one_pass zero s xs b h = absurd (omega arith)
turns-one_pass (suc n) s xs b h =
    same_next (records_from default_config n) one_pass (next_record default_config s [] [] xs) (λ p e.
    let l = between-leaves default_config s xs p b e in turns-one_pass n p.1 p.2 l.1 (omega arith))
    ∙ sym (one_pass-next s [] [] xs)

-- every record from between two on
pub all-one_pass : (s : State) (xs : List ℕ) → IsBetween s → all_from default_config s xs ≡ one_pass s xs
all-one_pass s xs b = turns-one_pass (length xs + 1) s xs b (omega arith)
