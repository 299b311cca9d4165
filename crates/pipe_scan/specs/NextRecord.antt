-- Of the proofs alone: the first record of a text from a place on.
use Rattle.std.specs.Prelude.{ℕ, List, [], drop, Option}
use Rattle.csv.specs.Machine.{Read, next_record}
use Rattle.csv.specs.Reading.{default_config}
use Rattle.csv.specs.declared.parser.State.TheVariants as st

-- the next record of a text from a place on
abbrev pub next_at : List ℕ → ℕ → Option Read
next_at text at = next_record default_config st.StartRecord [] [] (drop at text)
