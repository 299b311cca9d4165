-- A reader between two records, and every record from there on.
use Rattle.std.proofs.Common.{◌+◌, ℕ, List, length}
use Rattle.std.specs.Prelude.{⊤}
use Rattle.csv.specs.Reading.{records_from}
use Rattle.csv.specs.declared.parser.Config.{Config}
use Rattle.csv.specs.declared.parser.State.{State}
use Rattle.csv.specs.declared.parser.State.TheVariants as st
use Rattle.pipe_scan.specs.Records.{Records}

-- a state between two records
abbrev pub IsBetween : State → Type 0
IsBetween st.StartRecord = ⊤
IsBetween st.AfterCr = ⊤
IsBetween st.StartField = ⊥
IsBetween st.InField = ⊥
IsBetween st.InQuoted = ⊥
IsBetween st.AfterQuote = ⊥
IsBetween st.InEscape = ⊥
IsBetween st.InComment = ⊥

-- every record of a text, from a state on
abbrev pub all_from : Config → State → List ℕ → Records
all_from cfg s xs = records_from cfg (length xs + 1) s xs
