-- Of the proofs alone: a scan that stands within a record.
use Rattle.std.specs.Prelude.{ℕ, ◌≡◌, ◌+◌, ◌≤◌, List, [], ◌∷◌, drop, length, ⊤}
use Rattle.csv.specs.Machine.{next_record}
use Rattle.csv.specs.Reading.{default_config}
use Rattle.csv.specs.declared.parser.State.{State}
use Rattle.csv.specs.declared.parser.State.TheVariants as st
use Rattle.pipe_scan.specs.NextRecord.{next_at}
use Rattle.pipe_scan.specs.Records.{InOrder, between, cut}

-- where the field behind those that ended begins
abbrev pub from : ℕ → List ℕ → ℕ
from start [] = start
from start (e ∷ es) = from (e + 1) es

-- a state within a record, where there was no quote
abbrev pub IsInside : State → Type 0
IsInside st.StartRecord = ⊥
IsInside st.AfterCr = ⊥
IsInside st.StartField = ⊤
IsInside st.InField = ⊤
IsInside st.InQuoted = ⊥
IsInside st.AfterQuote = ⊥
IsInside st.InEscape = ⊥
IsInside st.InComment = ⊥

-- how far a scan is: behind fields that ended, within another
pub record Reads (text : List ℕ) (at start : ℕ) (ends : List ℕ) (i : ℕ) : Type 0 where
  pub state : State
  pub inside : IsInside state
  pub behind : from start ends ≤ i
  pub order : InOrder (length text) start ends
  pub reads : next_at text at ≡ next_record default_config state (cut text start ends) (between text (from start ends) i) (drop i text)
