-- Of the proofs alone: where a reader of any record stands, as a state of the definition.
use Rattle.std.specs.Prelude.{Bool, true, false}
use Rattle.csv.specs.declared.parser.State.{State}
use Rattle.csv.specs.declared.parser.State.TheVariants as st
use Rattle.csv.specs.declared.parser.Action.{Action}
use Rattle.csv.specs.declared.parser.Action.TheVariants as act
use Rattle.pipe_scan.specs.declared.quoted.Mode.{Mode}
use Rattle.pipe_scan.specs.declared.quoted.Mode.TheVariants as mode
use Rattle.pipe_scan.specs.declared.quoted.Effect.{Effect}
use Rattle.pipe_scan.specs.declared.quoted.Effect.TheVariants as effect

-- the state of a mode
abbrev pub state_of : Mode → State
state_of mode.BeforeRecord = st.StartRecord
state_of mode.AfterCr = st.AfterCr
state_of mode.FieldStart = st.StartField
state_of mode.InField = st.InField
state_of mode.InQuotes = st.InQuoted
state_of mode.AfterQuote = st.AfterQuote

-- whether each byte above the comma is one of the field's
abbrev pub joins : Mode → Bool
joins mode.BeforeRecord = false
joins mode.AfterCr = false
joins mode.FieldStart = false
joins mode.InField = true
joins mode.InQuotes = true
joins mode.AfterQuote = false

-- the action of an effect
abbrev pub action_of : Effect → Action
action_of effect.Skip = act.Skip
action_of effect.Copy = act.Copy
action_of effect.EndField = act.EndField
action_of effect.EndRecord = act.EndRecord
