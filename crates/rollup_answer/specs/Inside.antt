-- Of the proofs alone: where faults come from.
use Rattle.std.specs.Prelude.{◌≡◌, ◌⊎◌, Option, Some, ⊤}
use Rattle.rollup_words.specs.Asked.{Asked, refused, rolls, saves}
use Rattle.rollup_words.specs.declared.refusal.AskError.{AskError}
use Rattle.rollup_words.specs.declared.refusal.AskError.TheVariants as ask_error
use Rattle.rollup_answer.specs.declared.fault.RollupFault.{RollupFault}
use Rattle.rollup_answer.specs.declared.fault.RollupFault.TheVariants as fault

-- the fault of words
abbrev pub ask_fault : AskError → RollupFault
ask_fault (ask_error.Refused r) = fault.Refused r
ask_fault ask_error.Memory = fault.Memory

-- a fault that comes before anything is written
abbrev pub IsBefore : RollupFault → Type 0
IsBefore (fault.Refused r) = ⊤
IsBefore (fault.Save e) = ⊤
IsBefore (fault.Roll e) = ⊤
IsBefore fault.OutputFailed = ⊥
IsBefore fault.Memory = ⊥

-- a fault that may come where something was written
abbrev pub IsOfOutput : RollupFault → Type 0
IsOfOutput (fault.Refused r) = ⊥
IsOfOutput (fault.Save e) = ⊥
IsOfOutput (fault.Roll e) = ⊥
IsOfOutput fault.OutputFailed = ⊤
IsOfOutput fault.Memory = ⊤

-- words that are refused end so, or memory runs out
abbrev pub EndsRefused : Asked → Option RollupFault → Type 0
EndsRefused (refused r) ended = (ended ≡ Some (fault.Refused r)) ⊎ (ended ≡ Some fault.Memory)
EndsRefused (saves q first names) ended = ⊤
EndsRefused (rolls q keep names) ended = ⊤
