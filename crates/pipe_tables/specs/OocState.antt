-- What is to be done about memory, look by look.
use Rattle.std.specs.Prelude.{◌+◌, ◌*◌, ◌%◌, ◌^◌, ◌==◌, ◌||◌, nat_lt, ℕ, Bool, if◌then◌else◌}
use Rattle.pipe_plan.specs.declared.event.SpillAction.{SpillAction}
use Rattle.pipe_plan.specs.declared.event.SpillAction.TheVariants as action

-- whether rows waited when memory was short, and how often it was looked at before, modulo 2^16
pub record Ooc : Type 0 where
  pub ooc : Bool
  pub count : ℕ

-- one look more, modulo 2^16
abbrev pub next_count : ℕ → ℕ
next_count count = (count + 1) % 2 ^ 16

-- where memory is short: what waits is dumped
abbrev pub action_if_short : Bool → SpillAction
action_if_short waiting = if waiting then action.Dump else action.None

-- where it isn't: a merge if less than half is free, or at every 512th look
abbrev pub action_of_look : ℕ → ℕ → ℕ → SpillAction
action_of_look free start count =
    if nat_lt (free * 2) start || (count % 512 == 0) then action.EarlyMerge else action.None
