-- The table holds the same, and there is room for the payloads so far.
use Rattle.std.proofs.Common.{take}
use Rattle.pipe_spill.specs.SpillRow.{joined_rows}
use Rattle.pipe_global.specs.Moving.{AreCovered}
use Rattle.pipe_global.specs.Refused.{HoldsSame}
use Rattle.pipe_global.proofs.merge.reserve_payloads.Given as goal

abbrev pub invariant-loop-payload : goal.invariant-loop-payload
invariant-loop-payload l =
    HoldsSame l.fn.table l.table
    × AreCovered l.table.groups (joined_rows (take l.payload-index l.waiting))
