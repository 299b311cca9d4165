-- No bytes are those of no rows.
use Rattle.std.proofs.Common.{rules, ◌≡◌, [], subst, sym}
use Rattle.pipe_waiting.specs.Waiting.{HoldRows}
use Rattle.pipe_waiting.proofs.ReadBack.{none_hold}
use Rattle.pipe_waiting.proofs.waiting_rows.WaitingRows.new.Goals as goal

pub returns-clause-typed : goal.returns-clause-typed
returns-clause-typed c = λ types.
    let none : c.new.result.items ≡ [] = search rules in
    subst (HoldRows types 0) (sym none) (none_hold types)
