use Rattle.std.proofs.Common.{◌≡◌, ◌++◌, List, ℕ, false}
use Rattle.pipe_columns.specs.Frame.{row_at}
use Rattle.pipe_writers.specs.JsonHeads.{AreHeads}
use Rattle.pipe_writers.specs.JsonText.{json_members}
use Rattle.pipe_writers.proofs.JsonFacts.{members_from}
use Rattle.pipe_writers.proofs.json_lines.append_members.Given as goal

-- the members so far are written
abbrev pub invariant-loop-i : goal.invariant-loop-i
invariant-loop-i l =
    let values = row_at l.frame.columns l.row in
    (names : List (List ℕ)) → AreHeads names l.heads → l.text.items ++ members_from names values l.i ≡ l.fn.text.items ++ json_members false names values
