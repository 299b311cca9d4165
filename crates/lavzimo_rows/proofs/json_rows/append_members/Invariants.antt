use Rattle.std.proofs.Common.{◌≡◌, ◌++◌, false}
use Rattle.pipe_columns.specs.Frame.{row_at}
use Rattle.lavzimo_rows.specs.Texts.{json_fields}
use Rattle.lavzimo_rows.proofs.TextFacts.{fields_from}
use Rattle.lavzimo_rows.proofs.json_rows.append_members.Given as goal

-- the members so far are written
abbrev pub invariant-loop-i : goal.invariant-loop-i
invariant-loop-i l = l.text.items ++ fields_from l.shown (row_at l.columns l.row) l.i ≡ l.fn.text.items ++ json_fields false l.shown (row_at l.columns l.row)
