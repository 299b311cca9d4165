use Rattle.std.proofs.Common.{◌≡◌, ◌++◌, map, take}
use Rattle.std.specs.List.{flat_map}
use Rattle.pipe_columns.specs.Frame.{row_at}
use Rattle.lavzimo_rows.specs.Texts.{json_line}
use Rattle.lavzimo_rows.proofs.json_rows.append_lines.Given as goal

-- the lines of the rows so far are written
abbrev pub invariant-loop-row : goal.invariant-loop-row
invariant-loop-row l = l.text.items ≡ l.fn.text.items ++ flat_map (json_line l.shown) (map (row_at l.columns) (take l.row-index l.rows))
