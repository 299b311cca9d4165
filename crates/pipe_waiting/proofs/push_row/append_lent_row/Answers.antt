-- The inputs stand behind the key, and were tested.
use Rattle.std.proofs.Common.{rules, ◌++◌, ◌<◌, ◌^◌, List, ℕ, length}
use Rattle.std.specs.Int.{bytes_high_first}
use Rattle.pipe_columns.specs.Key.{code}
use Rattle.pipe_inputs.specs.ChunkRows.{row_at}
use Rattle.pipe_waiting.specs.Waiting.{lent_row}
use Rattle.pipe_waiting.proofs.ReadBack.{can_if, row_appended}
use Rattle.pipe_waiting.proofs.push_row.append_lent_row.Goals as goal

pub returns-clause-ok : goal.returns-clause-ok
returns-clause-ok c =
    let head : List ℕ = bytes_high_first 4 c.args.place.chunk ++ bytes_high_first 4 c.args.place.row ++ bytes_high_first 8 (length c.args.key.now) in
    row_appended c.append_lent.result c.args.buffer.now.items head c.args.key.now (code c.args.types.now (row_at c.args.rows.now c.args.row).inputs)
    c.append_key.new.buffer.items c.append_lent.new.buffer.items c.in_ok-append_key.ensures.ok c.append_lent.ensures.ok

pub returns-clause-can : goal.returns-clause-can
returns-clause-can c =
    let key : length c.args.key.now < 2 ^ 64 = search rules in
    let chunk : c.args.place.chunk < 2 ^ 32 = search rules in
    let row : c.args.place.row < 2 ^ 32 = search rules in
    can_if c.append_lent.result c.args.types.now (lent_row c.args.key.now c.args.place c.args.rows.now c.args.row) chunk row key c.append_lent.ensures.tuple
