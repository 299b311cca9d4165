use Rattle.std.proofs.Common.{List, length, drop}
use Rattle.pipe_columns.specs.declared.any_value.AnyValue.{AnyValue}
use Rattle.pipe_csv.specs.CsvRows.{read_row}
use Rattle.pipe_scan.specs.Records.{InOrder, cut}
use Rattle.pipe_source.proofs.FieldsLeft.{FieldsLeft}
use Rattle.pipe_source.proofs.row_check.check_fields.Given as goal

-- the first fields read, and the rest lie behind them
abbrev pub invariant-loop-i : goal.invariant-loop-i
invariant-loop-i l =
    (done : List AnyValue)
    × FieldsLeft l.file l.row l.fields (read_row l.file l.row l.fields (cut l.text l.start l.ends)) l.i done (cut l.text l.low (drop l.i l.ends))
    × InOrder (length l.text) l.low (drop l.i l.ends)
