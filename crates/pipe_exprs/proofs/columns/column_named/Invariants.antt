use Rattle.std.proofs.Common.{◌≡◌, drop}
use Rattle.pipe_model.specs.Value.{column_named}
use Rattle.pipe_exprs.proofs.columns.column_named.Given as goal

-- the columns so far have other names
abbrev pub invariant-loop-column : goal.invariant-loop-column
invariant-loop-column l = column_named l.name l.columns ≡ column_named l.name (drop l.column-index l.columns)
