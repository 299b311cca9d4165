use Rattle.std.proofs.Common.{◌≡◌, drop}
use Rattle.pipe_model.specs.Typing.{field_named}
use Rattle.pipe_exprs.proofs.facts.dtype_named.Given as goal

-- the fields so far have other names
abbrev pub invariant-loop-field : goal.invariant-loop-field
invariant-loop-field l = field_named l.name l.fields ≡ field_named l.name (drop l.field-index l.fields)
