use Rattle.std.proofs.Common.{◌≡◌, [], take}
use Rattle.std.specs.Prelude.{fold}
use Rattle.lavzimo_words.specs.AskedQuery.{with_field}
use Rattle.lavzimo_words.proofs.query.named_fields.Given as goal

-- the fields so far
abbrev pub invariant-loop-column : goal.invariant-loop-column
invariant-loop-column l = l.fields.items ≡ fold with_field [] (take l.column-index l.columns)
