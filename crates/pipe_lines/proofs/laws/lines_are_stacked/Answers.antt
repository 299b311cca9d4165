use Rattle.std.proofs.Common.{◌∙◌, ap, flat_map, refl}
use Rattle.std.proofs.lemmas.Grind.{flat_map-append}
use Rattle.pipe_lines.specs.Rows.{frame_rows}
use Rattle.pipe_lines.proofs.StackedRows.{rows_stacked}
use Rattle.pipe_lines.proofs.laws.lines_are_stacked.Goals as goal

pub returns-clause-none : goal.returns-clause-none
returns-clause-none c = λ t fields. refl

pub returns-clause-stacked : goal.returns-clause-stacked
returns-clause-stacked c = λ t f g same tall. ap (flat_map t.line) (rows_stacked f g same tall) ∙ flat_map-append t.line (frame_rows f) (frame_rows g)
