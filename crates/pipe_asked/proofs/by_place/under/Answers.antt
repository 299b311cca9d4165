use Rattle.std.proofs.Common.{◌∙◌, ap}
use Rattle.pipe_columns.specs.Frame.{fields_of, FrameData}
use Rattle.pipe_asked.proofs.ByPlace.{sliced-fields}
use Rattle.pipe_asked.proofs.by_place.under.Goals as goal

pub returns-in-Some : goal.returns-in-Some
returns-in-Some c = ap (λ (f : FrameData). fields_of f.columns) c.slice.ensures ∙ sliced-fields _ _ c.args.frame.columns
