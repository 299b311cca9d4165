use Rattle.pipe_source.proofs.TextFields.{text-field}
use Rattle.pipe_source.proofs.field_at.push_text.Goals as goal

pub push_text-requires : goal.push_text-requires
push_text-requires c = text-field c.args.field.now c.requires
