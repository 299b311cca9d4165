use Rattle.std.proofs.Common.{◌∙◌, ap, length, sym}
use Rattle.pipe_writers.proofs.JsonFacts.{columns_headed}
use Rattle.pipe_writers.proofs.json_lines.JsonLinesLines.add_lines.Goals as goal

pub append_lines-requires-clause-columns : goal.append_lines-requires-clause-columns
append_lines-requires-clause-columns c =
    columns_headed c.args.self.now.schema c.args.frame.now.columns c.in_ok-heads.heads.items c.requires.fits c.in_ok-heads.ensures ∙ ap length (sym c.deref.ensures.value)
