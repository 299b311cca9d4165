use Rattle.std.proofs.Common.{not, Bool, sym, ap}
use Rattle.pipe_scan.proofs.TextStarts.{plain_nowhere, quoted_at}
use Rattle.pipe_scan.proofs.text_head.has_quote.Goals as goal

pub returns-in-Some : goal.returns-in-Some
returns-in-Some c = sym (ap (λ (b : Bool). not b) (quoted_at c.args.text.now c.in-Some.field-0 c.in-Some.ensures.0.high c.in-Some.ensures.1))

pub returns-in-None : goal.returns-in-None
returns-in-None c = sym (ap (λ (b : Bool). not b) (plain_nowhere c.args.text.now c.in-None.ensures))
