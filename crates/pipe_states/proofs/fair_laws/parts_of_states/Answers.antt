use Rattle.pipe_states.proofs.RangeFacts.{parts-apart}
use Rattle.pipe_states.proofs.fair_laws.parts_of_states.Goals as goal

pub returns : goal.returns
returns c = λ q parts h d. record { in_range = h; apart = parts-apart q parts d }
