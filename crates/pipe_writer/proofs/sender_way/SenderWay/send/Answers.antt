use Rattle.pipe_writer.proofs.Steps.{sends}
use Rattle.pipe_writer.proofs.sender_way.SenderWay.send.Goals as goal

pub send_as-requires-clause-rule : goal.send_as-requires-clause-rule
send_as-requires-clause-rule g c = (sends _ _ _ _ c.requires, λ _ _ _ _. tt)
