use Rattle.std.proofs.Common.{rules}
use Rattle.pipe_writer.proofs.WroteFacts.{wrote-nothing}
use Rattle.pipe_writer.proofs.writing.Writing.new.Goals as goal

pub returns : goal.returns
returns g c = record {
  wrote = wrote-nothing g.W.SinkWriter _ _ _ _ (search rules) (search rules) (search rules) (search rules) (search rules) (search rules)
      (λ since e. rw c.new-2.ensures.core (c.new.ensures.starts since e));
}
