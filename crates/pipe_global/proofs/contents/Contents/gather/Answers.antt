use Rattle.pipe_global.proofs.Gathered.{gathered-more, gathered-waiting, merge-waiting}
use Rattle.pipe_global.proofs.contents.Contents.gather.Goals as goal

pub merge_waiting-requires : goal.merge_waiting-requires
merge_waiting-requires g c = merge-waiting c.merge_frames.new.self (c.merge_frames.ensures.gathered.gathers 0 c.requires)

pub returns-clause-gathered : goal.returns-clause-gathered
returns-clause-gathered g c =
    gathered-more c.args.self.now c.merge_frames.new.self c.merge_waiting.new.self c.merge_frames.ensures.gathered
    (gathered-waiting c.merge_frames.new.self c.merge_waiting.new.self c.in_ok-merge_waiting.ensures.ok)
