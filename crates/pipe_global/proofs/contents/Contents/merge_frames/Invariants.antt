-- Some frames were merged, as many as marks were taken away.
use Rattle.std.proofs.Common.{◌≡◌, ◌+◌, length}
use Rattle.pipe_global.specs.Finishing.{HasNoFault}
use Rattle.pipe_global.specs.Gathering.{HasGathered}
use Rattle.pipe_global.proofs.contents.Contents.merge_frames.Given as goal

abbrev pub invariant-loop-turn : goal.invariant-loop-turn
invariant-loop-turn g l =
    HasGathered l.fn.self l.self
    × (l.self.waiting ≡ l.fn.self.waiting)
    × (length l.self.marks + l._turn ≡ length l.fn.self.marks)
    × HasNoFault l.fn.self l.self
