use Rattle.std.proofs.Common.{◌+◌, ◌*◌}
use Rattle.pipe_io.proofs.parts.+parts.Given as goal

-- how many threads there may be, with room for the step between
abbrev pub decreases-read_parts : goal.decreases-read_parts
decreases-read_parts g l = 2 * l.threads

abbrev pub decreases-back : goal.decreases-back
decreases-back g l = 2 * l.left + 1
