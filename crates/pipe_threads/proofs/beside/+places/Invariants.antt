use Rattle.std.proofs.Common.{◌+◌, ◌*◌}
use Rattle.pipe_threads.proofs.beside.+places.Given as goal

-- how many threads there may be, with room for the steps between
abbrev pub decreases-each_from : goal.decreases-each_from
decreases-each_from g l = 4 * l.threads

abbrev pub decreases-first_and_others : goal.decreases-first_and_others
decreases-first_and_others g l = 4 * l.threads + 2

abbrev pub decreases-first_and_others-back : goal.decreases-first_and_others-back
decreases-first_and_others-back g l = 4 * l.threads + 1
