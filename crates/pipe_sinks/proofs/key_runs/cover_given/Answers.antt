use Rattle.std.proofs.Common.{List, sym, subst}
use Rattle.pipe_columns.specs.Row.{Row}
use Rattle.pipe_sinks.specs.ChunkTaking.{AreKeysOf}
use Rattle.pipe_sinks.proofs.key_runs.cover_given.Goals as goal

pub cover_runs-requires-clause-keys : goal.cover_runs-requires-clause-keys
cover_runs-requires-clause-keys c = subst (λ (rows : List Row). AreKeysOf rows c.in-Some.keys.now) (sym c.requires.takes.rows_are) (rw c.in-Some.is at c.requires.keys)
