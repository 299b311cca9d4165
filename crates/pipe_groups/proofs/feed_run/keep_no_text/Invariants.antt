use Rattle.std.proofs.Common.{◌≡◌, drop}
use Rattle.pipe_groups.specs.GroupRuns.{keep_no_text}
use Rattle.pipe_groups.proofs.feed_run.keep_no_text.Given as goal

-- those before the one at hand keep none
abbrev pub invariant-loop-j : goal.invariant-loop-j
invariant-loop-j l = keep_no_text (drop l.j l.prototypes) (drop l.j l.types) ≡ keep_no_text l.prototypes l.types
