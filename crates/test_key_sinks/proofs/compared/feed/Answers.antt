use Rattle.std.proofs.Common.{◌≡◌, ◌∙◌, refl}
use Rattle.pipe_sinks.specs.Runs.{purpose_of}
use Rattle.test_key_sinks.proofs.compared.feed.Goals as goal

-- src/compared.rt:80:5
pub loop-position-init : goal.loop-position-init
loop-position-init g c = refl

-- src/compared.rt:83:25
pub returns-in_err-taken : goal.returns-in_err-taken
returns-in_err-taken g c = c.feed_one.ensures ∙ c.loop-position.invariant

-- src/compared.rt:85:17
pub returns-then-not-taken : goal.returns-then-not-taken
returns-then-not-taken g c = c.feed_one.ensures ∙ c.loop-position.invariant

-- src/compared.rt:72:1
pub returns : goal.returns
returns g c = c.loop-position.invariant
