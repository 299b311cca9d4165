use Rattle.std.proofs.Common.{◌∙◌, sym, arith}
use Rattle.test_key_sinks.proofs.KeyFacts.{key-more}
use Rattle.test_key_sinks.proofs.key_column.sole_keys.Goals as goal

pub loop-row-preserved : goal.loop-row-preserved
loop-row-preserved c =
    key-more c.args.rows.now c.loop-row.values.items c.push.new.self.items c.loop-row.row c.in-Some.value (omega (arith, c.loop-row-test.true, c.len-row-end.ensures)) c.loop-row.invariant
    (sym c.in_ok-own_key.ensures ∙ c.in-Some.ensures) c.in_ok-push.ensures.items
