use Rattle.std.proofs.Common.{◌≡◌}
use Rattle.pipe_writers.specs.JsonHeads.{head_at}
use Rattle.pipe_lines.specs.Rows.{names_of}
use Rattle.pipe_writers.proofs.JsonFacts.{head_made, heads_more}
use Rattle.pipe_writers.proofs.json_lines.make_heads.Goals as goal

pub loop-i-preserved : goal.loop-i-preserved
loop-i-preserved c =
    let names = names_of c.args.schema.now in
    let fields : c.fields-fields.result.now ≡ c.args.schema.now = c.fields-fields.ensures in
    let made : c.in_ok-make_head.field-0.items ≡ head_at names c.loop-i.i =
    head_made c.args.schema.now c.fields-fields.result.now c.loop-i.i c.index-fields-i.result _ _ fields c.loop-i-test.true c.as_str.ensures c.in_ok-make_head.ensures in
    rw c.in_ok-push.ensures.items (heads_more names c.loop-i.i c.loop-i.heads.items c.in_ok-make_head.field-0 c.loop-i.invariant made)
