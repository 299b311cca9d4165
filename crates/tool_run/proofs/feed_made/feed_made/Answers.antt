use Rattle.std.proofs.Common.{rules, true, ◌≡◌, ◌∙◌, ◌+◌, ◌<◌, ◌≤◌, ◌^◌, ap, sym}
use Rattle.pipe_run.specs.Feeding.{chunks_reached}
use Rattle.pipe_run.specs.Setting.{Setting}
use Rattle.tool_made.specs.Made.{chunk_count}
use Rattle.tool_made.specs.MadeQuery.{made_schema}
use Rattle.tool_run.specs.Answering.{AreFedMade}
use Rattle.pipe_run.proofs.Counted.{calm-twice}
use Rattle.tool_run.proofs.FeedFacts.{front-of}
use Rattle.tool_run.proofs.MadeFacts.{fed-then, made-cause, made-first, made-fit, made-reached, reached-first}
use Rattle.tool_run.proofs.feed_made.feed_made.Goals as goal

pub returns-in-Err-clause-back : goal.returns-in-Err-clause-back
returns-in-Err-clause-back g c =
    let inv = c.loop-first.invariant in
    let within : c.loop-first.first ≤ chunk_count c.args.rows.now = search rules in
    front-of c.args.run.setting c.loop-first.run.setting (AreFedMade c.args.rows.now) true c.loop-first.run.chunks _ inv.setting
    (made-first c.args.rows.now c.loop-first.first c.loop-first.run.chunks within inv.chunks)
    (made-fit c.args.run.setting.query.schema c.args.rows.now c.loop-first.first c.loop-first.run.chunks c.requires.fits inv.chunks) c.into_stores.ensures.back

pub returns-in-Err-feed-clause-back : goal.returns-in-Err-feed-clause-back
returns-in-Err-feed-clause-back g c =
    let inv = c.loop-first.invariant in
    let within : c.loop-first.first + c.min-count.result ≤ chunk_count c.args.rows.now = search rules in
    front-of c.args.run.setting c.loop-first.run.setting (AreFedMade c.args.rows.now) true (chunks_reached c.loop-first.run _ c.in-Err-feed.error) _ inv.setting
    (reached-first c.loop-first.run c.args.rows.now c.loop-first.first c.min-count.result _ c.in-Err-feed.error within inv.chunks (search rules))
    (made-reached c.args.run.setting.query.schema c.loop-first.run c.args.rows.now c.loop-first.first c.min-count.result _ c.in-Err-feed.error c.requires.fits inv.chunks (search rules)) c.in-Err-feed.ensures.back

pub returns-in-Err-feed-clause-cause : goal.returns-in-Err-feed-clause-cause
returns-in-Err-feed-clause-cause g c =
    let inv = c.loop-first.invariant in
    let fields : made_schema ≡ c.loop-first.run.setting.query.schema = c.requires.fits ∙ sym (ap (λ (s : Setting). s.query.schema) inv.setting) in
    let within : c.loop-first.first + c.min-count.result ≤ chunk_count c.args.rows.now = search rules in
    let small : c.args.rows.now.rows < 2 ^ 32 = c.chunks-total.ensures.few in
    made-cause c.args.run c.loop-first.run c.args.rows.now c.loop-first.first c.min-count.result _ _ c.in-Err-feed.error c.requires.some small within fields inv.counted inv.chunks (search rules) c.in-Err-feed.ensures.cause

pub loop-first-preserved : goal.loop-first-preserved
loop-first-preserved g c =
    let inv = c.loop-first.invariant in
    record {
      setting = search rules;
      within = search rules;
      chunks = fed-then c.args.rows.now c.loop-first.first c.min-count.result c.loop-first.run.chunks _ c.in-Ok-feed.run'.chunks inv.chunks (search rules) c.in-Ok-feed.ensures.chunks;
      counted = calm-twice c.args.run.stores c.loop-first.run.stores c.in-Ok-feed.run'.stores inv.counted c.in-Ok-feed.ensures.counted;
    }
