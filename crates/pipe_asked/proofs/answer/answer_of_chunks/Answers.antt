use Rattle.std.proofs.Common.{◌≡◌, List, subst, sym}
use Rattle.pipe_aggs.specs.QueryTrees.{query_tree}
use Rattle.pipe_asked.specs.Left.{CountOn}
use Rattle.pipe_asked.specs.Sources.{GroupSourceSeen, IsGiveCause, unasked}
use Rattle.pipe_asked.specs.Stacking.{IsWholeOfChunks}
use Rattle.pipe_asked.proofs.Joined.{cause-of-parts, turn-whole}
use Rattle.pipe_asked.proofs.answer.answer_of_chunks.Goals as goal

pub returns-in-Ok-clause-whole : goal.returns-in-Ok-clause-whole
returns-in-Ok-clause-whole g c =
    let is = g.F.Form.is c.args.form.now in
    turn-whole is c.args.query.now c.args.closed.items c.args.local c.args.slice c.in-Ok.whole c.requires.slice c.requires.some
    (subst (λ (v : GroupSourceSeen). IsWholeOfChunks is v c.in-Ok.whole) c.new-source.ensures c.in-Ok.ensures.whole)

pub returns-in-Err-clause-cause : goal.returns-in-Err-clause-cause
returns-in-Err-clause-cause g c =
    let q = c.args.query.now in
    cause-of-parts (unasked q c.args.closed.items c.args.local c.args.slice) c.joined_chunks.new.source.asked c.into_parts-in-Err.result.items c.in-Err.error c.into_parts-in-Err.ensures
    (subst (λ (v : GroupSourceSeen). IsGiveCause v.asked c.joined_chunks.new.source.asked c.in-Err.error) c.new-source.ensures c.in-Err.ensures.cause)

pub returns-in-Ok-clause-calm : goal.returns-in-Ok-clause-calm
returns-in-Ok-clause-calm g c =
    subst (CountOn c.args.closed.items) (sym c.into_parts.ensures)
    (subst (λ (v : GroupSourceSeen). CountOn v.asked.partitions c.joined_chunks.new.source.asked.partitions) c.new-source.ensures c.in-Ok.ensures.calm)
