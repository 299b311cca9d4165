use Rattle.std.proofs.Common.{◌≡◌, List, subst, sym}
use Rattle.pipe_asked.specs.Given.{SourceSeen}
use Rattle.pipe_asked.specs.Left.{CountOn}
use Rattle.pipe_asked.specs.Sources.{IsGiveCause, unasked}
use Rattle.pipe_asked.specs.Stacking.{alone, IsWholeOfChunks}
use Rattle.pipe_asked.proofs.Joined.{cause-of-parts, turn-whole}
use Rattle.pipe_asked.proofs.answer.answer_of_wholes.Goals as goal

pub returns-in-Ok-clause-whole : goal.returns-in-Ok-clause-whole
returns-in-Ok-clause-whole g c =
    let is = g.F.Form.is c.args.form.now in
    turn-whole is c.args.query.now c.args.closed.items c.args.local c.args.slice c.in-Ok.whole c.requires.slice c.requires.some
    (subst (λ (v : SourceSeen). IsWholeOfChunks is (alone v) c.in-Ok.whole) c.new-asked.ensures c.in-Ok.ensures.whole)

pub returns-in-Err-clause-cause : goal.returns-in-Err-clause-cause
returns-in-Err-clause-cause g c =
    let q = c.args.query.now in
    cause-of-parts (unasked q c.args.closed.items c.args.local c.args.slice) c.joined_wholes.new.asked c.into_parts-in-Err.result.items c.in-Err.error c.into_parts-in-Err.ensures
    (subst (λ (v : SourceSeen). IsGiveCause v c.joined_wholes.new.asked c.in-Err.error) c.new-asked.ensures c.in-Err.ensures.cause)

pub returns-in-Ok-clause-calm : goal.returns-in-Ok-clause-calm
returns-in-Ok-clause-calm g c =
    subst (CountOn c.args.closed.items) (sym c.into_parts.ensures)
    (subst (λ (v : SourceSeen). CountOn v.partitions c.joined_wholes.new.asked.partitions) c.new-asked.ensures c.in-Ok.ensures.calm)
