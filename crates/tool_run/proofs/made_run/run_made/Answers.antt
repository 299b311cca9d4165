use Rattle.std.proofs.Common.{rules, false}
use Rattle.pipe_run.specs.Answered.{HaveWholeFrames}
use Rattle.pipe_run.specs.Finish.{IsFinishCause}
use Rattle.pipe_run.specs.Setting.{run_over}
use Rattle.tool_run.specs.Answering.{AreFedMade}
use Rattle.tool_run.proofs.FeedFacts.{finish-cause, front-of}
use Rattle.tool_run.proofs.MadeFacts.{made-fit}
use Rattle.tool_made.specs.Made.{chunk_count}
use Rattle.tool_run.proofs.made_run.run_made.Goals as goal

pub returns-in-Err-ended-clause-cause : goal.returns-in-Err-ended-clause-cause
returns-in-Err-ended-clause-cause g c =
    let cause : IsFinishCause c.in-Ok.run' _ c.in-Err-ended.error = search rules in
    finish-cause c.args.run c.in-Ok.run' _ c.in-Err-ended.error c.in-Ok.ensures.counted c.in-Ok.ensures.setting cause

pub returns-in-Err-ended-clause-back : goal.returns-in-Err-ended-clause-back
returns-in-Err-ended-clause-back g c =
    let run' = c.in-Ok.run' in
    let whole : HaveWholeFrames (run_over run'.setting false run'.chunks) _ = search rules in
    front-of c.args.run.setting run'.setting (AreFedMade c.args.rows.now) false run'.chunks _ c.in-Ok.ensures.setting c.in-Ok.ensures.all
    (made-fit c.args.run.setting.query.schema c.args.rows.now (chunk_count c.args.rows.now) run'.chunks c.requires.fits c.in-Ok.ensures.all) whole
