use Rattle.tool_run.proofs.FeedFacts.{finish-cause, front-of}
use Rattle.tool_run.proofs.file_run.run_files_to_frame.Goals as goal
use Rattle.std.proofs.Common.{rules, false}
use Rattle.pipe_run.specs.Answered.{HaveWholeFrames}
use Rattle.pipe_run.specs.Finish.{IsFinishCause}
use Rattle.pipe_run.specs.Setting.{run_over}
use Rattle.tool_run.specs.Answering.{AreFedOf}

pub returns-in-Err-ended-clause-cause : goal.returns-in-Err-ended-clause-cause
returns-in-Err-ended-clause-cause g c =
    let cause : IsFinishCause c.in-Ok.run' _ c.in-Err-ended.error = search rules in
    finish-cause c.args.run c.in-Ok.run' _ c.in-Err-ended.error c.in-Ok.ensures.counted c.in-Ok.ensures.setting cause

pub returns-in-Err-ended-clause-back : goal.returns-in-Err-ended-clause-back
returns-in-Err-ended-clause-back g c =
    let run' = c.in-Ok.run' in
    let whole : HaveWholeFrames (run_over run'.setting false run'.chunks) _ = search rules in
    front-of c.args.run.setting run'.setting (AreFedOf (g.I.InputFiles.told c.args.input.now) c.args.reader.now) false run'.chunks _ c.in-Ok.ensures.setting c.in-Ok.ensures.all c.in-Ok.ensures.fit whole
