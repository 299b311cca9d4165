use Rattle.std.proofs.Common.{rules, ◌≡◌, sym}
use Rattle.pipe_spill.specs.FileStore.{next_start}
use Rattle.summary_log.proofs.WrittenFacts.{cut-back-by, cut-front-by}
use Rattle.summary_log.proofs.log_frames.LogFrames.put.Goals as goal

pub returns-in-Err-clause-front : goal.returns-in-Err-clause-front
returns-in-Err-clause-front g c =
    let told = g.F.LogFile.told in
    cut-front-by c.cut_at.result (next_start c.args.self.now.ends) (told c.args.file.now) (told c.write_entry.new.file) (told c.cut_at.new.self)
    (search rules) (search rules) (search rules)

pub returns-in-Err-clause-undone : goal.returns-in-Err-clause-undone
returns-in-Err-clause-undone g c =
    let told = g.F.LogFile.told in
    cut-back-by c.cut_at.result c.args.self.now c.refuse-in-Err.new.self (told c.args.file.now) (told c.write_entry.new.file) (told c.cut_at.new.self)
    (search rules) (search rules) (search rules)
