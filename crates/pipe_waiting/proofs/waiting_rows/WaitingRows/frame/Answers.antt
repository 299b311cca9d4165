-- The number of the rows stands before their bytes.
use Rattle.std.proofs.Common.{rules, ◌≡◌, ◌++◌, ◌∙◌}
use Rattle.std.specs.Int.{bytes_high_first}
use Rattle.pipe_waiting.proofs.ReadBack.{frame_is}
use Rattle.pipe_waiting.proofs.waiting_rows.WaitingRows.frame.Goals as goal

pub returns : goal.returns
returns c = λ types h.
    let w = c.args.self.now in
    let written : c.extend_from_slice-2.new.self.items ≡ bytes_high_first 8 w.count ++ w.bytes = search rules in
    written ∙ frame_is types w.count w.bytes h
