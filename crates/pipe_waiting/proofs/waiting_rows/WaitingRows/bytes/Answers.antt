-- As many rows as are counted have these bytes.
use Rattle.std.proofs.Common.{rules, ◌≡◌, ◌++◌, List, ℕ, subst, sym}
use Rattle.std.specs.Int.{bytes_high_first}
use Rattle.pipe_spill.specs.FrameBytes.{frame_bytes}
use Rattle.pipe_waiting.specs.Waiting.{waiting_rows}
use Rattle.pipe_waiting.proofs.ReadBack.{frame_is}
use Rattle.pipe_waiting.proofs.waiting_rows.WaitingRows.bytes.Goals as goal

pub returns-clause-frame : goal.returns-clause-frame
returns-clause-frame c = λ types h.
    let w = c.args.self.now in
    let lent : c.deref.result.now ≡ w.bytes = search rules in
    subst (λ (l : List ℕ). bytes_high_first 8 w.count ++ l ≡ frame_bytes types (waiting_rows types w)) (sym lent) (frame_is types w.count w.bytes h)
