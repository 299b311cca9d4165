use Rattle.std.proofs.Common.{arith, ◌≡◌, ◌∙◌, ◌++◌, flat_map, take}
use Rattle.pipe_lines.specs.Rows.{frame_rows}
use Rattle.pipe_lines.proofs.LineFacts.{all_lines, first_piece, length-rows, next_piece}
use Rattle.pipe_writers.proofs.LineFacts.{first_front, on_err, piece_front, sent_front}
use Rattle.pipe_writers.proofs.line_writer.put_out.Goals as goal

pub returns-in_err-send-clause-front : goal.returns-in_err-send-clause-front
returns-in_err-send-clause-front g c =
    let line = (g.L.Lines.shape c.args.lines.now).line in
    let rows = frame_rows c.args.frame.now in
    let first = first_piece line rows _ _ _ c.in_ok-piece.ensures.lines in
    let text : c.deref.result.now ≡ c.args.text.items ++ flat_map line (take c.in_ok-piece.piece.next rows) = c.deref.ensures.value ∙ first in
    on_err _ _ (first_front line rows _ _ _ c.args.text.items c.deref.result.now text c.in_err-send.ensures.front)

pub loop-piece-init : goal.loop-piece-init
loop-piece-init g c =
    let line = (g.L.Lines.shape c.args.lines.now).line in
    let rows = frame_rows c.args.frame.now in
    let first = first_piece line rows _ _ _ c.in_ok-piece.ensures.lines in
    record {
      within = c.in_ok-piece.ensures.within;
      sent = rw (← first, ← c.deref.ensures.value) c.in_ok-send.ensures.all;
      tells = c.in_ok-send.ensures.tells;
      later = c.in_ok-send.ensures.cause.later;
    }

pub returns-in_err-piece-2-clause-front : goal.returns-in_err-piece-2-clause-front
returns-in_err-piece-2-clause-front g c =
    let line = (g.L.Lines.shape c.args.lines.now).line in
    let rows = frame_rows c.args.frame.now in
    on_err _ _ (sent_front line rows _ _ c.loop-piece.piece.next c.args.text.items c.loop-piece.invariant.sent)

pub returns-in_err-send-2-clause-front : goal.returns-in_err-send-2-clause-front
returns-in_err-send-2-clause-front g c =
    let line = (g.L.Lines.shape c.args.lines.now).line in
    let rows = frame_rows c.args.frame.now in
    let next = next_piece line rows c.loop-piece.piece.next c.in_ok-piece-2.piece.next c.args.text.items _ _ c.clear.ensures.items c.in_ok-piece-2.ensures.lines in
    on_err _ _ (piece_front line rows _ _ _ c.loop-piece.piece.next c.in_ok-piece-2.piece.next c.args.text.items _ c.loop-piece.invariant.sent (rw c.deref-in-loop-piece.ensures.value next) c.in_err-send-2.ensures.front)

pub returns-clause-all : goal.returns-clause-all
returns-clause-all g c =
    let line = (g.L.Lines.shape c.args.lines.now).line in
    let rows = frame_rows c.args.frame.now in
    let long = length-rows c.args.frame.now in
    let all = all_lines line rows c.loop-piece.piece.next (omega (arith, long, c.loop-piece-test.false, c.height.ensures.height)) in
    rw (← all) c.loop-piece.invariant.sent
