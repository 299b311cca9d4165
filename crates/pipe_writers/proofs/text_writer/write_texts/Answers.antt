use Rattle.std.proofs.Common.{◌≡◌, ◌∙◌, ◌+◌, ◌++◌, List, ℕ, ap, drop, take}
use Rattle.pipe_lines.specs.Lines.{joined_texts}
use Rattle.pipe_writers.proofs.LineFacts.{on_err}
use Rattle.pipe_writers.proofs.SentTexts.{begins, goes_on, texts_cut}
use Rattle.pipe_writers.proofs.text_writer.write_texts.Goals as goal

pub returns-in_err-send-clause-front : goal.returns-in_err-send-clause-front
returns-in_err-send-clause-front g c = on_err _ _ (begins _ _ c.args.head.now _ c.in_err-send.ensures.front)

pub returns-in_err-send-2-clause-front : goal.returns-in_err-send-2-clause-front
returns-in_err-send-2-clause-front g c =
    let head = c.args.head.now in
    let texts = c.args.texts.now in
    let k = c.loop-place.place in
    let before : List ℕ = head ++ joined_texts (take k texts) in
    let rest : List ℕ = joined_texts (drop (k + 1) texts) in
    let cut : before ++ (c.deref.result.now ++ rest) ≡ head ++ joined_texts texts =
    ap (λ (b : List ℕ). before ++ (b ++ rest)) c.deref.ensures.value ∙ texts_cut head texts k c.index-texts-place.result c.loop-place-test.true c.index-texts-place.is in
    on_err _ _ (goes_on _ _ _ before c.deref.result.now rest _ cut c.loop-place.invariant.sent c.in_err-send-2.ensures.front)
