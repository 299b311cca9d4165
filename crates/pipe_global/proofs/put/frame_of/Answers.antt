use Rattle.std.proofs.Common.{rules, ◌≡◌, ◌∙◌, ◌++◌, List, ℕ, ap, append_assoc, arith, take}
use Rattle.std.proofs.lemmas.List.{take_all}
use Rattle.std.specs.Int.{bytes_high_first}
use Rattle.pipe_waiting.specs.Waiting.{Waiting}
use Rattle.pipe_global.specs.Waits.{bytes_waiting}
use Rattle.pipe_global.proofs.Waited.{bytes-more}
use Rattle.pipe_global.proofs.put.frame_of.Goals as goal

pub loop-rows-preserved : goal.loop-rows-preserved
loop-rows-preserved c =
    let head : List ℕ = bytes_high_first 8 c.args.count in
    let before : List ℕ = bytes_waiting (take c.loop-rows.rows-index c.args.waiting.now) in
    c.in_ok-extend_from_slice-2.ensures.items
    ∙ ap (λ (l : List ℕ). l ++ c.bytes.result.now) c.loop-rows.invariant
    ∙ append_assoc head before c.bytes.result.now
    ∙ ap (λ (l : List ℕ). head ++ (before ++ l)) c.bytes.ensures.bytes
    ∙ ap (λ (l : List ℕ). head ++ l) (bytes-more c.args.waiting.now c.loop-rows.rows-index c.rows-item.result c.loop-rows-test.true c.rows-item.is)

pub returns : goal.returns
returns c =
    let all = take_all c.loop-rows.rows-index c.args.waiting.now (omega (arith, c.loop-rows-test.false)) in
    c.loop-rows.invariant ∙ ap (λ (ws : List Waiting). bytes_high_first 8 c.args.count ++ bytes_waiting ws) all
