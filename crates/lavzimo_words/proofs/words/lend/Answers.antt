use Rattle.std.proofs.Common.{◌≡◌, ◌∙◌, ◌++◌, ◌∷◌, [], ℕ, List, Bor, map, take, refl, sym, ap}
use Rattle.std.proofs.lemmas.List.{map_push, take_more}
use Rattle.lavzimo_words.proofs.words.lend.Goals as goal

pub loop-word-init : goal.loop-word-init
loop-word-init c = rw c.new-lent.ensures.items refl

pub loop-word-preserved : goal.loop-word-preserved
loop-word-preserved c =
    let front : map (λ w. w.now) c.loop-word.lent.items ≡ take c.loop-word.word-index c.args.words.now = c.loop-word.invariant in
    let word = c.as_str.ensures ∙ c.word-item.is in
    ap (map (λ (w : Bor (List ℕ)). w.now)) c.in_ok-push.ensures.items
    ∙ map_push (λ (w : Bor (List ℕ)). w.now) c.loop-word.lent.items c.as_str.result
    ∙ (λ i. front i ++ word i ∷ [])
    ∙ sym (take_more c.args.words.now c.loop-word.word-index c.word-item.result c.loop-word-test.true)
