use Rattle.std.proofs.Common.{◌∙◌, ◌++◌, ◌∷◌, [], take, get_or, sym, ap, arith}
use Rattle.std.proofs.lemmas.List.{append-nil, append_assoc, take_all, take_more}
use Rattle.lavzimo_words.proofs.joined.push_all.Goals as goal

pub loop-word-init : goal.loop-word-init
loop-word-init c = sym (append-nil c.args.joined.now.items)

pub loop-word-preserved : goal.loop-word-preserved
loop-word-preserved c =
    c.in_ok-push.ensures.items
    ∙ (λ i. c.loop-word.invariant i ++ (c.in_ok-copy.ensures ∙ c.word-item.is) i ∷ [])
    ∙ append_assoc c.args.joined.now.items (take c.loop-word.word-index c.args.words.now) (get_or c.args.words.now c.loop-word.word-index c.word-item.result ∷ [])
    ∙ ap (λ ys. c.args.joined.now.items ++ ys) (sym (take_more c.args.words.now c.loop-word.word-index c.word-item.result c.loop-word-test.true))

pub returns : goal.returns
returns c = c.loop-word.invariant ∙ ap (λ ys. c.args.joined.now.items ++ ys) (take_all c.loop-word.word-index c.args.words.now (omega arith))
