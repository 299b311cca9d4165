use Rattle.std.proofs.Common.{◌≡◌, ◌∙◌, ◌++◌, Some, None, rules, ap, sym}
use Rattle.lavzimo_words.specs.Joined.{joined, next_word}
use Rattle.lavzimo_words.proofs.JoinedFacts.{joined-done, joined-shorter, joined-step}
use Rattle.lavzimo_words.proofs.joined.joined.Goals as goal

pub loop-joined-preserved : goal.loop-joined-preserved
loop-joined-preserved c =
    let next : next_word c.loop-joined.rest.now ≡ Some (c.in-Some.word, c.in-Some.after.now) = search rules in
    joined-step c.loop-joined.rest.now c.in-Some.word c.in-Some.after.now c.loop-joined.joined.items c.push.new.self.items (joined c.args.words.now) next c.loop-joined.invariant c.in_ok-push.ensures.items

pub loop-joined-smaller : goal.loop-joined-smaller
loop-joined-smaller c =
    let next : next_word c.loop-joined.rest.now ≡ Some (c.in-Some.word, c.in-Some.after.now) = search rules in
    joined-shorter c.loop-joined.rest.now c.in-Some.word c.in-Some.after.now next

pub returns : goal.returns
returns c =
    let none : next_word c.loop-joined.rest.now ≡ None = search rules in
    c.in_ok-push_all.ensures ∙ ap (λ ys. c.loop-joined.joined.items ++ ys) (sym (joined-done c.loop-joined.rest.now none)) ∙ c.loop-joined.invariant
