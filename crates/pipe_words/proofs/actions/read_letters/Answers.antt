use Rattle.std.proofs.Common.{◌≡◌, ◌∙◌, ◌+◌, ◌-◌, ℕ, Bool, true, false, List, length, take, drop, ap, sym, arith}
use Rattle.std.specs.Prelude.{bytes_eq, codes}
use Rattle.std.proofs.lemmas.Grind.{common_steps}
use Rattle.pipe_words.proofs.LetterFacts.{letter-more, letter-none, letter-rule, letters-all}
use Rattle.pipe_words.proofs.actions.read_letters.Goals as goal

-- the rest of letters, as a slice has it
rest : (letters : List ℕ) (n : ℕ) → take (length letters - n) (drop n letters) ≡ drop n letters
rest letters n = grind (arith, common_steps)

-- whether a star alone is left
star : (letters : List ℕ) (n : ℕ) (b : Bool) → bytes_eq (take (length letters - n) (drop n letters)) (codes "*") ≡ b → bytes_eq (drop n letters) (codes "*") ≡ b
star letters n b h = sym (ap (λ (xs : List ℕ). bytes_eq xs (codes "*")) (rest letters n)) ∙ h

pub returns-in_default : goal.returns-in_default
returns-in_default c =
    sym (letter-none c.args.letters.now c.loop-i.i 0 c.loop-i.actions.items c.loop-i-test.true c.loop-i.invariant
    (sym c.action_of.ensures ∙ c.in_default.is))

pub returns-then-is_star : goal.returns-then-is_star
returns-then-is_star c =
    sym (letter-rule c.args.letters.now c.loop-i.i 0 c.loop-i.actions.items c.loop-i-test.true c.loop-i.invariant
    c.in-Some.action (sym c.action_of.ensures ∙ c.in-Some.is) (star c.args.letters.now (c.loop-i.i + 1) true (sym c.is_star.ensures ∙ c.if-is_star.true)))

pub loop-i-preserved : goal.loop-i-preserved
loop-i-preserved c =
    letter-more c.args.letters.now c.loop-i.i 0 c.loop-i.actions.items c.loop-i-test.true c.loop-i.invariant
    c.in-Some.action _ (sym c.action_of.ensures ∙ c.in-Some.is) (star c.args.letters.now (c.loop-i.i + 1) false (sym c.is_star.ensures ∙ c.if-is_star.false)) c.in_ok-push.ensures.items

pub returns : goal.returns
returns c = sym (letters-all c.args.letters.now c.loop-i.i c.loop-i.actions.items c.loop-i-test.false c.loop-i.invariant)
