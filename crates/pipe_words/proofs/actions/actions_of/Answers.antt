use Rattle.std.proofs.Common.{◌≡◌, ◌∙◌, Bor, List, ℕ, Option, Some, map, option_map, ap, sym, arith}
use Rattle.std.proofs.lemmas.Result.{IfOk-weaker}
use Rattle.pipe_words.specs.Actions.{actions_of, each_of, letters_of, listed_actions, listed_rule, rules_of, spare_letters}
use Rattle.pipe_words.specs.declared.actions.Lists.{Lists}
use Rattle.pipe_words.proofs.ActionFacts.{lent-give, lent_actions, lent_rule, letters-lent}
use Rattle.pipe_words.proofs.actions.actions_of.Goals as goal

pub returns-clause-actions : goal.returns-clause-actions
returns-clause-actions c =
    let lent : letters_of c.args.workers (option_map (λ s. s.now) c.args.value) ≡ Some (map (λ (x : Bor (List ℕ)). x.now) c.deref-2.result.now) =
    letters-lent c.args.workers _ c.in_ok-parts.parts.items _ (option_map (λ s. s.now) c.args.value) c.in_ok-parts.ensures (omega (arith, c.in_ok-parts.parts.ok.0)) (omega (arith, c.len.ensures)) (c.spare_letters-spare.ensures ∙ ap (λ (xs : List (Bor (List ℕ))). spare_letters (map (λ (x : Bor (List ℕ)). x.now) xs)) c.deref.ensures.value)
    ∙ ap (λ (xs : List (Bor (List ℕ))). Some (map (λ (x : Bor (List ℕ)). x.now) xs)) (sym (c.deref-2.ensures.value ∙ c.in_ok-resize.ensures.items)) in
    IfOk-weaker c.read_lists.result (λ (o : Option Lists). option_map (λ l. map (λ v. v.items) l.actions.items) o ≡ each_of lent_actions c.deref-2.result.now)
    (λ (o : Option Lists). option_map (λ l. map (λ v. v.items) l.actions.items) o ≡ actions_of c.args.workers (option_map (λ s. s.now) c.args.value))
    (λ o h. h ∙ lent-give listed_actions c.deref-2.result.now _ lent) c.read_lists.ensures.lists

pub returns-clause-rules : goal.returns-clause-rules
returns-clause-rules c =
    let lent : letters_of c.args.workers (option_map (λ s. s.now) c.args.value) ≡ Some (map (λ (x : Bor (List ℕ)). x.now) c.deref-2.result.now) =
    letters-lent c.args.workers _ c.in_ok-parts.parts.items _ (option_map (λ s. s.now) c.args.value) c.in_ok-parts.ensures (omega (arith, c.in_ok-parts.parts.ok.0)) (omega (arith, c.len.ensures)) (c.spare_letters-spare.ensures ∙ ap (λ (xs : List (Bor (List ℕ))). spare_letters (map (λ (x : Bor (List ℕ)). x.now) xs)) c.deref.ensures.value)
    ∙ ap (λ (xs : List (Bor (List ℕ))). Some (map (λ (x : Bor (List ℕ)). x.now) xs)) (sym (c.deref-2.ensures.value ∙ c.in_ok-resize.ensures.items)) in
    IfOk-weaker c.read_lists.result (λ (o : Option Lists). option_map (λ l. l.rules.items) o ≡ each_of lent_rule c.deref-2.result.now)
    (λ (o : Option Lists). option_map (λ l. l.rules.items) o ≡ rules_of c.args.workers (option_map (λ s. s.now) c.args.value))
    (λ o h. h ∙ lent-give listed_rule c.deref-2.result.now _ lent) c.read_lists.ensures.rules
