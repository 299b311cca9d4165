-- The actions and the rules of lists of letters that are lent.
use Rattle.std.proofs.Common.{◌≡◌, ◌∙◌, ◌≤◌, ◌-◌, ◌++◌, ◌∷◌, List, ℕ, zero, suc, Bor, Option, Some, true, length, map, take, replicate, nat_le, refl, ap, ap₂, sym, arith}
use Rattle.std.specs.Prelude.{option_and_then}
use Rattle.std.proofs.lemmas.List.{length-map, map-append}
use Rattle.std.proofs.lemmas.Grind.{common_steps}
use Rattle.std.proofs.lemmas.Bool.Decides.{nat_tests}
use Rattle.pipe_plan.specs.declared.event.SpillAction.{SpillAction}
use Rattle.pipe_words.specs.Actions.{each_of, filled_up, letters_of, listed_actions, listed_rule, parts_of, spare_letters}
use Rattle.pipe_words.proofs.EachFacts.{each-map}

-- the actions of letters that are lent
abbrev pub lent_actions : Bor (List ℕ) → Option (List SpillAction)
lent_actions x = listed_actions x.now

-- their rule
abbrev pub lent_rule : Bor (List ℕ) → Option SpillAction
lent_rule x = listed_rule x.now

-- the same letters, again and again
map-same : (k : ℕ) (e : Bor (List ℕ)) (letters : List ℕ) → e.now ≡ letters → map (λ x. x.now) (replicate k e) ≡ replicate k letters
map-same zero e letters h = refl
map-same (suc k) e letters h = ap₂ (λ (x : List ℕ) (xs : List (List ℕ)). x ∷ xs) h (map-same k e letters h)

-- lists that are lent, filled up
pub letters-lent : (workers n : ℕ) (parts : List (Bor (List ℕ))) (e : Bor (List ℕ)) (text : Option (List ℕ)) → map (λ x. x.now) parts ≡ parts_of text → n ≡ length parts → n ≤ workers → e.now ≡ spare_letters (map (λ x. x.now) parts)
    → letters_of workers text ≡ Some (map (λ x. x.now) (take workers parts ++ replicate (workers - n) e))
letters-lent workers n parts e text is long few spare =
    let size : length (parts_of text) ≡ n = sym (ap length is) ∙ length-map parts (λ x. x.now) ∙ sym long in
    let test : nat_le (length (parts_of text)) workers ≡ true = grind (arith, nat_tests) in
    let whole : take workers parts ≡ parts = grind (arith, common_steps) in
    let names : map (λ (x : Bor (List ℕ)). x.now) (parts ++ replicate (workers - n) e) ≡ filled_up workers (parts_of text) =
    map-append (λ x. x.now) parts (replicate (workers - n) e) ∙ rw (is, map-same (workers - n) e (spare_letters (parts_of text)) (spare ∙ ap spare_letters is), size) refl in
    rw (whole, test) (ap Some (sym names))

-- what lists that are lent give
pub lent-give : {B : Type 0} (f : List ℕ → Option B) (lent : List (Bor (List ℕ))) (letters : Option (List (List ℕ))) → letters ≡ Some (map (λ x. x.now) lent) → each_of (λ (x : Bor (List ℕ)). f x.now) lent ≡ option_and_then (each_of f) letters
lent-give f lent letters is = rw is (sym (each-map f (λ (x : Bor (List ℕ)). x.now) lent))
