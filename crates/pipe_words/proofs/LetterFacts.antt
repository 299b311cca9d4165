-- What letters say, read one after another.
use Rattle.std.proofs.Common.{◌≡◌, ◌∙◌, ◌+◌, ◌<◌, ◌≤◌, ◌++◌, ℕ, true, false, List, [], ◌∷◌, length, drop, get_or, Option, Some, None, option_map, refl, sym, ap}
use Rattle.std.specs.Prelude.{bytes_eq, codes}
use Rattle.std.proofs.Math.ListN.{drop_of_length-le}
use Rattle.std.proofs.lemmas.List.{append-nil, append_assoc, drop_more}
use Rattle.pipe_plan.specs.declared.event.SpillAction.{SpillAction}
use Rattle.pipe_plan.specs.declared.event.SpillAction.TheVariants as action
use Rattle.pipe_words.specs.Actions.{Listed, action_of, read_letters, with_action}

-- what letters say where they are actions and a rule
abbrev pub said : List SpillAction → SpillAction → Option Listed
said actions rule = Some (record { actions = actions; rule = rule })

-- what letters say behind actions
abbrev pub behind : List SpillAction → Listed → Listed
behind given l = record l { actions = given ++ l.actions }

-- whatever the rest of letters says, they all say it behind the actions of those before
abbrev pub HasRead : List ℕ → ℕ → List SpillAction → Type 0
HasRead letters i given = read_letters letters ≡ option_map (behind given) (read_letters (drop i letters))

-- the same behind one action more
more : (o : Option Listed) (given : List SpillAction) (a : SpillAction) → option_map (behind given) (option_map (with_action a) o) ≡ option_map (behind (given ++ a ∷ [])) o
more None given a = refl
more (Some l) given a = ap (λ xs. said xs l.rule) (rw append_assoc refl)

module _ (letters : List ℕ) (i : ℕ) (d : ℕ) (given : List SpillAction) (few : i < length letters) (h : HasRead letters i given) where
  -- the letter that is read next
  next : read_letters letters ≡ option_map (behind given) (read_letters (get_or letters i d ∷ drop (i + 1) letters))
  next = h ∙ ap (λ ys. option_map (behind given) (read_letters ys)) (drop_more letters i d few)

  -- it is none
  pub letter-none : action_of (get_or letters i d) ≡ None → read_letters letters ≡ None
  letter-none one = next ∙ rw one refl

  -- it is the rule
  pub letter-rule : (a : SpillAction) → action_of (get_or letters i d) ≡ Some a → bytes_eq (drop (i + 1) letters) (codes "*") ≡ true → read_letters letters ≡ said given a
  letter-rule a one star = next ∙ rw (one, star) (ap (λ xs. said xs a) (append-nil given))

  -- it is an action
  pub letter-more : (a : SpillAction) (now : List SpillAction) → action_of (get_or letters i d) ≡ Some a → bytes_eq (drop (i + 1) letters) (codes "*") ≡ false → now ≡ given ++ a ∷ [] → HasRead letters (i + 1) now
  letter-more a now one star is = rw is (next ∙ rw (one, star) (more (read_letters (drop (i + 1) letters)) given a))

-- all letters
pub letters-all : (letters : List ℕ) (i : ℕ) (given : List SpillAction) → length letters ≤ i → HasRead letters i given → read_letters letters ≡ said given action.None
letters-all letters i given past h = h ∙ ap (λ ys. option_map (behind given) (read_letters ys)) (drop_of_length-le letters past) ∙ ap (λ xs. said xs action.None) (append-nil given)

-- none yet
pub letters-first : (letters : List ℕ) → HasRead letters 0 []
letters-first letters = sym (same (read_letters letters))
  where
    same : (o : Option Listed) → option_map (behind []) o ≡ o
    same None = refl
    same (Some l) = refl
