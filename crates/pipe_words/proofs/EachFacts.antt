-- What each element of a list gives, one after another.
use Rattle.std.proofs.Common.{◌≡◌, ◌∙◌, ◌+◌, ◌<◌, ◌≤◌, ◌++◌, ℕ, List, [], ◌∷◌, length, drop, get_or, Option, Some, None, map, option_map, refl, sym, ap}
use Rattle.std.proofs.Math.ListN.{drop_of_length-le}
use Rattle.std.proofs.lemmas.List.{append-nil, append_assoc, drop_more}
use Rattle.pipe_words.specs.Actions.{each_of}

-- whatever the rest of a list gives, the whole gives it behind what was given before
abbrev pub HasGiven : {A B : Type 0} → (A → Option B) → List A → ℕ → List B → Type 0
HasGiven f xs i given = each_of f xs ≡ option_map (λ more. given ++ more) (each_of f (drop i xs))

-- the same behind one element more
module _ {A B : Type 0} (f : A → Option B) where
  more : (o : Option (List B)) (given : List B) (y : B) → option_map (λ ys. given ++ ys) (option_map (λ ys. y ∷ ys) o) ≡ option_map (λ ys. (given ++ (y ∷ [])) ++ ys) o
  more None given y = refl
  more (Some ys) given y = rw append_assoc refl

  pub given-more : (xs : List A) (i : ℕ) (d : A) (y : B) (given now : List B) → i < length xs → f (get_or xs i d) ≡ Some y → now ≡ given ++ y ∷ [] → HasGiven f xs i given → HasGiven f xs (i + 1) now
  given-more xs i d y given now l one is h = rw is (h ∙ ap (λ ys. option_map (λ m. given ++ m) (each_of f ys)) (drop_more xs i d l) ∙ rw one (more (each_of f (drop (i + 1) xs)) given y))

  -- an element that gives nothing
  pub given-none : (xs : List A) (i : ℕ) (d : A) (given : List B) → i < length xs → f (get_or xs i d) ≡ None → HasGiven f xs i given → each_of f xs ≡ None
  given-none xs i d given l one h = h ∙ ap (λ ys. option_map (λ m. given ++ m) (each_of f ys)) (drop_more xs i d l) ∙ rw one refl

  -- all elements
  pub given-all : (xs : List A) (i : ℕ) (given : List B) → length xs ≤ i → HasGiven f xs i given → each_of f xs ≡ Some given
  given-all xs i given l h = h ∙ ap (λ ys. option_map (λ m. given ++ m) (each_of f ys)) (drop_of_length-le xs l) ∙ ap Some (append-nil given)

  -- none yet
  pub given-first : (xs : List A) → HasGiven f xs 0 []
  given-first xs = sym (same (each_of f xs))
    where
      same : (o : Option (List B)) → option_map (λ ys. [] ++ ys) o ≡ o
      same None = refl
      same (Some ys) = refl

-- what each element gives behind a map
pub each-map : {A B C : Type 0} (f : B → Option C) (g : A → B) (xs : List A) → each_of f (map g xs) ≡ each_of (λ x. f (g x)) xs
each-map f g [] = refl
each-map f g (x ∷ xs) = rw (each-map f g xs) refl
