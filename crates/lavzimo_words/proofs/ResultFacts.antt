-- Steps of which each may refuse.
use Rattle.std.proofs.Common.{◌≡◌, ◌∙◌, ◌+◌, ◌<◌, ◌≤◌, ◌++◌, ℕ, List, [], ◌∷◌, length, drop, get_or, map, Result, Ok, Err, refl, sym, ap}
use Rattle.std.proofs.Math.ListN.{drop_of_length-le}
use Rattle.std.proofs.lemmas.List.{append-nil, append_assoc, drop_more}
use Rattle.lavzimo_words.specs.Results.{IsRefusedFor, each_ok, ok_as, on_ok}
use Rattle.lavzimo_words.specs.declared.refusal.AskError.{AskError}
use Rattle.lavzimo_words.specs.declared.refusal.AskError.TheVariants as ask_error
use Rattle.lavzimo_words.specs.declared.refusal.Refusal.{Refusal}

-- a refusal stays one behind further steps
pub refused_on : {A B : Type 0} (f : A → Result B Refusal) (e : AskError) (x : Result A Refusal) → IsRefusedFor e x → IsRefusedFor e (on_ok f x)
refused_on f (ask_error.Refused r) x h = ap (on_ok f) h
refused_on f ask_error.Memory x h = tt

pub refused_as : {A B : Type 0} (f : A → B) (e : AskError) (x : Result A Refusal) → IsRefusedFor e x → IsRefusedFor e (ok_as f x)
refused_as f (ask_error.Refused r) x h = ap (ok_as f) h
refused_as f ask_error.Memory x h = tt

-- the same refusal of what is the same
pub refused_same : {A : Type 0} (e : AskError) (x y : Result A Refusal) → y ≡ x → IsRefusedFor e x → IsRefusedFor e y
refused_same (ask_error.Refused r) x y is h = is ∙ h
refused_same ask_error.Memory x y is h = tt

-- a step behind one that gave something, and its refusal
pub ok_on : {A B : Type 0} (f : A → Result B Refusal) (x : Result A Refusal) (a : A) (y : Result B Refusal) → x ≡ Ok a → f a ≡ y → on_ok f x ≡ y
ok_on f x a y is h = ap (on_ok f) is ∙ h

pub refused_then : {A B : Type 0} (f : A → Result B Refusal) (e : AskError) (x : Result A Refusal) (a : A) → x ≡ Ok a → IsRefusedFor e (f a) → IsRefusedFor e (on_ok f x)
refused_then f e x a is h = refused_same e (f a) (on_ok f x) (ap (on_ok f) is) h

module _ {A B : Type 0} (f : A → Result B Refusal) where
  -- whatever the rest of a list gives, the whole gives it behind what was given before
  abbrev pub HasGiven : List A → ℕ → List B → Type 0
  HasGiven xs i given = each_ok f xs ≡ ok_as (λ more. given ++ more) (each_ok f (drop i xs))

  more : (o : Result (List B) Refusal) (given : List B) (y : B) → ok_as (λ ys. given ++ ys) (ok_as (λ ys. y ∷ ys) o) ≡ ok_as (λ ys. (given ++ (y ∷ [])) ++ ys) o
  more (Err r) given y = refl
  more (Ok ys) given y = rw append_assoc refl

  -- the next element
  next : (xs : List A) (i : ℕ) (d : A) (given : List B) → i < length xs → HasGiven xs i given
      → each_ok f xs ≡ ok_as (λ ys. given ++ ys) (each_ok f (get_or xs i d ∷ drop (i + 1) xs))
  next xs i d given l h = h ∙ ap (λ ys. ok_as (λ m. given ++ m) (each_ok f ys)) (drop_more xs i d l)

  -- the same behind one element more
  pub given-more : (xs : List A) (i : ℕ) (d : A) (y : B) (given now : List B) → i < length xs → f (get_or xs i d) ≡ Ok y → now ≡ given ++ y ∷ [] → HasGiven xs i given → HasGiven xs (i + 1) now
  given-more xs i d y given now l one is h = rw is (next xs i d given l h ∙ rw one (more (each_ok f (drop (i + 1) xs)) given y))

  -- an element that is refused
  pub given-refused : (xs : List A) (i : ℕ) (d : A) (given : List B) (e : AskError) → i < length xs → IsRefusedFor e (f (get_or xs i d)) → HasGiven xs i given → IsRefusedFor e (each_ok f xs)
  given-refused xs i d given (ask_error.Refused r) l one h = next xs i d given l h ∙ rw one refl
  given-refused xs i d given ask_error.Memory l one h = tt

  -- all elements
  pub given-all : (xs : List A) (i : ℕ) (given : List B) → length xs ≤ i → HasGiven xs i given → each_ok f xs ≡ Ok given
  given-all xs i given l h = h ∙ ap (λ ys. ok_as (λ m. given ++ m) (each_ok f ys)) (drop_of_length-le xs l) ∙ ap Ok (append-nil given)

  -- none yet
  pub given-first : (xs : List A) → HasGiven xs 0 []
  given-first xs = sym (same (each_ok f xs))
    where
      same : (o : Result (List B) Refusal) → ok_as (λ ys. [] ++ ys) o ≡ o
      same (Err r) = refl
      same (Ok ys) = refl

-- what each element gives behind a map
pub each-map : {A B C : Type 0} (f : B → Result C Refusal) (g : A → B) (xs : List A) → each_ok f (map g xs) ≡ each_ok (λ x. f (g x)) xs
each-map f g [] = refl
each-map f g (x ∷ xs) = rw (each-map f g xs) refl
