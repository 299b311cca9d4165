-- Lists of which all that meet a test are wanted.
use Rattle.std.proofs.Common.{◌≡◌, ◌&&◌, ◌||◌, Bool, true, false, not, List, [], ◌∷◌, map, if◌then◌else◌, refl, ap}
use Rattle.std.specs.List.{find}
use Rattle.std.proofs.lemmas.Bool.{and_from, and_parts}
use Rattle.narrow_columns.specs.Wanted.{chosen}
use Rattle.narrow_query.specs.Names.{keeps_all}

-- one more element, wanted or without the test
find-step : {A : Type 0} (test : A → Bool) (x : A) (some xs : List A) (w t : Bool) → test x ≡ t → (w || not t) ≡ true → find test some ≡ find test xs
    → find test (if w then x ∷ some else some) ≡ find test (x ∷ xs)
find-step test x some xs true true e g h = rw e refl
find-step test x some xs true false e g h = rw e h
find-step test x some xs false true e g h = cc
find-step test x some xs false false e g h = rw e h

-- the first that meets a test is still the first
pub find-chosen : {A : Type 0} (test : A → Bool) (ws : List Bool) (xs : List A) → keeps_all test ws xs ≡ true → find test (chosen ws xs) ≡ find test xs
find-chosen test [] xs h = refl
find-chosen test (w ∷ ws) [] h = refl
find-chosen test (w ∷ ws) (x ∷ xs) h =
    let both = and_parts (w || not (test x)) (keeps_all test ws xs) h in
    find-step test x (chosen ws xs) xs w (test x) refl both.0 (find-chosen test ws xs both.1)

-- what is wanted for either of two tests is wanted for each
either-wanted : (w a b : Bool) → (w || not (a || b)) ≡ true → ((w || not a) ≡ true) × ((w || not b) ≡ true)
either-wanted true a b h = (refl, refl)
either-wanted false true b h = cc
either-wanted false false b h = (refl, h)

pub keeps-either : {A : Type 0} (f g : A → Bool) (ws : List Bool) (xs : List A) → keeps_all (λ x. f x || g x) ws xs ≡ true → (keeps_all f ws xs ≡ true) × (keeps_all g ws xs ≡ true)
keeps-either f g [] xs h = (refl, refl)
keeps-either f g (w ∷ ws) [] h = (refl, refl)
keeps-either f g (w ∷ ws) (x ∷ xs) h =
    let both = and_parts (w || not (f x || g x)) (keeps_all (λ x. f x || g x) ws xs) h in
    let here = either-wanted w (f x) (g x) both.0 in
    let rest = keeps-either f g ws xs both.1 in
    (and_from (w || not (f x)) (keeps_all f ws xs) here.0 rest.0, and_from (w || not (g x)) (keeps_all g ws xs) here.1 rest.1)

-- a test of what a function makes
pub keeps-map : {A B : Type 0} (test : B → Bool) (f : A → B) (ws : List Bool) (xs : List A) → keeps_all test ws (map f xs) ≡ keeps_all (λ x. test (f x)) ws xs
keeps-map test f [] xs = refl
keeps-map test f (w ∷ ws) [] = refl
keeps-map test f (w ∷ ws) (x ∷ xs) = ap (λ b. (w || not (test (f x))) && b) (keeps-map test f ws xs)
