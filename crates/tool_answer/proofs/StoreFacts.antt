-- What is seen of stores, one after another.
use Rattle.std.proofs.Common.{◌≡◌, ◌∙◌, ◌++◌, ℕ, Bool, List, [], ◌∷◌, ap, map, refl, sym, subst, Option, None, Some, option_map}
use Rattle.std.specs.List.{All}
use Rattle.std.proofs.lemmas.List.{map-append}
use Rattle.std.proofs.lemmas.Option.{none-some}
use Rattle.std.proofs.lemmas.List.Elements.{All-append, All-cons, All-nil}
use Rattle.pipe_plan.specs.Run.{StoreSeen}
use Rattle.pipe_plan.specs.Stores.{stores_seen}
use Rattle.tool_answer.specs.Ended.{IsMade}

-- what is made of nothing is nothing
pub none-mapped : {A B : Type 0} (f : A → B) (o : Option A) → option_map f o ≡ None → o ≡ None
none-mapped f None is = refl
none-mapped f (Some x) is = absurd (none-some (f x) (sym is))

-- one store more is as it was made
pub made-more : {S : Type 0} (held : S → ℕ) (told : S → Option (List (List ℕ))) (faults : S → ℕ) (sure : S → Bool) (path : S → Option (List ℕ)) (folder : Option (List ℕ)) (items now : List S) (x : S)
    → now ≡ items ++ x ∷ [] → All (IsMade folder) (stores_seen held told faults sure path items) → IsMade folder (record { held = held x; told = told x; faults = faults x; sure = sure x; path = path x })
    → All (IsMade folder) (stores_seen held told faults sure path now)
made-more {S = S} held told faults sure path folder items now x is before one =
    let f : S → StoreSeen = λ s. record { held = held s; told = told s; faults = faults s; sure = sure s; path = path s } in
    rw is (subst (All (IsMade folder)) (sym (map-append f items (x ∷ []))) (All-append (IsMade folder) (map f items) (f x ∷ []) before (All-cons (IsMade folder) (f x) [] one (All-nil (IsMade folder)))))

-- none yet
pub made-none : {S : Type 0} (held : S → ℕ) (told : S → Option (List (List ℕ))) (faults : S → ℕ) (sure : S → Bool) (path : S → Option (List ℕ)) (folder : Option (List ℕ)) (items : List S)
    → items ≡ [] → All (IsMade folder) (stores_seen held told faults sure path items)
made-none held told faults sure path folder items none = rw none (All-nil (IsMade folder))

-- one path more
pub path-more : {S : Type 0} (path : S → Option (List ℕ)) (items now : List S) (x : S) → now ≡ items ++ x ∷ [] → map path now ≡ map path items ++ path x ∷ []
path-more path items now x is = ap (map path) is ∙ map-append path items (x ∷ [])
