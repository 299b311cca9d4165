-- The least element of a list, in an order.
use Rattle.std.specs.Prelude.{◌≡◌, false, List, [], Option, Some, None}
use Rattle.std.specs.declared.cmp.Ordering.{Ordering}
use Rattle.std.specs.List.{All, Contains}
use Rattle.std.specs.Ordering.{is_gt}
use Rattle.pipe_columns.specs.declared.place.Place.{Place}
use Rattle.pipe_columns.specs.Place.{place_cmp}

-- an element of a list than which none is lesser
pub record IsLeast {X : Type 0} (order : X → X → Ordering) (x : X) (xs : List X) : Type 0 where
  pub within : Contains xs x
  pub bound : All (λ y. is_gt (order x y) ≡ false) xs

-- nothing exactly for an empty list, else such an element
abbrev pub HoldsLeast : {X : Type 0} → (X → X → Ordering) → Option X → List X → Type 0
HoldsLeast order None xs = xs ≡ []
HoldsLeast order (Some x) xs = IsLeast order x xs

-- entries by their places
abbrev pub by_place : {V : Type 0} → Place × V → Place × V → Ordering
by_place e f = place_cmp e.0 f.0

-- entries by their places, from the last place on
abbrev pub from_last : {V : Type 0} → Place × V → Place × V → Ordering
from_last e f = place_cmp f.0 e.0
