-- Lists in an order, in which what ties stays as it stood.
use Rattle.std.specs.Prelude.{List, [], ◌∷◌, if◌then◌else◌}
use Rattle.std.specs.declared.cmp.Ordering.{Ordering}
use Rattle.std.specs.Ordering.{is_lt}

-- an element put before the first one that isn't less
abbrev pub put_in : {X : Type 0} → (X → X → Ordering) → X → List X → List X
put_in order x [] = x ∷ []
put_in order x (y ∷ ys) = if is_lt (order y x) then y ∷ put_in order x ys else x ∷ y ∷ ys

-- a list in an order; what ties stays as it stood
abbrev pub in_order : {X : Type 0} → (X → X → Ordering) → List X → List X
in_order order [] = []
in_order order (x ∷ xs) = put_in order x (in_order order xs)
