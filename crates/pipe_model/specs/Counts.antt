-- Lists that hold the same, in whatever order.
use Rattle.std.specs.Prelude.{◌≡◌, Bool, List}
use Rattle.std.specs.List.{count_by}

-- two lists in which every test counts alike
abbrev pub CountAlike : {X : Type 0} → List X → List X → Type 0
CountAlike {X} xs ys = (test : X → Bool) → count_by test xs ≡ count_by test ys
