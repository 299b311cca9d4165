-- The nearer of elements that are held, in an order.
use Rattle.std.specs.Prelude.{Option, Some, None}
use Rattle.std.specs.declared.cmp.Ordering.{Ordering}
use Rattle.std.specs.Ordering.{match_ordering}

-- the lesser of a new element and the one that is held, if any: on a tie the held one stays
abbrev pub nearer : {X : Type 0} → (X → X → Ordering) → X → Option X → X
nearer order new None = new
nearer order new (Some held) = match_ordering (order new held) new held held

-- the same where there may be no new one
abbrev pub nearest : {X : Type 0} → (X → X → Ordering) → Option X → Option X → Option X
nearest order None held = held
nearest order (Some new) held = Some (nearer order new held)
