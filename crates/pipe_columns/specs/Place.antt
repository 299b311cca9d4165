-- Places of rows, and the entries at the least and the greatest of them.
use Rattle.std.specs.Prelude.{List, [], ◌∷◌, map, Option, Some, None}
use Rattle.std.specs.List.{IsDistinct}
use Rattle.std.specs.declared.cmp.Ordering.{Ordering}
use Rattle.std.specs.Ordering.{eq_by_cmp, nat_cmp, ordering_then, match_ordering}
use Rattle.pipe_columns.specs.declared.place.Place.{Place}

-- by chunk, then row
abbrev pub place_cmp : Place → Place → Ordering
place_cmp p q = ordering_then (nat_cmp p.chunk q.chunk) (nat_cmp p.row q.row)

-- the earlier of two entries, the first where their places are the same
abbrev pub earlier : {V : Type 0} → Place × V → Option (Place × V) → Place × V
earlier e None = e
earlier e (Some f) = match_ordering (place_cmp e.0 f.0) e e f

-- the later of two entries, the first where their places are the same
abbrev pub later : {V : Type 0} → Place × V → Option (Place × V) → Place × V
later e None = e
later e (Some f) = match_ordering (place_cmp e.0 f.0) f e e

-- the entry at the least place
abbrev pub first_entry : {V : Type 0} → List (Place × V) → Option (Place × V)
first_entry [] = None
first_entry (e ∷ es) = Some (earlier e (first_entry es))

-- the entry at the greatest place
abbrev pub last_entry : {V : Type 0} → List (Place × V) → Option (Place × V)
last_entry [] = None
last_entry (e ∷ es) = Some (later e (last_entry es))

-- no place stands twice in a list
abbrev pub DistinctPlaces : {V : Type 0} → List (Place × V) → Type 0
DistinctPlaces entries = IsDistinct (eq_by_cmp place_cmp) (map (λ e. e.0) entries)
