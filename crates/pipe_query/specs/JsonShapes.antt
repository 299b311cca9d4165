-- Shapes of JSON values.
use Rattle.std.specs.Prelude.{◌==◌, ◌+◌, ℕ, Bool, false, Option, Some, None, option_map, option_and_then, unwrap_or}
use Rattle.serde_json.specs.Data.{Data, Items, no_items, item, Members, no_members, member}
use Rattle.serde_json.specs.Find.{as_array, as_object}

-- how many members there are
abbrev pub member_count : Members → ℕ
member_count no_members = 0
member_count (member k d ms) = member_count ms + 1

-- whether a value is an object of so many members
abbrev pub has_members : ℕ → Data → Bool
has_members n d = unwrap_or (option_map (λ ms. member_count ms == n) (as_object d)) false

-- the two items of a list
abbrev pub two_items : Items → Option (Data × Data)
two_items no_items = None
two_items (item a no_items) = None
two_items (item a (item b no_items)) = Some (a, b)
two_items (item a (item b (item c rest))) = None

-- the two values of a list of two
abbrev pub pair_of : Data → Option (Data × Data)
pair_of d = option_and_then two_items (as_array d)
