-- Of the proofs alone: more shapes of JSON values.
use Rattle.std.specs.Prelude.{ℕ, List, Option, Some, None, option_and_then}
use Rattle.serde_json.specs.Data.{Data, Items, no_items, item, Members, no_members, member}
use Rattle.serde_json.specs.Find.{as_array, as_object}

-- the one member of an object
abbrev pub sole_member : Members → Option (List ℕ × Data)
sole_member no_members = None
sole_member (member name d no_members) = Some (name, d)
sole_member (member name d (member k e ms)) = None

-- the one member of a value
abbrev pub sole_of : Data → Option (List ℕ × Data)
sole_of d = option_and_then sole_member (as_object d)

-- the three items of a list
abbrev pub three_items : Items → Option (Data × Data × Data)
three_items no_items = None
three_items (item a no_items) = None
three_items (item a (item b no_items)) = None
three_items (item a (item b (item c no_items))) = Some (a, b, c)
three_items (item a (item b (item c (item d rest)))) = None

-- the three values of a list of three
abbrev pub triple_of : Data → Option (Data × Data × Data)
triple_of d = option_and_then three_items (as_array d)
