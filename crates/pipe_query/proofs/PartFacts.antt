-- The parts of lists and objects, and how deep they are.
use Rattle.std.proofs.Common.{◌≡◌, ◌<◌, ℕ, IfSome, Some, List, option_map, option_and_then, refl, arith}
use Rattle.serde_json.specs.Data.{Data, null, boolean, number, string, array, object, no_items, item, no_members, member, depth}
use Rattle.pipe_query.specs.OtherShapes.{sole_of, triple_of}
use Rattle.pipe_query.specs.JsonShapes.{pair_of}
use Rattle.pipe_query.specs.declared.json_names.Form.{Form}
use Rattle.pipe_query.specs.JsonNames.{form_named}
use Rattle.pipe_query.specs.ExprJson.{expr_of, formed, part_of, parts_of, three_parts, two_parts}

-- the parts of a list of two are those of its items
pub two_parts_of : (d : Data) → two_parts (parts_of d) ≡ option_map (λ p. (part_of p.0, part_of p.1)) (pair_of d)
two_parts_of null = refl
two_parts_of (boolean b) = refl
two_parts_of (number n) = refl
two_parts_of (string s) = refl
two_parts_of (array no_items) = refl
two_parts_of (array (item a no_items)) = refl
two_parts_of (array (item a (item b no_items))) = refl
two_parts_of (array (item a (item b (item c ds)))) = refl
two_parts_of (object ms) = refl

-- the parts of a list of three are those of its items
pub three_parts_of : (d : Data) → three_parts (parts_of d) ≡ option_map (λ p. (part_of p.0, part_of p.1, part_of p.2)) (triple_of d)
three_parts_of null = refl
three_parts_of (boolean b) = refl
three_parts_of (number n) = refl
three_parts_of (string s) = refl
three_parts_of (array no_items) = refl
three_parts_of (array (item a no_items)) = refl
three_parts_of (array (item a (item b no_items))) = refl
three_parts_of (array (item a (item b (item c no_items)))) = refl
three_parts_of (array (item a (item b (item c (item e ds))))) = refl
three_parts_of (object ms) = refl

-- the items of a list of two are less deep than it
two_inner : (d : Data) → IfSome (pair_of d) (λ p. (depth p.0 < depth d) × (depth p.1 < depth d))
two_inner null = tt
two_inner (boolean b) = tt
two_inner (number n) = tt
two_inner (string s) = tt
two_inner (array no_items) = tt
two_inner (array (item a no_items)) = tt
two_inner (array (item a (item b no_items))) = (omega arith, omega arith)
two_inner (array (item a (item b (item c ds)))) = tt
two_inner (object ms) = tt

pub two_deeper : (d a b : Data) → Some (a, b) ≡ pair_of d → (depth a < depth d) × (depth b < depth d)
two_deeper d a b e = rw (← e) at (two_inner d)

-- the items of a list of three are less deep than it
three_inner : (d : Data) → IfSome (triple_of d) (λ p. (depth p.0 < depth d) × (depth p.1 < depth d) × (depth p.2 < depth d))
three_inner null = tt
three_inner (boolean b) = tt
three_inner (number n) = tt
three_inner (string s) = tt
three_inner (array no_items) = tt
three_inner (array (item a no_items)) = tt
three_inner (array (item a (item b no_items))) = tt
three_inner (array (item a (item b (item c no_items)))) = (omega arith, omega arith, omega arith)
three_inner (array (item a (item b (item c (item e ds))))) = tt
three_inner (object ms) = tt

pub three_deeper : (d a b c : Data) → Some (a, b, c) ≡ triple_of d → (depth a < depth d) × (depth b < depth d) × (depth c < depth d)
three_deeper d a b c e = rw (← e) at (three_inner d)

-- the value of a sole member is less deep than its object
sole_inner : (d : Data) → IfSome (sole_of d) (λ m. depth m.1 < depth d)
sole_inner null = tt
sole_inner (boolean b) = tt
sole_inner (number n) = tt
sole_inner (string s) = tt
sole_inner (array ds) = tt
sole_inner (object no_members) = tt
sole_inner (object (member k v no_members)) = omega arith
sole_inner (object (member k v (member l w ms))) = tt

pub sole_deeper : (d v : Data) (name : List ℕ) → Some (name, v) ≡ sole_of d → depth v < depth d
sole_deeper d v name e = rw (← e) at (sole_inner d)

-- the expression of an object of one member
sole_form : (d : Data) → IfSome (sole_of d) (λ m. expr_of d ≡ option_and_then (λ f. formed f m.1 (expr_of m.1) (parts_of m.1)) (form_named m.0))
sole_form null = tt
sole_form (boolean b) = tt
sole_form (number n) = tt
sole_form (string s) = tt
sole_form (array ds) = tt
sole_form (object no_members) = tt
sole_form (object (member k v no_members)) = refl
sole_form (object (member k v (member l w ms))) = tt

pub formed_by : (d v : Data) (name : List ℕ) (f : Form) → Some (name, v) ≡ sole_of d → Some f ≡ form_named name
    → expr_of d ≡ formed f v (expr_of v) (parts_of v)
formed_by d v name f e known =
    let whole : expr_of d ≡ option_and_then (λ g. formed g v (expr_of v) (parts_of v)) (form_named name) = rw (← e) at (sole_form d) in
    rw (whole, ← known) refl
