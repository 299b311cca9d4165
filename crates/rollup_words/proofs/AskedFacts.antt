-- Keys that a word names can be kept.
use Rattle.std.proofs.Common.{◌≡◌, ◌∙◌, ◌<◌, ◌≤◌, ℕ, Bool, true, false, List, [], ◌∷◌, length, take, Option, Some, None, refl, sym, ap, subst, arith}
use Rattle.std.specs.Prelude.{◌||◌, ◌==◌, nat_eq, nat_lt, option_and_then, option_map, unwrap_or, if◌then◌else◌}
use Rattle.std.specs.List.{All, AllByRecursion, IsDistinct, list_any, position, position_or_len}
use Rattle.std.specs.Str.{bytes_eq}
use Rattle.std.proofs.lemmas.Bool.{false≢true, ltb-true}
use Rattle.std.proofs.lemmas.List.{length-take}
use Rattle.std.proofs.lemmas.List.Elements.{All-cons, All-nil, All-weaker}
use Rattle.std.proofs.lemmas.Option.{none-some}
use Rattle.serde_json.specs.Data.{Data, Items, no_items, item}
use Rattle.serde_json.specs.Find.{as_array, as_str}
use Rattle.serde_json.specs.Read.{read}
use Rattle.pipe_columns.specs.declared.schema.Field.{Field}
use Rattle.pipe_model.specs.Output.{output_schema}
use Rattle.pipe_model.specs.Query.{QueryTree}
use Rattle.pipe_states.specs.Together.{AreKept}
use Rattle.rollup_words.specs.Keys.{has_twice, key_fields, kept_positions, position_named, positions_in, positions_named, some_distinct}

some-is : {A : Type 0} (a b : A) → Some a ≡ Some b → a ≡ b
some-is a b is = ap (λ o. unwrap_or o a) is

-- ---- below the number of fields

cut-below : (b : Bool) (n m i : ℕ) → nat_lt n m ≡ b → (if b then Some n else None) ≡ Some i → i < m
cut-below true n m i below is = subst (λ k. k < m) (some-is n i is) (ltb-true n m below)
cut-below false n m i below is = absurd (none-some i is)

position-below : {X : Type 0} (p : X → Bool) (xs : List X) (i : ℕ) → position p xs ≡ Some i → i < length xs
position-below p xs i is = cut-below (nat_lt (position_or_len p xs) (length xs)) (position_or_len p xs) (length xs) i refl is

named-in : (fields : List Field) (o : Option (List ℕ)) (i : ℕ) → option_and_then (λ name. position (λ f. bytes_eq f.name name) fields) o ≡ Some i → i < length fields
named-in fields None i is = absurd (none-some i is)
named-in fields (Some name) i is = position-below (λ (f : Field). bytes_eq f.name name) fields i is

step-below : (m : ℕ) (o : Option ℕ) (rest : Option (List ℕ)) (ps : List ℕ) → ((i : ℕ) → o ≡ Some i → i < m) → ((is : List ℕ) → rest ≡ Some is → All (λ i. i < m) is)
    → option_and_then (λ i. option_map (λ is. i ∷ is) rest) o ≡ Some ps → All (λ i. i < m) ps
step-below m None rest ps one others is = absurd (none-some ps is)
step-below m (Some i) None ps one others is = absurd (none-some ps is)
step-below m (Some i) (Some more) ps one others is = subst (All (λ k. k < m)) (some-is (i ∷ more) ps is) (All-cons (λ k. k < m) i more (one i refl) (others more refl))

all-below : (fields : List Field) (ds : Items) (ps : List ℕ) → positions_named fields ds ≡ Some ps → All (λ i. i < length fields) ps
all-below fields no_items ps is = subst (All (λ i. i < length fields)) (some-is [] ps is) (All-nil (λ i. i < length fields))
all-below fields (item d ds) ps is =
    step-below (length fields) (position_named fields d) (positions_named fields ds) ps (named-in fields (as_str d)) (all-below fields ds) is

-- ---- none twice

either-false : (a b : Bool) → (a || b) ≡ false → (a ≡ false) × (b ≡ false)
either-false true b is = absurd (false≢true (sym is))
either-false false b is = (refl, is)

none-like : (n : ℕ) (ns : List ℕ) → list_any (λ m. nat_eq n m) ns ≡ false → AllByRecursion (λ m. nat_eq n m ≡ false) ns
none-like n [] is = tt
none-like n (m ∷ ns) is =
    let both = either-false (nat_eq n m) (list_any (λ k. nat_eq n k) ns) is in
    (both.0, none-like n ns both.1)

apart : (ns : List ℕ) → has_twice ns ≡ false → IsDistinct nat_eq ns
unfolding IsDistinct
apart [] is = tt
apart (n ∷ ns) is =
    let both = either-false (list_any (λ m. nat_eq n m) ns) (has_twice ns) is in
    (none-like n ns both.0, apart ns both.1)

-- ---- kept keys

some-of : (ns : List ℕ) → (length ns == 0) ≡ false → 1 ≤ length ns
some-of [] is = absurd (false≢true (sym is))
some-of (n ∷ ns) is = omega arith

kept-by : (q : QueryTree) (b : Bool) (ns keep : List ℕ) → (length ns == 0 || has_twice ns) ≡ b → (if b then None else Some ns) ≡ Some keep → All (λ i. i < length q.keys) ns → AreKept q keep
kept-by q true ns keep twice is below = absurd (none-some keep is)
kept-by q false ns keep twice is below =
    let both = either-false (length ns == 0) (has_twice ns) twice in
    subst (AreKept q) (some-is ns keep is) (record { some = some-of ns both.0; keys = below; distinct = apart ns both.1 })

kept-of : (q : QueryTree) (o : Option (List ℕ)) (keep : List ℕ) → option_and_then some_distinct o ≡ Some keep → ((ns : List ℕ) → o ≡ Some ns → All (λ i. i < length q.keys) ns) → AreKept q keep
kept-of q None keep is below = absurd (none-some keep is)
kept-of q (Some ns) keep is below = kept-by q (length ns == 0 || has_twice ns) ns keep refl is (below ns refl)

few-fields : (q : QueryTree) → length (key_fields q) ≤ length q.keys
few-fields q = omega (arith, length-take (length q.keys) (output_schema q))

items-below : (q : QueryTree) (o : Option Items) (ns : List ℕ) → option_and_then (positions_named (key_fields q)) o ≡ Some ns → All (λ i. i < length q.keys) ns
items-below q None ns is = absurd (none-some ns is)
items-below q (Some ds) ns is =
    All-weaker (λ i. i < length (key_fields q)) (λ i. i < length q.keys) (λ i below. omega (arith, below, few-fields q)) ns (all-below (key_fields q) ds ns is)

pub kept_can : (q : QueryTree) (word keep : List ℕ) → kept_positions q word ≡ Some keep → AreKept q keep
kept_can q word keep is =
    let listed = option_and_then as_array (read word) in
    kept-of q (option_and_then (positions_named (key_fields q)) listed) keep is (items-below q listed)
