-- What each kind of running aggregate gives is the aggregate of the values that it stands for.
use Rattle.std.proofs.Common.{◌≡◌, ◌∙◌, ◌==◌, ℤ, true, false, List, [], ◌∷◌, length, Option, Some, None, refl, sym, ap, arith, if◌then◌else◌}
use Rattle.std.specs.declared.cmp.Ordering.TheVariants.{Equal}
use Rattle.std.specs.List.{fold}
use Rattle.std.proofs.lemmas.Cmp.{tied_back}
use Rattle.pipe_columns.specs.declared.any_value.AnyValue.{AnyValue}
use Rattle.pipe_columns.specs.declared.any_value.AnyValue.TheVariants as av
use Rattle.pipe_columns.specs.declared.data_type.DataType.{DataType}
use Rattle.pipe_columns.specs.declared.data_type.DataType.TheVariants as dt
use Rattle.pipe_columns.specs.declared.place.Place.{Place}
use Rattle.pipe_columns.specs.DataType.{is_string, wrapped, sum_type, has_mean}
use Rattle.pipe_columns.specs.Place.{first_entry, last_entry, DistinctPlaces}
use Rattle.pipe_columns.proofs.ValueOrder.{value_cmp-IsAntisymmetric}
use Rattle.pipe_model.specs.Aggregate.{agg, counted, entry_value, exact_sum, extreme, greater, halves, lesser, present, sum_if_any, total, values_in}
use Rattle.pipe_model.specs.Least.{by_place, from_last, HoldsLeast}
use Rattle.pipe_model.proofs.AggFacts.{greater-holds, lesser-holds}
use Rattle.pipe_model.proofs.LeastFacts.{holds-unique}
use Rattle.pipe_model.proofs.PlaceFacts.{by_place-total, first-holds, from_last-total, last-holds, one_at_a_place, place_total}
use Rattle.pipe_model.proofs.SumFacts.{exact_sum-present}
use Rattle.pipe_native.specs.Native.{IsNative, Native}
use Rattle.pipe_running.specs.declared.min_max.Direction.{Direction}
use Rattle.pipe_running.specs.declared.min_max.Direction.TheVariants as direction
use Rattle.pipe_running.specs.Mean.{MeanState}
use Rattle.pipe_running.specs.Stands.{held_value, MeanStands, value_order}
use Rattle.pipe_running.specs.States.{kind_of_direction, output_values}
use Rattle.pipe_running.specs.Transitions.{extreme_value, mean_given}
use Rattle.pipe_running.proofs.KindFacts.{value_order-total}

-- ---- sums

-- a sum whose type is no text's
pub total_is : (t u : DataType) (values : List AnyValue) → sum_type t ≡ u → is_string u ≡ false → total t values ≡ av.Int (wrapped u (exact_sum values))
total_is dt.Boolean u values e other = ap (λ (s : DataType). av.Int (wrapped s (exact_sum values))) e
total_is dt.Int8 u values e other = ap (λ (s : DataType). av.Int (wrapped s (exact_sum values))) e
total_is dt.Int16 u values e other = ap (λ (s : DataType). av.Int (wrapped s (exact_sum values))) e
total_is dt.Int32 u values e other = ap (λ (s : DataType). av.Int (wrapped s (exact_sum values))) e
total_is dt.Int64 u values e other = ap (λ (s : DataType). av.Int (wrapped s (exact_sum values))) e
total_is dt.UInt8 u values e other = ap (λ (s : DataType). av.Int (wrapped s (exact_sum values))) e
total_is dt.UInt16 u values e other = ap (λ (s : DataType). av.Int (wrapped s (exact_sum values))) e
total_is dt.UInt32 u values e other = ap (λ (s : DataType). av.Int (wrapped s (exact_sum values))) e
total_is dt.UInt64 u values e other = ap (λ (s : DataType). av.Int (wrapped s (exact_sum values))) e
total_is dt.Int128 u values e other = ap (λ (s : DataType). av.Int (wrapped s (exact_sum values))) e
total_is dt.Date u values e other = ap (λ (s : DataType). av.Int (wrapped s (exact_sum values))) e
total_is dt.String u values e other = let yes : is_string u ≡ true = ap is_string (sym e) in cc

-- a sum gives the exact one, wrapped
pub sum-gives : {K : Type 0} (k : Native K) → IsNative k → (t : DataType) (sum : K) (values : List AnyValue)
    → sum_type t ≡ k.dtype → sum ≡ k.wrap (exact_sum values) → av.Int (k.number sum) ≡ total t values
sum-gives k native t sum values e h = ap (λ s. av.Int (k.number s)) h ∙ ap av.Int (native.gives (exact_sum values)) ∙ sym (total_is t k.dtype values e native.no_string)

-- ---- means

-- the sum of values that are counted
pub half_is : (ps : List AnyValue) → (if length ps == 0 then av.Null else av.Int (exact_sum ps)) ≡ sum_if_any ps
half_is [] = refl
half_is (v ∷ vs) = grind arith

-- a mean over values of a type that has one is a sum and a count
halves_are : (t : DataType) (values : List AnyValue) → has_mean t ≡ true → halves t values ≡ sum_if_any (present values) ∷ counted (length (present values)) ∷ []
halves_are dt.Boolean values e = refl
halves_are dt.Int8 values e = refl
halves_are dt.Int16 values e = refl
halves_are dt.Int32 values e = refl
halves_are dt.Int64 values e = refl
halves_are dt.UInt8 values e = refl
halves_are dt.UInt16 values e = refl
halves_are dt.UInt32 values e = refl
halves_are dt.UInt64 values e = refl
halves_are dt.Int128 values e = cc
halves_are dt.Date values e = cc
halves_are dt.String values e = cc

-- so a mean gives both
pub mean-gives : (t : DataType) (a : MeanState) (entries : List (Place × AnyValue)) → has_mean t ≡ true → MeanStands a entries
    → output_values (mean_given a) ≡ halves t (values_in entries)
mean-gives t a entries e h =
    let values = values_in entries in
    (λ i. (if h.count i == 0 then av.Null else av.Int (h.sum i)) ∷ counted (h.count i) ∷ [])
    ∙ ap (λ (z : ℤ). (if length (present values) == 0 then av.Null else av.Int z) ∷ counted (length (present values)) ∷ []) (sym (exact_sum-present values))
    ∙ ap (λ (v : AnyValue). v ∷ counted (length (present values)) ∷ []) (half_is (present values))
    ∙ sym (halves_are t values e)

-- ---- least and greatest

-- the extreme of some values in a direction, if any
folded : Direction → List AnyValue → Option AnyValue
folded d [] = None
folded direction.Min (v ∷ vs) = Some (fold lesser v vs)
folded direction.Max (v ∷ vs) = Some (fold greater v vs)

-- what is held as a value, null for none
abbrev pub value_or_null : Option AnyValue → AnyValue
value_or_null None = av.Null
value_or_null (Some v) = v

-- it is the least of them in that direction
folded-holds : (d : Direction) (ps : List AnyValue) → HoldsLeast (value_order d) (folded d ps) ps
unfolding folded
folded-holds direction.Min [] = refl
folded-holds direction.Max [] = refl
folded-holds direction.Min (v ∷ vs) = lesser-holds v vs
folded-holds direction.Max (v ∷ vs) = greater-holds v vs

-- as a value it is the least one, and the greatest one
min_is : (ps : List AnyValue) → value_or_null (folded direction.Min ps) ≡ extreme lesser ps
unfolding folded
min_is [] = refl
min_is (v ∷ vs) = refl

max_is : (ps : List AnyValue) → value_or_null (folded direction.Max ps) ≡ extreme greater ps
unfolding folded
max_is [] = refl
max_is (v ∷ vs) = refl

-- values that tie are the same
pub value_ties : (d : Direction) (x y : AnyValue) → value_order d x y ≡ Equal → x ≡ y
value_ties direction.Min x y e = value_cmp-IsAntisymmetric x y e
value_ties direction.Max x y e = sym (value_cmp-IsAntisymmetric y x e)

-- the number that is held as a value
pub held_is : {K : Type 0} (k : Native K) (e : Option K) → extreme_value k e ≡ value_or_null (held_value k e)
held_is k None = refl
held_is k (Some n) = refl

-- a minimum or maximum gives the least or the greatest value
pub extreme-gives : {K : Type 0} (k : Native K) (d : Direction) (e : Option K) (t : DataType) (entries : List (Place × AnyValue))
    → HoldsLeast (value_order d) (held_value k e) (present (values_in entries)) → extreme_value k e ∷ [] ≡ agg (kind_of_direction d) t entries
extreme-gives k d e t entries h = whole d (held_is k e ∙ ap value_or_null same) where
  same : held_value k e ≡ folded d (present (values_in entries))
  same = holds-unique (value_order-total d) (present (values_in entries)) (λ x y c f. value_ties d x y) (held_value k e) (folded d (present (values_in entries))) h (folded-holds d (present (values_in entries)))

  whole : (d : Direction) → extreme_value k e ≡ value_or_null (folded d (present (values_in entries))) → extreme_value k e ∷ [] ≡ agg (kind_of_direction d) t entries
  whole direction.Min s = ap (λ (v : AnyValue). v ∷ []) (s ∙ min_is (present (values_in entries)))
  whole direction.Max s = ap (λ (v : AnyValue). v ∷ []) (s ∙ max_is (present (values_in entries)))

-- ---- first and last

-- where no place stands twice, a first holds the first entry
pub first_held : (entries : List (Place × AnyValue)) → DistinctPlaces entries → (a b : Option (Place × AnyValue)) → HoldsLeast by_place a entries → HoldsLeast by_place b entries → a ≡ b
first_held entries d a b h k = holds-unique by_place-total entries (one_at_a_place (λ (e : Place × AnyValue). e.0) entries d) a b h k

-- and a last the last one
pub last_held : (entries : List (Place × AnyValue)) → DistinctPlaces entries → (a b : Option (Place × AnyValue)) → HoldsLeast from_last a entries → HoldsLeast from_last b entries → a ≡ b
last_held entries d a b h k =
    holds-unique from_last-total entries (λ x y c f t. one_at_a_place (λ (e : Place × AnyValue). e.0) entries d x y c f (tied_back place_total y.0 x.0 t)) a b h k

-- so a first gives its value
pub first-gives : (held : Option (Place × AnyValue)) (entries : List (Place × AnyValue)) → DistinctPlaces entries → HoldsLeast by_place held entries → entry_value held ≡ entry_value (first_entry entries)
first-gives held entries d h = ap entry_value (first_held entries d held (first_entry entries) h (first-holds entries))

-- and a last
pub last-gives : (held : Option (Place × AnyValue)) (entries : List (Place × AnyValue)) → DistinctPlaces entries → HoldsLeast from_last held entries → entry_value held ≡ entry_value (last_entry entries)
last-gives held entries d h = ap entry_value (last_held entries d held (last_entry entries) h (last-holds entries))
