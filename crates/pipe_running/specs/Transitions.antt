-- What a value, a run of values or another state makes of each running aggregate.
use Rattle.std.specs.Prelude.{ℕ, ◌+◌, ◌||◌, ◌==◌, ℤ, pos, ◌+ℤ◌, Bool, true, false, not, Option, Some, None, if◌then◌else◌}
use Rattle.std.specs.declared.cmp.Ordering.{Ordering}
use Rattle.std.specs.Ordering.{int_cmp}
use Rattle.pipe_columns.specs.declared.any_value.AnyValue.{AnyValue}
use Rattle.pipe_columns.specs.declared.any_value.AnyValue.TheVariants as av
use Rattle.pipe_columns.specs.declared.data_type.DataType.{DataType}
use Rattle.pipe_columns.specs.declared.place.Place.{Place}
use Rattle.pipe_columns.specs.AnyValue.{is_null}
use Rattle.pipe_native.specs.Native.{Native}
use Rattle.pipe_running.specs.declared.interface.Finalized.{Finalized}
use Rattle.pipe_running.specs.declared.interface.Finalized.TheVariants as finalized
use Rattle.pipe_running.specs.declared.count.CountAgg.{CountAgg}
use Rattle.pipe_running.specs.declared.min_max.Direction.{Direction}
use Rattle.pipe_running.specs.declared.min_max.Direction.TheVariants as direction
use Rattle.pipe_running.specs.declared.min_max.MinMaxAgg.{MinMaxAgg}
use Rattle.pipe_running.specs.declared.sum.SumAgg.{SumAgg}
use Rattle.pipe_model.specs.Aggregate.{addend, counted}
use Rattle.pipe_running.specs.Held.{HeldState}
use Rattle.pipe_running.specs.Mean.{MeanState}
use Rattle.pipe_model.specs.Least.{by_place, from_last}
use Rattle.pipe_running.specs.Pick.{nearer, nearest}

-- ---- counts

-- a count with one more value, or row where nulls count too
abbrev pub count_after : Bool → AnyValue → ℕ → ℕ
count_after include_null v n = if include_null || not (is_null v) then n + 1 else n

-- a count before any value, whether nulls count or not
abbrev pub empty_count : {nulls : ℕ} → CountAgg nulls
empty_count = record { count = 0 }

-- ---- sums

-- a sum before any value
abbrev pub empty_sum : {K : Type 0} → Native K → SumAgg K
empty_sum k = record { sum = k.wrap (pos 0); came = false }

-- a wrapped sum with one more value: true adds 1, null and texts nothing
abbrev pub sum_after : {K : Type 0} → Native K → AnyValue → K → K
sum_after k av.Null sum = sum
sum_after k (av.Boolean b) sum = if b then k.wrap (k.number sum +ℤ pos 1) else sum
sum_after k (av.Int n) sum = k.wrap (k.number sum +ℤ n)
sum_after k (av.Text s) sum = sum

-- the state of a sum with one more value
abbrev pub sum_state_after : {K : Type 0} → Native K → AnyValue → SumAgg K → SumAgg K
sum_state_after k v s = record { sum = sum_after k v s.sum; came = s.came || not (is_null v) }

-- two sums together
abbrev pub sums_joined : {K : Type 0} → Native K → SumAgg K → SumAgg K → SumAgg K
sums_joined k a b = record {
  sum = k.wrap (k.number a.sum +ℤ k.number b.sum);
  came = a.came || b.came;
}

-- ---- means

-- a mean before any value
abbrev pub empty_mean : MeanState
empty_mean = record { sum = pos 0; count = 0 }

-- a mean with one more value
abbrev pub mean_after : AnyValue → MeanState → MeanState
mean_after v s = record { sum = s.sum +ℤ addend v; count = count_after false v s.count }

-- two means together
abbrev pub means_joined : MeanState → MeanState → MeanState
means_joined a b = record { sum = a.sum +ℤ b.sum; count = a.count + b.count }

-- a mean's two halves
abbrev pub mean_given : MeanState → Finalized
mean_given s = finalized.Pair (if s.count == 0 then av.Null else av.Int s.sum) (counted s.count)

-- ---- least and greatest

-- which of two numbers is before the other, in a direction
abbrev pub number_order : Direction → ℤ → ℤ → Ordering
number_order direction.Min m n = int_cmp m n
number_order direction.Max m n = int_cmp n m

-- the same of two values of a number type
abbrev pub native_order : {K : Type 0} → Native K → Direction → K → K → Ordering
native_order k d m n = number_order d (k.number m) (k.number n)

-- whether two directions are the same
abbrev pub same_direction : Direction → Direction → Bool
same_direction direction.Min direction.Min = true
same_direction direction.Min direction.Max = false
same_direction direction.Max direction.Min = false
same_direction direction.Max direction.Max = true

-- a minimum or maximum before any value
abbrev pub empty_extreme : {K : Type 0} → Direction → MinMaxAgg K
empty_extreme d = record { direction = d; extreme = None }

-- a minimum or maximum with one more value
abbrev pub extreme_after : {K : Type 0} → Native K → AnyValue → MinMaxAgg K → MinMaxAgg K
extreme_after k av.Null s = s
extreme_after k (av.Boolean b) s = s
extreme_after k (av.Int n) s = record {
  direction = s.direction;
  extreme = Some (nearer (native_order k s.direction) (k.wrap n) s.extreme);
}
extreme_after k (av.Text t) s = s

-- two minimums or maximums together
abbrev pub extremes_joined : {K : Type 0} → Native K → MinMaxAgg K → MinMaxAgg K → MinMaxAgg K
extremes_joined k a b = record {
  direction = a.direction;
  extreme = nearest (native_order k a.direction) b.extreme a.extreme;
}

-- the least or greatest number as a value, null for none
abbrev pub extreme_value : {K : Type 0} → Native K → Option K → AnyValue
extreme_value k None = av.Null
extreme_value k (Some n) = av.Int (k.number n)

-- ---- first and last

-- a first before any value
abbrev pub empty_first : DataType → HeldState
empty_first t = record { dtype = t; held = None }

-- a first with one more value
abbrev pub first_after : Place → AnyValue → HeldState → HeldState
first_after p v s = record { dtype = s.dtype; held = Some (nearer by_place (p, v) s.held) }

-- two firsts together
abbrev pub firsts_joined : HeldState → HeldState → HeldState
firsts_joined a b = record { dtype = a.dtype; held = nearest by_place b.held a.held }

-- a last before any value
abbrev pub empty_last : DataType → HeldState
empty_last t = record { dtype = t; held = None }

-- a last with one more value
abbrev pub last_after : Place → AnyValue → HeldState → HeldState
last_after p v s = record { dtype = s.dtype; held = Some (nearer from_last (p, v) s.held) }

-- two lasts together
abbrev pub lasts_joined : HeldState → HeldState → HeldState
lasts_joined a b = record { dtype = a.dtype; held = nearest from_last b.held a.held }
