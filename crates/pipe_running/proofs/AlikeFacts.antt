-- When running aggregates are of one kind.
use Rattle.std.proofs.Common.{◌≡◌, ◌∙◌, ℕ, ◌==◌, Bool, true, false, ◌&&◌, refl, sym, ap, subst, arith}
use Rattle.pipe_columns.specs.declared.any_value.AnyValue.{AnyValue}
use Rattle.pipe_columns.specs.declared.any_value.AnyValue.TheVariants as av
use Rattle.pipe_columns.specs.declared.data_type.DataType.{DataType}
use Rattle.pipe_columns.specs.declared.data_type.DataType.TheVariants as dt
use Rattle.pipe_columns.specs.declared.place.Place.{Place}
use Rattle.pipe_native.specs.Native.{Native, native_i8, native_i16, native_i32, native_i64, native_u8, native_u16, native_u32, native_u64}
use Rattle.pipe_running.specs.declared.min_max.Direction.{Direction}
use Rattle.pipe_running.specs.declared.min_max.Direction.TheVariants as direction
use Rattle.pipe_running.specs.declared.min_max.MinMaxAgg.{MinMaxAgg}
use Rattle.pipe_running.specs.declared.function.AggregateFunction.{AggregateFunction}
use Rattle.pipe_running.specs.declared.function.AggregateFunction.TheVariants as function
use Rattle.pipe_running.specs.States.{after_value, alike, fresh, joined}
use Rattle.pipe_running.specs.Transitions.{extreme_after, same_direction}
use Rattle.pipe_running.proofs.KindFacts.{directions-same}

-- the number of a kind
abbrev pub index : AggregateFunction → ℕ
index (function.First a) = 0
index (function.Last a) = 1
index (function.Count a) = 2
index (function.Len a) = 3
index (function.SumU32 a) = 4
index (function.SumU64 a) = 5
index (function.SumI32 a) = 6
index (function.SumI64 a) = 7
index (function.Mean a) = 8
index (function.Null a) = 9
index (function.MinMaxU8 a) = 10
index (function.MinMaxU16 a) = 11
index (function.MinMaxU32 a) = 12
index (function.MinMaxU64 a) = 13
index (function.MinMaxI8 a) = 14
index (function.MinMaxI16 a) = 15
index (function.MinMaxI32 a) = 16
index (function.MinMaxI64 a) = 17

-- its direction, where it has one
abbrev pub way : AggregateFunction → Direction
way (function.MinMaxU8 a) = a.direction
way (function.MinMaxU16 a) = a.direction
way (function.MinMaxU32 a) = a.direction
way (function.MinMaxU64 a) = a.direction
way (function.MinMaxI8 a) = a.direction
way (function.MinMaxI16 a) = a.direction
way (function.MinMaxI32 a) = a.direction
way (function.MinMaxI64 a) = a.direction
way f = direction.Min

-- the type that it is made with, where it has one
abbrev pub own_type : AggregateFunction → DataType
own_type (function.First a) = a.dtype
own_type (function.Last a) = a.dtype
own_type (function.Null a) = a.0
own_type f = dt.Boolean

-- two are of one kind where numbers and directions are the same
alike_is : (f g : AggregateFunction) → alike f g ≡ ((index f == index g) && same_direction (way f) (way g))
alike_is (function.First a) (function.First b) = refl
alike_is (function.Last a) (function.Last b) = refl
alike_is (function.Count a) (function.Count b) = refl
alike_is (function.Len a) (function.Len b) = refl
alike_is (function.SumU32 a) (function.SumU32 b) = refl
alike_is (function.SumU64 a) (function.SumU64 b) = refl
alike_is (function.SumI32 a) (function.SumI32 b) = refl
alike_is (function.SumI64 a) (function.SumI64 b) = refl
alike_is (function.Mean a) (function.Mean b) = refl
alike_is (function.Null a) (function.Null b) = refl
alike_is (function.MinMaxU8 a) (function.MinMaxU8 b) = refl
alike_is (function.MinMaxU16 a) (function.MinMaxU16 b) = refl
alike_is (function.MinMaxU32 a) (function.MinMaxU32 b) = refl
alike_is (function.MinMaxU64 a) (function.MinMaxU64 b) = refl
alike_is (function.MinMaxI8 a) (function.MinMaxI8 b) = refl
alike_is (function.MinMaxI16 a) (function.MinMaxI16 b) = refl
alike_is (function.MinMaxI32 a) (function.MinMaxI32 b) = refl
alike_is (function.MinMaxI64 a) (function.MinMaxI64 b) = refl
alike_is f g = refl

-- ---- what becomes of them

-- one more value leaves a minimum or maximum its direction
extreme_after-direction : {K : Type 0} (k : Native K) (v : AnyValue) (a : MinMaxAgg K) → (extreme_after k v a).direction ≡ a.direction
extreme_after-direction k av.Null a = refl
extreme_after-direction k v a = refl

-- a kind's number, direction and type, before any value
pub index-fresh : (f : AggregateFunction) → index (fresh f) ≡ index f
index-fresh (function.First a) = refl
index-fresh f = refl

pub way-fresh : (f : AggregateFunction) → way (fresh f) ≡ way f
way-fresh (function.First a) = refl
way-fresh f = refl

pub type-fresh : (f : AggregateFunction) → own_type (fresh f) ≡ own_type f
type-fresh (function.First a) = refl
type-fresh f = refl

-- with one more value
pub index-after : (p : Place) (v : AnyValue) (f : AggregateFunction) → index (after_value p v f) ≡ index f
index-after p v (function.First a) = refl
index-after p v f = refl

pub way-after : (p : Place) (v : AnyValue) (f : AggregateFunction) → way (after_value p v f) ≡ way f
way-after p v (function.MinMaxU8 a) = extreme_after-direction native_u8 v a
way-after p v (function.MinMaxU16 a) = extreme_after-direction native_u16 v a
way-after p v (function.MinMaxU32 a) = extreme_after-direction native_u32 v a
way-after p v (function.MinMaxU64 a) = extreme_after-direction native_u64 v a
way-after p v (function.MinMaxI8 a) = extreme_after-direction native_i8 v a
way-after p v (function.MinMaxI16 a) = extreme_after-direction native_i16 v a
way-after p v (function.MinMaxI32 a) = extreme_after-direction native_i32 v a
way-after p v (function.MinMaxI64 a) = extreme_after-direction native_i64 v a
way-after p v f = refl

pub type-after : (p : Place) (v : AnyValue) (f : AggregateFunction) → own_type (after_value p v f) ≡ own_type f
type-after p v (function.First a) = refl
type-after p v f = refl

-- with another
pub index-joined : (f g : AggregateFunction) → index (joined f g) ≡ index f
index-joined (function.First a) (function.First b) = refl
index-joined (function.Last a) (function.Last b) = refl
index-joined (function.Count a) (function.Count b) = refl
index-joined (function.Len a) (function.Len b) = refl
index-joined (function.SumU32 a) (function.SumU32 b) = refl
index-joined (function.SumU64 a) (function.SumU64 b) = refl
index-joined (function.SumI32 a) (function.SumI32 b) = refl
index-joined (function.SumI64 a) (function.SumI64 b) = refl
index-joined (function.Mean a) (function.Mean b) = refl
index-joined (function.Null a) (function.Null b) = refl
index-joined (function.MinMaxU8 a) (function.MinMaxU8 b) = refl
index-joined (function.MinMaxU16 a) (function.MinMaxU16 b) = refl
index-joined (function.MinMaxU32 a) (function.MinMaxU32 b) = refl
index-joined (function.MinMaxU64 a) (function.MinMaxU64 b) = refl
index-joined (function.MinMaxI8 a) (function.MinMaxI8 b) = refl
index-joined (function.MinMaxI16 a) (function.MinMaxI16 b) = refl
index-joined (function.MinMaxI32 a) (function.MinMaxI32 b) = refl
index-joined (function.MinMaxI64 a) (function.MinMaxI64 b) = refl
index-joined f g = refl

pub way-joined : (f g : AggregateFunction) → way (joined f g) ≡ way f
way-joined (function.First a) (function.First b) = refl
way-joined (function.Last a) (function.Last b) = refl
way-joined (function.Count a) (function.Count b) = refl
way-joined (function.Len a) (function.Len b) = refl
way-joined (function.SumU32 a) (function.SumU32 b) = refl
way-joined (function.SumU64 a) (function.SumU64 b) = refl
way-joined (function.SumI32 a) (function.SumI32 b) = refl
way-joined (function.SumI64 a) (function.SumI64 b) = refl
way-joined (function.Mean a) (function.Mean b) = refl
way-joined (function.Null a) (function.Null b) = refl
way-joined (function.MinMaxU8 a) (function.MinMaxU8 b) = refl
way-joined (function.MinMaxU16 a) (function.MinMaxU16 b) = refl
way-joined (function.MinMaxU32 a) (function.MinMaxU32 b) = refl
way-joined (function.MinMaxU64 a) (function.MinMaxU64 b) = refl
way-joined (function.MinMaxI8 a) (function.MinMaxI8 b) = refl
way-joined (function.MinMaxI16 a) (function.MinMaxI16 b) = refl
way-joined (function.MinMaxI32 a) (function.MinMaxI32 b) = refl
way-joined (function.MinMaxI64 a) (function.MinMaxI64 b) = refl
way-joined f g = refl

pub type-joined : (f g : AggregateFunction) → own_type (joined f g) ≡ own_type f
type-joined (function.First a) (function.First b) = refl
type-joined (function.Last a) (function.Last b) = refl
type-joined (function.Count a) (function.Count b) = refl
type-joined (function.Len a) (function.Len b) = refl
type-joined (function.SumU32 a) (function.SumU32 b) = refl
type-joined (function.SumU64 a) (function.SumU64 b) = refl
type-joined (function.SumI32 a) (function.SumI32 b) = refl
type-joined (function.SumI64 a) (function.SumI64 b) = refl
type-joined (function.Mean a) (function.Mean b) = refl
type-joined (function.Null a) (function.Null b) = refl
type-joined (function.MinMaxU8 a) (function.MinMaxU8 b) = refl
type-joined (function.MinMaxU16 a) (function.MinMaxU16 b) = refl
type-joined (function.MinMaxU32 a) (function.MinMaxU32 b) = refl
type-joined (function.MinMaxU64 a) (function.MinMaxU64 b) = refl
type-joined (function.MinMaxI8 a) (function.MinMaxI8 b) = refl
type-joined (function.MinMaxI16 a) (function.MinMaxI16 b) = refl
type-joined (function.MinMaxI32 a) (function.MinMaxI32 b) = refl
type-joined (function.MinMaxI64 a) (function.MinMaxI64 b) = refl
type-joined f g = refl

-- ---- of one kind

-- a direction is the same as itself
same_direction_itself : (d : Direction) → same_direction d d ≡ true
same_direction_itself direction.Min = refl
same_direction_itself direction.Max = refl

-- two of one number and direction are of one kind
pub alike-from : (f g : AggregateFunction) → index f ≡ index g → way f ≡ way g → alike f g ≡ true
alike-from f g e w =
    alike_is f g ∙ ap (λ (n : ℕ). (n == index g) && same_direction (way f) (way g)) e ∙ ap (λ (d : Direction). (index g == index g) && same_direction d (way g)) w
    ∙ ap (λ (b : Bool). (index g == index g) && b) (same_direction_itself (way g)) ∙ same (index g)
  where
    same : (n : ℕ) → (n == n) && true ≡ true
    same n = grind arith

-- two of one kind have one number
index-same : (f g : AggregateFunction) → alike f g ≡ true → index f ≡ index g
index-same f g e = equal (index f) (index g) (same_direction (way f) (way g)) (sym (alike_is f g) ∙ e) where
  equal : (m n : ℕ) (b : Bool) → (m == n) && b ≡ true → m ≡ n
  equal m n b e = grind arith

-- and one direction
way-same : (f g : AggregateFunction) → alike f g ≡ true → way f ≡ way g
way-same f g e = directions-same (way f) (way g) (second (index f == index g) (same_direction (way f) (way g)) (sym (alike_is f g) ∙ e)) where
  second : (a b : Bool) → a && b ≡ true → b ≡ true
  second true b e = e
  second false b e = cc

-- what one of a kind becomes with another is of its kind
pub alike-joined : (f g h : AggregateFunction) → alike f h ≡ true → alike (joined f g) h ≡ true
alike-joined f g h e = alike-from (joined f g) h (index-joined f g ∙ index-same f h e) (way-joined f g ∙ way-same f h e)

-- the first is of the kind of the second where the second is of that of the first
pub alike-back : (f g : AggregateFunction) → alike f g ≡ true → alike g f ≡ true
alike-back f g e = alike-from g f (sym (index-same f g e)) (sym (way-same f g e))

-- what is of the kind of one of a kind is of that kind
pub alike-through : (f g h : AggregateFunction) → alike f g ≡ true → alike g h ≡ true → alike f h ≡ true
alike-through f g h e k = alike-from f h (index-same f g e ∙ index-same g h k) (way-same f g e ∙ way-same g h k)

-- before any value one is of its kind
pub alike-fresh : (f : AggregateFunction) → alike f (fresh f) ≡ true
alike-fresh f = alike-from f (fresh f) (sym (index-fresh f)) (sym (way-fresh f))

-- each is of its own kind
pub alike-itself : (f : AggregateFunction) → alike f f ≡ true
alike-itself f = alike-from f f refl refl

-- with one more value one is of its kind
pub alike-after : (p : Place) (v : AnyValue) (f : AggregateFunction) → alike f (after_value p v f) ≡ true
alike-after p v f = alike-from f (after_value p v f) (sym (index-after p v f)) (sym (way-after p v f))

-- what two splits of one became is of one kind
pub splits-alike : (p s t f g : AggregateFunction) → s ≡ fresh p → t ≡ fresh p → alike s f ≡ true → alike t g ≡ true → alike f g ≡ true
splits-alike p s t f g e d h k = alike-through f s g (alike-back s f h) (subst (λ (u : AggregateFunction). alike u g ≡ true) (d ∙ sym e) k)
