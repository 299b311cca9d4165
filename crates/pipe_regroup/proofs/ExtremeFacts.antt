-- A running least or greatest value tells its direction by what it makes of 0 and 1.
use Rattle.std.proofs.Common.{◌≡◌, true, cond, List, [], ◌∷◌, pos, refl}
use Rattle.pipe_columns.specs.declared.any_value.AnyValue.TheVariants as av
use Rattle.pipe_columns.specs.declared.place.Place.{Place}
use Rattle.pipe_running.specs.States.{after_value, fresh, given}
use Rattle.pipe_running.specs.declared.min_max.Direction.{Direction}
use Rattle.pipe_running.specs.declared.min_max.Direction.TheVariants as direction
use Rattle.pipe_running.specs.declared.function.AggregateFunction.{AggregateFunction}
use Rattle.pipe_running.specs.declared.function.AggregateFunction.TheVariants as function
use Rattle.std.specs.Int.{int_wrap}
use Rattle.pipe_regroup.specs.declared.rule.Rule.{Rule}
use Rattle.pipe_regroup.specs.declared.rule.Rule.TheVariants as rule
use Rattle.pipe_regroup.specs.Rules.{is_extreme, is_zero, rules_of}

-- what it makes of them
abbrev pub probed : Place → AggregateFunction → AggregateFunction
probed p f = after_value p (av.Int (pos 1)) (after_value p (av.Int (pos 0)) (fresh f))

abbrev told : Place → AggregateFunction → List Rule
told p f = cond (is_zero (given (probed p f))) rule.Least rule.Greatest ∷ []

pub extreme-told : (p : Place) (f : AggregateFunction) → is_extreme f ≡ true → told p f ≡ rules_of f
unfolding int_wrap
extreme-told p (function.MinMaxU8 a) e = by a.direction where
  by : (d : Direction) → told p (function.MinMaxU8 (record a { direction = d })) ≡ rules_of (function.MinMaxU8 (record a { direction = d }))
  by direction.Min = refl
  by direction.Max = refl
extreme-told p (function.MinMaxU16 a) e = by a.direction where
  by : (d : Direction) → told p (function.MinMaxU16 (record a { direction = d })) ≡ rules_of (function.MinMaxU16 (record a { direction = d }))
  by direction.Min = refl
  by direction.Max = refl
extreme-told p (function.MinMaxU32 a) e = by a.direction where
  by : (d : Direction) → told p (function.MinMaxU32 (record a { direction = d })) ≡ rules_of (function.MinMaxU32 (record a { direction = d }))
  by direction.Min = refl
  by direction.Max = refl
extreme-told p (function.MinMaxU64 a) e = by a.direction where
  by : (d : Direction) → told p (function.MinMaxU64 (record a { direction = d })) ≡ rules_of (function.MinMaxU64 (record a { direction = d }))
  by direction.Min = refl
  by direction.Max = refl
extreme-told p (function.MinMaxI8 a) e = by a.direction where
  by : (d : Direction) → told p (function.MinMaxI8 (record a { direction = d })) ≡ rules_of (function.MinMaxI8 (record a { direction = d }))
  by direction.Min = refl
  by direction.Max = refl
extreme-told p (function.MinMaxI16 a) e = by a.direction where
  by : (d : Direction) → told p (function.MinMaxI16 (record a { direction = d })) ≡ rules_of (function.MinMaxI16 (record a { direction = d }))
  by direction.Min = refl
  by direction.Max = refl
extreme-told p (function.MinMaxI32 a) e = by a.direction where
  by : (d : Direction) → told p (function.MinMaxI32 (record a { direction = d })) ≡ rules_of (function.MinMaxI32 (record a { direction = d }))
  by direction.Min = refl
  by direction.Max = refl
extreme-told p (function.MinMaxI64 a) e = by a.direction where
  by : (d : Direction) → told p (function.MinMaxI64 (record a { direction = d })) ≡ rules_of (function.MinMaxI64 (record a { direction = d }))
  by direction.Min = refl
  by direction.Max = refl
extreme-told p f e = cc
