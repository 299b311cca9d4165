-- A running aggregate of one kind, as one of any kind.
use Rattle.std.specs.Prelude.{◌≡◌, ℕ, Bool}
use Rattle.pipe_columns.specs.declared.any_value.AnyValue.{AnyValue}
use Rattle.pipe_columns.specs.declared.place.Place.{Place}
use Rattle.pipe_running.specs.declared.function.AggregateFunction.{AggregateFunction}
use Rattle.pipe_running.specs.declared.interface.Finalized.{Finalized}
use Rattle.pipe_running.specs.States as whole

-- a state is a running aggregate of any kind: what its own kind says of it is what that says
pub record IsKind {S : Type 0} (function : S → AggregateFunction)
    (after : Place → AnyValue → S → S) (takes : S → AnyValue → Bool) (seen : S → ℕ)
    (alike : S → S → Bool) (joined : S → S → S) (fresh : S → S) (given : S → Finalized)
    : Type 0 where
  pub after_is : (p : Place) (v : AnyValue) (s : S)
      → function (after p v s) ≡ whole.after_value p v (function s)
  pub takes_is : (s : S) (v : AnyValue) → takes s v ≡ whole.takes (function s) v
  pub seen_is : (s : S) → seen s ≡ whole.seen (function s)
  pub alike_is : (s t : S) → alike s t ≡ whole.alike (function s) (function t)
  pub joined_is : (s t : S) → function (joined s t) ≡ whole.joined (function s) (function t)
  pub fresh_is : (s : S) → function (fresh s) ≡ whole.fresh (function s)
  pub given_is : (s : S) → given s ≡ whole.given (function s)
