-- Values of rows that follow one another, fed to a state of one kind.
use Rattle.std.proofs.Common.{◌≡◌, ◌∙◌, ◌+◌, ◌<◌, ℕ, Bool, true, false, List, length, drop, get_or}
use Rattle.std.specs.List.{list_all}
use Rattle.pipe_columns.specs.declared.any_value.AnyValue.{AnyValue}
use Rattle.pipe_columns.specs.declared.place.Place.{Place}
use Rattle.pipe_running.specs.declared.function.AggregateFunction.{AggregateFunction}
use Rattle.pipe_running.specs.declared.interface.Finalized.{Finalized}
use Rattle.pipe_running.specs.Runs.{after_run}
use Rattle.pipe_running.specs.StateLaws.{function_by_one, function_takes_alike}
use Rattle.pipe_running.specs.States as whole
use Rattle.pipe_running.proofs.RunFacts.{Left, lent-begun, lent-done, lent-turn, Turn}
use Rattle.pipe_kinds.specs.Keeping.{keeps_value, plain_value}
use Rattle.pipe_kinds.specs.KindState.{IsKind}
use Rattle.pipe_kinds.proofs.HeldFacts.{plain-after, plain-takes}

-- before the value at i all are fed
abbrev pub FedTo : ℕ → ℕ → List AnyValue → AggregateFunction → ℕ → AggregateFunction → Type 0
FedTo chunk first values before i now = Left whole.after_value whole.takes whole.seen chunk first values before i (drop i values) now

-- what one more turn needs and gives
abbrev pub FedTurn : ℕ → ℕ → List AnyValue → AggregateFunction → ℕ → AnyValue → AggregateFunction → Type 0
FedTurn chunk first values before i value now =
    Turn whole.after_value whole.takes whole.seen function_by_one function_takes_alike chunk first values before i value (drop (i + 1) values) now

pub fed-begun : (chunk first : ℕ) (values : List AnyValue) (before : AggregateFunction) → list_all (whole.takes before) values ≡ true → FedTo chunk first values before 0 before
fed-begun chunk first values before e = lent-begun whole.after_value whole.takes whole.seen function_by_one function_takes_alike chunk first values before e

pub fed-turn : (chunk first : ℕ) (values : List AnyValue) (before : AggregateFunction) (i : ℕ) (value : AnyValue) (now : AggregateFunction)
    → i < length values → value ≡ get_or values i value → FedTo chunk first values before i now → FedTurn chunk first values before i value now
fed-turn chunk first values before i value now lt is fed =
    lent-turn whole.after_value whole.takes whole.seen function_by_one function_takes_alike chunk first values before i value now lt is fed

pub fed-done : (chunk first : ℕ) (values : List AnyValue) (before : AggregateFunction) (i : ℕ) (now : AggregateFunction)
    → i ≡ length values → FedTo chunk first values before i now → now ≡ after_run whole.after_value chunk first values before
fed-done chunk first values before i now at fed = lent-done whole.after_value whole.takes whole.seen function_by_one function_takes_alike chunk first values before i now at fed

-- a state of one kind that keeps no value is fed what serves as well
module _ {S : Type 0} {function : S → AggregateFunction} {after : Place → AnyValue → S → S} {takes : S → AnyValue → Bool} {seen : S → ℕ}
    {alike : S → S → Bool} {joined : S → S → S} {fresh : S → S} {given : S → Finalized}
    (is : IsKind function after takes seen alike joined fresh given) (s : S) (plain : keeps_value (function s) ≡ false) where
  pub takes-plain : (v : AnyValue) → whole.takes (function s) v ≡ true → takes s (plain_value v) ≡ true
  takes-plain v e = is.takes_is s (plain_value v) ∙ plain-takes (function s) v plain ∙ e

  pub after-plain : (p : Place) (v : AnyValue) → function (after p (plain_value v) s) ≡ whole.after_value p v (function s)
  after-plain p v = is.after_is p (plain_value v) s ∙ plain-after p v (function s) plain
