-- States of one kind in a list, seen as running aggregates of any kind.
use Rattle.std.proofs.Common.{◌≡◌, ◌∙◌, ℕ, ◌<◌, List, length, map, get_or, set, sym, ap, arith}
use Rattle.std.proofs.lemmas.List.{get_or-map, length-map, map-set}
use Rattle.pipe_running.specs.declared.function.AggregateFunction.{AggregateFunction}
use Rattle.pipe_kinds.specs.Columns.{no_state, state_at}

module _ {S : Type 0} (function : S → AggregateFunction) (xs : List S) (i : ℕ) (s : S) where
  -- the state at an index of what they are is what the state there is
  pub at-map : i < length (map function xs) → s ≡ get_or xs i s → state_at (map function xs) i ≡ function s
  at-map lt is = get_or-map function xs i s no_state (omega (arith, lt, length-map xs function)) ∙ ap function (sym is)

  -- what they are with one replaced
  pub put-map : (new : AggregateFunction) (t : S) → function t ≡ new → map function (set xs i t) ≡ set (map function xs) i new
  put-map new t is = map-set function xs i t ∙ ap (set (map function xs) i) is
