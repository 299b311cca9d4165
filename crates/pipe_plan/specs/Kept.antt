-- The keys that a worker keeps.
use Rattle.std.specs.Prelude.{ℕ, ◌+◌, Bool, not, List, [], ◌∷◌, take, if◌then◌else◌}
use Rattle.std.specs.List.{filter}
use Rattle.std.specs.Ordering.{eq_by_cmp}
use Rattle.std.specs.Set.{is_member}
use Rattle.pipe_columns.specs.declared.any_value.AnyValue.{AnyValue}
use Rattle.pipe_columns.specs.Row.{Row}
use Rattle.pipe_model.specs.Answer.{tuple_cmp}
use Rattle.pipe_model.specs.Rows.{keys_of}
use Rattle.pipe_plan.specs.declared.limits.Limits.{Limits}
use Rattle.pipe_plan.specs.Run.{is_generic, of_worker, Run}

-- each element of a list once, where it first comes
abbrev pub distinct : {A : Type 0} → (A → A → Bool) → List A → List A
distinct same [] = []
distinct same (x ∷ xs) = x ∷ filter (λ y. not (same y x)) (distinct same xs)

-- the first n distinct elements of a list
abbrev pub first_distinct : {A : Type 0} → (A → A → Bool) → ℕ → List A → List A
first_distinct same n xs = take n (distinct same xs)

-- whether two keys are one
abbrev pub same_key : List AnyValue → List AnyValue → Bool
same_key a b = eq_by_cmp tuple_cmp a b

-- the keys that are kept of some rows: the first spill_size + 1 distinct ones; in a typed sink all
abbrev pub kept_keys : Limits → List Row → List (List AnyValue)
kept_keys l rows =
    if is_generic l.sink then first_distinct same_key (l.spill_size + 1) (keys_of rows)
    else distinct same_key (keys_of rows)

-- the keys that a worker keeps of its rows
abbrev pub kept : Run → ℕ → List (List AnyValue)
kept r w = kept_keys r.limits (of_worker r w)

-- whether a worker keeps the key of a row
abbrev pub is_kept : Run → ℕ → Row → Bool
is_kept r w x = is_member same_key (kept r w) x.key
