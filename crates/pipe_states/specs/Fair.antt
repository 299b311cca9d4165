-- Which states are fair: what each state keeps, and what one of a query keeps besides.
use Rattle.std.specs.Prelude.{◌≡◌, ◌≤◌, ◌<◌, ◌+◌, ◌*◌, ◌^◌, ◌&&◌, ◌==◌, ℕ, pos, unsigned_abs, Bool, true, false, not, nat_le, if◌then◌else◌, List, [], ◌∷◌, length, map, sum_by, All}
use Rattle.std.specs.List.{flat_map, IsDistinct}
use Rattle.std.specs.Ordering.{eq_by_cmp, is_gt}
use Rattle.pipe_columns.specs.declared.any_value.AnyValue.{AnyValue}
use Rattle.pipe_columns.specs.declared.any_value.AnyValue.TheVariants as av
use Rattle.pipe_columns.specs.declared.data_type.DataType.{DataType}
use Rattle.pipe_columns.specs.declared.place.Place.{Place}
use Rattle.pipe_columns.specs.declared.schema.Field.{Field}
use Rattle.pipe_columns.specs.AnyValue.{is_null}
use Rattle.pipe_columns.specs.DataType.{is_string}
use Rattle.pipe_columns.specs.Frame.{value_at}
use Rattle.pipe_columns.specs.Groups.{IsAscending}
use Rattle.pipe_columns.specs.Place.{place_cmp}
use Rattle.pipe_model.specs.Answer.{tuple_cmp}
use Rattle.pipe_model.specs.Kind.{Kind}
use Rattle.pipe_model.specs.Kind as kind
use Rattle.pipe_model.specs.Output.{agg_fields, input_type, key_types}
use Rattle.pipe_model.specs.Query.{AggTree, QueryTree}
use Rattle.pipe_spill.specs.KeyTypes.{IsTuple}
use Rattle.pipe_states.specs.Parts.{IsInRange, Part}
use Rattle.pipe_states.specs.Ranges.{IsWithin}
use Rattle.pipe_states.specs.Regrouped.{column_count}
use Rattle.pipe_states.specs.States.{StateSeen}
use Rattle.pipe_states.specs.declared.state_row.StateRow.{StateRow}

-- ---- what each state keeps

-- a place in a chunk of a range, which a program can hold
pub record IsPlaceIn (first end : ℕ) (p : Place) : Type 0 where
  pub chunk : IsWithin first end p
  pub row : p.row < 2 ^ 32

-- a state row of a range: its places lie in it, the least is no later than the greatest, and it is
-- of a row at least
pub record IsFairRow (first end : ℕ) (r : StateRow) : Type 0 where
  pub first_place : IsPlaceIn first end r.first
  pub last_place : IsPlaceIn first end r.last
  pub in_order : is_gt (place_cmp r.first r.last) ≡ false
  pub some : 1 ≤ r.rows

-- a state: its range doesn't end before it begins, its rows are fair, their tuples ascend, no two
-- have one least or one greatest place, and together they are of fewer than 2^32 rows
pub record IsFair (s : StateSeen) : Type 0 where
  pub range : s.first ≤ s.end
  pub end : s.end < 2 ^ 32
  pub rows : All (IsFairRow s.first s.end) s.rows
  pub ascending : IsAscending tuple_cmp (map (λ r. r.key) s.rows)
  pub firsts : IsDistinct (eq_by_cmp place_cmp) (map (λ r. r.first) s.rows)
  pub lasts : IsDistinct (eq_by_cmp place_cmp) (map (λ r. r.last) s.rows)
  pub few : sum_by (λ r. r.rows) s.rows < 2 ^ 32

-- a part that a program can save: its rows stand in its range, and are fewer than 2^32
pub record CanSave (p : Part) : Type 0 where
  pub in_range : IsInRange p
  pub range : p.first ≤ p.end
  pub end : p.end < 2 ^ 32
  pub rows : All (λ r. r.place.row < 2 ^ 32) p.rows
  pub few : length p.rows < 2 ^ 32

-- ---- what one of a query keeps besides

-- whether a value is a certain number
abbrev pub is_number : ℕ → AnyValue → Bool
is_number n (av.Int (pos m)) = m == n
is_number n v = false

-- whether a value is a count of at most so many
abbrev pub is_count_within : ℕ → AnyValue → Bool
is_count_within n (av.Int (pos m)) = nat_le m n
is_count_within n v = false

-- whether a sum goes with the count of a mean: null for no value, and else at most 2^64 for each
abbrev pub does_sum_suit : AnyValue → AnyValue → Bool
does_sum_suit av.Null count = is_number 0 count
does_sum_suit (av.Int sum) (av.Int (pos count)) =
    not (count == 0) && nat_le (unsigned_abs sum) (count * 2 ^ 64)
does_sum_suit sum count = false

-- whether a result, and the one behind it, can be those of an aggregate over so many rows: `len` is
-- their number and a count is no more; a sum is null for texts alone, and that of a mean goes with
-- its count
abbrev pub can_give : Kind → DataType → ℕ → AnyValue → AnyValue → Bool
can_give kind.sum t rows v w = if is_string t then is_null v else not (is_null v)
can_give kind.mean t rows v w =
    if is_string t then is_null v else is_count_within rows w && does_sum_suit v w
can_give kind.min t rows v w = true
can_give kind.max t rows v w = true
can_give kind.first t rows v w = true
can_give kind.last t rows v w = true
can_give kind.count t rows v w = is_count_within rows v
can_give kind.len t rows v w = is_number rows v

-- so of all aggregates, with their output columns from position j on
abbrev pub can_give_all : ℕ → List Field → List AggTree → ℕ → List AnyValue → Bool
can_give_all j schema [] rows results = true
can_give_all j schema (a ∷ others) rows results =
    can_give a.kind (input_type schema a.input) rows (value_at results j) (value_at results (j + 1))
    && can_give_all (j + column_count a.kind (input_type schema a.input)) schema others rows results

-- the types of the output columns behind the keys
abbrev pub result_types : QueryTree → List DataType
result_types q =
    flat_map (λ a. map (λ f. f.dtype) (agg_fields [] a.kind (input_type q.schema a.input))) q.aggs

-- a state row of a query: a value for each key and each further output column, of its type, and
-- results that its aggregates can give
pub record IsRowOf (q : QueryTree) (r : StateRow) : Type 0 where
  pub key : IsTuple (key_types q) r.key
  pub results : IsTuple (result_types q) r.results
  pub given : can_give_all 0 q.schema q.aggs r.rows r.results ≡ true

-- a state of a query: each of its rows is one
abbrev pub IsStateOf : QueryTree → StateSeen → Type 0
IsStateOf q s = All (IsRowOf q) s.rows
