-- How many keys are held with one row more.
use Rattle.std.proofs.Common.{◌≡◌, ◌+◌, ℕ, Bool, true, false, List, [], ◌∷◌, Option, Some, None, length, refl, ap, arith, ⊎_elim}
use Rattle.std.specs.Prelude.{if◌then◌else◌, is_some}
use Rattle.std.specs.Str.{bytes_eq}
use Rattle.std.proofs.lemmas.Bool.{cases_lt, lt-ltb}
use Rattle.pipe_columns.specs.declared.any_value.AnyValue.{AnyValue}
use Rattle.pipe_columns.specs.declared.place.Place.{Place}
use Rattle.pipe_running.specs.declared.function.AggregateFunction.{AggregateFunction}
use Rattle.pipe_spill.specs.declared.spill_row.SpillRow.{SpillRow}
use Rattle.pipe_groups.specs.Groups.{count_held, Group, has_rows, held_at, held_groups, is_held, put, group_with_row}
use Rattle.pipe_tables.specs.LocalTable.{HoldsToLimit, IsToLimit}
use Rattle.pipe_keyed.specs.Tables.{HasGroups, put_row, Table}
use Rattle.pipe_tables.specs.Tables.{is_full, passes}

-- what a group counts
abbrev pub one_if : Bool → ℕ
one_if b = if b then 1 else 0

-- a group more in front
count-cons : (g : Group) (gs : List Group) → count_held (g ∷ gs) ≡ one_if (has_rows g) + count_held gs
count-cons g gs = elim (has_rows g) as (λ b. length (if b then g ∷ held_groups gs else held_groups gs) ≡ one_if b + length (held_groups gs)) [ true ↦ omega arith | false ↦ omega arith ]

-- what more a row makes: nothing where its key is held, and else one
abbrev pub gain : Bool → ℕ
gain held = if held then 0 else 1

-- as many keys are held as before, and one more where the row's was not
pub count-put : (ps : List AggregateFunction) (k : List ℕ) (p : Place) (inputs : List AnyValue) (gs : List Group)
    → count_held (put ps k p inputs gs) ≡ count_held gs + gain (is_held k gs)
count-put ps k p inputs [] = refl
count-put ps k p inputs (g ∷ gs) =
    elim (bytes_eq k g.key) as (λ b. count_held (if b then group_with_row p inputs g ∷ gs else g ∷ put ps k p inputs gs)
    ≡ count_held (g ∷ gs) + gain (is_some (if b then (if has_rows g then Some g else None) else held_at k gs))) [
      | true ↦ here (has_rows g) refl
      | false ↦ omega (arith, count-cons g gs, count-cons g (put ps k p inputs gs), count-put ps k p inputs gs)
    ]
  where
    here : (b : Bool) → has_rows g ≡ b → count_held (group_with_row p inputs g ∷ gs) ≡ count_held (g ∷ gs) + gain (is_some (if has_rows g then Some g else None))
    here true is = omega (arith, count-cons g gs, ap one_if is, ap (λ (b : Bool). gain (is_some (if b then Some g else None))) is)
    here false is = omega (arith, count-cons g gs, ap one_if is, ap (λ (b : Bool). gain (is_some (if b then Some g else None))) is)

-- a row that is held keeps to the limit
pub limit-put : (t new : Table) (r : SpillRow) → ((is_full t ≡ true) × (is_held r.key t.groups ≡ false) → ⊥) → HasGroups t new (put_row t r) → IsToLimit t → IsToLimit new
limit-put t new r room is bound =
    rw (is.0, is.2) (by t.limit (is_held r.key t.groups) room bound (count-put t.shape.prototypes r.key r.place r.values t.groups))
  where
    by : (limit : Option ℕ) (held : Bool) → ((passes (count_held t.groups) limit ≡ true) × (held ≡ false) → ⊥) → HoldsToLimit (count_held t.groups) limit
        → count_held (put_row t r) ≡ count_held t.groups + gain held → HoldsToLimit (count_held (put_row t r)) limit
    by None held room bound count = tt
    by (Some limit) true room bound count = omega (arith, bound, count)
    by (Some limit) false room bound count =
        ⊎_elim (λ lt. absurd (room (lt-ltb limit (count_held t.groups) lt, refl))) (λ le. omega (arith, le, count)) (cases_lt limit (count_held t.groups))
