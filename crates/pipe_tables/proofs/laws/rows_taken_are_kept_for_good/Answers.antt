use Rattle.std.proofs.Common.{◌≡◌, ◌∙◌, ◌==◌, ◌&&◌, not, List, ◌∷◌, ◌++◌, map, ap, sym, ℕ}
use Rattle.std.specs.Set.{is_member}
use Rattle.pipe_columns.specs.Row.{Row}
use Rattle.pipe_model.specs.Output.{key_types}
use Rattle.pipe_model.specs.Rows.{keys_of}
use Rattle.pipe_plan.specs.Kept.{is_kept, kept_keys, same_key}
use Rattle.pipe_plan.specs.Overflow.{overflows, partition_of}
use Rattle.pipe_plan.specs.Run.{of_worker, Run}
use Rattle.pipe_plan.proofs.Filtering.{filter-within}
use Rattle.pipe_plan.proofs.Longer.{kept-decided, keys-has}
use Rattle.pipe_spill.specs.SpillRow.{spilled}
use Rattle.pipe_tables.specs.After.{goes_to, is_kept_of}
use Rattle.pipe_tables.proofs.laws.rows_taken_are_kept_for_good.Goals as goal

-- a row that came is kept of the rows taken where it is of all
for-good : (r : Run) (w : ℕ) (taken rest : List Row) → of_worker r w ≡ taken ++ rest → (front back : List Row) (y : Row) → taken ≡ front ++ y ∷ back → is_kept_of r.limits taken y ≡ is_kept r w y
for-good r w taken rest all front back y is =
    sym (kept-decided r.limits taken rest y.key (ap (λ (rows : List Row). is_member same_key (keys_of rows) y.key) is ∙ keys-has front back y))
    ∙ ap (λ (rows : List Row). is_member same_key (kept_keys r.limits rows) y.key) (sym all)

pub returns-clause-kept : goal.returns-clause-kept
returns-clause-kept c = λ r w taken rest all. filter-within (is_kept_of r.limits taken) (is_kept r w) taken (for-good r w taken rest all)

pub returns-clause-sent : goal.returns-clause-sent
returns-clause-sent c = λ r w p taken rest all. ap (λ (rows : List Row). map (spilled (key_types r.query)) rows)
    (filter-within (goes_to r.limits (key_types r.query) taken p) (overflows r w p) taken (λ front back y is. ap (λ b. (partition_of r y == p) && not b) (for-good r w taken rest all front back y is)))
