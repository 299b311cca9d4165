-- States that are added one by one, to be regrouped.
use Rattle.std.specs.Prelude.{◌≡◌, ◌≤◌, ◌<◌, ◌^◌, ℕ, true, List, [], All}
use Rattle.pipe_columns.specs.declared.schema.Field.{Field}
use Rattle.pipe_aggs.specs.declared.query.Query.{Query}
use Rattle.pipe_model.specs.Groupable.{IsGroupable}
use Rattle.pipe_model.specs.Output.{output_schema}
use Rattle.pipe_model.specs.Query.{QueryTree}
use Rattle.pipe_states.specs.Fair.{IsStateOf}
use Rattle.pipe_states.specs.Regrouped.{rows_of_states, with_keys}
use Rattle.pipe_states.specs.States.{StateSeen}
use Rattle.pipe_states.specs.Together.{AreKept, NoneOverlap, total_rows}
use Rattle.pipe_regroup.specs.declared.coverage.Coverage.{Coverage}
use Rattle.pipe_regroup.specs.declared.row_groups.RowGroups.{RowGroups}
use Rattle.pipe_regroup.specs.Covered.{IsCoverageOf, is_sound}
use Rattle.pipe_regroup.specs.Groups.{groups_of, with_rows}
use Rattle.pipe_regroup.specs.Regrouping.{AreGroupsBy}

-- a query, positions of its keys, and the states that were added, in order
pub record RegroupingSeen : Type 0 where
  pub query : Query
  pub keep : List ℕ
  pub files : List StateSeen

-- states can be regrouped: no two ranges share a number, and they are of fewer than 2^32 rows
pub record CanRegroup (states : List StateSeen) : Type 0 where
  pub apart : NoneOverlap states
  pub few : total_rows states < 2 ^ 32

-- states of which no two ranges share a number are of 2^32 rows or more
pub record AreTooLarge (states : List StateSeen) : Type 0 where
  pub apart : NoneOverlap states
  pub many : 2 ^ 32 ≤ total_rows states

-- of the proofs alone: groups by kept keys, the columns of their frame, and what was found of the
-- states that were added, whose rows the groups are of if nothing forbids to regroup them
pub record IsRegrouping (q : QueryTree) (states : List StateSeen) (fields : List Field)
    (groups : RowGroups) (c : Coverage) : Type 0 where
  pub groupable : IsGroupable q
  pub kept : AreKept q groups.keep.items
  pub of_query : All (IsStateOf q) states
  pub columns : fields ≡ output_schema (with_keys q groups.keep.items)
  pub covered : IsCoverageOf states c
  pub by : AreGroupsBy q groups.keep.items groups
  pub joined : is_sound c ≡ true
      → groups_of groups
      ≡ with_rows groups.keep.items groups.rules.items [] (rows_of_states states)
