-- Groups as a query's state rows make them, and how many rows states are of.
use Rattle.std.specs.Prelude.{◌≡◌, ◌+◌, ◌^◌, ℕ, if◌then◌else◌, nat_lt, List, Option, Some, None}
use Rattle.pipe_aggs.specs.HashAggs.{prototypes}
use Rattle.pipe_model.specs.Output.{key_types}
use Rattle.pipe_model.specs.Query.{QueryTree}
use Rattle.pipe_states.specs.Regrouped.{with_keys}
use Rattle.pipe_regroup.specs.declared.row_groups.RowGroups.{RowGroups}
use Rattle.pipe_regroup.specs.Groups.{AreFound}
use Rattle.pipe_regroup.specs.Rules.{all_rules}

-- a number, if a count of 32 bits holds it
abbrev pub held_count : ℕ → Option ℕ
held_count n = if nat_lt n (2 ^ 32) then Some n else None

-- a number of rows with some more
abbrev pub with_more : Option ℕ → ℕ → Option ℕ
with_more None more = None
with_more (Some n) more = held_count (n + more)

-- groups are found and joined as a query's state rows are by some keys
pub record AreGroupsBy (q : QueryTree) (keep : List ℕ) (groups : RowGroups) : Type 0 where
  pub kept : groups.keep.items ≡ keep
  pub types : groups.types.items ≡ key_types (with_keys q keep)
  pub rules : groups.rules.items ≡ all_rules (prototypes q)
  pub found : AreFound groups
