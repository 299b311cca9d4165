-- Of the proofs alone: groups of state rows, and what one more row makes of them.
use Rattle.std.specs.Prelude.{◌≡◌, ◌+◌, ◌<◌, ℕ, Bool, if◌then◌else◌, List, [], ◌∷◌, length, map, All, IsPermutation, sum_by, fold}
use Rattle.std.specs.Ordering.{is_eq, is_gt, is_lt}
use Rattle.pipe_columns.specs.declared.data_type.DataType.{DataType}
use Rattle.pipe_columns.specs.Groups.{IsAscending}
use Rattle.pipe_columns.specs.Key.{code}
use Rattle.pipe_columns.specs.Place.{place_cmp}
use Rattle.pipe_model.specs.Answer.{tuple_cmp}
use Rattle.pipe_spill.specs.KeyTypes.{AreOfTypes}
use Rattle.pipe_states.specs.Regrouped.{kept}
use Rattle.pipe_states.specs.declared.state_row.StateRow.{StateRow}
use Rattle.pipe_regroup.specs.declared.group.Group.{Group}
use Rattle.pipe_regroup.specs.declared.row_groups.RowGroups.{RowGroups}
use Rattle.pipe_regroup.specs.declared.rule.Rule.{Rule}
use Rattle.pipe_regroup.specs.Rules.{joined_from}

-- a group as the state row that its rows come to
abbrev pub group_row : Group → StateRow
group_row g = record {
  key = g.key.items;
  first = g.first;
  last = g.last;
  rows = g.rows;
  results = g.results.items;
}

-- of how many rows state rows are
abbrev pub count_rows : List StateRow → ℕ
count_rows rows = sum_by (λ r. r.rows) rows

-- whether a row begins before a group
abbrev pub is_earlier : StateRow → StateRow → Bool
is_earlier g r = is_gt (place_cmp g.first r.first)

-- whether it ends behind it
abbrev pub is_later : StateRow → StateRow → Bool
is_later g r = is_lt (place_cmp g.last r.last)

-- a group with one more row
abbrev pub joined_row : List Rule → StateRow → StateRow → StateRow
joined_row rules g r = record {
  key = g.key;
  first = if is_earlier g r then r.first else g.first;
  last = if is_later g r then r.last else g.last;
  rows = g.rows + r.rows;
  results = joined_from (is_earlier g r) (is_later g r) 0 rules r.results g.results;
}

-- the group of a row that is the first of its tuple
abbrev pub started : List ℕ → StateRow → StateRow
started keep r = record r { key = kept keep r.key }

-- groups with one more row, which joins the group of its kept tuple or is a new one
abbrev pub with_row : List ℕ → List Rule → List StateRow → StateRow → List StateRow
with_row keep rules [] r = started keep r ∷ []
with_row keep rules (g ∷ groups) r =
    if is_eq (tuple_cmp g.key (kept keep r.key))
    then joined_row rules g r ∷ groups
    else g ∷ with_row keep rules groups r

-- groups with more rows
abbrev pub with_rows : List ℕ → List Rule → List StateRow → List StateRow → List StateRow
with_rows keep rules groups rows = fold (with_row keep rules) groups rows

-- a row whose kept values are of types, with a result for each rule
pub record IsJoinable (keep : List ℕ) (types : List DataType) (rules : List Rule) (r : StateRow)
    : Type 0 where
  pub within : All (λ i. i < length r.key) keep
  pub typed : AreOfTypes types (kept keep r.key)
  pub results : length r.results ≡ length rules

-- a group has a tuple of types, and a result for each rule
pub record IsGroupOf (types : List DataType) (rules : List Rule) (g : StateRow) : Type 0 where
  pub typed : AreOfTypes types g.key
  pub results : length g.results ≡ length rules

-- the groups that are found by codes, as state rows
abbrev pub groups_of : RowGroups → List StateRow
groups_of a = map group_row a.groups.items

-- groups are found by the codes of their tuples
pub record AreFound (a : RowGroups) : Type 0 where
  pub codes : map (λ c. c.items) a.codes.keys ≡ map (λ g. code a.types.items g.key) (groups_of a)
  pub groups : All (IsGroupOf a.types.items a.rules.items) (groups_of a)

-- groups with some rows more, found and joined alike
pub record HasAdded (old new : RowGroups) (rows : List StateRow) : Type 0 where
  pub keep : new.keep ≡ old.keep
  pub types : new.types ≡ old.types
  pub rules : new.rules ≡ old.rules
  pub found : AreFound new
  pub groups : groups_of new ≡ with_rows old.keep.items old.rules.items (groups_of old) rows

-- groups in the order of their tuples
pub record AreInOrder (old new : List StateRow) : Type 0 where
  pub same : IsPermutation old new
  pub ascending : IsAscending tuple_cmp (map (λ g. g.key) new)
