-- Two tables, of which one takes a partition of the other's groups.
use Rattle.std.proofs.Common.{◌≡◌, ◌∙◌, ◌≤◌, ℕ, Bool, true, false, not, if◌then◌else◌, List, length, Option, None, refl, arith}
use Rattle.std.specs.List.{filter, IsDistinct}
use Rattle.std.specs.Str.{bytes_eq}
use Rattle.std.proofs.lemmas.List.Elements.{All-filter}
use Rattle.std.proofs.lemmas.List.Filters.{length-filter_both}
use Rattle.pipe_spill.specs.SpillRow.{IsRow}
use Rattle.pipe_spill.specs.declared.spill_row.SpillRow.{SpillRow}
use Rattle.pipe_groups.specs.Groups.{AreJoined, Group, held_at, group_keys, RowlessAreFresh}
use Rattle.pipe_groups.proofs.HoldFacts.{held_at-passing, holds-part}
use Rattle.pipe_keyed.specs.Tables.{IsTable, Table}
use Rattle.pipe_tables.specs.Tables.{groups_in, lies_in}
use Rattle.pipe_keyed.proofs.CombineFacts.{combined-kept, Combines, few}

-- rows that pass are no more than all
fewer : (test : SpillRow → Bool) (rows : List SpillRow) → length (filter test rows) ≤ length rows
fewer test rows = omega (arith, length-filter_both test (λ r. not (test r)) (λ r. refl) rows)

module _ (partitions p : ℕ) where
  -- whether a row lies in the partition
  abbrev row_lies : SpillRow → Bool
  row_lies r = lies_in partitions p r.key

  -- with the groups of the partition joined a table is left
  pub part-combined : (t now o other : Table) → Combines t now o other → (u : Table) → AreJoined t.shape.prototypes t.groups (groups_in partitions p o.groups) u.groups → u.shape ≡ t.shape
      → IsDistinct bytes_eq (group_keys u.groups) → RowlessAreFresh t.shape.prototypes u.groups → IsTable u
  part-combined t now o other both u joined shape apart fresh =
      let held = few t now o other both in
      combined-kept t now o other both u (groups_in partitions p o.groups) (filter row_lies held.others) joined shape apart fresh
      (holds-part (lies_in partitions p) t.shape.prototypes o.groups (groups_in partitions p o.groups) held.others (λ k. held_at-passing (lies_in partitions p) k o.groups) held.other_holds)
      (All-filter row_lies (IsRow t.shape.key_types t.shape.input_types) held.others held.others_typed)
      (omega (arith, held.few, fewer row_lies held.others))

  module _ (t u : Table) (table : IsTable t) where
    -- whether a key lies elsewhere
    abbrev elsewhere : List ℕ → Bool
    elsewhere k = not (lies_in partitions p k)

    -- a table of which the groups of the partition left is one
    pub part-left : u.shape ≡ t.shape → group_keys u.groups ≡ group_keys t.groups → RowlessAreFresh t.shape.prototypes u.groups
        → ((k : List ℕ) → held_at k u.groups ≡ (if lies_in partitions p k then None else held_at k t.groups)) → IsTable u
    part-left shape keys fresh rest = record {
      shape = rw shape table.shape;
      apart = rw keys table.apart;
      fresh = rw shape fresh;
      rows = rw shape (record {
        rows = filter (λ (r : SpillRow). elsewhere r.key) table.rows.rows;
        holds = holds-part elsewhere t.shape.prototypes t.groups u.groups table.rows.rows (λ k. rest k ∙ by (lies_in partitions p k) (held_at k t.groups)) table.rows.holds;
        typed = All-filter (λ (r : SpillRow). elsewhere r.key) (IsRow t.shape.key_types t.shape.input_types) table.rows.rows table.rows.typed;
        few = omega (arith, table.rows.few, fewer (λ (r : SpillRow). elsewhere r.key) table.rows.rows);
      });
    } where
      by : (b : Bool) (held : Option Group) → (if b then None else held) ≡ (if not b then held else None)
      by true held = refl
      by false held = refl
