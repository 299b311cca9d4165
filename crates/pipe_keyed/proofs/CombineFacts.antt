-- Two tables that are combined.
use Rattle.std.proofs.Common.{◌≡◌, ◌∙◌, ◌+◌, ◌<◌, ◌^◌, List, length, sym, ap, subst}
use Rattle.std.specs.List.{IsDistinct}
use Rattle.std.specs.Str.{bytes_eq}
use Rattle.pipe_spill.specs.SpillRow.{AreRows}
use Rattle.pipe_spill.specs.declared.spill_row.SpillRow.{SpillRow}
use Rattle.pipe_groups.specs.Groups.{AreJoined, Group, group_keys, RowlessAreFresh, Seen}
use Rattle.pipe_groups.specs.Holds.{Holds}
use Rattle.pipe_groups.proofs.KeepFacts.{few-joined}
use Rattle.pipe_keyed.specs.Merges.{MayMerge}
use Rattle.pipe_keyed.specs.Tables.{HoldFewTogether, IsTable, Table}

-- two tables at hand, as contracts see them, of one shape, with room for the rows of both
pub record Combines (t now o other : Table) : Type 0 where
  pub view_is : t ≡ now
  pub other_is : o ≡ other
  pub table : IsTable t
  pub other_table : IsTable o
  pub shape : other.shape ≡ now.shape
  pub few : HoldFewTogether now other

pub both-at-hand : (t now o other : Table) → t ≡ now → o ≡ other → IsTable t → IsTable o → other.shape ≡ now.shape → HoldFewTogether now other → Combines t now o other
both-at-hand t now o other e f table other_table shape few = record {
  view_is = e;
  other_is = f;
  table = table;
  other_table = other_table;
  shape = shape;
  few = few;
}

module _ (t now o other : Table) (h : Combines t now o other) where
  abbrev pub few : HoldFewTogether t o
  few = subst (λ (x : Table). HoldFewTogether x o) (sym h.view_is) (subst (λ (x : Table). HoldFewTogether now x) (sym h.other_is) h.few)

  pub same-shape : o.shape ≡ t.shape
  same-shape = ap (λ x. x.shape) h.other_is ∙ h.shape ∙ sym (ap (λ x. x.shape) h.view_is)

  -- the groups may be merged
  pub combines-may : (own others : Seen) → own.groups ≡ t.groups → own.shape ≡ t.shape → others.groups ≡ o.groups → others.shape ≡ o.shape → MayMerge own others
  combines-may own others gs s ogs os = record {
    shape = os ∙ same-shape ∙ sym s;
    apart = rw gs h.table.apart;
    fresh = rw (gs, s) h.table.fresh;
    other_apart = rw ogs h.other_table.apart;
    other_fresh = rw (ogs, s, ← same-shape) h.other_table.fresh;
    rows = few.rows;
    others = few.others;
    holds = rw (gs, s) few.holds;
    other_holds = rw (ogs, s) few.other_holds;
    few = few.few;
  }

  -- with some groups joined a table is left
  pub combined-kept : (u : Table) (part : List Group) (more : List SpillRow) → AreJoined t.shape.prototypes t.groups part u.groups → u.shape ≡ t.shape
      → IsDistinct bytes_eq (group_keys u.groups) → RowlessAreFresh t.shape.prototypes u.groups
      → Holds t.shape.prototypes part more → AreRows t.shape.key_types t.shape.input_types more → length few.rows + length more < 2 ^ 32 → IsTable u
  combined-kept u part more joined s apart fresh holds typed less = record {
    shape = rw s h.table.shape;
    apart = apart;
    fresh = rw s fresh;
    rows = rw s (few-joined t.shape t.groups part u.groups few.rows more joined few.holds holds few.typed typed less);
  }

  -- what contracts say of it
  pub combined-joined : (gs part joined : List Group) (f : List Group → List Group) → gs ≡ t.groups → part ≡ f o.groups
      → AreJoined t.shape.prototypes gs part joined → AreJoined now.shape.prototypes now.groups (f other.groups) joined
  combined-joined gs part joined f e p j =
      subst (λ (x : Table). AreJoined x.shape.prototypes x.groups (f other.groups) joined) h.view_is
      (subst (λ (x : Table). AreJoined t.shape.prototypes t.groups (f x.groups) joined) h.other_is (rw (e, p) at j))
