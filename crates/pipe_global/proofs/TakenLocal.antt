-- A partition takes its local rows in: group by group, or the whole local table where all of it lies in the partition and its own table holds nothing.
use Rattle.std.proofs.Common.{◌≡◌, ◌∙◌, ℕ, Bool, true, false, List, [], ◌∷◌, ◌++◌, length, refl, sym, ap, subst, arith, cond, if◌then◌else◌, Option, None, Some}
use Rattle.std.specs.List.{list_all}
use Rattle.std.specs.Str.{bytes_eq}
use Rattle.std.proofs.lemmas.Bool.{and_parts, false≢true}
use Rattle.std.proofs.lemmas.Slice.Eq.{bytes_eq-Decides}
use Rattle.pipe_running.specs.declared.function.AggregateFunction.{AggregateFunction}
use Rattle.pipe_spill.specs.declared.spill_row.SpillRow.{SpillRow}
use Rattle.pipe_groups.specs.Groups.{AreJoined, count_held, Group, has_rows, held_at, held_groups}
use Rattle.pipe_groups.specs.Holds.{FoundStands, Holds, of_key}
use Rattle.pipe_groups.proofs.HoldFacts.{held_at-passing, holds-joined, holds-part}
use Rattle.pipe_keyed.specs.Tables.{HasGroups, KeepsShape, Table}
use Rattle.pipe_tables.specs.Tables.{do_all_lie, groups_in, lies_in}
use Rattle.pipe_global.specs.Finishing.{IsRestOf, own_rows}
use Rattle.pipe_global.specs.Gathering.{HasTakenLocal}
use Rattle.pipe_global.specs.Partition.{PartitionSeen}

-- ---- group by group

pub taken-joined : (s new : PartitionSeen) (local left : Table) → AreJoined s.table.shape.prototypes s.table.groups (groups_in s.partitions s.number local.groups) new.table.groups
    → KeepsShape s.table new.table → IsRestOf s local left → new ≡ record s { table = new.table } → HasTakenLocal s new local left
taken-joined s new local left joined shape rest others = record {
  holds = λ rows locals h l.
      let test : List ℕ → Bool = λ k. lies_in s.partitions s.number k in
      let part : Holds s.table.shape.prototypes (groups_in s.partitions s.number local.groups) (own_rows s locals) =
      holds-part test s.table.shape.prototypes local.groups (groups_in s.partitions s.number local.groups) locals (λ k. held_at-passing test k local.groups) l in
      (holds-joined s.table.shape.prototypes s.table.groups (groups_in s.partitions s.number local.groups) new.table.groups rows (own_rows s locals) joined h part).0;
  shape = shape;
  rest = rest;
  others = others;
}

-- ---- the whole table

-- how many hold rows, with one in front
one-more-held : (g : Group) (gs : List Group) (b : Bool) → has_rows g ≡ b → count_held (g ∷ gs) ≡ length (cond b (g ∷ held_groups gs) (held_groups gs))
one-more-held g gs b e = ap (λ (b : Bool). length (cond b (g ∷ held_groups gs) (held_groups gs))) e

-- where no group holds a row, no key is held
none-held : (gs : List Group) (k : List ℕ) → count_held gs ≡ 0 → held_at k gs ≡ None
none-held [] k none = refl
none-held (g ∷ gs) k none = by (has_rows g) (bytes_eq k g.key) refl (none-held gs k) where
  by : (b same : Bool) → has_rows g ≡ b → (count_held gs ≡ 0 → held_at k gs ≡ None) → (if same then (if has_rows g then Some g else None) else held_at k gs) ≡ None
  by true same e rest = absurd (omega (arith, none, one-more-held g gs true e))
  by false true e rest = rw e refl
  by false false e rest = rest (sym (one-more-held g gs false e) ∙ none)

-- and there are no rows
no-rows : (ps : List AggregateFunction) (gs : List Group) (rows : List SpillRow) → count_held gs ≡ 0 → Holds ps gs rows → rows ≡ []
no-rows ps gs [] none h = refl
no-rows ps gs (r ∷ rows) none h = absurd (there (subst (λ (o : Option Group). FoundStands ps o (of_key r.key (r ∷ rows))) (none-held gs r.key none) (h.at r.key))) where
  there : of_key r.key (r ∷ rows) ≡ [] → ⊥
  there is = omega (arith, sym (ap (λ (l : List SpillRow). length l) is) ∙ ap (λ (b : Bool). length (cond b (r ∷ of_key r.key rows) (of_key r.key rows))) ((bytes_eq-Decides r.key r.key).1 refl))

-- the test of all groups, with one in front
one-more : (n p : ℕ) (g : Group) (gs : List Group) (b : Bool) → has_rows g ≡ b → do_all_lie n p (g ∷ gs) ≡ list_all (λ g. lies_in n p g.key) (cond b (g ∷ held_groups gs) (held_groups gs))
one-more n p g gs b e = ap (λ (b : Bool). list_all (λ g. lies_in n p g.key) (cond b (g ∷ held_groups gs) (held_groups gs))) e

-- where all that is held lies in a partition, nothing is held elsewhere
elsewhere : (n p : ℕ) (gs : List Group) (k : List ℕ) → do_all_lie n p gs ≡ true → lies_in n p k ≡ false → held_at k gs ≡ None
elsewhere n p [] k all apart = refl
elsewhere n p (g ∷ gs) k all apart = each (has_rows g) (bytes_eq k g.key) refl refl (elsewhere n p gs k) where
  each : (b same : Bool) → has_rows g ≡ b → bytes_eq k g.key ≡ same → (do_all_lie n p gs ≡ true → lies_in n p k ≡ false → held_at k gs ≡ None)
      → (if same then (if has_rows g then Some g else None) else held_at k gs) ≡ None
  each true true e is rest =
      let parts = and_parts (lies_in n p g.key) (do_all_lie n p gs) (sym (one-more n p g gs true e) ∙ all) in
      absurd (false≢true (sym apart ∙ ap (lies_in n p) ((bytes_eq-Decides k g.key).0 is) ∙ parts.0))
  each true false e is rest = rest (and_parts (lies_in n p g.key) (do_all_lie n p gs) (sym (one-more n p g gs true e) ∙ all)).1 apart
  each false true e is rest = rw e refl
  each false false e is rest = rest (sym (one-more n p g gs false e) ∙ all) apart

-- so what is held at its keys is all
own-held : (n p : ℕ) (gs : List Group) (k : List ℕ) → do_all_lie n p gs ≡ true → held_at k gs ≡ (if lies_in n p k then held_at k gs else None)
own-held n p gs k all = by (lies_in n p k) refl where
  by : (b : Bool) → lies_in n p k ≡ b → held_at k gs ≡ (if lies_in n p k then held_at k gs else None)
  by true e = rw e refl
  by false e = rw e (elsewhere n p gs k all e)

pub taken-whole : (s new : PartitionSeen) (local left : Table) → count_held s.table.groups ≡ 0 → do_all_lie s.partitions s.number local.groups ≡ true → local.shape ≡ s.table.shape
    → HasGroups s.table new.table local.groups → HasGroups local left s.table.groups → new ≡ record s { table = new.table } → HasTakenLocal s new local left
taken-whole s new local left none all same own other others = record {
  holds = λ rows locals h l.
      let ps = s.table.shape.prototypes in
      let part : Holds ps local.groups (own_rows s locals) = holds-part (lies_in s.partitions s.number) ps local.groups local.groups locals (λ k. own-held s.partitions s.number local.groups k all) l in
      subst (λ (gs : List Group). Holds ps gs (rows ++ own_rows s locals)) (sym own.0) (subst (λ (rs : List SpillRow). Holds ps local.groups (rs ++ own_rows s locals)) (sym (no-rows ps s.table.groups rows none h)) part);
  shape = (own.1, own.2);
  rest = record {
    shape = (other.1, other.2);
    held = λ k. ap (held_at k) other.0 ∙ none-held s.table.groups k none ∙ rest k;
  };
  others = others;
} where
  rest : (k : List ℕ) → None ≡ (if lies_in s.partitions s.number k then None else held_at k local.groups)
  rest k = by (lies_in s.partitions s.number k) refl where
    by : (b : Bool) → lies_in s.partitions s.number k ≡ b → None ≡ (if lies_in s.partitions s.number k then None else held_at k local.groups)
    by true e = rw e refl
    by false e = rw e (sym (own-held s.partitions s.number local.groups k all ∙ rw e refl))
