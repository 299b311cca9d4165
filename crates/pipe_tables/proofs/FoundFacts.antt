-- The groups of rows that are lent are found or made, row by row.
use Rattle.std.proofs.Common.{◌≡◌, ◌∙◌, ℕ, List, [], ◌∷◌, ◌++◌, append_assoc, refl, sym, ap, subst}
use Rattle.std.proofs.lemmas.List.{append-nil}
use Rattle.pipe_columns.specs.declared.data_type.DataType.{DataType}
use Rattle.pipe_spill.specs.declared.spill_row.SpillRow.{SpillRow}
use Rattle.pipe_groups.specs.Groups.{cover, Group, group_keys, held_at, HasGroups, Seen}
use Rattle.pipe_groups.specs.Shape.{Shape}
use Rattle.pipe_groups.proofs.HoldFacts.{held_at-covered}
use Rattle.pipe_running.specs.declared.function.AggregateFunction.{AggregateFunction}
use Rattle.pipe_keyed.specs.Keyed.{IsAt}
use Rattle.pipe_keyed.specs.Tables.{HasGroups as AreGroups, IsTable, Table}
use Rattle.pipe_waiting.specs.ReadRows.{read_rows}
use Rattle.pipe_waiting.specs.Waiting.{HoldRows, IsNext, Left, left_rows}
use Rattle.pipe_tables.specs.Tables.{cover_rows}
use Rattle.pipe_tables.specs.Waits.{AreAt, HasCovered, HoldsAs}
use Rattle.pipe_tables.proofs.ReserveFacts.{cover-push, table-rows}
use Rattle.pipe_tables.proofs.SpotLists.{at-behind, at-covered, at-one}

-- the types of a shape that is the one at first are those of that one
pub same-types : (types : List DataType) (old now groups : Shape) → types ≡ groups.input_types → groups ≡ now → now ≡ old → types ≡ old.input_types
same-types types old now groups e f g = e ∙ ap (λ (s : Shape). s.input_types) (f ∙ g)

-- of the rows that were left at first some were found, and their spots stand behind others
pub record Finds (types : List DataType) (first : Left) (old now : Seen) (begun spots : List ℕ) (left : Left) : Type 0 where
  pub done : List SpillRow
  pub split : left_rows types first ≡ done ++ left_rows types left
  pub groups : HasGroups old now (cover_rows old.shape.prototypes done old.groups)
  pub held : HoldRows types left.count left.bytes
  pub at : (before : List SpillRow) → AreAt (group_keys old.groups) before begun → AreAt (group_keys now.groups) (before ++ done) spots

-- at first none is found
pub finds-none : (types : List DataType) (first : Left) (old : Seen) (begun : List ℕ) → HoldRows types first.count first.bytes
    → Finds types first old old begun begun first
finds-none types first old begun held = record {
  done = [];
  split = refl;
  groups = (refl, refl);
  held = held;
  at = λ before h. subst (λ (l : List SpillRow). AreAt (group_keys old.groups) l begun) (sym (append-nil before)) h;
}

module _ (types : List DataType) (first : Left) (old now : Seen) (begun spots : List ℕ) (before after : Left) (r : SpillRow)
    (c : Finds types first old now begun spots before) (next : IsNext types r before after) where
  module _ (new : Seen) (has : HasGroups now new (cover now.shape.prototypes r.key now.groups)) where
    more-groups : HasGroups old new (cover_rows old.shape.prototypes (c.done ++ r ∷ []) old.groups)
    more-groups = (
      has.0 ∙ ap (λ (s : Shape). cover s.prototypes r.key now.groups) c.groups.1 ∙ ap (λ (gs : List Group). cover old.shape.prototypes r.key gs) c.groups.0
          ∙ sym (cover-push old.shape.prototypes c.done r old.groups),
      has.1 ∙ c.groups.1,
    )

    -- so other groups were made, or none
    pub next-covered : HasCovered old new
    next-covered = record { rows = c.done ++ r ∷ []; groups = more-groups }

    -- with it one more is found
    pub next-found : (i : ℕ) → IsAt new.groups r.key i → (more : List ℕ) → more ≡ spots ++ i ∷ []
        → Finds types first old new begun more after
    next-found i own more is = record {
      done = c.done ++ r ∷ [];
      split = c.split ∙ ap (λ (l : List SpillRow). c.done ++ l) next.rows ∙ sym (append_assoc c.done (r ∷ []) (left_rows types after));
      groups = more-groups;
      held = next.left;
      at = λ front h.
          let keys : List (List ℕ) = group_keys new.groups in
          let was : AreAt keys (front ++ c.done) spots =
          subst (λ (gs : List Group). AreAt (group_keys gs) (front ++ c.done) spots) (sym has.0) (at-covered now.shape.prototypes r.key now.groups (front ++ c.done) spots (c.at front h)) in
          subst (λ (l : List SpillRow). AreAt keys l more) (append_assoc front c.done (r ∷ []))
          (subst (AreAt keys ((front ++ c.done) ++ r ∷ [])) (sym is) (at-behind keys (front ++ c.done) (r ∷ []) spots (i ∷ []) was (at-one new.groups r i own)));
    }

-- what was found so far
pub found-covered : (types : List DataType) (first : Left) (old now : Seen) (begun spots : List ℕ) (left : Left) → Finds types first old now begun spots left → HasCovered old now
found-covered types first old now begun spots left c = record { rows = c.done; groups = c.groups }

-- the same where a refusal left the groups
pub found-same : (types : List DataType) (first : Left) (old now new : Seen) (begun spots : List ℕ) (left : Left) → Finds types first old now begun spots left
    → HasGroups now new now.groups → HasCovered old new
found-same types first old now new begun spots left c same = record { rows = c.done; groups = (same.0 ∙ c.groups.0, same.1 ∙ c.groups.1) }

-- where none is left all are
pub found-all : (types : List DataType) (first : Left) (old now : Seen) (begun spots : List ℕ) (left : Left) → Finds types first old now begun spots left → left.count ≡ 0
    → (before : List SpillRow) → AreAt (group_keys old.groups) before begun → AreAt (group_keys now.groups) (before ++ left_rows types first) spots
found-all types first old now begun spots left c none before h =
    let rest : left_rows types left ≡ [] = ap (λ (n : ℕ). read_rows types n left.bytes) none in
    let all : left_rows types first ≡ c.done = c.split ∙ ap (λ (l : List SpillRow). c.done ++ l) rest ∙ append-nil c.done in
    subst (λ (l : List SpillRow). AreAt (group_keys now.groups) (before ++ l) spots) (sym all) (c.at before h)

-- ---- tables

-- with room for rows the same is held
rows-held : (ps : List AggregateFunction) (rows : List SpillRow) (gs : List Group) (k : List ℕ) → held_at k (cover_rows ps rows gs) ≡ held_at k gs
rows-held ps [] gs k = refl
rows-held ps (r ∷ rows) gs k = rows-held ps rows (cover ps r.key gs) k ∙ held_at-covered ps r.key k gs

-- groups in a table's place that were made for keys leave it one, which holds the same
module _ (t new : Table) (old now : Seen) (has : HasCovered old now) (shape : old.shape ≡ t.shape) (groups : old.groups ≡ t.groups)
    (now-shape : new.shape ≡ now.shape) (now-groups : new.groups ≡ now.groups) (limit : new.limit ≡ t.limit) where
  own : AreGroups t new (cover_rows t.shape.prototypes has.rows t.groups)
  own = (
    now-groups ∙ has.groups.0 ∙ ap (λ (s : Shape). cover_rows s.prototypes has.rows old.groups) shape ∙ ap (λ (gs : List Group). cover_rows t.shape.prototypes has.rows gs) groups,
    now-shape ∙ has.groups.1 ∙ shape,
    limit,
  )

  pub covered-table : IsTable t → IsTable new
  covered-table is = table-rows has.rows t new is own

  pub covered-same : HoldsAs t new
  covered-same = record {
    shape = (own.1, own.2);
    held = λ k. ap (λ (gs : List Group). held_at k gs) own.0 ∙ rows-held t.shape.prototypes has.rows t.groups k;
  }

  -- and the spots that were found are those in it
  pub covered-at : (a : Left) (begun spots : List ℕ)
      → ((before : List SpillRow) → AreAt (group_keys old.groups) before begun → AreAt (group_keys now.groups) (before ++ left_rows old.shape.input_types a) spots)
      → (before : List SpillRow) → AreAt (group_keys t.groups) before begun → AreAt (group_keys new.groups) (before ++ left_rows t.shape.input_types a) spots
  covered-at a begun spots at before h =
      subst (λ (s : Shape). AreAt (group_keys new.groups) (before ++ left_rows s.input_types a) spots) shape
      (subst (λ (gs : List Group). AreAt (group_keys gs) (before ++ left_rows old.shape.input_types a) spots) (sym now-groups)
      (at before (subst (λ (gs : List Group). AreAt (group_keys gs) before begun) (sym groups) h)))

-- no room yet
pub as-none : (t : Table) → HoldsAs t t
as-none t = record { shape = (refl, refl); held = λ k. refl }

-- some more
pub as-more : (t now new : Table) → HoldsAs t now → HoldsAs now new → HoldsAs t new
as-more t now new was more = record {
  shape = (more.shape.0 ∙ was.shape.0, more.shape.1 ∙ was.shape.1);
  held = λ k. more.held k ∙ was.held k;
}
