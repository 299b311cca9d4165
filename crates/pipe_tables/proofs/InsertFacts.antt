-- A row that a table takes in, at the group of its key or a new one.
use Rattle.std.proofs.Common.{◌≡◌, ℕ, ◌-◌, ◌^◌, false, List, [], ◌∷◌, ◌++◌, length, set, sym, ap, ◌∙◌, arith, subst}
use Rattle.std.proofs.lemmas.List.{length_push}
use Rattle.std.specs.List.{All}
use Rattle.pipe_running.specs.GroupStates.{fresh_states, StatesHold, StatesSeen, TakesFrom}
use Rattle.pipe_running.proofs.StatesHoldFacts.{fresh-hold}
use Rattle.pipe_spill.specs.SpillRow.{IsRow}
use Rattle.pipe_spill.specs.declared.spill_row.SpillRow.{SpillRow}
use Rattle.pipe_groups.specs.Groups.{Group, group_of, is_covered, new_group, group_with_row}
use Rattle.pipe_groups.specs.Holds.{Holds}
use Rattle.pipe_groups.proofs.FeedFacts.{counted-pushed, few-counted, few-feed, row-taken}
use Rattle.pipe_groups.proofs.HoldFacts.{holds-row}
use Rattle.pipe_groups.proofs.PutFacts.{put-at, put-new, put-pushed}
use Rattle.pipe_groups.proofs.ShapeFacts.{shape-takes}
use Rattle.pipe_keyed.specs.Keyed.{IsAt}
use Rattle.pipe_tables.specs.declared.hash_table.AggHashTable.TheInside.{Inside}
use Rattle.pipe_tables.specs.TableLayout.{IsKept, table_in}
use Rattle.pipe_keyed.specs.Tables.{HasGroups, IsTable, put_row, Table, TakesOne}
use Rattle.pipe_keyed.proofs.TableFacts.{table-put}

-- what a feed of a group needs
abbrev pub MayFeed : List Group → ℕ → SpillRow → Type 0
MayFeed gs i r = StatesSeen (2 ^ 32 - 2) (group_of gs i).states × TakesFrom 0 (group_of gs i).states r.values

-- a table at hand, as contracts see it, and a row that it has room for
pub record Inserts (t now : Table) (r : SpillRow) : Type 0 where
  pub view_is : t ≡ now
  pub table : IsTable t
  pub few : TakesOne now
  pub typed : IsRow now.shape.key_types now.shape.input_types r

pub at-hand : (a : Inside) (now : Table) (r : SpillRow) → table_in a ≡ now → IsKept a → TakesOne now → IsRow now.shape.key_types now.shape.input_types r → Inserts (table_in a) now r
at-hand a now r e kept few typed = record { view_is = e; table = kept.table; few = few; typed = typed }

module _ (t now : Table) (r : SpillRow) (h : Inserts t now r) where
  few : TakesOne t
  few = subst (λ (x : Table). TakesOne x) (sym h.view_is) h.few

  typed : IsRow t.shape.key_types t.shape.input_types r
  typed = subst (λ (x : Table). IsRow x.shape.key_types x.shape.input_types r) (sym h.view_is) h.typed

  counted : All (λ g. StatesHold (2 ^ 32 - 2) t.shape.prototypes g.states) t.groups
  counted = few-counted t.shape t.groups 1 h.table.apart h.table.fresh few

  module _ (key : List ℕ) (is : key ≡ r.key) where
    -- the group of the key may be fed
    pub feeds-at : (i : ℕ) → IsAt t.groups key i → MayFeed t.groups i r
    feeds-at i at = few-feed t.shape t.groups i r h.table.shape typed at.0 counted

    -- so may a new one behind the others
    pub feeds-new : (gs : List Group) (i : ℕ) → gs ≡ t.groups ++ new_group t.shape.prototypes key ∷ [] → i ≡ length t.groups → MayFeed gs i r
    feeds-new gs i e at =
        few-feed t.shape gs i r h.table.shape typed (omega (arith, at, ap length e, length_push t.groups (new_group t.shape.prototypes key)))
        (rw e (counted-pushed t.shape.prototypes (2 ^ 32 - 2) t.groups key counted))

    -- with the row in the group of its key, or in a new one, the groups have it put
    pub puts-at : (u : Table) (i : ℕ) → IsAt t.groups key i → u.groups ≡ set t.groups i (group_with_row r.place r.values (group_of t.groups i))
        → u.shape ≡ t.shape → u.limit ≡ t.limit → HasGroups t u (put_row t r)
    puts-at u i at e shape limit = (e ∙ put-at r.key t.shape.prototypes r.place r.values t.groups i h.table.apart at.0 (at.1 ∙ is), shape, limit)

    pub puts-new : (u : Table) (gs : List Group) (i : ℕ) → is_covered key t.groups ≡ false → gs ≡ t.groups ++ new_group t.shape.prototypes key ∷ [] → i ≡ length t.groups
        → u.groups ≡ set gs i (group_with_row r.place r.values (group_of gs i)) → u.shape ≡ t.shape → u.limit ≡ t.limit → HasGroups t u (put_row t r)
    puts-new u gs i absent pushed at e shape limit = (
      e ∙ rw (pushed, at, is) (put-pushed r.key t.shape.prototypes r.place r.values t.groups (rw is at absent)),
      shape,
      limit,
    )

    -- one that comes with the row at once is put
    pub takes-new : TakesFrom 0 (fresh_states t.shape.prototypes) r.values
    takes-new = row-taken t.shape 0 (fresh_states t.shape.prototypes) r h.table.shape typed (fresh-hold 0 t.shape.prototypes)

    pub puts-last : (u : Table) → is_covered key t.groups ≡ false → u.groups ≡ t.groups ++ group_with_row r.place r.values (new_group t.shape.prototypes key) ∷ []
        → u.shape ≡ t.shape → u.limit ≡ t.limit → HasGroups t u (put_row t r)
    puts-last u absent e shape limit = (
      e ∙ rw is (sym (put-new r.key t.shape.prototypes r.place r.values t.groups (rw is at absent))),
      shape,
      limit,
    )

  module _ (u : Table) (put : HasGroups t u (put_row t r)) where
    -- so a table is left
    pub insert-kept : IsTable u
    insert-kept = table-put t u r h.table few typed put

    -- which has the row, and holds it
    pub insert-done : HasGroups now u (put_row now r)
    insert-done = subst (λ (x : Table). HasGroups x u (put_row x r)) h.view_is put

    pub insert-holds : (rows : List SpillRow) → Holds now.shape.prototypes now.groups rows → Holds now.shape.prototypes u.groups (rows ++ r ∷ [])
    insert-holds rows holds =
        subst (λ (x : Table). Holds x.shape.prototypes u.groups (rows ++ r ∷ [])) h.view_is
        (rw put.0 (holds-row t.shape.prototypes t.groups rows r (shape-takes t.shape r.values h.table.shape typed.inputs.of_types) h.table.fresh
        (subst (λ (x : Table). Holds x.shape.prototypes x.groups rows) (sym h.view_is) holds)))
