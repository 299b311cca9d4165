-- Rows that a table takes in, at the group of their key.
use Rattle.std.proofs.Common.{◌≡◌, ◌∙◌, ℕ, ◌-◌, ◌<◌, ◌^◌, Bool, true, false, is_some, List, [], ◌∷◌, ◌++◌, length, get_or, set, refl, sym, ap, subst, arith}
use Rattle.std.specs.List.{All, IsDistinct}
use Rattle.std.specs.Str.{bytes_eq}
use Rattle.std.proofs.lemmas.List.{get_or_append_left, get_or-map, length-append, length-map}
use Rattle.std.proofs.lemmas.List.Elements.{All-append, All-weaker}
use Rattle.pipe_columns.specs.declared.any_value.AnyValue.{AnyValue}
use Rattle.pipe_columns.specs.Row.{Row}
use Rattle.pipe_inputs.specs.ChunkRows.{row_at}
use Rattle.pipe_inputs.specs.RowRuns.{run_inputs}
use Rattle.pipe_running.specs.declared.function.AggregateFunction.{AggregateFunction}
use Rattle.pipe_running.specs.GroupStates.{SameKinds, StatesHold, StatesSeen, TakesFrom}
use Rattle.pipe_running.proofs.StatesHoldFacts.{hold-seen, hold-takes}
use Rattle.pipe_columns.specs.Key.{code}
use Rattle.pipe_spill.specs.KeyTypes.{AreOfTypes}
use Rattle.pipe_spill.specs.SpillRow.{IsRow}
use Rattle.pipe_spill.specs.declared.spill_row.SpillRow.{SpillRow}
use Rattle.pipe_groups.specs.GroupRuns.{keep_no_text, KeepNoneFrom, with_run}
use Rattle.pipe_groups.specs.Groups.{cover, Group, group_of, is_covered, group_keys, new_group, no_group, RowlessAreFresh, group_with_row}
use Rattle.pipe_groups.specs.Holds.{HoldFewer, Holds}
use Rattle.pipe_groups.proofs.FeedFacts.{few-counted, few-feed}
use Rattle.pipe_groups.proofs.HoldFacts.{holds-covered, holds-row}
use Rattle.pipe_groups.proofs.KeepFacts.{few-cover}
use Rattle.pipe_groups.proofs.HoldRunFacts.{holds-run}
use Rattle.pipe_groups.proofs.KeepNoneFacts.{none-kept}
use Rattle.pipe_groups.proofs.PutFacts.{cover-new, cover-there, is_covered-at, put-at}
use Rattle.pipe_groups.proofs.RunFacts.{least-some, length-inputs}
use Rattle.pipe_groups.proofs.ShapeFacts.{shape-takes}
use Rattle.pipe_columns.specs.Frame.{FrameData}
use Rattle.pipe_model.specs.Query.{QueryTree}
use Rattle.pipe_keyed.specs.TakenRows.{spilled_first, TookFirstRows}
use Rattle.pipe_keyed.specs.Keyed.{IsAt}
use Rattle.pipe_keyed.specs.Tables.{HasGroups, IsTable, put_row, Table}
use Rattle.pipe_sinks.specs.Alike.{HoldAlike, KeysStay}
use Rattle.pipe_sinks.specs.KeyRuns.{IsRun, run_rows}
use Rattle.pipe_keyed.proofs.KeyFacts.{keys-set}
use Rattle.pipe_sinks.proofs.KeyRunFacts.{fresh-set, group-kinds, length-many, run-entries, run-keys, typed-inputs}
use Rattle.pipe_keyed.proofs.TableFacts.{table-covered, table-put}

-- a table, and one with room for a key
pub record Covered (t u : Table) (k : List ℕ) (i : ℕ) : Type 0 where
  pub table : IsTable t
  pub is : HasGroups t u (cover t.shape.prototypes k t.groups)
  pub at : IsAt u.groups k i

module _ (t u : Table) (k : List ℕ) (i : ℕ) (h : Covered t u k i) where
  pub covered-few : (n : ℕ) → HoldFewer t.shape t.groups n → HoldFewer u.shape u.groups n
  covered-few n few = rw (h.is.0, h.is.1) (few-cover t.shape t.groups n k few)

  -- it is a table too
  pub covered-table : IsTable u
  covered-table = table-covered t u k h.table h.is

  -- which holds the same rows
  pub covered-holds : (rows : List SpillRow) → Holds t.shape.prototypes t.groups rows → Holds u.shape.prototypes u.groups rows
  covered-holds rows holds = rw (h.is.0, h.is.1) (holds-covered t.shape.prototypes t.groups rows k holds)

  -- ---- one row

  module _ (r : SpillRow) (few : HoldFewer t.shape t.groups 1) (typed : IsRow t.shape.key_types t.shape.input_types r) (own : k ≡ r.key) where
    one : IsRow u.shape.key_types u.shape.input_types r
    one = rw h.is.1 typed

    counted : All (λ g. StatesHold (2 ^ 32 - 2) u.shape.prototypes g.states) u.groups
    counted = few-counted u.shape u.groups 1 covered-table.apart covered-table.fresh (covered-few 1 few)

    -- the group of the key may be fed
    pub one-few : StatesSeen (2 ^ 32 - 2) (group_of u.groups i).states × TakesFrom 0 (group_of u.groups i).states r.values
    one-few = few-feed u.shape u.groups i r covered-table.shape one h.at.0 counted

    module _ (new : Table) (fed : HasGroups u new (set u.groups i (group_with_row r.place r.values (group_of u.groups i)))) where
      put-there : new.groups ≡ put_row u r
      put-there = fed.0 ∙ put-at r.key u.shape.prototypes r.place r.values u.groups i covered-table.apart h.at.0 (h.at.1 ∙ own)

      -- a table is left, which holds the row too
      pub one-table : IsTable new
      one-table = table-put u new r covered-table (covered-few 1 few) one (put-there, fed.1, fed.2)

      pub one-holds : (rows : List SpillRow) → Holds t.shape.prototypes t.groups rows → Holds t.shape.prototypes new.groups (rows ++ r ∷ [])
      one-holds rows holds =
          subst (λ ps. Holds ps new.groups (rows ++ r ∷ [])) (ap (λ s. s.prototypes) h.is.1)
          (rw put-there (holds-row u.shape.prototypes u.groups rows r (shape-takes u.shape r.values covered-table.shape one.inputs.of_types) covered-table.fresh (covered-holds rows holds)))

  -- ---- rows of one key that follow one another

  module _ (rows : List Row) (row len : ℕ) (few : HoldFewer t.shape t.groups len) (run : IsRun t.shape rows row len) (own : k ≡ code t.shape.key_types (row_at rows row).key)
      (plain : keep_no_text t.shape.prototypes t.shape.input_types ≡ true) where
    abbrev ps : List AggregateFunction
    ps = t.shape.prototypes

    abbrev inputs : List (List AnyValue)
    inputs = run_inputs rows row len

    abbrev many : List SpillRow
    many = run_rows t.shape.key_types rows row len

    held : HoldFewer u.shape u.groups len
    held = covered-few len few

    counted-run : All (λ g. StatesHold (2 ^ 32 - 1 - len) u.shape.prototypes g.states) u.groups
    counted-run = few-counted u.shape u.groups len covered-table.apart covered-table.fresh held

    here : StatesHold (2 ^ 32 - 1 - len) ps (group_of u.groups i).states
    here = subst (λ s. StatesHold (2 ^ 32 - 1 - len) s.prototypes (group_of u.groups i).states) h.is.1 (counted-run i no_group h.at.0)

    -- the inputs of the rows are of the input types
    inputs-typed : All (AreOfTypes t.shape.input_types) inputs
    inputs-typed = typed-inputs t.shape rows row len run.typed

    all-taken : All (TakesFrom 0 ps) inputs
    all-taken = All-weaker (AreOfTypes t.shape.input_types) (TakesFrom 0 ps) (λ r. shape-takes t.shape r h.table.shape) inputs inputs-typed

    -- so the group of the key may be fed them
    pub run-few : StatesSeen (2 ^ 32 - 1 - len) (group_of u.groups i).states
    run-few = hold-seen (2 ^ 32 - 1 - len) ps (group_of u.groups i).states here

    pub run-taken : All (λ r. TakesFrom 0 (group_of u.groups i).states r) inputs
    run-taken = All-weaker (TakesFrom 0 ps) (TakesFrom 0 (group_of u.groups i).states) (λ r. hold-takes (2 ^ 32 - 1 - len) 0 r ps (group_of u.groups i).states here) inputs all-taken

    kinds : SameKinds ps (group_of u.groups i).states
    kinds = subst (λ s. SameKinds s.prototypes (group_of u.groups i).states) h.is.1
        (group-kinds u.shape.prototypes u.groups i covered-table.apart covered-table.fresh h.at.0 held.rows held.holds)

    pub run-plain : KeepNoneFrom 0 (group_of u.groups i).states inputs
    run-plain = none-kept ps (group_of u.groups i).states t.shape.input_types inputs kinds inputs-typed plain

    module _ (new : Table) (fed : HasGroups u new (set u.groups i (with_run (row_at rows row).place.chunk row inputs (group_of u.groups i)))) where
      own-keys : All (λ r. r.key ≡ (group_of u.groups i).key) many
      own-keys = All-weaker (λ (r : SpillRow). r.key ≡ code t.shape.key_types (row_at rows row).key) (λ r. r.key ≡ (group_of u.groups i).key) (λ r e. e ∙ sym own ∙ sym h.at.1) many
          (run-keys t.shape rows row len run)

      all-there : 0 < length inputs
      all-there = omega (arith, run.some, length-inputs rows row len run.there)

      holds-all : (front : List SpillRow) → Holds ps u.groups front → Holds ps new.groups (front ++ many)
      holds-all front holds =
          rw fed.0 (holds-run ps u.groups i covered-table.apart (subst (λ s. RowlessAreFresh s.prototypes u.groups) h.is.1 covered-table.fresh) h.at.0
          (row_at rows row).place.chunk row inputs all-there all-taken many own-keys (run-entries t.shape rows row len run) front holds)

      -- and the groups hold them too
      pub run-holds : (front : List SpillRow) → Holds ps t.groups front → Holds ps new.groups (front ++ many)
      run-holds front holds = holds-all front (subst (λ s. Holds s.prototypes u.groups front) h.is.1 (covered-holds front holds))

      -- a table is left
      pub run-table : IsTable new
      run-table = record {
        shape = rw fed.1 covered-table.shape;
        apart = rw fed.0 (subst (λ ks. IsDistinct bytes_eq ks) (sym (keys-set u.groups i (with_run (row_at rows row).place.chunk row inputs (group_of u.groups i)) refl)) covered-table.apart);
        fresh = rw (fed.0, fed.1) (fresh-set u.shape.prototypes u.groups i _ covered-table.fresh
            (λ e. absurd (let has : true ≡ false = sym (ap (λ o. is_some o) (least-some (row_at rows row).place.chunk row inputs (group_of u.groups i).first all-there)) ∙ e in cc)));
        rows = subst (λ s. HoldFewer s new.groups 0) (sym (fed.1 ∙ h.is.1)) (record {
          rows = few.rows ++ many;
          holds = run-holds few.rows few.holds;
          typed = All-append (IsRow t.shape.key_types t.shape.input_types) few.rows many few.typed run.typed;
          few = omega (arith, few.few, length-append few.rows many, length-many t.shape rows row len run.there);
        });
      }

-- ---- groups that stay

pub at-keys : (gs others : List Group) (k : List ℕ) (i : ℕ) → group_keys others ≡ group_keys gs → IsAt gs k i → IsAt others k i
at-keys gs others k i same at =
    let key : Group → List ℕ = λ g. g.key in
    let long : length others ≡ length gs = sym (length-map others key) ∙ ap (λ (ks : List (List ℕ)). length ks) same ∙ length-map gs key in (
      omega (arith, at.0, long),
      sym (get_or-map key others i no_group [] (omega (arith, at.0, long))) ∙ ap (λ (ks : List (List ℕ)). get_or ks i []) same ∙ get_or-map key gs i no_group [] at.0 ∙ at.1,
    )

pub keys-stay : (t u : Table) → group_keys u.groups ≡ group_keys t.groups → KeysStay t u
keys-stay t u same k i at = at-keys t.groups u.groups k i same at

-- room for a key leaves them where they are
pub cover-stay : (t u : Table) (key : List ℕ) → HasGroups t u (cover t.shape.prototypes key t.groups) → KeysStay t u
cover-stay t u key is k i at = rw is.0 (by (is_covered key t.groups) refl) where
  by : (b : Bool) → is_covered key t.groups ≡ b → IsAt (cover t.shape.prototypes key t.groups) k i
  by true e = rw (cover-there key t.shape.prototypes t.groups e) at
  by false e = rw (cover-new key t.shape.prototypes t.groups e) (
    omega (arith, at.0, length-append t.groups (new_group t.shape.prototypes key ∷ [])),
    ap (λ (g : Group). g.key) (get_or_append_left t.groups (new_group t.shape.prototypes key ∷ []) no_group i at.0) ∙ at.1,
  )

-- ---- tables that hold alike

pub alike-covered : (t u : Table) (key : List ℕ) → HasGroups t u (cover t.shape.prototypes key t.groups) → HoldAlike t u
alike-covered t u key is = record { shape = is.1; holds = λ rows h. rw is.0 (holds-covered t.shape.prototypes t.groups rows key h) }

pub alike-same : (t u : Table) → HasGroups t u t.groups → HoldAlike t u
alike-same t u is = record { shape = is.1; holds = λ rows h. rw is.0 h }

pub alike-then : (t u v : Table) → HoldAlike t u → HoldAlike u v → HoldAlike t v
alike-then t u v a b = record {
  shape = b.shape ∙ a.shape;
  holds = λ rows h. subst (λ s. Holds s.prototypes v.groups rows) a.shape (b.holds rows (subst (λ s. Holds s.prototypes u.groups rows) (sym a.shape) (a.holds rows h)));
}

-- a table in which a key has a group is covered by itself
pub covered-self : (t : Table) (k : List ℕ) (i : ℕ) → IsTable t → IsAt t.groups k i → Covered t t k i
covered-self t k i table at = record { table = table; is = (sym (cover-there k t.shape.prototypes t.groups (is_covered-at k t.groups i at.0 at.1)), refl, refl); at = at }

pub alike-few : (t u : Table) (n : ℕ) → HoldAlike t u → HoldFewer t.shape t.groups n → HoldFewer u.shape u.groups n
alike-few t u n alike h = subst (λ s. HoldFewer s u.groups n) (sym alike.shape) (record { rows = h.rows; holds = alike.holds h.rows h.holds; typed = h.typed; few = h.few })

-- what a table took that holds as another, that one took
pub alike-took : (q : QueryTree) (i : ℕ) (frame : FrameData) (n : ℕ) (t u v : Table) → HoldAlike t u → TookFirstRows q i frame n u v → TookFirstRows q i frame n t v
alike-took q i frame n t u v alike took = record {
  shape = took.shape ∙ alike.shape;
  holds = λ rows h. subst (λ s. Holds s.prototypes v.groups (rows ++ spilled_first q i frame n)) alike.shape (took.holds rows (subst (λ s. Holds s.prototypes u.groups rows) (sym alike.shape) (alike.holds rows h)));
}
