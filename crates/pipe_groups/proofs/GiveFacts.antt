-- Groups that hold fewer than 2^32 rows can give theirs.
use Rattle.std.proofs.Common.{◌≡◌, ℕ, ◌+◌, ◌<◌, ◌^◌, Bool, true, false, cond, if◌then◌else◌, is_some, List, [], ◌∷◌, length, map, get_or, Option, Some, None, refl, sym, subst, arith}
use Rattle.std.specs.List.{All, Contains, IsDistinct}
use Rattle.std.specs.Str.{bytes_eq}
use Rattle.std.proofs.lemmas.List.Elements.{All-filter, All-from_get_or, All-head, All-map, All-tail, All-weaker, filter_passes}
use Rattle.std.proofs.lemmas.Slice.Eq.{bytes_eq-Decides}
use Rattle.pipe_columns.specs.declared.data_type.DataType.{DataType}
use Rattle.pipe_columns.specs.declared.place.Place.{Place}
use Rattle.pipe_model.specs.Groupable.{IsGroupable}
use Rattle.pipe_model.specs.Query.{QueryTree}
use Rattle.pipe_running.specs.declared.function.AggregateFunction.{AggregateFunction}
use Rattle.pipe_running.specs.GroupStates.{FitsFrom, GroupStands}
use Rattle.pipe_running.proofs.GroupStateFacts.{group-fits}
use Rattle.pipe_spill.specs.SpillRow.{AreRows, IsKey, IsRow}
use Rattle.pipe_spill.specs.declared.spill_row.SpillRow.{SpillRow}
use Rattle.pipe_groups.specs.Given.{CanGive}
use Rattle.pipe_groups.specs.Groups.{Group, group_of, has_rows, held_groups, group_keys, no_group}
use Rattle.pipe_groups.specs.Holds.{entries_of, FoundStands, HoldFewer, Holds, of_key}
use Rattle.pipe_groups.specs.Shape.{IsShape, Shape, shape_of}
use Rattle.pipe_groups.proofs.FeedFacts.{few-of_key}
use Rattle.pipe_groups.proofs.PutFacts.{held_at-at}
use Rattle.pipe_groups.proofs.ShapeFacts.{aggs-served, inputs-fit}

-- ---- groups that hold rows

-- what each group has if it holds rows, each that holds rows has
pub held-all : (P : Group → Type 0) (gs : List Group) → All (λ g. has_rows g ≡ true → P g) gs → All P (held_groups gs)
held-all P gs h =
    let kept : All (λ g. has_rows g ≡ true → P g) (held_groups gs) = All-filter has_rows (λ g. has_rows g ≡ true → P g) gs h in
    let passed : All (λ g. has_rows g ≡ true) (held_groups gs) = filter_passes has_rows gs in
    λ i d lt. kept i d lt (passed i d lt)

-- what holds rows has a first place
pub first-there : (g : Group) → has_rows g ≡ true → (p : Place) × (g.first ≡ Some p)
first-there g h = by g.first refl h where
  by : (o : Option Place) → g.first ≡ o → is_some o ≡ true → (p : Place) × (g.first ≡ Some p)
  by None e h = cc
  by (Some p) e h = (p, e)

module _ (ps : List AggregateFunction) where
  -- a group that holds rows, apart from the others, stands for the rows of its key
  pub held-stands : (gs : List Group) (rows : List SpillRow) → IsDistinct bytes_eq (group_keys gs) → Holds ps gs rows
      → All (λ g. has_rows g ≡ true → GroupStands ps g.first g.states (entries_of (of_key g.key rows))) gs
  held-stands gs rows apart h = All-from_get_or (λ g. has_rows g ≡ true → GroupStands ps g.first g.states (entries_of (of_key g.key rows))) gs no_group (λ i lt has.
      let g = group_of gs i in
      let found : FoundStands ps (if has_rows g then Some g else None) (of_key g.key rows) = rw (held_at-at g.key gs i apart lt refl) at (h.at g.key) in
      subst (λ (b : Bool). FoundStands ps (if b then Some g else None) (of_key g.key rows)) has found)

  -- what has a first place stands for some rows
  pub stands-some : (p : Place) (states : List AggregateFunction) (xs : List SpillRow) → GroupStands ps (Some p) states (entries_of xs) → xs ≡ [] → ⊥
  stands-some p states xs h e =
      let none : Contains [] p = subst (λ (l : List SpillRow). Contains (map (λ e. e.0) (entries_of l)) p) e h.least.within in
      omega (arith, none.1)

-- the key of some rows is one of their types
pub key-of-rows : (keys inputs : List DataType) (k : List ℕ) (rows : List SpillRow) → AreRows keys inputs rows → (of_key k rows ≡ [] → ⊥) → IsKey keys k
key-of-rows keys inputs k [] typed some = absurd (some refl)
key-of-rows keys inputs k (r ∷ rows) typed some = by (bytes_eq k r.key) refl some (key-of-rows keys inputs k rows (All-tail (IsRow keys inputs) r rows typed)) where
  by : (b : Bool) → bytes_eq k r.key ≡ b → (cond b (r ∷ of_key k rows) (of_key k rows) ≡ [] → ⊥) → ((of_key k rows ≡ [] → ⊥) → IsKey keys k) → IsKey keys k
  by true e some next = subst (IsKey keys) (sym ((bytes_eq-Decides k r.key).0 e)) (All-head (IsRow keys inputs) r rows typed).key
  by false e some next = next some

-- ---- what they give

module _ (q : QueryTree) (groupable : IsGroupable q) where
  -- the entries of rows have inputs that fit
  entries-fit : (rows : List SpillRow) → AreRows (shape_of q).key_types (shape_of q).input_types rows → All (λ e. FitsFrom 0 q.schema q.aggs e.1) (entries_of rows)
  entries-fit rows typed =
      All-map (λ e. FitsFrom 0 q.schema q.aggs e.1) (λ (r : SpillRow). (r.place, r.values)) rows
      (All-weaker (IsRow (shape_of q).key_types (shape_of q).input_types) (λ r. FitsFrom 0 q.schema q.aggs r.values) (λ r t. inputs-fit q.schema q.aggs r.values t.inputs.of_types) rows typed)

  -- a group that stands for fewer than 2^32 rows can give its own
  stands-give : (g : Group) (rows : List SpillRow) → AreRows (shape_of q).key_types (shape_of q).input_types rows → length rows < 2 ^ 32 → has_rows g ≡ true
      → GroupStands (shape_of q).prototypes g.first g.states (entries_of (of_key g.key rows)) → CanGive (shape_of q) g
  stands-give g rows typed few has h =
      let s : Shape = shape_of q in
      let p = first-there g has in
      let own : List SpillRow = of_key g.key rows in
      let owned : AreRows s.key_types s.input_types own = All-filter (λ r. bytes_eq g.key r.key) (IsRow s.key_types s.input_types) rows typed in
      record {
        key = key-of-rows s.key_types s.input_types g.key rows typed (stands-some s.prototypes p.0 g.states own (subst (λ (o : Option Place). GroupStands s.prototypes o g.states (entries_of own)) p.1 h));
        kinds = h.kinds;
        fits = group-fits q.schema q.aggs s.prototypes g.states g.first (entries_of own) (aggs-served q.schema q.aggs groupable.aggs) h (entries-fit own owned) (omega (arith, few, few-of_key g.key rows));
      }

  query-gives : (gs : List Group) (rows : List SpillRow) → IsDistinct bytes_eq (group_keys gs) → Holds (shape_of q).prototypes gs rows → AreRows (shape_of q).key_types (shape_of q).input_types rows
      → length rows < 2 ^ 32 → All (CanGive (shape_of q)) (held_groups gs)
  query-gives gs rows apart h typed few =
      let stand = held-stands (shape_of q).prototypes gs rows apart h in
      held-all (CanGive (shape_of q)) gs (λ i d lt has. stands-give (get_or gs i d) rows typed few has (stand i d lt has))

-- each group that holds rows, of a shape and fewer than 2^32, can give its own
pub can-give : (s : Shape) (gs : List Group) → IsShape s → IsDistinct bytes_eq (group_keys gs) → HoldFewer s gs 0 → All (CanGive s) (held_groups gs)
can-give s gs shape apart h =
    let P : Shape → Type 0 = λ x. HoldFewer x gs 0 → All (CanGive x) (held_groups gs) in
    subst P (sym shape.of_query) (λ f. query-gives shape.query shape.groupable gs f.rows apart f.holds f.typed (let few : length f.rows + 0 < 2 ^ 32 = f.few in omega (arith, few))) h
