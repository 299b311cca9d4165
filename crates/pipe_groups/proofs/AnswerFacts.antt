-- What groups that hold the rows of a query give, in their order, are the rows of its answer.
use Rattle.std.proofs.Common.{◌≡◌, ◌∙◌, ℕ, ◌%◌, false, List, [], ◌∷◌, ◌++◌, map, drop, Option, Some, None, option_map, unwrap_or, refl, sym, ap, subst}
use Rattle.std.specs.List.{All, AllZip, IsDistinct}
use Rattle.std.specs.Str.{bytes_eq}
use Rattle.std.specs.declared.cmp.Ordering.{Ordering}
use Rattle.std.specs.Ordering.{nat_cmp, ordering_then}
use Rattle.std.proofs.Math.Nat.{mod-one}
use Rattle.std.proofs.lemmas.List.{drop-map, take-map}
use Rattle.std.proofs.lemmas.List.Elements.{All-drop, All-head, All-map, All-tail, All-take, All-weaker}
use Rattle.std.proofs.lemmas.Simd.{map-map}
use Rattle.pipe_columns.specs.declared.any_value.AnyValue.{AnyValue}
use Rattle.pipe_columns.specs.declared.data_type.DataType.{DataType}
use Rattle.pipe_columns.specs.declared.place.Place.{Place}
use Rattle.pipe_columns.specs.Frame.{frame_of, FrameData}
use Rattle.pipe_columns.specs.Groups.{sorted_keys}
use Rattle.pipe_columns.specs.Key.{code, fold_bytes}
use Rattle.pipe_columns.specs.Place.{first_entry}
use Rattle.pipe_columns.specs.Row.{Row}
use Rattle.pipe_columns.specs.Slice.{sliced}
use Rattle.pipe_columns.proofs.AscendingFacts.{sorted-holds}
use Rattle.pipe_columns.proofs.ElementFacts.{all_at, all_has, Has}
use Rattle.pipe_aggs.specs.HashAggs.{prototypes}
use Rattle.pipe_inputs.specs.RowTypes.{IsRowOf}
use Rattle.pipe_model.specs.Answer.{aggs_from, answer_of, answer_row, groups, partition_cmp, rows_at, tuple_cmp}
use Rattle.pipe_model.specs.Groupable.{IsGroupable}
use Rattle.pipe_model.specs.Output.{key_types, output_schema}
use Rattle.pipe_model.specs.Query.{QueryTree}
use Rattle.pipe_model.specs.Rows.{HaveDistinctPlaces}
use Rattle.pipe_model.proofs.KeyFacts.{has_entry}
use Rattle.pipe_model.proofs.RowFacts.{rows_at-distinct}
use Rattle.pipe_running.specs.GroupStates.{given_all, GroupStands}
use Rattle.pipe_running.proofs.GroupStateFacts.{group-first, group-gives}
use Rattle.pipe_spill.specs.KeyTypes.{AreOfTypes}
use Rattle.pipe_spill.specs.SpillRow.{spilled}
use Rattle.pipe_spill.specs.declared.spill_row.SpillRow.{SpillRow}
use Rattle.pipe_spill.proofs.CodeOrder.{codes_injective}
use Rattle.pipe_groups.specs.Given.{in_order, IsFrameOfGroups, IsRowOfGroup, key_cmp}
use Rattle.pipe_groups.specs.Groups.{Group, held_at, group_keys, no_group}
use Rattle.pipe_groups.specs.Holds.{entries_of, FoundStands, Holds, of_key}
use Rattle.pipe_groups.specs.QueryRows.{HoldRowsOf}
use Rattle.pipe_groups.specs.Shape.{shape_of}
use Rattle.pipe_groups.proofs.CodedFacts.{sorted-codes, spilled-at}
use Rattle.pipe_groups.proofs.KeyFacts.{found-is, sorted-held}
use Rattle.pipe_groups.proofs.ShapeFacts.{aggs-served}

-- ---- slices

-- a slice of images
pub sliced-map : {X Y : Type 0} (f : X → Y) (slice : Option (ℕ × ℕ)) (xs : List X) → sliced slice (map f xs) ≡ map f (sliced slice xs)
sliced-map f None xs = refl
sliced-map f (Some s) xs = rw (drop-map, take-map) refl

-- what holds of each holds of those that a slice keeps
pub sliced-holds : {X : Type 0} (P : X → Type 0) (slice : Option (ℕ × ℕ)) (xs : List X) → All P xs → All P (sliced slice xs)
sliced-holds P None xs h = h
sliced-holds P (Some s) xs h = All-take P s.1 (drop s.0 xs) (All-drop P s.0 xs h)

-- ---- the keys of a query's rows

-- the keys of rows, in order
abbrev pub tuples_of : List Row → List (List AnyValue)
tuples_of rs = map (λ r. r.key) rs

-- a group is that of a key of some rows: it has its code, and stands for its rows
pub record IsGroupAt (q : QueryTree) (rs : List Row) (k : List AnyValue) (g : Group) : Type 0 where
  pub key : g.key ≡ code (key_types q) k
  pub stands : GroupStands (prototypes q) g.first g.states (rows_at rs k)

module _ (q : QueryTree) (groupable : IsGroupable q) (rs : List Row) (typed : All (IsRowOf q) rs) (gs : List Group) (apart : IsDistinct bytes_eq (group_keys gs))
    (holds : Holds (prototypes q) gs (map (spilled (key_types q)) rs)) where
  abbrev types : List DataType
  types = key_types q

  abbrev sorted : List (List AnyValue)
  sorted = sorted_keys tuple_cmp (tuples_of rs)

  rows-typed : All (λ r. AreOfTypes types r.key) rs
  rows-typed = All-weaker (IsRowOf q) (λ r. AreOfTypes types r.key) (λ r t. t.key.fit) rs typed

  keys-typed : All (AreOfTypes types) (tuples_of rs)
  keys-typed = All-map (AreOfTypes types) (λ (r : Row). r.key) rs rows-typed

  -- what is held of a key's code is a group of the key
  abbrev pub group_at : List AnyValue → Group
  group_at k = unwrap_or (held_at (code types k) gs) no_group

  pub group-at : (k : List AnyValue) → Has k (tuples_of rs) → IsGroupAt q rs k (group_at k)
  group-at k m =
      let own : AreOfTypes types k = all_at (AreOfTypes types) (tuples_of rs) k keys-typed m in
      let entries : entries_of (of_key (code types k) (map (spilled types) rs)) ≡ rows_at rs k = spilled-at types rs k own rows-typed in
      by (held_at (code types k) gs) refl (holds.at (code types k)) entries
    where
      by : (o : Option Group) → held_at (code types k) gs ≡ o → FoundStands (prototypes q) o (of_key (code types k) (map (spilled types) rs))
          → entries_of (of_key (code types k) (map (spilled types) rs)) ≡ rows_at rs k → IsGroupAt q rs k (unwrap_or o no_group)
      by None e h entries =
          let none : rows_at rs k ≡ [] = sym entries ∙ ap entries_of h in
          let some = has_entry rs k m in
          let both : None ≡ Some some.0 = sym (ap (λ (es : List (Place × List AnyValue)). first_entry es) none) ∙ some.1 in
          cc
      by (Some g) e h entries = record { key = (found-is (code types k) gs g e).key; stands = subst (GroupStands (prototypes q) g.first g.states) entries h }

  -- the groups in order are those of the keys in order
  pub order-is : in_order gs ≡ map group_at sorted
  order-is =
      let at : List ℕ → Group = λ c. unwrap_or (held_at c gs) no_group in
      ap (map at) (sorted-held (prototypes q) gs (map (spilled types) rs) holds apart ∙ ap (sorted_keys key_cmp) (map-map (λ (r : SpillRow). r.key) (spilled types) rs ∙ sym (map-map (code types) (λ (r : Row). r.key) rs))
      ∙ sorted-codes types (tuples_of rs) keys-typed)
      ∙ map-map at (code types) sorted

  -- each of these keys is one of the rows
  sorted-there : All (λ k. Has k (tuples_of rs)) sorted
  sorted-there = sorted-holds (λ k. Has k (tuples_of rs)) tuple_cmp (tuples_of rs) (all_has (tuples_of rs))

  -- ---- rows

  module _ (distinct : HaveDistinctPlaces rs) where
    -- the row of a key's group is that of the answer
    row-is : (k : List AnyValue) (g : Group) (row : List AnyValue) → AreOfTypes types k → IsGroupAt q rs k g → IsRowOfGroup (shape_of q) g row → row ≡ answer_row q rs k
    row-is k g row own at given =
        let key : given.key ≡ k = codes_injective types given.key k given.tuple.of_types own (given.code_is ∙ at.key) in
        let aggs : given_all g.states ≡ aggs_from 0 q.schema q.aggs (rows_at rs k) =
        group-gives q.schema q.aggs (prototypes q) g.states g.first (rows_at rs k) (aggs-served q.schema q.aggs groupable.aggs) at.stands (rows_at-distinct rs k distinct) in
        given.row_is ∙ ap (λ (x : List AnyValue). x ++ given_all g.states) key ∙ ap (λ (x : List AnyValue). k ++ x) aggs

    pub rows-are : (ks : List (List AnyValue)) (rows : List (List AnyValue)) → All (λ k. Has k (tuples_of rs)) ks → AllZip (λ g row. IsRowOfGroup (shape_of q) g row) (map group_at ks) rows
        → rows ≡ map (answer_row q rs) ks
    rows-are [] [] h z = refl
    rows-are [] (row ∷ rows) h z = absurd z
    rows-are (k ∷ ks) [] h z = absurd z
    rows-are (k ∷ ks) (row ∷ rows) h z =
        let m : Has k (tuples_of rs) = All-head (λ x. Has x (tuples_of rs)) k ks h in
        let here : row ≡ answer_row q rs k = row-is k (group_at k) row (all_at (AreOfTypes types) (tuples_of rs) k keys-typed m) (group-at k m) z.0 in
        ap (λ (x : List AnyValue). x ∷ rows) here ∙ ap (λ (l : List (List AnyValue)). answer_row q rs k ∷ l) (rows-are ks rows (All-tail (λ x. Has x (tuples_of rs)) k ks h) z.1)

    -- so a frame of the groups has the rows of the answer
    pub frame-answers : (slice : Option (ℕ × ℕ)) (f : FrameData) → IsFrameOfGroups (shape_of q) (sliced slice (in_order gs)) f
        → f ≡ frame_of (output_schema q) (map (answer_row q rs) (sliced slice sorted))
    frame-answers slice f is =
        let same : sliced slice (in_order gs) ≡ map group_at (sliced slice sorted) = ap (sliced slice) order-is ∙ sliced-map group_at slice sorted in
        let each : AllZip (λ g row. IsRowOfGroup (shape_of q) g row) (map group_at (sliced slice sorted)) is.rows =
        subst (λ (l : List Group). AllZip (λ g row. IsRowOfGroup (shape_of q) g row) l is.rows) same is.each in
        is.frame_is ∙ ap (frame_of (output_schema q)) (rows-are (sliced slice sorted) is.rows (sliced-holds (λ k. Has k (tuples_of rs)) slice sorted sorted-there) each)

  -- ---- places

  -- the places of the groups are those of the keys' first rows
  firsts-are : (ks : List (List AnyValue)) → All (λ k. Has k (tuples_of rs)) ks → map (λ g. g.first) (map group_at ks) ≡ map (λ k. option_map (λ e. e.0) (first_entry (rows_at rs k))) ks
  firsts-are [] h = refl
  firsts-are (k ∷ ks) h =
      let at = group-at k (All-head (λ x. Has x (tuples_of rs)) k ks h) in
      let first = group-first (prototypes q) (group_at k).states (group_at k).first (rows_at rs k) at.stands in
      let rest = firsts-are ks (All-tail (λ x. Has x (tuples_of rs)) k ks h) in
      λ i. first i ∷ rest i

  pub firsts-of : map (λ g. g.first) (in_order gs) ≡ map (λ k. option_map (λ e. e.0) (first_entry (rows_at rs k))) sorted
  firsts-of = ap (λ (l : List Group). map (λ g. g.first) l) order-is ∙ firsts-are sorted sorted-there

-- ---- without kept order

equal_partitions : (m n : ℕ) (o : Ordering) → ordering_then (nat_cmp (m % 1) (n % 1)) o ≡ o
equal_partitions m n o = rw (mod-one m, mod-one n) refl

order_is : (q : QueryTree) (a b : List AnyValue) → partition_cmp 1 (key_types q) a b ≡ tuple_cmp a b
order_is q a b = equal_partitions (fold_bytes (code (key_types q) a)) (fold_bytes (code (key_types q) b)) (tuple_cmp a b)

-- with one partition and no kept order, groups come in the order of their keys
pub groups_by_key : (q : QueryTree) (rs : List Row) → q.keeps_order ≡ false → groups rs q 1 ≡ sorted_keys tuple_cmp (tuples_of rs)
groups_by_key q rs e = rw e (ap (λ (o : List AnyValue → List AnyValue → Ordering). sorted_keys o (tuples_of rs)) (λ i a b. order_is q a b i))

-- ---- by the record of premises

-- a frame of the groups that a slice keeps has their rows of the answer
pub held-answer : (q : QueryTree) (rs : List Row) (gs : List Group) (slice : Option (ℕ × ℕ)) (f : FrameData) → HoldRowsOf q gs rs → HaveDistinctPlaces rs
    → IsFrameOfGroups (shape_of q) (sliced slice (in_order gs)) f → f ≡ frame_of (output_schema q) (map (answer_row q rs) (sliced slice (sorted_keys tuple_cmp (tuples_of rs))))
held-answer q rs gs slice f h distinct is = frame-answers q h.groupable rs h.typed gs h.apart h.holds distinct slice f is

-- under the query's slice it is the whole answer, where no order is kept
pub held-whole : (q : QueryTree) (rs : List Row) (gs : List Group) (f : FrameData) → HoldRowsOf q gs rs → HaveDistinctPlaces rs → q.keeps_order ≡ false
    → IsFrameOfGroups (shape_of q) (sliced q.slice (in_order gs)) f → f ≡ answer_of rs q 1
held-whole q rs gs f h distinct unordered is =
    held-answer q rs gs q.slice f h distinct is
    ∙ ap (λ (ks : List (List AnyValue)). frame_of (output_schema q) (map (answer_row q rs) (sliced q.slice ks))) (sym (groups_by_key q rs unordered))

-- and the least places of the groups are those of their keys' rows
pub held-firsts : (q : QueryTree) (rs : List Row) (gs : List Group) → HoldRowsOf q gs rs
    → map (λ g. g.first) (in_order gs) ≡ map (λ k. option_map (λ e. e.0) (first_entry (rows_at rs k))) (sorted_keys tuple_cmp (tuples_of rs))
held-firsts q rs gs h = firsts-of q h.groupable rs h.typed gs h.apart h.holds
