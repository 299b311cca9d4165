-- States that are added one by one to groups by kept keys, and what these come to.
use Rattle.std.proofs.Common.{◌≡◌, ◌∙◌, ℕ, ◌+◌, ◌<◌, ◌^◌, ◌↔◌, Bool, true, false, not, is_some, Result, Ok, Err, List, [], ◌∷◌, ◌++◌, map, All, IsErrOf, refl, sym, ap, subst, arith}
use Rattle.std.specs.List.{IsDistinct}
use Rattle.std.specs.Ordering.{eq_by_cmp}
use Rattle.std.proofs.lemmas.Bool.{and_parts, false≢true}
use Rattle.std.proofs.lemmas.List.Elements.{All-cons, All-head, All-nil, All-push, All-tail}
use mathlib.Core.List.{map-map}
use Rattle.pipe_columns.specs.declared.schema.Field.{Field}
use Rattle.pipe_columns.specs.Frame.{frame_of}
use Rattle.pipe_model.specs.Answer.{tuple_cmp}
use Rattle.pipe_model.specs.Groupable.{IsGroupable}
use Rattle.pipe_model.specs.Output.{output_schema}
use Rattle.pipe_model.specs.Query.{QueryTree}
use Rattle.pipe_spill.specs.KeyTypes.{IsTuple}
use Rattle.pipe_states.specs.Fair.{IsRowOf, IsStateOf}
use Rattle.pipe_states.specs.Regrouped.{kept, regrouped, regrouped_rows, rows_of_states, with_keys}
use Rattle.pipe_states.specs.States.{StateSeen}
use Rattle.pipe_states.specs.Together.{AreKept, IsFirstOverlap, NoneOverlap, total_rows}
use Rattle.pipe_states.specs.declared.state_row.StateRow.{StateRow}
use Rattle.pipe_states.proofs.GivenStates.{regrouped-states-of}
use Rattle.pipe_regroup.specs.declared.coverage.Coverage.{Coverage}
use Rattle.pipe_regroup.specs.declared.group.Group.{Group}
use Rattle.pipe_regroup.specs.declared.regroup_error.RegroupError.{RegroupError}
use Rattle.pipe_regroup.specs.declared.regroup_error.RegroupError.TheVariants as fault
use Rattle.pipe_regroup.specs.declared.row_groups.RowGroups.{RowGroups}
use Rattle.pipe_regroup.specs.Added.{AreTooLarge, CanRegroup, IsRegrouping}
use Rattle.pipe_regroup.specs.Covered.{is_sound, IsCoverageOf}
use Rattle.pipe_regroup.specs.Frames.{AreRowsOf, values_of}
use Rattle.pipe_regroup.specs.Groups.{AreInOrder, count_rows, group_row, groups_of, HasAdded, IsJoinable, with_rows}
use Rattle.pipe_regroup.specs.Regrouping.{AreGroupsBy}
use Rattle.pipe_regroup.proofs.CoverFacts.{first-sole, held-few, none-first, told-none}
use Rattle.pipe_regroup.proofs.FieldFacts.{row-tuple}
use Rattle.pipe_regroup.proofs.QueryGroups.{AreOfStates, count-of, in-order, of-more, rows-joinable, total-more, tuples-differ}

-- ---- none yet

pub begun : (q : QueryTree) (keep : List ℕ) (fields : List Field) (groups : RowGroups) (c : Coverage) → IsGroupable q → AreKept q keep → fields ≡ output_schema (with_keys q keep)
    → AreGroupsBy q keep groups → groups_of groups ≡ [] → IsCoverageOf [] c → IsRegrouping q [] fields groups c
begun q keep fields groups c g k f by none covered = record {
  groupable = g;
  kept = subst (AreKept q) (sym by.kept) k;
  of_query = All-nil (IsStateOf q);
  columns = f ∙ ap (λ (ks : List ℕ). output_schema (with_keys q ks)) (sym by.kept);
  covered = covered;
  by = subst (λ (ks : List ℕ). AreGroupsBy q ks groups) (sym by.kept) by;
  joined = λ s. none;
}

-- what forbids nothing
pub sound-parts : (c : Coverage) → is_sound c ≡ true → (is_some c.overlap ≡ false) × (is_some c.rows ≡ true)
sound-parts c h =
    let parts = and_parts (not (is_some c.overlap)) (is_some c.rows) h in
    (turned (is_some c.overlap) parts.0, parts.1)
  where
    turned : (b : Bool) → not b ≡ true → b ≡ false
    turned true e = cc
    turned false e = refl

-- so few rows are there
pub sound-few : (states : List StateSeen) (c : Coverage) → IsCoverageOf states c → is_sound c ≡ true → total_rows states < 2 ^ 32
sound-few states c covered h = held-few (total_rows states) (sym (ap is_some covered.rows) ∙ (sound-parts c h).1)

-- ---- one more

module _ (q : QueryTree) (states : List StateSeen) (s : StateSeen) (fields : List Field) (groups : RowGroups) (old new : Coverage) (r : IsRegrouping q states fields groups old) (h : IsStateOf q s)
    (covered : IsCoverageOf (states ++ s ∷ []) new) where
  -- where something forbids to regroup
  pub on-forbidden : is_sound new ≡ false → IsRegrouping q (states ++ s ∷ []) fields groups new
  on-forbidden f = record {
    groupable = r.groupable;
    kept = r.kept;
    of_query = All-push (IsStateOf q) states s r.of_query h;
    columns = r.columns;
    covered = covered;
    by = r.by;
    joined = λ e. absurd (false≢true (sym f ∙ e));
  }

  module _ (sound : is_sound new ≡ true) (before : is_sound new ≡ true → is_sound old ≡ true) where
    -- else the groups are those of the states before
    of-before : AreOfStates q groups.keep.items states groups
    of-before = record { by = r.by; groups_are = r.joined (before sound) }

    -- its rows are few enough to join them
    pub on-few : (rows : List StateRow) → rows ≡ s.rows → count_rows (groups_of groups) + count_rows rows < 2 ^ 32
    on-few rows is =
        let all = sound-few (states ++ s ∷ []) new covered sound in
        let more = total-more states s in
        let count = count-of q groups.keep.items states groups of-before in
        let same = ap count_rows is in
        omega (arith, all, more, count, same)

    -- and can
    pub on-joinable : (rows : List StateRow) → rows ≡ s.rows → All (IsJoinable groups.keep.items groups.types.items groups.rules.items) rows
    on-joinable rows is =
        rows-joinable q r.groupable groups.keep.items r.kept.keys groups r.by rows (subst (All (IsRowOf q)) (sym is) h)

    -- they have joined
    pub on-joined : (more : RowGroups) (rows : List StateRow) → rows ≡ s.rows → HasAdded groups more rows → IsRegrouping q (states ++ s ∷ []) fields more new
    on-joined more rows is added =
        let keep : groups.keep.items ≡ more.keep.items = ap (λ v. v.items) (sym added.keep) in
        let are : AreOfStates q groups.keep.items (states ++ s ∷ []) more =
        of-more q groups.keep.items states s groups more of-before (subst (HasAdded groups more) is added) in
        record {
          groupable = r.groupable;
          kept = subst (AreKept q) keep r.kept;
          of_query = All-push (IsStateOf q) states s r.of_query h;
          columns = r.columns ∙ ap (λ (ks : List ℕ). output_schema (with_keys q ks)) keep;
          covered = covered;
          by = subst (λ (ks : List ℕ). AreGroupsBy q ks more) keep are.by;
          joined = λ e. are.groups_are ∙ ap (λ (ks : List ℕ). with_rows ks more.rules.items [] (rows_of_states (states ++ s ∷ []))) keep;
        }

-- ---- in the end

module _ (q : QueryTree) (states : List StateSeen) (fields : List Field) (groups : RowGroups) (c : Coverage) (r : IsRegrouping q states fields groups c) (sound : is_sound c ≡ true) where
  of-all : AreOfStates q groups.keep.items states groups
  of-all = record { by = r.by; groups_are = r.joined sound }

  few : total_rows states < 2 ^ 32
  few = sound-few states c r.covered sound

  pub tuples-apart : IsDistinct (eq_by_cmp tuple_cmp) (map (λ s. s.key) (groups_of groups))
  tuples-apart = tuples-differ q r.groupable groups.keep.items states r.of_query few groups of-all

  module _ (sorted : List Group) (o : AreInOrder (groups_of groups) (map group_row sorted)) where
    are-regrouped : map group_row sorted ≡ regrouped_rows q (kept groups.keep.items) (rows_of_states states)
    are-regrouped = in-order q r.groupable groups.keep.items states r.of_query few groups of-all (map group_row sorted) o

    -- the rows of the groups are of the types of the columns
    pub rows-typed : AreRowsOf fields sorted
    rows-typed =
        subst (λ (fs : List Field). AreRowsOf fs sorted) (sym r.columns)
        (each sorted (subst (All (IsRowOf (with_keys q groups.keep.items))) (sym are-regrouped) (regrouped-states-of q states groups.keep.items r.kept.keys r.of_query few)))
      where
        each : (gs : List Group) → All (IsRowOf (with_keys q groups.keep.items)) (map group_row gs) → AreRowsOf (output_schema (with_keys q groups.keep.items)) gs
        each [] a = All-nil (λ (g : Group). IsTuple (map (λ f. f.dtype) (output_schema (with_keys q groups.keep.items))) (values_of g))
        each (g ∷ gs) a =
            All-cons (λ (g : Group). IsTuple (map (λ f. f.dtype) (output_schema (with_keys q groups.keep.items))) (values_of g)) g gs
            (row-tuple (with_keys q groups.keep.items) (group_row g) (All-head (IsRowOf (with_keys q groups.keep.items)) (group_row g) (map group_row gs) a))
            (each gs (All-tail (IsRowOf (with_keys q groups.keep.items)) (group_row g) (map group_row gs) a))

    -- their frame is that of the states regrouped
    pub frame-is : frame_of fields (map values_of sorted) ≡ regrouped q states groups.keep.items
    frame-is =
        (λ i. frame_of (r.columns i) (sym (map-map (λ (s : StateRow). s.key ++ s.results) group_row sorted) i))
        ∙ ap (λ (rows : List StateRow). frame_of (output_schema (with_keys q groups.keep.items)) (map (λ s. s.key ++ s.results) rows)) are-regrouped

-- ---- what is told

module _ (states : List StateSeen) where
  -- the state that is named
  abbrev file_or : {X : Type 0} → ℕ → Result X RegroupError → ℕ
  file_or d (Ok x) = d
  file_or d (Err (fault.Overlap i)) = i
  file_or d (Err fault.TooLarge) = d
  file_or d (Err fault.Memory) = d

  -- it is the first that overlaps
  pub overlap-told : {X : Type 0} (file i : ℕ) (r : Result X RegroupError) → r ≡ Err (fault.Overlap file) → IsFirstOverlap states file → (r ≡ Err (fault.Overlap i)) ↔ IsFirstOverlap states i
  overlap-told file i r is f = (
    λ e. subst (IsFirstOverlap states) (ap (file_or file) (sym is ∙ e)) f,
    λ g. is ∙ ap (λ (n : ℕ). Err (fault.Overlap n)) (first-sole states file i f g),
  )

  -- and no other fault is told
  pub overlap-alone : {X : Type 0} (file : ℕ) (r : Result X RegroupError) → (IsErrOf r fault.TooLarge → ⊥) → IsFirstOverlap states file → IsErrOf r fault.TooLarge ↔ AreTooLarge states
  overlap-alone file r not f = (λ e. absurd (not e), λ l. absurd (none-first states file l.apart f))

  -- where none overlaps
  pub none-told : {X : Type 0} (i : ℕ) (r : Result X RegroupError) → (r ≡ Err (fault.Overlap i) → ⊥) → NoneOverlap states → (r ≡ Err (fault.Overlap i)) ↔ IsFirstOverlap states i
  none-told i r not none = (λ e. absurd (not e), λ f. absurd (none-first states i none f))

  module _ (c : Coverage) (covered : IsCoverageOf states c) where
    -- they can be regrouped
    pub sound-can : is_sound c ≡ true → CanRegroup states
    sound-can sound = record { apart = (told-none states c.ranges c.overlap (sound-parts c sound).0 covered.overlap).0; few = sound-few states c covered sound }

-- a fault that is handed on
pub same-fault : {X Y : Type 0} {P : Type 0} (x e : RegroupError) (r : Result X RegroupError) (s : Result Y RegroupError) → r ≡ Err x → s ≡ Err x → (r ≡ Err e) ↔ P → (s ≡ Err e) ↔ P
same-fault x e r s is was same = (λ h. same.0 (is ∙ ap Err (own s was h)), λ p. was ∙ ap Err (own r is (same.1 p))) where
  own : {Z : Type 0} (t : Result Z RegroupError) → t ≡ Err x → t ≡ Err e → x ≡ e
  own t f g = cc (sym f ∙ g)
