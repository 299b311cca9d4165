-- Partitions that are finished side by side: a local table is cut for them, each gives its groups, and all of them are the answer.
use Rattle.std.proofs.Common.{◌≡◌, ◌≢◌, ◌∙◌, ◌+◌, ◌%◌, ◌<◌, ◌==◌, ℕ, Bool, true, false, not, List, [], ◌∷◌, ◌++◌, length, map, refl, sym, ap, subst, append_assoc, arith, cond, ◌-◌, Option, None, Some, ◌⊎◌, inl, inr, zero, suc, length-append}
use Rattle.std.specs.Prelude.{IfErr, Err, if◌then◌else◌, nat_lt, Ok, Result}
use Rattle.std.specs.Option.{option_or}
use Rattle.std.specs.List.{All, Contains, filter, slice_index_or}
use Rattle.std.proofs.lemmas.Bool.{cases_eq, eq-eqb, eqb-true, false≢true, le-ltb, lt-ltb, ltb-false, ltb-true, ne_eqb}
use Rattle.std.proofs.lemmas.List.{get_or_append_left, get_or_default, get_or-append_right, get_or-map, length-map, map-append}
use Rattle.std.proofs.lemmas.List.Elements.{All-filter, All-nil}
use Rattle.std.proofs.lemmas.Result.{IfErr-weaker}
use Rattle.pipe_columns.specs.Causes.{Rose}
use Rattle.pipe_columns.specs.declared.schema.Field.{Field}
use Rattle.pipe_columns.specs.Frame.{AllHaveHeight, frame_of, FrameData}
use Rattle.pipe_columns.specs.Key.{fold_bytes}
use Rattle.pipe_columns.specs.Row.{Row}
use Rattle.pipe_aggs.specs.QueryTrees.{query_tree}
use Rattle.pipe_inputs.specs.RowTypes.{IsRowOf}
use Rattle.pipe_model.specs.Answer.{answer_of, answer_row, groups}
use Rattle.pipe_model.specs.Groupable.{IsGroupable}
use Rattle.pipe_model.specs.Output.{output_schema}
use Rattle.pipe_model.specs.Partitions.{groups_in}
use Rattle.pipe_model.specs.Query.{QueryTree}
use Rattle.pipe_model.specs.Rows.{HaveDistinctPlaces}
use Rattle.pipe_model.proofs.PartitionFacts.{groups-joined}
use Rattle.pipe_running.specs.declared.function.AggregateFunction.{AggregateFunction}
use Rattle.pipe_spill.specs.SpillRow.{AreRows, IsRow}
use Rattle.pipe_spill.specs.declared.spill_row.SpillRow.{SpillRow}
use Rattle.pipe_groups.specs.declared.placed_groups.PlacedGroups.{PlacedGroups}
use Rattle.pipe_groups.specs.Groups.{AreJoined, Group, held_at}
use Rattle.pipe_groups.specs.Holds.{HoldFewer, Holds}
use Rattle.pipe_groups.specs.QueryRows.{ArePlacedRows}
use Rattle.pipe_groups.specs.Shape.{Shape, shape_of}
use Rattle.pipe_groups.proofs.HoldFacts.{held_at-passing, holds-joined, holds-none, holds-part}
use Rattle.pipe_keyed.specs.Tables.{HoldFewTogether, Table}
use Rattle.pipe_tables.specs.Tables.{lies_in}
use Rattle.pipe_global.specs.declared.batch_error.BatchError.{BatchError}
use Rattle.pipe_global.specs.declared.batch_error.BatchError.TheVariants as batch_error
use Rattle.pipe_global.specs.declared.mark.Mark.{Mark}
use Rattle.pipe_global.specs.Finishing.{CanFinish, GivesPlaced, IsCause, KeepsRest, own_rows, StandFor}
use Rattle.pipe_global.specs.Partition.{PartitionSeen}
use Rattle.pipe_global.proofs.RunFacts.{length-kept}
use Rattle.pipe_asked.specs.Left.{AreSamePartitions, CountOn}
use Rattle.pipe_asked.specs.Given.{frame_of_keys, HasRows, IsAt, IsSource, SourceSeen, StandsForPart}
use Rattle.pipe_asked.specs.Sources.{ArePlacedParts, IsGiveCause, IsPlacedFrame}
use Rattle.pipe_asked.specs.Stacking.{all_frames, IsPlacedWhole}
use Rattle.pipe_asked.specs.Tasks.{AreKept, CanBeKept, GaveKept, GaveOrRefused, IsFirstRefusal, IsPartOf, WasFinished}
use Rattle.pipe_asked.specs.Wholes.{IsAnswerWhole}
use Rattle.pipe_asked.proofs.ByPlace.{all-frames, placed-all}
use Rattle.pipe_asked.proofs.ChunkFacts.{own-placed, part-gives}
use Rattle.pipe_asked.proofs.Lists.{Chosen, list-of, same-lists}
use Rattle.pipe_asked.proofs.SourceFacts.{fewer}

-- ---- a local table is cut

-- the groups of a partition
abbrev part_of : ℕ → ℕ → List Group → List Group
part_of partitions p gs = filter (λ g. lies_in partitions p g.key) gs

-- whether a key lies in one of the partitions from p on
abbrev pub from_on : ℕ → ℕ → List ℕ → Bool
from_on partitions p k = not (nat_lt (fold_bytes k % partitions) p)

-- at first all of them do
pub all-on : (partitions : ℕ) (k : List ℕ) (o : Option Group) → o ≡ (if from_on partitions 0 k then o else None)
all-on partitions k o = rw (le-ltb (fold_bytes k % partitions) 0 (omega arith)) refl

-- but for those of one partition, those that do from the next on
next-on : (x p : ℕ) (o : Option Group) → (if x == p then None else (if not (nat_lt x p) then o else None)) ≡ (if not (nat_lt x (p + 1)) then o else None)
next-on x p o = by (cases_eq x p) where
  by : (x ≡ p) ⊎ (x ≢ p) → (if x == p then None else (if not (nat_lt x p) then o else None)) ≡ (if not (nat_lt x (p + 1)) then o else None)
  by (inl e) = rw (eq-eqb x p e, lt-ltb x (p + 1) (omega (arith, e))) refl
  by (inr apart) = rw (ne_eqb x p apart) (side (nat_lt x p) refl) where
    side : (b : Bool) → nat_lt x p ≡ b → (if not (nat_lt x p) then o else None) ≡ (if not (nat_lt x (p + 1)) then o else None)
    side true e = rw (e, lt-ltb x (p + 1) (omega (arith, ltb-true x p e))) refl
    side false e = rw (e, le-ltb x (p + 1) (omega (arith, apart, ltb-false x p e))) refl

-- what passes one test, and then another that it has to pass too
filter-twice : {A : Type 0} (test wide : A → Bool) → ((x : A) → test x ≡ true → wide x ≡ true) → (xs : List A) → filter test (filter wide xs) ≡ filter test xs
filter-twice test wide within [] = refl
filter-twice {A = A} test wide within (x ∷ xs) = by (test x) (wide x) refl refl (filter-twice test wide within xs) where
  by : (a b : Bool) → test x ≡ a → wide x ≡ b → filter test (filter wide xs) ≡ filter test xs
      → filter test (cond b (x ∷ filter wide xs) (filter wide xs)) ≡ cond a (x ∷ filter test xs) (filter test xs)
  by true true here there rest = ap (λ (b : Bool). cond b (x ∷ filter test (filter wide xs)) (filter test (filter wide xs))) here ∙ ap (λ (l : List A). x ∷ l) rest
  by true false here there rest = absurd (false≢true (sym there ∙ within x here))
  by false true here there rest = ap (λ (b : Bool). cond b (x ∷ filter test (filter wide xs)) (filter test (filter wide xs))) here ∙ rest
  by false false here there rest = rest

-- a key of a partition is among those from it on
own-on : (partitions p : ℕ) (k : List ℕ) → lies_in partitions p k ≡ true → from_on partitions p k ≡ true
own-on partitions p k lies = rw (le-ltb (fold_bytes k % partitions) p (omega (arith, eqb-true (fold_bytes k % partitions) p lies))) refl

module _ (partitions p : ℕ) (local now : Table) (left : (k : List ℕ) → held_at k now.groups ≡ (if from_on partitions p k then held_at k local.groups else None)) where
  -- what is left then
  pub left-next : (rest : Table) → ((k : List ℕ) → held_at k rest.groups ≡ (if lies_in partitions p k then None else held_at k now.groups))
      → (k : List ℕ) → held_at k rest.groups ≡ (if from_on partitions (p + 1) k then held_at k local.groups else None)
  left-next rest is k =
      is k
      ∙ ap (λ (o : Option Group). if lies_in partitions p k then None else o) (left k)
      ∙ next-on (fold_bytes k % partitions) p (held_at k local.groups)

  -- tables that hold few rows
  pub cut-few : (fresh : Table) → fresh.groups ≡ [] → fresh.shape ≡ now.shape → now.shape ≡ local.shape → HoldFewer local.shape local.groups 0 → HoldFewTogether fresh now
  cut-few fresh none shape same few =
      let rest : List SpillRow = filter (λ r. from_on partitions p r.key) few.rows in
      let is : fresh.shape ≡ local.shape = shape ∙ same in
      record {
        rows = [];
        others = rest;
        holds = rw none (holds-none fresh.shape.prototypes);
        other_holds = subst (λ (s : Shape). Holds s.prototypes now.groups rest) (sym is) (holds-part (from_on partitions p) local.shape.prototypes local.groups now.groups few.rows left few.holds);
        typed = All-nil (IsRow fresh.shape.key_types fresh.shape.input_types);
        others_typed = subst (λ (s : Shape). AreRows s.key_types s.input_types rest) (sym is) (All-filter (λ r. from_on partitions p r.key) (IsRow local.shape.key_types local.shape.input_types) few.rows few.typed);
        few = omega (arith, few.few, length-kept (λ r. from_on partitions p r.key) few.rows);
      }

  -- and what was taken is the part
  pub part-taken : (fresh part : Table) → fresh.groups ≡ [] → fresh.shape ≡ now.shape → now.shape ≡ local.shape → part.shape ≡ fresh.shape
      → AreJoined fresh.shape.prototypes fresh.groups (part_of partitions p now.groups) part.groups → IsPartOf partitions p local part
  part-taken fresh part none shape same alike joined = record {
    shape = alike ∙ shape ∙ same;
    holds = λ rows h.
        let ps : List AggregateFunction = local.shape.prototypes in
        let rest : List SpillRow = filter (λ r. from_on partitions p r.key) rows in
        let own : List SpillRow = filter (λ r. lies_in partitions p r.key) rest in
        let part_holds : Holds ps (part_of partitions p now.groups) own =
        holds-part (lies_in partitions p) ps now.groups (part_of partitions p now.groups) rest (λ k. held_at-passing (lies_in partitions p) k now.groups)
        (holds-part (from_on partitions p) ps local.groups now.groups rows left h) in
        let both : AreJoined ps fresh.groups (part_of partitions p now.groups) part.groups = subst (λ (s : Shape). AreJoined s.prototypes fresh.groups (part_of partitions p now.groups) part.groups) (shape ∙ same) joined in
        subst (Holds ps part.groups) (filter-twice (λ (r : SpillRow). lies_in partitions p r.key) (λ (r : SpillRow). from_on partitions p r.key) (λ r. own-on partitions p r.key) rows)
        (holds-joined ps fresh.groups (part_of partitions p now.groups) part.groups [] own both (subst (λ (gs : List Group). Holds ps gs []) (sym none) (holds-none ps)) part_holds).0;
  }

-- one part more
pub parts-more : (partitions n : ℕ) (local : Table) (parts now : List Table) (x : Table) → length parts ≡ n → now ≡ parts ++ x ∷ []
    → ((p : ℕ) (d : Table) → p < n → IsPartOf partitions p local (slice_index_or parts p d)) → IsPartOf partitions n local x
    → (p : ℕ) (d : Table) → p < n + 1 → IsPartOf partitions p local (slice_index_or now p d)
parts-more partitions n local parts now x count is before own p d lt = subst (λ (l : List Table). IsPartOf partitions p local (slice_index_or l p d)) (sym is) (by (cases_eq p n)) where
  by : (p ≡ n) ⊎ (p ≢ n) → IsPartOf partitions p local (slice_index_or (parts ++ x ∷ []) p d)
  by (inl e) =
      subst (IsPartOf partitions p local) (sym (get_or-append_right parts (x ∷ []) n p d count (omega (arith, e)) ∙ ap (λ k. slice_index_or (x ∷ []) k d) {x = p - n} {y = 0} (omega (arith, e))))
      (subst (λ k. IsPartOf partitions k local x) (sym e) own)
  by (inr apart) =
      let less : p < n = omega (arith, lt, apart) in
      subst (IsPartOf partitions p local) (sym (get_or_append_left parts (x ∷ []) d p (omega (arith, less, count)))) (before p d less)

-- ---- a partition and its part

module _ (x : PartitionSeen) (local part : Table) (is : IsPartOf x.partitions x.number local part) where
  -- it can finish with its part
  pub part-finishes : CanFinish x local → CanFinish x part
  part-finishes can = record {
    shape = is.shape ∙ can.shape;
    locals = own_rows x can.locals;
    holds = subst (λ (s : Shape). Holds s.prototypes part.groups (own_rows x can.locals)) can.shape (is.holds can.locals (subst (λ (s : Shape). Holds s.prototypes local.groups can.locals) (sym can.shape) can.holds));
    typed = All-filter (λ r. lies_in x.partitions x.number r.key) (IsRow x.table.shape.key_types x.table.shape.input_types) can.locals can.typed;
    gathers = fewer x (length can.locals) (length (own_rows x can.locals)) (length-kept (λ r. lies_in x.partitions x.number r.key) can.locals) can.gathers;
  }

  -- and gives the rows of the partition
  pub part-placed-rows : (q : QueryTree) (rs : List Row) (locals : List SpillRow) (g : PlacedGroups) → IsGroupable q → All (IsRowOf q) rs → HaveDistinctPlaces rs → x.table.shape ≡ shape_of q → local.shape ≡ x.table.shape
      → Holds (shape_of q).prototypes local.groups locals → (here : StandsForPart q rs locals x)
      → ((rows others : List SpillRow) → StandFor x part rows others → GivesPlaced x.table.shape (rows ++ own_rows x others) g.frame g.firsts)
      → ArePlacedRows q rs (groups_in x.partitions q x.number rs) g.frame g.firsts
  part-placed-rows q rs locals g groupable typed apart shape same holds here gives =
      let own : List SpillRow = own_rows x locals in
      let own_twice : own_rows x own ≡ own = filter-twice (λ (r : SpillRow). lies_in x.partitions x.number r.key) (λ (r : SpillRow). lies_in x.partitions x.number r.key) (λ r e. e) locals in
      let h : Holds local.shape.prototypes local.groups locals = subst (λ (s : Shape). Holds s.prototypes local.groups locals) (sym (same ∙ shape)) holds in
      let given = gives here.rows own (record { stands = here.stands; holds = subst (λ (s : Shape). Holds s.prototypes part.groups own) same (is.holds locals h) }) in
      part-gives q rs locals x g groupable typed apart shape here (subst (λ (l : List SpillRow). GivesPlaced x.table.shape (here.rows ++ l) g.frame g.firsts) own_twice given)

-- ---- tasks are made, and taken apart

-- what was taken of a list, and what is left, are the list
pub moved-on : {A B : Type 0} (g : B → A) (xs now : List B) (x : B) (a : A) (old new all : List A) → old ≡ a ∷ new → now ≡ xs ++ x ∷ [] → g x ≡ a → map g xs ++ old ≡ all → map g now ++ new ≡ all
moved-on {B = B} g xs now x a old new all is more same so_far =
    ap (λ (l : List B). map g l ++ new) more
    ∙ ap (λ l. l ++ new) (map-append g xs (x ∷ []))
    ∙ append_assoc (map g xs) (g x ∷ []) new
    ∙ ap (λ y. map g xs ++ y ∷ new) same
    ∙ ap (λ l. map g xs ++ l) (sym is)
    ∙ so_far

-- what was taken so far: all that was given, or a refusal
abbrev pub HasTaken : {K : Type 0} → Option BatchError → List K → List (Result K BatchError) → List (Result K BatchError) → Type 0
HasTaken None kept left all = map Ok kept ++ left ≡ all
HasTaken (Some e) kept left all = IsFirstRefusal all e

module _ {K : Type 0} where
  -- one more
  pub taken-ok : (refusal : Option BatchError) (kept now : List K) (k : K) (given : Result K BatchError) (old new all : List (Result K BatchError))
      → old ≡ given ∷ new → given ≡ Ok k → now ≡ kept ++ k ∷ [] → HasTaken refusal kept old all → HasTaken refusal now new all
  taken-ok None kept now k given old new all is ok more so_far = moved-on Ok kept now k given old new all is more (sym ok) so_far
  taken-ok (Some e) kept now k given old new all is ok more so_far = so_far

  -- the first refusal, or a further one
  pub taken-err : (refusal : Option BatchError) (kept : List K) (e : BatchError) (given : Result K BatchError) (old new all : List (Result K BatchError))
      → old ≡ given ∷ new → given ≡ Err e → HasTaken refusal kept old all → HasTaken (option_or refusal (Some e)) kept new all
  taken-err None kept e given old new all is err so_far = record {
    front = kept;
    rest = new;
    is = sym so_far ∙ ap (λ l. map Ok kept ++ l) (is ∙ ap (λ g. g ∷ new) err);
  }
  taken-err (Some first) kept e given old new all is err so_far = so_far

  -- a refusal behind what was kept
  at-refusal : (front : List K) (rest : List (Result K BatchError)) (e : BatchError) (d : Result K BatchError) → slice_index_or (map Ok front ++ Err e ∷ rest) (length front) d ≡ Err e
  at-refusal [] rest e d = refl
  at-refusal (k ∷ front) rest e d = at-refusal front rest e d

  -- and what was kept in front of it
  in-front : (front : List K) (rest : List (Result K BatchError)) (e : BatchError) (d : Result K BatchError) (p : ℕ) → p < length front
      → (k : K) × (slice_index_or (map Ok front ++ Err e ∷ rest) p d ≡ Ok k)
  in-front [] rest e d p lt = absurd (omega (arith, lt))
  in-front (k ∷ front) rest e d zero lt = (k, refl)
  in-front (k ∷ front) rest e d (suc p) lt = in-front front rest e d p (omega (arith, lt))

-- ---- all partitions

-- the local table of a source is of the query's shape
pub source-shape : (s : SourceSeen) → IsSource s → s.given ≡ 0 → 0 < length s.partitions → s.local.shape ≡ shape_of (query_tree s.query)
source-shape s is none some = by s.partitions refl where
  by : (ps : List PartitionSeen) → s.partitions ≡ ps → s.local.shape ≡ shape_of (query_tree s.query)
  by [] e = absurd (omega (arith, some, ap (λ (l : List PartitionSeen). length l) e))
  by (x ∷ ps) e = let at = is.each 0 x some in (at.can (omega (arith, none))).shape ∙ at.shape

-- what is kept of the groups of the partition at a place
record IsPart {K : Type 0} (Is : K → PlacedGroups → Type 0) (s : SourceSeen) (kept : List K) (p : ℕ) (g : PlacedGroups) : Type 0 where
  is : (k : K) → Is (slice_index_or kept p k) g
  frame : IsPlacedFrame (query_tree s.query) g
  tall : AllHaveHeight g.frame.height g.frame.columns
  rows : (rs : List Row) → HasRows rs s → ArePlacedRows (query_tree s.query) rs (groups_in (length s.partitions) (query_tree s.query) p rs) g.frame g.firsts

module _ {T K : Type 0} (Is : K → PlacedGroups → Type 0) (partition : T → PartitionSeen) (mine : T → Table) (given : T → Result K BatchError)
    (s : SourceSeen) (is : IsSource s) (none : s.given ≡ 0) (parts : List Table) (old new : List T)
    (olds : map partition old ≡ s.partitions) (locals : map mine old ≡ parts)
    (cut : (p : ℕ) (d : Table) → p < length s.partitions → IsPartOf (length s.partitions) p s.local (slice_index_or parts p d)) where
  -- the number of tasks is that of the partitions
  long : length old ≡ length s.partitions
  long = sym (length-map old partition) ∙ ap (λ (l : List PartitionSeen). length l) olds

  -- each task has the partition of its place
  at : (p : ℕ) (d : T) (e : PartitionSeen) → p < length old → slice_index_or s.partitions p e ≡ partition (slice_index_or old p d)
  at p d e lt = ap (λ (l : List PartitionSeen). slice_index_or l p e) (sym olds) ∙ get_or-map partition old p d e lt

  own : (p : ℕ) (d : T) (e : Table) → p < length old → slice_index_or parts p e ≡ mine (slice_index_or old p d)
  own p d e lt = ap (λ (l : List Table). slice_index_or l p e) (sym locals) ∙ get_or-map mine old p d e lt

  placed-at : (p : ℕ) (d : T) → p < length old → IsAt s p (partition (slice_index_or old p d))
  placed-at p d lt = subst (IsAt s p) (at p d (partition d) lt) (is.each p (partition d) (omega (arith, lt, long)))

  -- and its local part
  part-at : (p : ℕ) (d : T) → p < length old → IsPartOf (partition (slice_index_or old p d)).partitions (partition (slice_index_or old p d)).number s.local (mine (slice_index_or old p d))
  part-at p d lt =
      let there = placed-at p d lt in
      let it : IsPartOf (length s.partitions) p s.local (mine (slice_index_or old p d)) = subst (IsPartOf (length s.partitions) p s.local) (own p d (mine d) lt) (cut p (mine d) (omega (arith, lt, long))) in
      subst (λ n. IsPartOf n (partition (slice_index_or old p d)).number s.local (mine (slice_index_or old p d))) (sym there.partitions)
      (subst (λ k. IsPartOf (length s.partitions) k s.local (mine (slice_index_or old p d))) (sym there.number) it)

  -- so each can finish
  tasks-finish : (p : ℕ) (d : T) → p < length old → CanFinish (partition (slice_index_or old p d)) (mine (slice_index_or old p d))
  tasks-finish p d lt = part-finishes (partition (slice_index_or old p d)) s.local (mine (slice_index_or old p d)) (part-at p d lt) ((placed-at p d lt).can (omega (arith, none)))

  -- and what it gives is taken
  pub tasks-can : (Takes : List Field → Type 0) → Takes (output_schema (query_tree s.query)) → (p : ℕ) (d : T) → p < length old → CanBeKept Takes (partition (slice_index_or old p d)) (mine (slice_index_or old p d))
  tasks-can Takes takes p d lt = record {
    can = tasks-finish p d lt;
    takes = subst (λ (sh : Shape). Takes sh.fields) (sym (placed-at p d lt).shape) takes;
  }

  module _ (count : length new ≡ length old) (done : (p : ℕ) (d : T) → p < length old
      → WasFinished Is (partition (slice_index_or old p d)) (mine (slice_index_or old p d)) (partition (slice_index_or new p d)) (given (slice_index_or new p d))) (after : List PartitionSeen) (afters : after ≡ map partition new) where
    after-at : (p : ℕ) (d : T) (e : PartitionSeen) → p < length old → slice_index_or after p e ≡ partition (slice_index_or new p d)
    after-at p d e lt = ap (λ (l : List PartitionSeen). slice_index_or l p e) afters ∙ get_or-map partition new p d e (omega (arith, lt, count))

    -- some task, where there is one
    some-task : {X : Type 0} (p : ℕ) → p < length old → ((d : T) → X) → X
    some-task {X = X} p lt f = by old refl where
      by : (l : List T) → old ≡ l → X
      by [] e = absurd (omega (arith, lt, ap (λ (l : List T). length l) e))
      by (d ∷ l) e = f d

    -- the partitions are kept
    pub tasks-kept : AreSamePartitions s.partitions after
    tasks-kept = record {
      count = ap (λ (l : List PartitionSeen). length l) afters ∙ length-map new partition ∙ count ∙ long;
      each = λ p e lt.
          let within : p < length old = omega (arith, lt, long) in
          some-task p within (λ d.
          subst (λ (x : PartitionSeen). KeepsRest x (slice_index_or after p e)) (sym (at p d e within))
          (subst (KeepsRest (partition (slice_index_or old p d))) (sym (after-at p d e within)) (done p d within).kept));
    }

    -- where one gave groups its store didn't fail
    calm-at : (p : ℕ) (d : T) (x : PartitionSeen) (k : K) → p < length old → given (slice_index_or new p d) ≡ Ok k → (slice_index_or after p x).store.faults ≡ (slice_index_or s.partitions p x).store.faults
    calm-at p d x k lt is =
        let gave : GaveOrRefused Is (partition (slice_index_or old p d)) (mine (slice_index_or old p d)) (partition (slice_index_or new p d)) (Ok k) =
        subst (GaveOrRefused Is (partition (slice_index_or old p d)) (mine (slice_index_or old p d)) (partition (slice_index_or new p d))) is (done p d lt).gave in
        ap (λ (y : PartitionSeen). y.store.faults) (after-at p d x lt) ∙ gave.calm ∙ ap (λ (y : PartitionSeen). y.store.faults) (sym (at p d x lt))

    -- the first refusal is that of a partition
    pub tasks-cause : (e : BatchError) → IsFirstRefusal (map given new) e → IsGiveCause s (record s { partitions = after }) e
    tasks-cause e first =
        let p : ℕ = length first.front in
        let many : length (map given new) ≡ length (map Ok first.front ++ Err e ∷ first.rest) = ap (λ (l : List (Result K BatchError)). length l) first.is in
        let within : p < length old = omega (arith, many, length-append (map Ok first.front) (Err e ∷ first.rest), length-map {B = Result K BatchError} first.front Ok, length-map new given, count) in
        some-task p within (λ d.
        let is_err : given (slice_index_or new p d) ≡ Err e =
        sym (get_or-map given new p d (Err e) (omega (arith, within, count)))
        ∙ ap (λ (l : List (Result K BatchError)). slice_index_or l p (Err e)) first.is ∙ at-refusal first.front first.rest e (Err e) in
        let cause : IsCause (partition (slice_index_or old p d)) (partition (slice_index_or new p d)) e =
        subst (GaveOrRefused Is (partition (slice_index_or old p d)) (mine (slice_index_or old p d)) (partition (slice_index_or new p d))) is_err (done p d within).gave in
        let front : (k : ℕ) (x : PartitionSeen) → k < p → (slice_index_or after k x).store.faults ≡ (slice_index_or s.partitions k x).store.faults =
        λ k x less.
        let here : k < length old = omega (arith, less, within) in
        let ok = in-front first.front first.rest e (Err e) k less in
        calm-at k d x ok.0 here
        (sym (get_or-map given new k d (Err e) (omega (arith, here, count))) ∙ ap (λ (l : List (Result K BatchError)). slice_index_or l k (Err e)) first.is ∙ ok.1) in
        of-cause e p d within (placed-at p d within).number front cause)
      where
        of-cause : (e : BatchError) (p : ℕ) (d : T) → p < length old → (partition (slice_index_or old p d)).number ≡ p
            → ((k : ℕ) (x : PartitionSeen) → k < p → (slice_index_or after k x).store.faults ≡ (slice_index_or s.partitions k x).store.faults) → IsCause (partition (slice_index_or old p d)) (partition (slice_index_or new p d)) e
            → IsGiveCause s (record s { partitions = after }) e
        of-cause (batch_error.Store n) p d lt number front cause =
            let here : n ≡ p = cause.0 ∙ number in
            subst (λ k. IsGiveCause s (record s { partitions = after }) (batch_error.Store k)) (sym here) (
              omega (arith, none),
              record {
                exists = omega (arith, lt, long);
                rose = λ x. subst (λ (y : PartitionSeen). Rose y.store.faults (slice_index_or after p x).store.faults) (sym (at p d x lt))
                    (subst (λ (y : PartitionSeen). Rose (partition (slice_index_or old p d)).store.faults y.store.faults) (sym (after-at p d x lt)) cause.1);
                least = front;
              },
            )
        of-cause (batch_error.Damaged n m) p d lt number front cause =
            let here : n ≡ p = cause.0 ∙ number in
            subst (λ k. IsGiveCause s (record s { partitions = after }) (batch_error.Damaged k m)) (sym here) (
              omega (arith, none),
              omega (arith, lt, long),
              λ x. subst (λ (y : PartitionSeen). (y.store.told ≡ None) × Contains (map (λ (k : Mark). k.number) y.marks) m) (sym (at p d x lt)) (cause.1, cause.2),
            )
        of-cause batch_error.Memory p d lt number front cause = tt

    module _ (kept : List K) (all : map Ok kept ≡ map given new) where
      -- what is kept is of each
      tasks-count : length kept ≡ length s.partitions
      tasks-count = sym (length-map kept Ok) ∙ ap (λ (l : List (Result K BatchError)). length l) all ∙ length-map new given ∙ count ∙ long

      gave : (p : ℕ) (d : T) (k : K) → p < length old → GaveKept Is (partition (slice_index_or old p d)) (mine (slice_index_or old p d)) (partition (slice_index_or new p d)) (slice_index_or kept p k)
      gave p d k lt =
          let here : given (slice_index_or new p d) ≡ Ok (slice_index_or kept p k) =
          sym (get_or-map given new p d (Ok k) (omega (arith, lt, count)))
          ∙ ap (λ (l : List (Result K BatchError)). slice_index_or l p (Ok k)) (sym all)
          ∙ get_or-map Ok kept p k (Ok k) (omega (arith, lt, tasks-count, long)) in
          subst (GaveOrRefused Is (partition (slice_index_or old p d)) (mine (slice_index_or old p d)) (partition (slice_index_or new p d))) here (done p d lt).gave

      -- something of what is kept, where there is a task
      some-kept : {X : Type 0} (p : ℕ) → p < length s.partitions → (K → X) → X
      some-kept {X = X} p lt f = by kept refl where
        by : (l : List K) → kept ≡ l → X
        by [] e = absurd (omega (arith, lt, tasks-count, ap (λ (l : List K). length l) e))
        by (k ∷ l) e = f k

      -- no store failed
      pub tasks-calm : CountOn s.partitions after
      tasks-calm p x lt =
          let within : p < length old = omega (arith, lt, long) in
          some-kept p lt (λ k. some-task p within (λ d.
          ap (λ (y : PartitionSeen). y.store.faults) (after-at p d x within) ∙ (gave p d k within).calm ∙ ap (λ (y : PartitionSeen). y.store.faults) (sym (at p d x within))))

      -- the groups of each partition
      part : (p : ℕ) → p < length s.partitions → Chosen (IsPart Is s kept p)
      part p lt =
          let within : p < length old = omega (arith, lt, long) in
          some-kept p lt (λ k. some-task p within (λ d.
          let x = partition (slice_index_or old p d) in
          let there = placed-at p d within in
          let gives = gave p d k within in
          let g : PlacedGroups = gives.groups in
          record {
            value = g;
            has = record {
              is = λ l. subst (λ (y : K). Is y g) (get_or_default kept p k l (omega (arith, lt, tasks-count))) gives.is;
              frame = own-placed (query_tree s.query) x g there.shape gives.own;
              tall = gives.tall;
              rows = λ rs rows.
                  let stands = subst (StandsForPart (query_tree s.query) rs rows.stands.locals) (at p d x within) (rows.stands.parts p x (omega (arith, none)) lt) in
                  subst (λ n. ArePlacedRows (query_tree s.query) rs (groups_in n (query_tree s.query) p rs) g.frame g.firsts) there.partitions
                  (subst (λ k. ArePlacedRows (query_tree s.query) rs (groups_in x.partitions (query_tree s.query) k rs) g.frame g.firsts) there.number
                  (part-placed-rows x s.local (mine (slice_index_or old p d)) (part-at p d within) (query_tree s.query) rs rows.stands.locals g is.groupable rows.typed rows.apart there.shape
                  ((there.can (omega (arith, none))).shape) rows.stands.holds stands gives.placed));
            };
          }))

      -- so this is kept of all
      pub tasks-parts : AreKept Is s kept
      tasks-parts =
          let made = list-of (IsPart Is s kept) (length s.partitions) part in record {
            groups = made.items;
            of = record {
              count = tasks-count ∙ sym made.count;
              each = λ p k g lt. (made.each p g (omega (arith, lt, made.count))).is k;
              frames = λ p g lt. (made.each p g (omega (arith, lt, made.count))).frame;
              tall = λ p g lt. (made.each p g (omega (arith, lt, made.count))).tall;
            };
            count = made.count;
            placed = λ rs rows p g lt. (made.each p g (omega (arith, lt, made.count))).rows rs rows;
          }

-- ---- and the answer

-- those of all partitions below one another are the answer of a query without order and slice
pub stacked-answer : (q : QueryTree) (rs : List Row) (gs : List PlacedGroups) → 0 < length gs → q.slice ≡ None → q.keeps_order ≡ false → ArePlacedParts q rs (length gs) gs
    → all_frames (output_schema q) gs ≡ answer_of rs q (length gs)
stacked-answer q rs gs some none unordered parts =
    (placed-all q rs gs parts).frame_is
    ∙ ap (λ keys. frame_of (output_schema q) (map (answer_row q rs) keys)) (sym (groups-joined rs q (length gs) unordered some))
    ∙ rw none refl

-- the wholes of all partitions below one another, too
pub stacked-whole : {W : Type 0} (Is : W → FrameData → Type 0) (s : SourceSeen) (wholes : List W) (whole : W) → 0 < length s.partitions → (query_tree s.query).slice ≡ None → (query_tree s.query).keeps_order ≡ false
    → (h : AreKept (λ w g. Is w g.frame) s wholes) → Is whole (all_frames (output_schema (query_tree s.query)) h.groups) → IsAnswerWhole Is s whole
stacked-whole Is s wholes whole some none unordered h is =
    let q = query_tree s.query in
    let gs = h.groups in record {
      frame = all_frames (output_schema q) gs;
      fits = (all-frames q gs h.of.frames).fields;
      is = is;
      answer = λ rs rows.
          stacked-answer q rs gs (omega (arith, h.count, some)) none unordered (subst (λ n. ArePlacedParts q rs n gs) (sym h.count) (h.placed rs rows))
          ∙ ap (answer_of rs q) h.count;
    }

-- groups that are kept themselves have the query's columns
pub ordered-frames : (s : SourceSeen) (placed : List PlacedGroups) → AreKept (λ k g. k ≡ g) s placed → All (IsPlacedFrame (query_tree s.query)) placed
ordered-frames s placed h = subst (All (IsPlacedFrame (query_tree s.query))) (sym (same-lists placed h.groups h.of.count h.of.each)) h.of.frames

-- and that of all groups in the order of their rows
pub ordered-whole : {W : Type 0} (Is : W → FrameData → Type 0) (s : SourceSeen) (placed : List PlacedGroups) (whole : W) → 0 < length s.partitions → (query_tree s.query).slice ≡ None → (query_tree s.query).keeps_order ≡ true
    → AreKept (λ k g. k ≡ g) s placed → IsPlacedWhole Is (query_tree s.query) placed whole → IsAnswerWhole Is s whole
ordered-whole Is s placed whole some none ordered h w =
    let q = query_tree s.query in
    let same : placed ≡ h.groups = same-lists placed h.groups h.of.count h.of.each in
    let count : length placed ≡ length s.partitions = h.of.count ∙ h.count in record {
      frame = w.frame;
      fits = w.fits;
      is = w.is;
      answer = λ rs rows.
          w.ordered rs (omega (arith, count, some)) ordered rows.apart rows.typed
          (subst (λ n. ArePlacedParts q rs n placed) (sym count) (subst (ArePlacedParts q rs (length s.partitions)) (sym same) (h.placed rs rows)))
          ∙ (λ i. frame_of_keys q rs (sym none i) (groups rs q (count i)));
    }

-- a want of memory is a cause of its own
pub memory-cause : {W : Type 0} (s new : SourceSeen) (result : Result W BatchError) → IfErr result (λ e. e ≡ batch_error.Memory) → IfErr result (λ e. IsGiveCause s new e)
memory-cause s new result is = IfErr-weaker result (λ e. e ≡ batch_error.Memory) (λ e. IsGiveCause s new e) (λ e same. subst (IsGiveCause s new) (sym same) tt) is
