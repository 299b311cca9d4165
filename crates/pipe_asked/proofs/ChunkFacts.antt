-- The chunk that a group source gives of a partition.
use Rattle.std.proofs.Common.{◌≡◌, ◌∙◌, ◌+◌, ◌<◌, ◌==◌, ℕ, suc, List, [], ◌∷◌, ◌++◌, length, map, refl, sym, ap, subst, Option, Some}
use Rattle.std.specs.List.{All, AllZip, IsDistinct, slice_index_or}
use Rattle.std.specs.Str.{bytes_eq}
use Rattle.std.proofs.lemmas.List.{length-map}
use Rattle.std.proofs.lemmas.Simd.{map-map}
use Rattle.std.proofs.lemmas.List.Elements.{All-filter, All-map, All-weaker}
use Rattle.pipe_columns.specs.declared.place.Place.{Place}
use Rattle.pipe_columns.specs.Frame.{fields_of, FitsSchema, FrameData}
use Rattle.pipe_columns.specs.Groups.{sorted_keys}
use Rattle.pipe_columns.specs.Key.{code, partition}
use Rattle.pipe_columns.specs.Row.{Row}
use Rattle.pipe_columns.specs.Slice.{sliced}
use Rattle.pipe_aggs.specs.HashAggs.{prototypes}
use Rattle.pipe_aggs.specs.QueryTrees.{query_tree}
use Rattle.pipe_inputs.specs.RowTypes.{IsRowOf}
use Rattle.pipe_model.specs.Answer.{tuple_cmp}
use Rattle.pipe_model.specs.Output.{key_types, output_schema}
use Rattle.pipe_model.specs.Partitions.{groups_in, rows_in}
use Rattle.pipe_model.specs.Query.{QueryTree}
use Rattle.pipe_model.specs.Groupable.{IsGroupable}
use Rattle.pipe_model.specs.Rows.{HaveDistinctPlaces, keys_of}
use Rattle.pipe_spill.specs.KeyTypes.{AreOfTypes}
use Rattle.pipe_spill.specs.SpillRow.{spilled}
use Rattle.pipe_spill.specs.declared.spill_row.SpillRow.{SpillRow}
use Rattle.pipe_groups.specs.declared.placed_groups.PlacedGroups.{PlacedGroups}
use Rattle.pipe_groups.specs.Given.{in_order, IsFrameOfGroups, IsRowOfGroup, key_cmp, slice_after}
use Rattle.pipe_groups.specs.Groups.{count_held, Group}
use Rattle.pipe_groups.specs.Holds.{Holds}
use Rattle.pipe_groups.specs.QueryRows.{ArePlaced, ArePlacedRows, HoldRowsOf}
use Rattle.pipe_groups.specs.Shape.{Shape, shape_of}
use Rattle.pipe_groups.proofs.CodedFacts.{sorted-codes}
use Rattle.pipe_groups.proofs.HoldFacts.{holds-moved}
use Rattle.pipe_groups.proofs.KeyFacts.{held-counted}
use Rattle.pipe_groups.proofs.FrameRows.{frame-fields}
use Rattle.pipe_groups.proofs.PartsFacts.{part-answer, part-placed}
use Rattle.pipe_keyed.specs.Tables.{Table}
use Rattle.pipe_global.specs.Finishing.{GivesGroups, GivesOwn, GivesOwnPlaced, GivesPlaced, KeepsRest, own_rows, StandFor}
use Rattle.pipe_global.specs.Partition.{PartitionSeen, spilled_all}
use Rattle.pipe_asked.specs.Given.{frame_of_keys, HasGivenNext, HasRows, IsSource, SourceSeen, StandsForPart}
use Rattle.pipe_asked.specs.Sources.{IsPlacedFrame}
use Rattle.pipe_asked.proofs.SourceFacts.{asked, both, mine}

-- as many groups hold rows as the rows have keys
pub count-groups : (q : QueryTree) (rs : List Row) (gs : List Group) → HoldRowsOf q gs rs → count_held gs ≡ length (sorted_keys tuple_cmp (keys_of rs))
count-groups q rs gs h =
    let types = key_types q in
    let typed : All (AreOfTypes types) (keys_of rs) = All-map (AreOfTypes types) (λ (r : Row). r.key) rs (All-weaker (IsRowOf q) (λ r. AreOfTypes types r.key) (λ r t. t.key.fit) rs h.typed) in
    held-counted (prototypes q) gs (map (spilled types) rs) h.holds h.apart
    ∙ ap (λ (ks : List (List ℕ)). length (sorted_keys key_cmp ks)) (map-map (λ (r : SpillRow). r.key) (spilled types) rs ∙ sym (map-map (code types) (λ (r : Row). r.key) rs))
    ∙ ap (λ (ks : List (List ℕ)). length ks) (sorted-codes types (keys_of rs) typed)
    ∙ length-map (sorted_keys tuple_cmp (keys_of rs)) (code types)

-- groups that hold what a partition and the local rows of its keys stand for hold the rows of the partition
hold-rows : (q : QueryTree) (rs : List Row) (locals : List SpillRow) (x : PartitionSeen) (gs : List Group) → IsGroupable q → All (IsRowOf q) rs → x.table.shape ≡ shape_of q → (part : StandsForPart q rs locals x)
    → IsDistinct bytes_eq (Rattle.pipe_groups.specs.Groups.group_keys gs) → Holds x.table.shape.prototypes gs (part.rows ++ own_rows x locals) → HoldRowsOf q gs (rows_in x.partitions q x.number rs)
hold-rows q rs locals x gs groupable typed shape part apart holds = record {
  groupable = groupable;
  typed = All-filter (λ r. partition x.partitions (key_types q) r.key == x.number) (IsRowOf q) rs typed;
  apart = apart;
  holds = subst (λ (sh : Shape). Holds sh.prototypes gs (spilled_all q (rows_in x.partitions q x.number rs))) shape
      (holds-moved x.table.shape.prototypes gs (part.rows ++ own_rows x locals) (spilled_all q (rows_in x.partitions q x.number rs)) part.all holds);
}

-- so what it gives of them, with least places, are the placed rows of its keys
pub part-gives : (q : QueryTree) (rs : List Row) (locals : List SpillRow) (x : PartitionSeen) (g : PlacedGroups) → IsGroupable q → All (IsRowOf q) rs → HaveDistinctPlaces rs → x.table.shape ≡ shape_of q
    → (part : StandsForPart q rs locals x) → GivesPlaced x.table.shape (part.rows ++ own_rows x locals) g.frame g.firsts → ArePlacedRows q rs (groups_in x.partitions q x.number rs) g.frame g.firsts
part-gives q rs locals x g groupable typed apart shape part gives =
    part-placed q x.partitions x.number rs gives.groups (hold-rows q rs locals x gives.groups groupable typed shape part gives.apart gives.holds) apart g.frame g.firsts
    (subst (λ (sh : Shape). ArePlaced sh gives.groups g.frame g.firsts) shape gives.placed)

module _ (s : SourceSeen) (y : PartitionSeen) (local : Table) (slice : Option (ℕ × ℕ)) (is : IsSource s) (lt : s.given < length s.partitions)
    (kept : KeepsRest (slice_index_or s.partitions s.given y) y) (rs : List Row) (h : HasRows rs s) where
  abbrev q : QueryTree
  q = query_tree s.query

  abbrev here : PartitionSeen
  here = slice_index_or s.partitions s.given y

  abbrev part : StandsForPart q rs h.stands.locals here
  part = mine s y local slice is lt kept rs h.stands

  abbrev n : ℕ
  n = length s.partitions

  -- groups that hold what the partition stands for hold the rows of the partition
  hold-part : (gs : List Group) → IsDistinct bytes_eq (Rattle.pipe_groups.specs.Groups.group_keys gs)
      → Holds here.table.shape.prototypes gs (part.rows ++ own_rows here h.stands.locals) → HoldRowsOf q gs (rows_in n q s.given rs)
  hold-part gs apart holds =
      let at = is.each s.given y lt in
      subst (λ k. HoldRowsOf q gs (rows_in k q s.given rs)) at.partitions
      (subst (λ k. HoldRowsOf q gs (rows_in here.partitions q k rs)) at.number (hold-rows q rs h.stands.locals here gs is.groupable h.typed at.shape part apart holds))

  -- so what it gives is the chunk of the partition
  pub given-chunk : (f : FrameData)
      → ((rows locals : List SpillRow) → StandFor here s.local rows locals → GivesGroups here.table.shape s.slice slice (rows ++ own_rows here locals) f)
      → HasGivenNext rs s (asked s y local slice (s.given + 1)) (record { chunk_index = s.given + 1; frame = f })
  given-chunk f clause =
      let at = is.each s.given y lt in
      let gives = clause part.rows h.stands.locals (both s y local slice is lt kept rs h.stands) in
      let hold = hold-part gives.groups gives.apart gives.holds in
      let frame : f ≡ frame_of_keys q rs s.slice (groups_in n q s.given rs) =
      part-answer q n s.given rs gives.groups hold h.apart s.slice f (subst (λ (sh : Shape). IsFrameOfGroups sh (Rattle.pipe_columns.specs.Slice.sliced s.slice (in_order gives.groups)) f) at.shape gives.frame_is) in
      record {
        chunk = ap (λ (g : FrameData). record { chunk_index = s.given + 1; frame = g }) frame;
        slice = gives.left_is ∙ ap (λ k. slice_after k s.slice) (count-groups q (rows_in n q s.given rs) gives.groups hold);
      }

  -- and what it gives with least places are the placed rows of its keys
  pub given-placed : (g : PlacedGroups)
      → ((rows locals : List SpillRow) → StandFor here s.local rows locals → GivesPlaced here.table.shape (rows ++ own_rows here locals) g.frame g.firsts)
      → ArePlacedRows q rs (groups_in n q s.given rs) g.frame g.firsts
  given-placed g clause =
      let at = is.each s.given y lt in
      let gives = clause part.rows h.stands.locals (both s y local slice is lt kept rs h.stands) in
      part-placed q n s.given rs gives.groups (hold-part gives.groups gives.apart gives.holds) h.apart g.frame g.firsts
      (subst (λ (sh : Shape). ArePlaced sh gives.groups g.frame g.firsts) at.shape gives.placed)

-- ---- what every partition gives, whatever its store tells

-- a frame of groups has the columns of their shape
fields-of-groups : (sh : Shape) (gs : List Group) (f : FrameData) → IsFrameOfGroups sh gs f → FitsSchema sh.fields f
fields-of-groups sh gs f is = ap (λ (g : FrameData). fields_of g.columns) is.frame_is ∙ frame-fields 0 sh.fields is.rows

-- so a partition gives a frame of the query's columns
pub own-fields : (q : QueryTree) (x : PartitionSeen) (slice left : Option (ℕ × ℕ)) (f : FrameData) → x.table.shape ≡ shape_of q → GivesOwn x slice left f → FitsSchema (output_schema q) f
own-fields q x slice left f shape own =
    fields-of-groups x.table.shape (sliced slice (in_order own.gives.groups)) f own.gives.frame_is ∙ ap (λ (sh : Shape). sh.fields) shape

-- lists that go pair by pair are as long
zip-length : {A B : Type 0} (R : A → B → Type 0) (xs : List A) (ys : List B) → AllZip R xs ys → length xs ≡ length ys
zip-length R [] [] z = refl
zip-length R [] (y ∷ ys) z = absurd z
zip-length R (x ∷ xs) [] z = absurd z
zip-length R (x ∷ xs) (y ∷ ys) z = ap suc (zip-length R xs ys z.1)

-- with a place for each row
pub own-placed : (q : QueryTree) (x : PartitionSeen) (g : PlacedGroups) → x.table.shape ≡ shape_of q → GivesOwnPlaced x g.frame g.firsts → IsPlacedFrame q g
own-placed q x g shape own =
    let gs = in_order own.gives.groups in
    let is = own.gives.placed.frame_is in
    record {
      fields = fields-of-groups x.table.shape gs g.frame is ∙ ap (λ (sh : Shape). sh.fields) shape;
      places =
          sym (length-map g.firsts (λ (p : Place). Some p))
          ∙ ap (λ (l : List (Option Place)). length l) own.gives.placed.firsts_are
          ∙ length-map gs (λ (e : Group). e.first)
          ∙ zip-length (λ e row. IsRowOfGroup x.table.shape e row) gs is.rows is.each
          ∙ sym (ap (λ (f : FrameData). f.height) is.frame_is);
    }
