-- The wholes of partitions that are asked one after another, below one another.
use Rattle.std.proofs.Common.{◌≡◌, ◌∙◌, ◌+◌, ◌<◌, ◌==◌, ◌||◌, ℕ, Bool, true, false, List, ◌++◌, length, refl, sym, ap, subst, arith, Option}
use Rattle.std.specs.Prelude.{if◌then◌else◌}
use Rattle.std.specs.List.{slice_index_or}
use Rattle.pipe_columns.specs.declared.data_chunk.DataChunk.{DataChunk}
use Rattle.pipe_columns.specs.Frame.{AllHaveHeight, fields_of, FrameData, stacked}
use Rattle.pipe_columns.specs.Row.{Row}
use Rattle.pipe_aggs.specs.declared.query.Query.{Query}
use Rattle.pipe_aggs.specs.QueryTrees.{query_tree}
use Rattle.pipe_model.specs.Output.{output_schema}
use Rattle.pipe_spill.specs.declared.spill_row.SpillRow.{SpillRow}
use Rattle.pipe_groups.specs.Given.{IsFrameOfGroups}
use Rattle.pipe_groups.specs.Pieces.{PiecesSeen}
use Rattle.pipe_groups.specs.Shape.{Shape}
use Rattle.pipe_keyed.specs.Tables.{Table}
use Rattle.pipe_global.specs.Finishing.{GivesGroups, GivesOwnPieces, GivesPieces, KeepsRest, own_rows, StandFor}
use Rattle.pipe_global.specs.Partition.{PartitionSeen}
use Rattle.pipe_asked.specs.Given.{HasRows, IsSource, is_used_up, KeepsSource, SourceSeen}
use Rattle.pipe_asked.specs.Sources.{is_over, KeepsAsked, LeavesOthers}
use Rattle.pipe_asked.specs.Stacking.{alone, GivesNextPieces, HasGivenWhole, IsWholeOfChunks}
use Rattle.pipe_asked.specs.Wholes.{AreAlike, IsWholeOfGroups}
use Rattle.pipe_asked.proofs.Asking.{asked-one}
use Rattle.pipe_asked.proofs.ChunkFacts.{given-chunk}
use Rattle.pipe_asked.proofs.Joined.{IsJoining, joining-all, joining-more}
use Rattle.pipe_asked.proofs.PieceFacts.{groups-fields, groups-tall}
use Rattle.pipe_asked.proofs.SourceFacts.{asked}
use Rattle.pipe_asked.proofs.Sourcing.{next-left, one-left, stands-next}

-- ---- one partition

-- a frame of groups that were to be given is one of given groups
pieces-groups : (sh : Shape) (slice left : Option (ℕ × ℕ)) (rows : List SpillRow) (p : PiecesSeen) (f : FrameData) → GivesPieces sh slice left rows p → IsFrameOfGroups p.shape p.left f → GivesGroups sh slice left rows f
pieces-groups sh slice left rows p f gives of = record {
  groups = gives.groups;
  apart = gives.apart;
  holds = gives.holds;
  frame_is = subst (λ (x : PiecesSeen). IsFrameOfGroups x.shape x.left f) gives.pieces_are of;
  left_is = gives.left_is;
}

module _ (s : SourceSeen) (y : PartitionSeen) (local : Table) (slice : Option (ℕ × ℕ)) (is : IsSource s) (lt : s.given < length s.partitions)
    (kept : KeepsRest (slice_index_or s.partitions s.given y) y) where
  abbrev here : PartitionSeen
  here = slice_index_or s.partitions s.given y

  -- the groups that a partition is to give are those of its chunk
  pub next-pieces : (p : PiecesSeen)
      → ((rows locals : List SpillRow) → StandFor here s.local rows locals → GivesPieces here.table.shape s.slice slice (rows ++ own_rows here locals) p)
      → GivesOwnPieces here s.slice slice p → GivesNextPieces s (asked s y local slice (s.given + 1)) p
  next-pieces p clause own = record {
    fields = ap (λ (x : PiecesSeen). x.shape.fields) own.gives.pieces_are ∙ ap (λ (sh : Shape). sh.fields) (is.each s.given y lt).shape;
    given = λ f of rs rows. given-chunk s y local slice is lt kept rs rows f
        (λ taken locals both. pieces-groups here.table.shape s.slice slice (taken ++ own_rows here locals) p f (clause taken locals both) of);
  }

-- so a whole of them is that of its chunk
pub given-whole : {W : Type 0} (Is : W → FrameData → Type 0) (s new : SourceSeen) (p : PiecesSeen) (whole : W) → GivesNextPieces s new p → IsWholeOfGroups Is p.shape p.left whole → HasGivenWhole Is s new whole
given-whole Is s new p whole gives h = record {
  frame = h.frame;
  is = h.is;
  fits = groups-fields p.shape p.left h.frame h.groups ∙ gives.fields;
  tall = groups-tall p.shape p.left h.frame h.groups;
  given = gives.given h.frame h.groups;
}

-- ---- all of them

-- whether nothing is left, where no order is kept
pub over-alone : (s : SourceSeen) (b : Bool) → (query_tree s.query).keeps_order ≡ false → (is_used_up s.slice || (s.given == length s.partitions)) ≡ b → is_over (alone s) ≡ b
over-alone s b unordered is = ap (λ (o : Bool). is_used_up s.slice || (if o then false else s.given == length s.partitions)) unordered ∙ is

module _ {W : Type 0} (Is : W → FrameData → Type 0) (s now : SourceSeen) (whole : W) (h : IsJoining Is (alone s) (alone now) whole) where
  order : (query_tree s.query).keeps_order ≡ false → (query_tree now.query).keeps_order ≡ false
  order unordered = ap (λ (q : Query). (query_tree q).keeps_order) h.kept.query ∙ unordered

  -- the next whole is of the same columns
  pub whole-alike : (new : SourceSeen) (more : W) → HasGivenWhole Is now new more → AreAlike Is whole more
  whole-alike new more given = record {
    frame = h.frame;
    other = given.frame;
    is = h.is;
    other_is = given.is;
    fields = given.fits ∙ ap (λ (q : Query). output_schema (query_tree q)) h.kept.query ∙ sym h.fields;
  }

  -- a partition is left
  pub part-left : (query_tree s.query).keeps_order ≡ false → IsSource now → (is_used_up now.slice || (now.given == length now.partitions)) ≡ false → now.given < length now.partitions
  part-left unordered is some = one-left (alone now) (over-alone now false (order unordered) some) (order unordered) is.given

  -- one more
  pub joining-whole : (query_tree s.query).keeps_order ≡ false → IsSource now → (is_used_up now.slice || (now.given == length now.partitions)) ≡ false
      → (new : SourceSeen) (more next : W) → HasGivenWhole Is now new more → KeepsSource now new (now.given + 1) → LeavesOthers now new → ((rs : List Row) → HasRows rs now → HasRows rs new)
      → ((f g : FrameData) → fields_of g.columns ≡ fields_of f.columns → AllHaveHeight f.height f.columns → Is whole f → Is more g → Is next (stacked f g)) → IsJoining Is (alone s) (alone new) next
  joining-whole unordered is some new more next given keeps others stands below =
      let kept : KeepsAsked now new = asked-one now new (now.given + 1) (omega arith) keeps in
      let c : DataChunk = record { chunk_index = now.given + 1; frame = given.frame } in
      joining-more Is (alone s) (alone now) whole h (alone new) next c kept others given.fits given.tall
      (λ f same tall has. below f given.frame same tall has given.is)
      (λ rs all. stands-next (alone now) (alone new) rs kept refl all (stands rs))
      (λ rs all. next-left (alone now) (over-alone now false (order unordered) some) (order unordered) (alone new) rs c (part-left unordered is some) keeps (given.given rs all.rows))

  -- and where none is left, all of them
  pub joining-wholes : (query_tree s.query).keeps_order ≡ false → (is_used_up now.slice || (now.given == length now.partitions)) ≡ true → IsWholeOfChunks Is (alone s) whole
  joining-wholes unordered done = joining-all Is (alone s) (alone now) whole h (over-alone now true (order unordered) done)
