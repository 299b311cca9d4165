use Rattle.std.proofs.Common.{◌∙◌, ◌<◌, sym, subst, length, slice_index_or, slice_set, ◌+◌, ◌++◌, List}
use Rattle.std.proofs.lemmas.List.{get_or_default}
use Rattle.pipe_spill.specs.declared.spill_row.SpillRow.{SpillRow}
use Rattle.pipe_global.specs.Finishing.{GivesOwnPieces, GivesPieces, HasNoFault, IsCause, IsLeftOf, IsRestOf, KeepsRest, own_rows, StandFor, StandTogether}
use Rattle.pipe_global.specs.Partition.{PartitionSeen}
use Rattle.pipe_asked.specs.Left.{CountOn}
use Rattle.pipe_asked.specs.Given.{HasRows, KeepsSource, SourceSeen}
use Rattle.pipe_asked.specs.Stacking.{GivesNextPieces}
use Rattle.pipe_asked.proofs.InTurn.{next-pieces}
use Rattle.pipe_asked.proofs.SourceFacts.{asked, calm-asked, given-rows, given-source, keeps-asked, refused-cause, refused-rows, refused-source}
use Rattle.pipe_asked.proofs.asked.AskedPartitions.next_pieces.Goals as goal

pub invariant_of-self : goal.invariant_of-self
invariant_of-self g c =
    let s : SourceSeen = record { query = c.self.inside.query.now; partitions = c.self.inside.partitions.items; local = c.self.inside.local; slice = c.self.inside.slice; given = c.self.inside.given } in
    let y = c.finish_pieces.new.self in
    let lt = subst (λ (v : SourceSeen). v.given < length v.partitions) (sym c.self.view_is) c.requires.left in
    let at = c.index_mut-partition.ensures.value ∙ get_or_default s.partitions s.given c.index_mut-partition.result.now y lt in
    let kept = subst (λ (x : PartitionSeen). KeepsRest x y) at c.in-Err.ensures.kept in
    refused-source s y c.finish_pieces.new.local c.finish_pieces.new.slice c.self.invariant lt kept c.in-Err.ensures.again (subst (λ (x : PartitionSeen). IsLeftOf x s.local c.finish_pieces.new.local) at c.in-Err.ensures.left)

pub returns-in-Err-clause-refused : goal.returns-in-Err-clause-refused
returns-in-Err-clause-refused g c =
    let s : SourceSeen = record { query = c.self.inside.query.now; partitions = c.self.inside.partitions.items; local = c.self.inside.local; slice = c.self.inside.slice; given = c.self.inside.given } in
    let y = c.finish_pieces.new.self in
    let lt = subst (λ (v : SourceSeen). v.given < length v.partitions) (sym c.self.view_is) c.requires.left in
    let at = c.index_mut-partition.ensures.value ∙ get_or_default s.partitions s.given c.index_mut-partition.result.now y lt in
    let kept = subst (λ (x : PartitionSeen). KeepsRest x y) at c.in-Err.ensures.kept in
    subst (λ (v : SourceSeen). KeepsSource v (asked s y c.finish_pieces.new.local c.finish_pieces.new.slice s.given) v.given) c.self.view_is (keeps-asked s y c.finish_pieces.new.local c.finish_pieces.new.slice s.given lt kept)

pub returns-in-Err-clause-cause : goal.returns-in-Err-clause-cause
returns-in-Err-clause-cause g c =
    let s : SourceSeen = record { query = c.self.inside.query.now; partitions = c.self.inside.partitions.items; local = c.self.inside.local; slice = c.self.inside.slice; given = c.self.inside.given } in
    let y = c.finish_pieces.new.self in
    let lt = subst (λ (v : SourceSeen). v.given < length v.partitions) (sym c.self.view_is) c.requires.left in
    let at = c.index_mut-partition.ensures.value ∙ get_or_default s.partitions s.given c.index_mut-partition.result.now y lt in
    let kept = subst (λ (x : PartitionSeen). KeepsRest x y) at c.in-Err.ensures.kept in
    λ d. subst (λ (v : SourceSeen). IsCause (slice_index_or v.partitions v.given d) (slice_index_or (slice_set s.partitions s.given y) v.given d) c.in-Err.refused) c.self.view_is
    (refused-cause s y d c.in-Err.refused lt (subst (λ (x : PartitionSeen). IsCause x y c.in-Err.refused) at c.in-Err.ensures.cause))

pub invariant_of-self-2 : goal.invariant_of-self-2
invariant_of-self-2 g c =
    let s : SourceSeen = record { query = c.self.inside.query.now; partitions = c.self.inside.partitions.items; local = c.self.inside.local; slice = c.self.inside.slice; given = c.self.inside.given } in
    let y = c.finish_pieces.new.self in
    let lt = subst (λ (v : SourceSeen). v.given < length v.partitions) (sym c.self.view_is) c.requires.left in
    let at = c.index_mut-partition.ensures.value ∙ get_or_default s.partitions s.given c.index_mut-partition.result.now y lt in
    let kept = subst (λ (x : PartitionSeen). KeepsRest x y) at c.in-Ok.ensures.kept in
    given-source s y c.finish_pieces.new.local c.finish_pieces.new.slice c.self.invariant lt kept (subst (λ (x : PartitionSeen). IsRestOf x s.local c.finish_pieces.new.local) at c.in-Ok.ensures.rest)

pub returns-clause-kept : goal.returns-clause-kept
returns-clause-kept g c =
    let s : SourceSeen = record { query = c.self.inside.query.now; partitions = c.self.inside.partitions.items; local = c.self.inside.local; slice = c.self.inside.slice; given = c.self.inside.given } in
    let y = c.finish_pieces.new.self in
    let lt = subst (λ (v : SourceSeen). v.given < length v.partitions) (sym c.self.view_is) c.requires.left in
    let at = c.index_mut-partition.ensures.value ∙ get_or_default s.partitions s.given c.index_mut-partition.result.now y lt in
    let kept = subst (λ (x : PartitionSeen). KeepsRest x y) at c.in-Ok.ensures.kept in
    subst (λ (v : SourceSeen). KeepsSource v (asked s y c.finish_pieces.new.local c.finish_pieces.new.slice (s.given + 1)) (v.given + 1)) c.self.view_is (keeps-asked s y c.finish_pieces.new.local c.finish_pieces.new.slice (s.given + 1) lt kept)

pub returns-clause-stands : goal.returns-clause-stands
returns-clause-stands g c =
    let s : SourceSeen = record { query = c.self.inside.query.now; partitions = c.self.inside.partitions.items; local = c.self.inside.local; slice = c.self.inside.slice; given = c.self.inside.given } in
    let y = c.finish_pieces.new.self in
    let lt = subst (λ (v : SourceSeen). v.given < length v.partitions) (sym c.self.view_is) c.requires.left in
    let at = c.index_mut-partition.ensures.value ∙ get_or_default s.partitions s.given c.index_mut-partition.result.now y lt in
    let kept = subst (λ (x : PartitionSeen). KeepsRest x y) at c.in-Ok.ensures.kept in
    λ rs rows. given-rows s y c.finish_pieces.new.local c.finish_pieces.new.slice c.self.invariant lt kept rs (subst (HasRows rs) (sym c.self.view_is) rows) (subst (λ (x : PartitionSeen). IsRestOf x s.local c.finish_pieces.new.local) at c.in-Ok.ensures.rest)

pub returns-clause-calm : goal.returns-clause-calm
returns-clause-calm g c =
    let s : SourceSeen = record { query = c.self.inside.query.now; partitions = c.self.inside.partitions.items; local = c.self.inside.local; slice = c.self.inside.slice; given = c.self.inside.given } in
    let y = c.finish_pieces.new.self in
    let lt = subst (λ (v : SourceSeen). v.given < length v.partitions) (sym c.self.view_is) c.requires.left in
    let at = c.index_mut-partition.ensures.value ∙ get_or_default s.partitions s.given c.index_mut-partition.result.now y lt in
    let calm = subst (λ (x : PartitionSeen). HasNoFault x y) at c.in-Ok.ensures.calm in
    subst (λ (v : SourceSeen). CountOn v.partitions (slice_set s.partitions s.given y)) c.self.view_is (calm-asked s y lt calm)

pub returns-clause-pieces : goal.returns-clause-pieces
returns-clause-pieces g c =
    let s : SourceSeen = record { query = c.self.inside.query.now; partitions = c.self.inside.partitions.items; local = c.self.inside.local; slice = c.self.inside.slice; given = c.self.inside.given } in
    let y = c.finish_pieces.new.self in
    let lt = subst (λ (v : SourceSeen). v.given < length v.partitions) (sym c.self.view_is) c.requires.left in
    let at = c.index_mut-partition.ensures.value ∙ get_or_default s.partitions s.given c.index_mut-partition.result.now y lt in
    let kept = subst (λ (x : PartitionSeen). KeepsRest x y) at c.in-Ok.ensures.kept in
    subst (λ (v : SourceSeen). GivesNextPieces v (asked s y c.finish_pieces.new.local c.finish_pieces.new.slice (s.given + 1)) c.in-Ok.pieces) c.self.view_is
    (next-pieces s y c.finish_pieces.new.local c.finish_pieces.new.slice c.self.invariant lt kept c.in-Ok.pieces
    (subst (λ (x : PartitionSeen). (taken locals : List SpillRow) → StandFor x s.local taken locals → GivesPieces x.table.shape s.slice c.finish_pieces.new.slice (taken ++ own_rows x locals) c.in-Ok.pieces) at c.in-Ok.ensures.pieces)
    (subst (λ (x : PartitionSeen). GivesOwnPieces x s.slice c.finish_pieces.new.slice c.in-Ok.pieces) at c.in-Ok.ensures.partition))
