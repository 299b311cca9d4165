use Rattle.std.proofs.Common.{◌≡◌, ◌∙◌, ◌++◌, ℕ, List, arith, map, refl, subst, sym, true}
use Rattle.pipe_columns.specs.declared.data_chunk.DataChunk.{DataChunk}
use Rattle.pipe_aggs.specs.QueryTrees.{query_tree}
use Rattle.pipe_aggs.specs.CheckedQuery.{IsSound}
use Rattle.pipe_model.specs.Rows.{AreChunksOf}
use Rattle.pipe_global.specs.Partition.{PartitionSeen}
use Rattle.pipe_run.specs.Answered.{HaveWholeFrames}
use Rattle.pipe_run.specs.Fed.{FedSeen}
use Rattle.pipe_run.specs.Feeding.{chunks_reached, IsBadChunks, IsFeedCause}
use Rattle.pipe_run.specs.Refusals.{AllHaveFields, AreMany, IsFirstMisfit}
use Rattle.pipe_run.specs.declared.error.PipeError.TheVariants as error
use Rattle.pipe_run.specs.Setting.{run_over, Setting}
use Rattle.pipe_run.proofs.FeedEnds.{bad-back, bad-cause, none-failed, stop-back, stop-cause-of, stop-fits}
use Rattle.pipe_run.proofs.Feeding.{fed-more}
use Rattle.pipe_run.proofs.run.fed_round.Goals as goal

pub returns-in-Err-clause-back : goal.returns-in-Err-clause-back
returns-in-Err-clause-back g c =
    let x = c.args.begun.now in
    let taken : List DataChunk = map (λ m. m.value) c.args.taken.now in
    let chunks = c.args.chunks.now in
    let journals = map (λ (p : PartitionSeen). p.journal) c.args.closed.items in
    let seen = map (λ (p : PartitionSeen). p.store) c.args.closed.items in
    let s : FedSeen = record { setting = x; chunks = taken; journals = journals; stores = seen } in
    bad-back x taken journals seen s refl seen c.args.closed.items c.args.rested.items c.args.rows c.requires chunks c.in-Err.error c.in-Err.ensures.kinds refl

pub returns-clause-run : goal.returns-clause-run
returns-clause-run g c =
    let x = c.args.begun.now in
    let taken : List DataChunk = map (λ m. m.value) c.args.taken.now in
    let chunks = c.args.chunks.now in
    let are = subst (λ (y : Setting). AreChunksOf (query_tree y.query) (taken ++ chunks)) c.begun.view_is c.in-Ok.ensures.chunks in
    let sound = subst (λ (y : Setting). IsSound y.query) c.begun.view_is c.in-Ok.ensures.sound in
    fed-more x (taken ++ chunks) c.args.closed.items c.in-Ok-round.ended.closed.items c.args.rested.items c.in-Ok-round.ended.rested.items taken c.args.rows c.in-Ok.all
    sound c.requires are c.in-Ok.ensures.rows c.in-Ok-round.ensures.whole c.in-Ok-round.ensures.ended

pub returns-clause-counted : goal.returns-clause-counted
returns-clause-counted g c =
    let x = c.args.begun.now in
    let taken : List DataChunk = map (λ m. m.value) c.args.taken.now in
    let chunks = c.args.chunks.now in
    let journals = map (λ (p : PartitionSeen). p.journal) c.args.closed.items in
    let seen = map (λ (p : PartitionSeen). p.store) c.args.closed.items in
    let s : FedSeen = record { setting = x; chunks = taken; journals = journals; stores = seen } in
    let after = c.in-Ok-round.ended.closed.items in
    none-failed x taken journals seen s refl (map (λ (p : PartitionSeen). p.store) after) c.args.closed.items c.args.rested.items c.args.rows c.requires after refl refl (c.in-Ok-round.ensures.whole.count ∙ sym c.requires.fed.partitions.count) c.in-Ok-round.ensures.counted

pub returns-in-Err-round-clause-cause : goal.returns-in-Err-round-clause-cause
returns-in-Err-round-clause-cause g c =
    let x = c.args.begun.now in
    let taken : List DataChunk = map (λ m. m.value) c.args.taken.now in
    let chunks = c.args.chunks.now in
    let journals = map (λ (p : PartitionSeen). p.journal) c.args.closed.items in
    let seen = map (λ (p : PartitionSeen). p.store) c.args.closed.items in
    let s : FedSeen = record { setting = x; chunks = taken; journals = journals; stores = seen } in
    let stores = map (λ (p : PartitionSeen). p.store) c.in-Err-round.closed.items in
    let are = subst (λ (y : Setting). AreChunksOf (query_tree y.query) (taken ++ chunks)) c.begun.view_is c.in-Ok.ensures.chunks in
    subst (IsFeedCause s chunks stores) (sym c.error.ensures)
    (stop-cause-of x taken journals seen s refl stores c.args.closed.items c.args.rested.items c.args.rows c.requires chunks c.in-Err-round.closed.items c.in-Err-round.stop are refl refl c.in-Err-round.ensures.back c.in-Err-round.ensures.store c.in-Err-round.ensures.memory)

pub returns-in-Err-round-clause-back : goal.returns-in-Err-round-clause-back
returns-in-Err-round-clause-back g c =
    let x = c.args.begun.now in
    let taken : List DataChunk = map (λ m. m.value) c.args.taken.now in
    let chunks = c.args.chunks.now in
    let journals = map (λ (p : PartitionSeen). p.journal) c.args.closed.items in
    let seen = map (λ (p : PartitionSeen). p.store) c.args.closed.items in
    let s : FedSeen = record { setting = x; chunks = taken; journals = journals; stores = seen } in
    let stores = map (λ (p : PartitionSeen). p.store) c.in-Err-round.closed.items in
    subst (λ e. HaveWholeFrames (run_over x true (chunks_reached s chunks e)) stores) (sym c.error.ensures)
    (stop-back x taken journals seen s refl stores c.args.closed.items c.args.rested.items c.args.rows c.requires chunks c.in-Err-round.closed.items c.in-Err-round.stop refl c.in-Err-round.ensures.back)

pub checked_rows-requires-clause-taken : goal.checked_rows-requires-clause-taken
checked_rows-requires-clause-taken g c =
    subst (λ (y : Setting). AreChunksOf (query_tree y.query) (map (λ m. m.value) c.args.taken.now)) (sym c.begun.view_is) c.requires.chunks_are

pub checked_rows-requires-clause-rows : goal.checked_rows-requires-clause-rows
checked_rows-requires-clause-rows g c = c.requires.rows_are

pub round-requires-clause-generic : goal.round-requires-clause-generic
round-requires-clause-generic g c = λ κs lives. c.requires.generic

pub round-requires-clause-fed : goal.round-requires-clause-fed
round-requires-clause-fed g c = λ κs lives. c.requires.fed

pub round-requires-clause-chunks : goal.round-requires-clause-chunks
round-requires-clause-chunks g c = λ κs lives.
    subst (λ (y : Setting). AreChunksOf (query_tree y.query) (map (λ m. m.value) c.args.taken.now ++ c.args.chunks.now)) c.begun.view_is c.in-Ok.ensures.chunks

pub returns-in-Err-clause-cause : goal.returns-in-Err-clause-cause
returns-in-Err-clause-cause g c =
    let x = c.args.begun.now in
    let taken : List DataChunk = map (λ m. m.value) c.args.taken.now in
    let chunks = c.args.chunks.now in
    let journals = map (λ (p : PartitionSeen). p.journal) c.args.closed.items in
    let seen = map (λ (p : PartitionSeen). p.store) c.args.closed.items in
    let s : FedSeen = record { setting = x; chunks = taken; journals = journals; stores = seen } in
    let e = c.in-Err.error in
    bad-cause s chunks seen e c.in-Err.ensures.kinds
    (subst (λ (y : Setting). (i : ℕ) → e ≡ error.Schema i → IsFirstMisfit y.query.schema (taken ++ chunks) i) c.begun.view_is c.in-Err.ensures.misfit)
    (subst (λ (y : Setting). e ≡ error.TooLarge → AllHaveFields y.query.schema (taken ++ chunks) × AreMany (taken ++ chunks)) c.begun.view_is c.in-Err.ensures.large)

pub returns-in-Err-clause-untouched : goal.returns-in-Err-clause-untouched
returns-in-Err-clause-untouched g c = λ bad. refl

pub returns-in-Err-clause-count : goal.returns-in-Err-clause-count
returns-in-Err-clause-count g c = refl

pub returns-in-Err-round-clause-untouched : goal.returns-in-Err-round-clause-untouched
returns-in-Err-round-clause-untouched g c = λ bad. absurd (stop-fits c.in-Err-round.stop (subst IsBadChunks c.error.ensures bad))

pub returns-in-Err-round-clause-count : goal.returns-in-Err-round-clause-count
returns-in-Err-round-clause-count g c = omega (arith, c.in-Err-round.ensures.back.count, c.requires.fed.partitions.count, c.in-Err-round.closed.ok.0, c.args.closed.ok.0)
