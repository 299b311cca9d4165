use Rattle.std.proofs.Common.{◌≡◌, ◌∙◌, ap₂, arith, rules}
use Rattle.std.specs.List.Sorted.{IsPermutation}
use Rattle.std.proofs.lemmas.List.Sorted.{sum_by-IsPermutation}
use Rattle.pipe_columns.specs.declared.data_chunk.DataChunk.{DataChunk}
use Rattle.pipe_writers.specs.Kept.{joined_frames, row_count}
use Rattle.pipe_writers.specs.WriteOrder.{by_number}
use Rattle.pipe_writers.proofs.RoomFacts.{fit_below, joined_in_order}
use Rattle.pipe_writers.proofs.kept_chunks.KeptChunks.join.Goals as goal

pub join_frames-requires-clause-fit : goal.join_frames-requires-clause-fit
join_frames-requires-clause-fit c =
    let moved : IsPermutation c.self.inside.chunks.items c.replace-chunks.result.items = rw c.replace-chunks.ensures.value c.sort_by_number.ensures.moved in
    fit_below c.self.inside.schema c.in_ok-room.room.frame c.self.inside.chunks.items c.replace-chunks.result.items (search rules) moved c.self.invariant.fit

pub join_frames-requires-clause-room : goal.join_frames-requires-clause-room
join_frames-requires-clause-room c =
    let moved : IsPermutation c.self.inside.chunks.items c.replace-chunks.result.items = rw c.replace-chunks.ensures.value c.sort_by_number.ensures.moved in
    let same : row_count c.replace-chunks.result.items ≡ row_count c.self.inside.chunks.items = sum_by-IsPermutation (λ (x : DataChunk). x.frame.height) c.self.inside.chunks.items c.replace-chunks.result.items moved in
    let none : c.in_ok-room.room.frame.height ≡ 0 = search rules in
    let most : c.in_ok-room.room.most ≡ c.self.inside.rows = search rules in
    omega (arith, same, none, most, c.self.invariant.count)

pub returns-clause-ok : goal.returns-clause-ok
returns-clause-ok c =
    let moved : IsPermutation c.self.inside.chunks.items c.replace-chunks.result.items = rw c.replace-chunks.ensures.value c.sort_by_number.ensures.moved in
    let order : c.replace-chunks.result.items ≡ by_number c.args.self.now.chunks = search rules in
    let fields : c.self.inside.schema ≡ c.args.self.now.fields = search rules in
    c.join_frames.ensures
    ∙ joined_in_order c.self.inside.schema c.in_ok-room.room.frame c.self.inside.chunks.items c.replace-chunks.result.items (search rules) moved c.self.invariant.fit (search rules)
    ∙ ap₂ joined_frames fields order
