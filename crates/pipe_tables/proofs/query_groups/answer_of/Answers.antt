use Rattle.std.proofs.Common.{◌≡◌, ◌∙◌, List, map, sym, ap, true, false}
use Rattle.std.proofs.lemmas.Result.{IfOk-weaker}
use Rattle.std.specs.declared.snapshot.Snapshot.{Snapshot}
use Rattle.pipe_columns.specs.declared.data_chunk.DataChunk.{DataChunk}
use Rattle.pipe_columns.specs.Frame.{fields_of, frame_of, FrameData}
use Rattle.pipe_columns.specs.Slice.{sliced}
use Rattle.pipe_aggs.specs.declared.query.Query.{Query}
use Rattle.pipe_aggs.specs.QueryTrees.{query_tree}
use Rattle.pipe_model.specs.Answer.{answer}
use Rattle.pipe_model.specs.Rows.{rows}
use Rattle.pipe_groups.specs.Given.{in_order, IsFrameOfGroups}
use Rattle.pipe_groups.specs.Shape.{shape_of}
use Rattle.pipe_groups.specs.Placed.{rows_by_place}
use Rattle.pipe_groups.specs.QueryRows.{ArePlaced, HoldRowsOf}
use Rattle.pipe_groups.proofs.ByPlaceFacts.{held-apart}
use Rattle.pipe_model.proofs.RowPlaces.{rows-distinct}
use Rattle.pipe_tables.proofs.TakenFacts.{taken-by_key, taken-by_place, taken-holds, taken-placed}
use Rattle.pipe_tables.proofs.query_groups.answer_of.Goals as goal

-- the chunks that marks stand for
abbrev marked : List (Snapshot DataChunk) → List DataChunk
marked marks = map (λ s. s.value) marks

pub in_order_of_rows-requires-clause-height : goal.in_order_of_rows-requires-clause-height
in_order_of_rows-requires-clause-height c =
    let x : Query = c.args.query.now in
    let taken : List DataChunk = marked c.args.taken.now in
    let t = c.args.table.now in
    let own : HoldRowsOf (query_tree x) t.groups (rows taken (query_tree x)) =
    taken-holds x taken t c.query.ensures.sound c.query.ensures.groupable c.requires c.finalize_placed.ensures.table in
    let placed : ArePlaced (shape_of (query_tree x)) t.groups c.in_ok-placed.placed.frame c.in_ok-placed.placed.firsts =
    taken-placed (query_tree x) t c.in_ok-placed.placed.frame c.in_ok-placed.placed.firsts c.requires.shape c.in_ok-placed.ensures.frame c.in_ok-placed.ensures.firsts in
    (held-apart (query_tree x) (rows taken (query_tree x)) t.groups c.in_ok-placed.placed.frame c.in_ok-placed.placed.firsts own (rows-distinct taken (query_tree x)) placed).0

pub in_order_of_rows-requires-clause-distinct : goal.in_order_of_rows-requires-clause-distinct
in_order_of_rows-requires-clause-distinct c =
    let x : Query = c.args.query.now in
    let taken : List DataChunk = marked c.args.taken.now in
    let t = c.args.table.now in
    let own : HoldRowsOf (query_tree x) t.groups (rows taken (query_tree x)) =
    taken-holds x taken t c.query.ensures.sound c.query.ensures.groupable c.requires c.finalize_placed.ensures.table in
    let placed : ArePlaced (shape_of (query_tree x)) t.groups c.in_ok-placed.placed.frame c.in_ok-placed.placed.firsts =
    taken-placed (query_tree x) t c.in_ok-placed.placed.frame c.in_ok-placed.placed.firsts c.requires.shape c.in_ok-placed.ensures.frame c.in_ok-placed.ensures.firsts in
    (held-apart (query_tree x) (rows taken (query_tree x)) t.groups c.in_ok-placed.placed.frame c.in_ok-placed.placed.firsts own (rows-distinct taken (query_tree x)) placed).1

pub returns-then-query : goal.returns-then-query
returns-then-query c =
    let x : Query = c.args.query.now in
    let taken : List DataChunk = marked c.args.taken.now in
    let t = c.args.table.now in
    let own : HoldRowsOf (query_tree x) t.groups (rows taken (query_tree x)) =
    taken-holds x taken t c.query.ensures.sound c.query.ensures.groupable c.requires c.finalize_placed.ensures.table in
    let placed : ArePlaced (shape_of (query_tree x)) t.groups c.in_ok-placed.placed.frame c.in_ok-placed.placed.firsts =
    taken-placed (query_tree x) t c.in_ok-placed.placed.frame c.in_ok-placed.placed.firsts c.requires.shape c.in_ok-placed.ensures.frame c.in_ok-placed.ensures.firsts in
    let ordered : (query_tree x).keeps_order ≡ true = sym (ap (λ (q : Query). q.maintain_order) c.query.ensures.query) ∙ c.if-query.true in
    let frame = c.in_ok-placed.placed.frame in
    let firsts = c.in_ok-placed.placed.firsts in
    IfOk-weaker c.in_order_of_rows.result (λ (f : FrameData). f ≡ frame_of (fields_of frame.columns) (sliced c.slice-slice.result (rows_by_place firsts frame)))
    (λ (f : FrameData). f ≡ answer taken (query_tree x) 1)
    (λ f is. taken-by_place (query_tree x) taken t frame firsts c.slice-slice.result own placed c.slice-slice.ensures ordered f is)
    c.in_order_of_rows.ensures.frame

pub returns : goal.returns
returns c =
    let x : Query = c.args.query.now in
    let taken : List DataChunk = marked c.args.taken.now in
    let t = c.args.table.now in
    let own : HoldRowsOf (query_tree x) t.groups (rows taken (query_tree x)) =
    taken-holds x taken t c.query.ensures.sound c.query.ensures.groupable c.requires c.finalize.ensures.table in
    let unordered : (query_tree x).keeps_order ≡ false = sym (ap (λ (q : Query). q.maintain_order) c.query.ensures.query) ∙ c.if-query.false in
    IfOk-weaker c.finalize.result (λ (f : FrameData). IsFrameOfGroups t.shape (sliced c.slice-slice.result (in_order t.groups)) f)
    (λ (f : FrameData). f ≡ answer taken (query_tree x) 1)
    (λ f is. taken-by_key (query_tree x) taken t c.slice-slice.result f own c.requires.shape c.slice-slice.ensures unordered is)
    c.finalize.ensures.frame
