use Rattle.std.proofs.Common.{◌∙◌, ◌≡◌, List, map, sym, ap, subst}
use Rattle.std.proofs.lemmas.Result.{IfOk-weaker}
use Rattle.pipe_columns.specs.declared.any_value.AnyValue.{AnyValue}
use Rattle.pipe_columns.specs.declared.schema.Field.{Field}
use Rattle.pipe_columns.specs.Frame.{FrameData, frame_of}
use Rattle.pipe_columns.specs.Slice.{sliced}
use Rattle.pipe_aggs.specs.declared.query.Query.{Query}
use Rattle.pipe_model.specs.Groupable.{IsGroupable}
use Rattle.pipe_model.specs.Output.{output_schema}
use Rattle.pipe_model.specs.Query.{QueryTree}
use Rattle.pipe_aggs.specs.QueryTrees.{query_tree}
use Rattle.pipe_model.specs.Answer.{answer}
use Rattle.test_plain.specs.declared.groups.Group.{Group}
use Rattle.test_plain.specs.Fits.{RowsFit}
use Rattle.test_plain.specs.Running.{group_seen}
use Rattle.test_plain.specs.Taken.{PlainRun}
use Rattle.test_plain.proofs.AnswerFacts.{answer_rows, kept_rows}
use Rattle.test_plain.proofs.FitFacts.{answer_rows-fit}
use Rattle.test_plain.proofs.TakenFacts.{taken_as}
use Rattle.test_plain.proofs.table.PlainGroups.finish.Goals as goal

pub returns : goal.returns
returns c =
    let run : PlainRun = c.args.self in
    let q : QueryTree = query_tree run.query in
    let asked : c.self.inside.query.now ≡ run.query = ap (λ (r : PlainRun). r.query) c.self.view_is in
    let has = taken_as _ run (map group_seen c.self.inside.groups.items) c.self.view_is c.self.invariant in
    let groupable : IsGroupable q = subst (λ (x : Query). IsGroupable (query_tree x)) asked c.output_schema.ensures.groupable in
    let table : List Group = c.in_ok-groups.groups.items in
    let kept : c.sliced.result.items ≡ sliced q.slice table = c.sliced.ensures ∙ ap (λ s. sliced s table) (c.slice.ensures ∙ ap (λ (x : Query). (query_tree x).slice) asked) in
    let rows : List (List AnyValue) = map (λ row. row.items) c.deref.result.now in
    let due : rows ≡ answer_rows q run.taken c.args.partitions =
    kept_rows q run.taken c.args.partitions table c.sliced.result.items rows groupable has.chunks has.chunks.typed c.in_ok-groups.ensures kept
    (ap (map (λ row. row.items)) c.deref.ensures.value ∙ c.in_ok-rows.ensures) in
    let fields : c.fields-fields.result.now ≡ output_schema q = c.fields-fields.ensures ∙ c.output_schema.ensures.schema ∙ ap (λ (x : Query). output_schema (query_tree x)) asked in
    let whole : FrameData = answer run.taken q c.args.partitions in
    let made : frame_of c.fields-fields.result.now rows ≡ whole = ap (λ (fs : List Field). frame_of fs rows) fields ∙ ap (frame_of (output_schema q)) due in
    IfOk-weaker c.output_frame.result (λ (f : FrameData). f ≡ frame_of c.fields-fields.result.now rows) (λ (f : FrameData). f ≡ whole) (λ f e. e ∙ made) c.output_frame.ensures

pub output_frame-requires : goal.output_frame-requires
output_frame-requires c =
    let run : PlainRun = c.args.self in
    let q : QueryTree = query_tree run.query in
    let asked : c.self.inside.query.now ≡ run.query = ap (λ (r : PlainRun). r.query) c.self.view_is in
    let has = taken_as _ run (map group_seen c.self.inside.groups.items) c.self.view_is c.self.invariant in
    let groupable : IsGroupable q = subst (λ (x : Query). IsGroupable (query_tree x)) asked c.output_schema.ensures.groupable in
    let table : List Group = c.in_ok-groups.groups.items in
    let kept : c.sliced.result.items ≡ sliced q.slice table = c.sliced.ensures ∙ ap (λ s. sliced s table) (c.slice.ensures ∙ ap (λ (x : Query). (query_tree x).slice) asked) in
    let rows : List (List AnyValue) = map (λ row. row.items) c.deref.result.now in
    let due : rows ≡ answer_rows q run.taken c.args.partitions =
    kept_rows q run.taken c.args.partitions table c.sliced.result.items rows groupable has.chunks has.chunks.typed c.in_ok-groups.ensures kept
    (ap (map (λ row. row.items)) c.deref.ensures.value ∙ c.in_ok-rows.ensures) in
    let fields : c.fields-fields.result.now ≡ output_schema q = c.fields-fields.ensures ∙ c.output_schema.ensures.schema ∙ ap (λ (x : Query). output_schema (query_tree x)) asked in
    let F : List Field → Type 0 = λ fs. RowsFit fs (answer_rows q run.taken c.args.partitions) in
    let R : List (List AnyValue) → Type 0 = λ rs. RowsFit c.fields-fields.result.now rs in
    subst R (sym due) (subst F (sym fields)
    (answer_rows-fit q run.taken c.args.partitions groupable has.chunks has.chunks.typed))
