use Rattle.std.proofs.Common.{rules, ◌≡◌, ◌∙◌, [], ◌∷◌, IfErr, IfOk, IsErrOf, All, ℕ, List, Some, ap, subst}
use Rattle.narrow_columns.specs.Wanted.{narrowed_chunks}
use Rattle.pipe_aggs.specs.declared.query.Query.{Query}
use Rattle.pipe_aggs.specs.QueryTrees.{query_tree}
use Rattle.pipe_columns.specs.declared.data_chunk.DataChunk.{DataChunk}
use Rattle.pipe_columns.specs.declared.schema.Field.{Field}
use Rattle.pipe_columns.specs.Causes.{Rose}
use Rattle.pipe_columns.specs.Frame.{FitsSchema}
use Rattle.pipe_csv.specs.declared.csv_error.CsvError.TheVariants as csv_error
use Rattle.pipe_io.specs.Files.{Files}
use Rattle.pipe_model.specs.Answer.{answer}
use Rattle.pipe_source.specs.CsvChunks.{csv_chunks, wanted_chunks}
use Rattle.pipe_source.specs.Reader.{chunks_left}
use Rattle.memory_runs.specs.Left.{IsAnswerOf, TellsLeft}
use Rattle.memory_runs.specs.TextRuns.{text_file, text_name, text_options}
use Rattle.memory_runs.proofs.TextFacts.{text-answered, text-told}
use Rattle.memory_runs.proofs.groups.group_text.Goals as goal

pub returns-clause-answer : goal.returns-clause-answer
returns-clause-answer c =
    let q : Query = c.args.query in
    let n = c.in_ok-schema.field-0 in
    let schema : n.schema ≡ q.schema = search rules in
    let left : (files : Files) → chunks_left files c.in-Ok.reader ≡ wanted_chunks text_options n.wanted.items (csv_chunks files (text_name ∷ []) q.schema text_options) =
    λ files. c.in-Ok.ensures.left files ∙ ap (λ (s : List Field). wanted_chunks text_options n.wanted.items (csv_chunks files (text_name ∷ []) s text_options)) schema in
    let law : (chunks : List DataChunk) (partitions : ℕ) → All (λ c. FitsSchema q.schema c.frame) chunks → answer (narrowed_chunks n.wanted.items chunks) (query_tree n.query) partitions ≡ answer chunks (query_tree q) partitions = search rules in
    let answered : IfOk c.group_by.result (IsAnswerOf (query_tree n.query) (Some (text_file c.args.text.now)) c.in-Ok.reader) = search rules in
    text-answered q n.query n.wanted.items c.args.text.now c.in-Ok.reader left law c.group_by.result answered

pub returns-clause-cause : goal.returns-clause-cause
returns-clause-cause c =
    let q : Query = c.args.query in
    let n = c.in_ok-schema.field-0 in
    let schema : n.schema ≡ q.schema = search rules in
    let left : (files : Files) → chunks_left files c.in-Ok.reader ≡ wanted_chunks text_options n.wanted.items (csv_chunks files (text_name ∷ []) q.schema text_options) =
    λ files. c.in-Ok.ensures.left files ∙ ap (λ (s : List Field). wanted_chunks text_options n.wanted.items (csv_chunks files (text_name ∷ []) s text_options)) schema in
    let law : (chunks : List DataChunk) (partitions : ℕ) → All (λ c. FitsSchema q.schema c.frame) chunks → answer (narrowed_chunks n.wanted.items chunks) (query_tree n.query) partitions ≡ answer chunks (query_tree q) partitions = search rules in
    let failed : IsErrOf c.group_by.result csv_error.Input → Rose 0 0 = search rules in
    let told : IfErr c.group_by.result (λ e. TellsLeft e (Some (text_file c.args.text.now)) c.in-Ok.reader) = search rules in
    text-told q n.query n.wanted.items c.args.text.now c.in-Ok.reader left law c.group_by.result failed told
