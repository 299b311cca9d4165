use Rattle.std.proofs.Common.{rules, ◌≡◌, ◌∙◌, true, List, [], ◌∷◌, IfOk, IfErr, IsErrOf, Some, ap, subst}
use Rattle.memory_runs.specs.TextRuns.{text_file, text_name}
use Rattle.narrow_query.specs.Names.{covers}
use Rattle.narrow_query.specs.Narrowed.{narrowed_query}
use Rattle.pipe_aggs.specs.declared.query.Query.{Query}
use Rattle.pipe_aggs.specs.QueryTrees.{query_tree}
use Rattle.pipe_columns.specs.declared.schema.Field.{Field}
use Rattle.pipe_columns.specs.Causes.{Rose}
use Rattle.pipe_csv.specs.declared.csv_error.CsvError.TheVariants as csv_error
use Rattle.pipe_io.specs.Files.{Files}
use Rattle.pipe_source.specs.CsvChunks.{csv_chunks, wanted_chunks}
use Rattle.pipe_source.specs.Reader.{chunks_left}
use Rattle.rollup_save.specs.Saves.{end_of, save_options, Tells}
use Rattle.rollup_save.specs.Taken.{IsTextOf}
use Rattle.rollup_save.proofs.FileFacts.{answer-told}
use Rattle.memory_states.proofs.SavedFacts.{never-rose, text-saved}
use Rattle.memory_states.proofs.saved.saved_text.Goals as goal

pub returns-clause-saved : goal.returns-clause-saved
returns-clause-saved c =
    let q : Query = c.args.query in
    let n = c.in_ok-schema.field-0 in
    let covered : covers n.wanted.items (query_tree q) ≡ true = search rules in
    let schema : n.schema ≡ q.schema = search rules in
    let query : n.query ≡ narrowed_query n.wanted.items q = search rules in
    let left : (files : Files) → chunks_left files c.in-Ok.reader ≡ wanted_chunks save_options n.wanted.items (csv_chunks files (text_name ∷ []) q.schema save_options) =
    λ files. c.in-Ok.ensures.left files ∙ ap (λ (s : List Field). wanted_chunks save_options n.wanted.items (csv_chunks files (text_name ∷ []) s save_options)) schema in
    let text : IfOk c.text_left.result (λ v. IsTextOf (query_tree n.query) c.args.first (Some (text_file c.args.text.now)) c.in-Ok.reader v.items) = search rules in
    text-saved q n.wanted.items c.args.first (text_name ∷ []) covered c.in-Ok.reader left (Some (text_file c.args.text.now)) c.text_left.result
    (subst (λ (x : Query). IfOk c.text_left.result (λ v. IsTextOf (query_tree x) c.args.first (Some (text_file c.args.text.now)) c.in-Ok.reader v.items)) query text)

pub returns-clause-cause : goal.returns-clause-cause
returns-clause-cause c =
    let q : Query = c.args.query in
    let n = c.in_ok-schema.field-0 in
    let covered : covers n.wanted.items (query_tree q) ≡ true = search rules in
    let schema : n.schema ≡ q.schema = search rules in
    let told : IfErr c.text_left.result (λ e. Tells e (end_of c.args.first (chunks_left (text_file c.args.text.now) c.in-Ok.reader))) = search rules in
    answer-told q n.wanted.items c.args.first (text_name ∷ []) covered c.in-Ok.reader
    (λ files. c.in-Ok.ensures.left files ∙ ap (λ (s : List Field). wanted_chunks save_options n.wanted.items (csv_chunks files (text_name ∷ []) s save_options)) schema)
    (Some (text_file c.args.text.now)) c.text_left.result told

pub returns-clause-read : goal.returns-clause-read
returns-clause-read c =
    let failed : IsErrOf c.text_left.result csv_error.Input → Rose 0 0 = search rules in
    λ is. never-rose (failed is)
