use Rattle.std.proofs.Common.{rules, ◌≡◌, ◌∙◌, true, IfOk, List, Option, refl, ap, subst}
use Rattle.narrow_query.specs.Names.{covers}
use Rattle.narrow_query.specs.Narrowed.{narrowed_query}
use Rattle.pipe_aggs.specs.declared.query.Query.{Query}
use Rattle.pipe_aggs.specs.QueryTrees.{query_tree}
use Rattle.pipe_columns.specs.declared.schema.Field.{Field}
use Rattle.pipe_io.specs.Files.{Files}
use Rattle.pipe_io.proofs.TriedFacts.{front-none}
use Rattle.pipe_source.specs.CsvChunks.{csv_chunks, wanted_chunks}
use Rattle.rollup_save.specs.Saves.{save_options}
use Rattle.rollup_save.specs.Taken.{IsTextOf}
use Rattle.rollup_save.proofs.FileFacts.{answer-saved, answer-text, answer-told, answer-whole}
use Rattle.rollup_save.proofs.files.save_files.Goals as goal

pub returns-in_err-schema-clause-tried : goal.returns-in_err-schema-clause-tried
returns-in_err-schema-clause-tried g c = front-none _ _ c.args.names.items refl

pub returns-in-Err-clause-tried : goal.returns-in-Err-clause-tried
returns-in-Err-clause-tried g c = front-none _ _ c.args.names.items refl

pub returns-clause-cause : goal.returns-clause-cause
returns-clause-cause g c =
    let q : Query = c.args.query in
    let n = c.in_ok-schema.field-0 in
    let covered : covers n.wanted.items (query_tree q) ≡ true = search rules in
    let schema : n.schema ≡ q.schema = search rules in
    answer-told q n.wanted.items c.args.first c.args.names.items covered c.in-Ok.reader
    (λ files. c.in-Ok.ensures.left files ∙ ap (λ (s : List Field). wanted_chunks save_options n.wanted.items (csv_chunks files c.args.names.items s save_options)) schema)
    (g.I.InputFiles.told c.args.input.now) c.text_by.result c.text_by.ensures.cause

pub returns-clause-whole : goal.returns-clause-whole
returns-clause-whole g c =
    let q : Query = c.args.query in
    let n = c.in_ok-schema.field-0 in
    let told : Option Files = g.I.InputFiles.told c.args.input.now in
    let covered : covers n.wanted.items (query_tree q) ≡ true = search rules in
    let schema : n.schema ≡ q.schema = search rules in
    let query : n.query ≡ narrowed_query n.wanted.items q = search rules in
    answer-whole q n.wanted.items c.args.first c.args.names.items covered c.in-Ok.reader
    (λ files. c.in-Ok.ensures.left files ∙ ap (λ (s : List Field). wanted_chunks save_options n.wanted.items (csv_chunks files c.args.names.items s save_options)) schema)
    told c.text_by.result (subst (λ (x : Query). IfOk c.text_by.result (λ v. IsTextOf (query_tree x) c.args.first told c.in-Ok.reader v.items)) query c.text_by.ensures.text)

pub returns-clause-text : goal.returns-clause-text
returns-clause-text g c =
    let q : Query = c.args.query in
    let n = c.in_ok-schema.field-0 in
    let told : Option Files = g.I.InputFiles.told c.args.input.now in
    let covered : covers n.wanted.items (query_tree q) ≡ true = search rules in
    let schema : n.schema ≡ q.schema = search rules in
    let query : n.query ≡ narrowed_query n.wanted.items q = search rules in
    answer-text q n.wanted.items c.args.first c.args.names.items covered c.in-Ok.reader
    (λ files. c.in-Ok.ensures.left files ∙ ap (λ (s : List Field). wanted_chunks save_options n.wanted.items (csv_chunks files c.args.names.items s save_options)) schema)
    told c.text_by.result (subst (λ (x : Query). IfOk c.text_by.result (λ v. IsTextOf (query_tree x) c.args.first told c.in-Ok.reader v.items)) query c.text_by.ensures.text)

pub returns-clause-saved : goal.returns-clause-saved
returns-clause-saved g c =
    let q : Query = c.args.query in
    let n = c.in_ok-schema.field-0 in
    let told : Option Files = g.I.InputFiles.told c.args.input.now in
    let covered : covers n.wanted.items (query_tree q) ≡ true = search rules in
    let query : n.query ≡ narrowed_query n.wanted.items q = search rules in
    answer-saved q n.wanted.items c.args.first told c.in-Ok.reader c.text_by.result covered
    (subst (λ (x : Query). IfOk c.text_by.result (λ v. IsTextOf (query_tree x) c.args.first told c.in-Ok.reader v.items)) query c.text_by.ensures.text)
