use Rattle.std.proofs.Common.{◌≡◌, ◌∙◌, subst}
use Rattle.pipe_aggs.specs.QueryTrees.{query_tree}
use Rattle.pipe_io.specs.Tried.{TriedFront}
use Rattle.summary_add.proofs.FileFacts.{added-told, ends-told}
use Rattle.summary_add.proofs.files.add_files.Goals as goal

pub add_left-requires-clause-fits : goal.add_left-requires-clause-fits
add_left-requires-clause-fits g c = λ lives bounds. c.reader_of-reader.ensures.fields ∙ c.requires.schema

pub returns-clause-added : goal.returns-clause-added
returns-clause-added g c =
    added-told c.reader_of-reader.result c.args.names.items c.args.schema (query_tree c.args.summary.now.query) c.reader_of-reader.ensures.left c.requires.schema
    (g.I.InputFiles.told c.args.input.now) c.args.summary.now.states (g.S.SpillStore.told c.args.summary.now.store) (g.S.SpillStore.told c.add_left.new.summary.store) c.add_left.result c.add_left.ensures.added

pub returns-clause-ends : goal.returns-clause-ends
returns-clause-ends g c =
    ends-told c.reader_of-reader.result c.args.names.items c.args.schema (query_tree c.args.summary.now.query) c.reader_of-reader.ensures.left c.requires.schema
    (g.I.InputFiles.told c.args.input.now) c.args.summary.now.states c.add_left.result c.add_left.ensures.ends

pub returns-clause-tried : goal.returns-clause-tried
returns-clause-tried g c = subst (TriedFront (g.I.InputFiles.tried c.args.input.now) (g.I.InputFiles.tried c.add_left.new.input)) c.reader_of-reader.ensures.names c.add_left.ensures.tried
