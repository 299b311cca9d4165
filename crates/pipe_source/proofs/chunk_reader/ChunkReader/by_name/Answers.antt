use Rattle.std.proofs.Common.{◌≡◌, ◌∙◌, ap, rules, List, Bool}
use Rattle.pipe_source.specs.CsvChunks.{wanted_chunks}
use Rattle.pipe_source.specs.NamedChunks.{named_chunks}
use Rattle.pipe_source.proofs.ReaderFacts.{all-given}
use Rattle.pipe_source.proofs.chunk_reader.ChunkReader.by_name.Goals as goal

pub returns-clause-left : goal.returns-clause-left
returns-clause-left c = λ files.
    let all : _ ≡ wanted_chunks c.args.options c.new.result.items (named_chunks files c.args.names.items c.args.columns c.args.options) = search rules in
    all ∙ ap (λ (ws : List Bool). wanted_chunks c.args.options ws (named_chunks files c.args.names.items c.args.columns c.args.options)) c.new.ensures.items ∙ all-given c.args.options (named_chunks files c.args.names.items c.args.columns c.args.options)
