use Rattle.std.proofs.Common.{◌<◌, length, subst, sym}
use Rattle.pipe_source.specs.Kept.{name_kept, piece_at, place_behind, rows_kept}
use Rattle.pipe_source.specs.Reader.{ReaderState}
use Rattle.pipe_source.proofs.KeptFacts.{chunk-more, chunks-below, chunks-given, kept-behind, rows-below}
use Rattle.pipe_source.proofs.ReaderFacts.{given-fits}
use Rattle.pipe_source.proofs.chunk_reader.ChunkReader.take_chunk.Goals as goal

pub advance-requires-clause-within : goal.advance-requires-clause-within
advance-requires-clause-within c = chunk-more c.self.inside.what c.self.inside.text c.self.invariant.1 (subst (λ (s : ReaderState). 0 < length s.rows) (sym c.self.view_is) c.requires)

pub advance-requires-clause-few_rows : goal.advance-requires-clause-few_rows
advance-requires-clause-few_rows c = rows-below c.self.inside.what c.self.inside.text c.self.invariant.1

pub advance-requires-clause-few_chunks : goal.advance-requires-clause-few_chunks
advance-requires-clause-few_chunks c = chunks-below c.self.inside.what c.self.inside.text c.self.invariant.1

pub invariant_of-self : goal.invariant_of-self
invariant_of-self c =
    let more = chunk-more c.self.inside.what c.self.inside.text c.self.invariant.1 (subst (λ (s : ReaderState). 0 < length s.rows) (sym c.self.view_is) c.requires) in
    (c.self.invariant.0, kept-behind c.self.inside.what 1 c.self.inside.text c.advance.new.self c.self.invariant.0 c.self.invariant.1 c.advance.ensures more)

pub returns-in-Ok-clause-given : goal.returns-in-Ok-clause-given
returns-in-Ok-clause-given c = λ files.
    let more = chunk-more c.self.inside.what c.self.inside.text c.self.invariant.1 (subst (λ (s : ReaderState). 0 < length s.rows) (sym c.self.view_is) c.requires) in
    rw (← c.self.view_is, c.in-Ok.ensures.chunk) (chunks-given files c.self.inside.what 1 c.self.inside.text c.advance.new.self c.self.invariant.0 c.self.invariant.1 c.advance.ensures more)

pub returns-in-Ok-clause-fits : goal.returns-in-Ok-clause-fits
returns-in-Ok-clause-fits c =
    let what = c.self.inside.what in
    let k = c.self.inside.text in
    rw (← c.self.view_is, c.in-Ok.ensures.chunk) (given-fits what.options what.wanted.items what.schema (name_kept what k) (place_behind k.at what.options.chunk_size 0) (piece_at what.options.chunk_size 0 (rows_kept what k)))
