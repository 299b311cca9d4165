use Rattle.std.proofs.Common.{◌≡◌, ◌<◌, [], arith, length, refl, subst, sym}
use Rattle.pipe_io.proofs.TriedFacts.{front-none}
use Rattle.pipe_source.specs.Reader.{ReaderState}
use Rattle.pipe_source.proofs.KeptFacts.{no-rows, some-rows}
use Rattle.pipe_source.proofs.chunk_reader.ChunkReader.next_chunk.Goals as goal
use Rattle.pipe_source.proofs.chunk_reader.ChunkReader.next_chunk.Goals.{then-self-eq0+in-Ok-true, else-self-eq0}

pub load_next-requires : goal.load_next-requires
load_next-requires g c = subst (λ (s : ReaderState). s.rows ≡ []) c.self.view_is (no-rows c.self.inside.what c.self.inside.text c.if-self-eq0.true)

pub take_chunk-requires : goal.take_chunk-requires
take_chunk-requires g c = elim c.if-self-eq0.branch [
  | then-self-eq0+in-Ok-true w ↦ subst (λ (s : ReaderState). 0 < length s.rows) (sym w.self-is) (rw w.in-Ok-true.field-0-test at w.in-Ok-true.ensures.found)
  | else-self-eq0 w ↦
      let some = some-rows c.self.inside.what c.self.inside.text c.self.invariant.1 (omega (arith, w.if-self-eq0.false)) in
      subst (λ (s : ReaderState). 0 < length s.rows) (sym w.self-is) (subst (λ (s : ReaderState). 0 < length s.rows) c.self.view_is some)
]

pub returns-in-Ok-clause-tried : goal.returns-in-Ok-clause-tried
returns-in-Ok-clause-tried g c = elim c.if-self-eq0.branch [
  | then-self-eq0+in-Ok-true w ↦ rw w.input-is w.load_next.ensures.tried
  | else-self-eq0 w ↦ rw w.input-is (front-none _ _ c.args.self.now.names refl)
]

pub returns-in-Err-take_chunk-clause-tried : goal.returns-in-Err-take_chunk-clause-tried
returns-in-Err-take_chunk-clause-tried g c = elim c.if-self-eq0.branch [
  | then-self-eq0+in-Ok-true w ↦ rw w.input-is w.load_next.ensures.tried
  | else-self-eq0 w ↦ rw w.input-is (front-none _ _ c.args.self.now.names refl)
]
