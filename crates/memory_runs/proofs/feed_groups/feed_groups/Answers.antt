use Rattle.std.proofs.Common.{rules, ◌≡◌, ◌∙◌, ◌+◌, ◌++◌, [], ◌∷◌, List, Option, Some, ap, sym, subst, arith}
use Rattle.std.specs.Option.{IfSome}
use Rattle.pipe_columns.specs.declared.data_chunk.DataChunk.{DataChunk}
use Rattle.pipe_io.specs.Files.{Files}
use Rattle.pipe_source.specs.Reader.{chunks_left, Gives, ReaderState}
use Rattle.memory_runs.specs.Counts.{AreCounted, HasRoom}
use Rattle.memory_runs.specs.declared.counted.Counted.{Counted}
use Rattle.memory_runs.proofs.TakenFacts.{counted-more, taken-then}
use Rattle.memory_runs.proofs.feed_groups.feed_groups.Goals as goal

pub loop-preserved : goal.loop-preserved
loop-preserved g c =
    let inv = c.loop.invariant in
    let told : Option Files = g.I.InputFiles.told c.args.input.now in
    let chunk : DataChunk = c.in-Some.chunk in
    let new : ReaderState = c.next_fitting.new.reader in
    let room : HasRoom c.loop.counted chunk = search rules in
    let given : IfSome told (λ files. Gives (Some chunk) (chunks_left files c.loop.reader) (chunks_left files new)) = search rules in
    let count : c.with-counted.result ≡ record { chunks = c.loop.counted.chunks + 1; rows = c.loop.counted.rows + chunk.frame.height } = search rules in
    let now : c.in_ok-groups.groups.taken ≡ c.loop.groups.taken ++ chunk ∷ [] = search rules in
    record {
      told = search rules;
      later = search rules;
      query = search rules;
      fields = search rules;
      counted = subst (AreCounted c.with-counted.result) (sym now) (counted-more c.loop.counted c.with-counted.result c.loop.groups.taken chunk inv.counted room count);
      turns = omega (arith, inv.turns, ap (λ (n : Counted). n.chunks) count);
      taken = taken-then told c.args.reader.now c.loop.reader new c.loop.groups.taken c.in_ok-groups.groups.taken chunk now inv.taken given;
    }
