use Rattle.std.proofs.Common.{rules, ◌≡◌, ◌∙◌, true, false}
use Rattle.std.specs.Str.{bytes_eq}
use Rattle.pipe_io.proofs.MemoryFacts.{pass, placed}
use Rattle.pipe_io.proofs.memory_files.place_of.Goals as goal

pub returns-then-eq-clause-found : goal.returns-then-eq-clause-found
returns-then-eq-clause-found c =
    let same : bytes_eq c.index-files-i.result.0 c.args.name.now ≡ true = search rules in
    placed c.args.files.now c.args.name.now c.loop-i.i c.index-files-i.result c.loop-i-test.true c.loop-i.invariant (rw (← c.index-files-i.is) same)

pub loop-i-preserved : goal.loop-i-preserved
loop-i-preserved c =
    let other : bytes_eq c.index-files-i.result.0 c.args.name.now ≡ false = search rules in
    c.loop-i.invariant ∙ pass c.args.files.now c.args.name.now c.loop-i.i c.index-files-i.result c.loop-i-test.true (rw (← c.index-files-i.is) other)
