use Rattle.std.proofs.Common.{rules, ◌≡◌, ◌∙◌, ◌+◌, ◌<◌, ◌≤◌, ◌++◌, List, [], length, refl, sym, ap, subst, arith, Option, length-append}
use Rattle.std.specs.Option.{IfSome}
use Rattle.pipe_columns.specs.declared.data_chunk.DataChunk.{DataChunk}
use Rattle.pipe_io.specs.Files.{Files}
use Rattle.pipe_io.specs.Tried.{AreTried}
use Rattle.pipe_io.proofs.TriedFacts.{front-then, tried-none, tried-then}
use Rattle.pipe_summary.specs.Additions.{AreFewBehind}
use Rattle.pipe_source.specs.CsvChunks.{no_more}
use Rattle.pipe_source.specs.Reader.{chunks_left, given_fields, ReaderState}
use Rattle.rollup_save.specs.Taken.{WereTaken}
use Rattle.rollup_save.proofs.RoundFacts.{fed-taken, taken-all, taken-none, taken-then}
use Rattle.summary_add.proofs.EndFacts.{few-same}
use Rattle.summary_add.proofs.feed_left.feed_left.Goals as goal

pub loop-init : goal.loop-init
loop-init g c =
    let none : c.args.adding.taken ≡ [] = c.requires.none in
    record {
      told = refl;
      later = omega arith;
      tried = tried-none _ _ c.args.reader.now.names refl;
      query = refl;
      rows = refl;
      first = refl;
      fields = c.requires.fits;
      few = subst (AreFewBehind c.args.adding.rows c.args.adding.first) (sym none) c.requires.few;
      rounds = omega arith;
      taken = taken-none (g.I.InputFiles.told c.args.input.now) c.args.reader.now c.args.adding.taken none;
    }

pub returns-in-Err-clause-tried : goal.returns-in-Err-clause-tried
returns-in-Err-clause-tried g c = front-then _ _ _ c.args.reader.now.names c.loop.reader.names c.loop.invariant.tried c.next_round.ensures.tried

pub returns-in_err-adding-clause-tried : goal.returns-in_err-adding-clause-tried
returns-in_err-adding-clause-tried g c = front-then _ _ _ c.args.reader.now.names c.loop.reader.names c.loop.invariant.tried c.next_round.ensures.tried

pub returns-then-len-most-clause-tried : goal.returns-then-len-most-clause-tried
returns-then-len-most-clause-tried g c = front-then _ _ _ c.args.reader.now.names c.loop.reader.names c.loop.invariant.tried c.next_round.ensures.tried

pub returns-then-len-most-clause-all : goal.returns-then-len-most-clause-all
returns-then-len-most-clause-all g c =
    let inv = c.loop.invariant in
    let told : Option Files = g.I.InputFiles.told c.args.input.now in
    let more : List DataChunk = c.in-Ok.chunks.items in
    let new : ReaderState = c.next_round.new.reader in
    let is : c.in_ok-adding.adding.taken ≡ c.loop.adding.taken ++ more = fed-taken c.loop.adding.taken more c.deref.result.now _ c.deref.ensures.value c.in_ok-adding.ensures.taken in
    let step : WereTaken told c.loop.reader more new = subst (λ (t : Option Files). WereTaken t c.loop.reader more new) inv.told c.in-Ok.ensures.taken in
    let last : length more < c.args.most = search rules in
    let none : IfSome told (λ files. chunks_left files new ≡ no_more) = subst (λ (t : Option Files). IfSome t (λ files. chunks_left files new ≡ no_more)) inv.told (c.in-Ok.ensures.over last) in
    taken-all told c.args.reader.now new c.in_ok-adding.adding.taken
    (taken-then told c.args.reader.now c.loop.reader new c.loop.adding.taken more c.in_ok-adding.adding.taken is inv.taken step) none

pub loop-preserved : goal.loop-preserved
loop-preserved g c =
    let inv = c.loop.invariant in
    let told : Option Files = g.I.InputFiles.told c.args.input.now in
    let more : List DataChunk = c.in-Ok.chunks.items in
    let now : List DataChunk = c.in_ok-adding.adding.taken in
    let new : ReaderState = c.next_round.new.reader in
    let is : now ≡ c.loop.adding.taken ++ more = fed-taken c.loop.adding.taken more c.deref.result.now _ c.deref.ensures.value c.in_ok-adding.ensures.taken in
    let step : WereTaken told c.loop.reader more new = subst (λ (t : Option Files). WereTaken t c.loop.reader more new) inv.told c.in-Ok.ensures.taken in
    let full : c.args.most ≤ length more = search rules in
    let count : length now ≡ length c.loop.adding.taken + length more = ap (λ (l : List DataChunk). length l) is ∙ length-append c.loop.adding.taken more in
    let back : new.names ≡ c.take_back.new.self.names = sym (ap (λ (r : ReaderState). r.names) c.take_back.ensures) in
    let gone = subst (AreTried (g.I.InputFiles.tried c.loop.input) (g.I.InputFiles.tried c.next_round.new.input) c.loop.reader.names) back (c.in-Ok.ensures.gone full) in
    record {
      told = search rules;
      later = search rules;
      tried = tried-then _ _ _ c.args.reader.now.names c.loop.reader.names _ inv.tried gone;
      query = c.in_ok-adding.ensures.query ∙ inv.query;
      rows = c.in_ok-adding.ensures.rows ∙ inv.rows;
      first = c.in_ok-adding.ensures.first ∙ inv.first;
      fields = search rules;
      few = subst (AreFewBehind c.args.adding.rows c.args.adding.first) (sym is) (few-same inv.rows inv.first c.in-Ok.ensures.few);
      rounds = omega (arith, inv.rounds, count, full, c.requires.most);
      taken = subst (WereTaken told c.args.reader.now now) (sym c.take_back.ensures) (taken-then told c.args.reader.now c.loop.reader new c.loop.adding.taken more now is inv.taken step);
    }
