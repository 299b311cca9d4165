use Rattle.std.proofs.Common.{◌≡◌, ◌≤◌, ◌<◌, List, Option, arith, length, refl, rules, subst, sym}
use Rattle.std.specs.Option.{IfSome}
use Rattle.pipe_columns.specs.declared.data_chunk.DataChunk.{DataChunk}
use Rattle.pipe_io.specs.Files.{Files}
use Rattle.pipe_io.proofs.TriedFacts.{front-then, tried-none, tried-then}
use Rattle.pipe_source.specs.CsvChunks.{no_more}
use Rattle.pipe_source.specs.Kept.{state_behind}
use Rattle.pipe_source.specs.Reader.{StopsAt, chunks_left}
use Rattle.pipe_source.specs.ReadOn.{HasReadNext}
use Rattle.pipe_source.proofs.RoundFacts.{none-ahead, read-more, read-none, stands-first, stops-behind}
use Rattle.pipe_source.proofs.reading.Reading.read_on.Goals as goal

pub files-init : goal.files-init
files-init g c =
    let what = c.args.self.now in
    let told = g.I.InputFiles.told c.args.input.now in
    record {
      told = refl;
      later = omega arith;
      read = read-none what told c.args.first c.args.chunks.now.items;
      tried = tried-none _ _ (state_behind what c.args.first).names refl;
      names = refl;
      few = c.requires.few;
      place = c.requires.place;
      next = λ fewer. stands-first what told c.args.first;
    }

pub files-smaller : goal.files-smaller
files-smaller g c =
    let fewer : length c.files.chunks.items < c.args.count = search rules in
    let found = rw c.in-Ok-Some.field-0-is at c.in-Ok-Some.ensures.read in
    omega (arith, fewer, found.some)

pub files-preserved : goal.files-preserved
files-preserved g c =
    let inv = c.files.invariant in
    let told = g.I.InputFiles.told c.args.input.now in
    let fewer : length c.files.chunks.items < c.args.count = search rules in
    let found = rw c.in-Ok-Some.field-0-is at c.in-Ok-Some.ensures.read in
    let next : HasReadNext c.args.self.now told c.files.last c.files.chunks.items c.read_next.new.chunks.items c.args.count c.in-Ok-Some.text = subst (λ (t : Option Files). HasReadNext c.args.self.now t c.files.last c.files.chunks.items c.read_next.new.chunks.items c.args.count c.in-Ok-Some.text) inv.told found in
    record {
      told = search rules;
      later = search rules;
      read = read-more c.args.self.now told c.args.first c.files.last c.args.chunks.now.items c.files.chunks.items c.read_next.new.chunks.items c.args.count c.files.ahead c.in-Ok-Some.text inv.read (inv.next fewer) next;
      tried = tried-then _ _ _ _ _ _ inv.tried (rw c.in-Ok-Some.field-0-is at c.in-Ok-Some.ensures.gone);
      names = refl;
      few = next.few;
      place = next.place;
      next = next.all;
    }

pub returns-in-Err-clause-stopped : goal.returns-in-Err-clause-stopped
returns-in-Err-clause-stopped g c =
    let inv = c.files.invariant in
    let told = g.I.InputFiles.told c.args.input.now in
    let fewer : length c.files.chunks.items < c.args.count = search rules in
    stops-behind c.args.self.now told c.args.first c.files.last c.args.chunks.now.items c.files.chunks.items c.read_next.new.chunks.items c.args.count c.files.ahead _ inv.read (inv.next fewer) fewer c.in-Err.ensures.kept
    (subst (λ (t : Option Files). IfSome t (λ files. StopsAt c.in-Err.error (chunks_left files (state_behind c.args.self.now c.files.last)))) inv.told c.in-Err.ensures.stopped)

pub returns-in-Ok-None-clause-few : goal.returns-in-Ok-None-clause-few
returns-in-Ok-None-clause-few g c =
    let read = rw c.in-Ok-None.field-0-is at c.in-Ok-None.ensures.read in
    subst (λ (chunks : List DataChunk). length chunks ≤ c.args.count) (sym read.0) c.files.invariant.few

pub returns-in-Ok-None-clause-over : goal.returns-in-Ok-None-clause-over
returns-in-Ok-None-clause-over g c =
    let inv = c.files.invariant in
    let told = g.I.InputFiles.told c.args.input.now in
    let fewer : length c.files.chunks.items < c.args.count = search rules in
    let read = rw c.in-Ok-None.field-0-is at c.in-Ok-None.ensures.read in
    λ _. none-ahead c.args.self.now told c.args.first c.files.last c.files.ahead (inv.next fewer)
    (subst (λ (t : Option Files). IfSome t (λ files. chunks_left files (state_behind c.args.self.now c.files.last) ≡ no_more)) inv.told read.1)

pub returns-in-Ok-None-clause-tried : goal.returns-in-Ok-None-clause-tried
returns-in-Ok-None-clause-tried g c = front-then _ _ _ (state_behind c.args.self.now c.args.first).names (state_behind c.args.self.now c.files.last).names c.files.invariant.tried c.read_next.ensures.tried

pub returns-in-Err-clause-tried : goal.returns-in-Err-clause-tried
returns-in-Err-clause-tried g c = front-then _ _ _ (state_behind c.args.self.now c.args.first).names (state_behind c.args.self.now c.files.last).names c.files.invariant.tried c.read_next.ensures.tried
