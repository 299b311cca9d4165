use Rattle.std.proofs.Common.{◌≡◌, ◌-◌, length, refl, sym, subst, arith, Some, None, IfSome}
use Rattle.pipe_io.specs.Tried.{TriedFront}
use Rattle.pipe_io.proofs.TriedFacts.{front-none}
use Rattle.pipe_source.specs.Kept.{IsSourcePlace, state_behind}
use Rattle.pipe_source.specs.CsvChunks.{no_more}
use Rattle.pipe_source.specs.Reader.{chunks_left}
use Rattle.pipe_source.specs.ReadOn.{HasReadOn}
use Rattle.pipe_source.specs.declared.source_place.SourcePlace.{SourcePlace}
use Rattle.pipe_source.proofs.KeptFacts.{chunks-below, kept-behind, rows-below}
use Rattle.pipe_source.proofs.RoundFacts.{chunks-fit, length-given, over-none, place-past, place_past, round-fits, round-given, round-none, round-stops, some-left, told-first, within-all, within-left}
use Rattle.pipe_source.proofs.chunk_reader.ChunkReader.get_round.Goals as goal

pub invariant_of-self-then-some-count : goal.invariant_of-self-then-some-count
invariant_of-self-then-some-count g c =
    let what = c.self.inside.what in
    let text = c.self.inside.text in
    let some = some-left text c.chunks_left.result c.min-some.result c.args.count c.min-some.ensures c.chunks_left.ensures in
    (c.self.invariant.0, kept-behind what c.min-some.result text c.advance.new.self c.self.invariant.0 c.self.invariant.1 c.advance.ensures (within-all what text c.min-some.result c.args.count c.self.invariant.1 some))

pub returns-then-some-count-clause-given : goal.returns-then-some-count-clause-given
returns-then-some-count-clause-given g c =
    let what = c.self.inside.what in
    let text = c.self.inside.text in
    let some = some-left text c.chunks_left.result c.min-some.result c.args.count c.min-some.ensures c.chunks_left.ensures in
    rw (← c.self.view_is) (told-first (g.I.InputFiles.told c.args.input.now) what c.min-some.result text c.advance.new.self c.in-Ok.chunks.items c.self.invariant.0 c.self.invariant.1 c.advance.ensures (within-all what text c.min-some.result c.args.count c.self.invariant.1 some) c.in-Ok.ensures)

pub returns-then-some-count-clause-few : goal.returns-then-some-count-clause-few
returns-then-some-count-clause-few g c =
    let many = length-given c.self.inside.what c.self.inside.text c.min-some.result c.in-Ok.chunks.items c.in-Ok.ensures in
    omega (arith, many, c.if-some-count.true)

pub returns-then-some-count-clause-over : goal.returns-then-some-count-clause-over
returns-then-some-count-clause-over g c = λ fewer.
    let many = length-given c.self.inside.what c.self.inside.text c.min-some.result c.in-Ok.chunks.items c.in-Ok.ensures in
    absurd (omega (arith, many, fewer, c.if-some-count.true))

pub returns-then-some-count-clause-fit : goal.returns-then-some-count-clause-fit
returns-then-some-count-clause-fit g c = rw (← c.self.view_is, c.in-Ok.ensures) (chunks-fit c.self.inside.what c.self.inside.text c.min-some.result)

pub read_on-requires-clause-place : goal.read_on-requires-clause-place
read_on-requires-clause-place g c =
    let place : IsSourcePlace c.self.inside.what c.place_behind-last.result = subst (IsSourcePlace c.self.inside.what) (sym c.place_behind-last.ensures) (place-past c.self.inside.what c.self.inside.text c.self.invariant.0 c.self.invariant.1) in
    λ κs bounds. place

pub read_on-requires-clause-few : goal.read_on-requires-clause-few
read_on-requires-clause-few g c =
    let text = c.self.inside.text in
    let some = some-left text c.chunks_left.result c.min-some.result c.args.count c.min-some.ensures c.chunks_left.ensures in
    let many = length-given c.self.inside.what text c.min-some.result c.in-Ok.chunks.items c.in-Ok.ensures in
    omega (arith, many, some)

pub invariant_of-self-in-Ok-None : goal.invariant_of-self-in-Ok-None
invariant_of-self-in-Ok-None g c =
    let what = c.self.inside.what in
    let text = c.self.inside.text in
    let some = some-left text c.chunks_left.result c.min-some.result c.args.count c.min-some.ensures c.chunks_left.ensures in
    (c.self.invariant.0, kept-behind what c.min-some.result text c.advance-in-Ok-None.new.self c.self.invariant.0 c.self.invariant.1 c.advance-in-Ok-None.ensures (within-all what text c.min-some.result c.args.count c.self.invariant.1 some))

pub returns-in-Ok-Some-clause-given : goal.returns-in-Ok-Some-clause-given
returns-in-Ok-Some-clause-given g c =
    let what = c.self.inside.what in
    let text = c.self.inside.text in
    let told = g.I.InputFiles.told c.args.input.now in
    let some = some-left text c.chunks_left.result c.min-some.result c.args.count c.min-some.ensures c.chunks_left.ensures in
    let all : c.min-some.result ≡ length text.starts.items - text.chunk = omega (arith, some, c.if-some-count.false) in
    let read = rw c.in-Ok-Some.field-0-is at c.in-Ok-Some.ensures.read in
    let on : HasReadOn what told (place_past text) c.in-Ok.chunks.items c.read_on.new.chunks.items (Some c.in-Ok-Some.text) = subst (λ (p : SourcePlace). HasReadOn what told p c.in-Ok.chunks.items c.read_on.new.chunks.items (Some c.in-Ok-Some.text)) c.place_behind-last.ensures read in
    rw (← c.self.view_is) (round-given told what text c.min-some.result (Some c.in-Ok-Some.text) c.in-Ok.chunks.items c.read_on.new.chunks.items c.self.invariant.0 c.self.invariant.1 all c.in-Ok.ensures on)

pub returns-in-Ok-Some-clause-fit : goal.returns-in-Ok-Some-clause-fit
returns-in-Ok-Some-clause-fit g c =
    let what = c.self.inside.what in
    let text = c.self.inside.text in
    let told = g.I.InputFiles.told c.args.input.now in
    let read = rw c.in-Ok-Some.field-0-is at c.in-Ok-Some.ensures.read in
    rw (← c.self.view_is) (round-fits what told text c.min-some.result c.place_behind-last.result (Some c.in-Ok-Some.text) c.in-Ok.chunks.items c.read_on.new.chunks.items c.in-Ok.ensures read)

pub returns-in-Ok-None-clause-given : goal.returns-in-Ok-None-clause-given
returns-in-Ok-None-clause-given g c =
    let what = c.self.inside.what in
    let text = c.self.inside.text in
    let told = g.I.InputFiles.told c.args.input.now in
    let some = some-left text c.chunks_left.result c.min-some.result c.args.count c.min-some.ensures c.chunks_left.ensures in
    let all : c.min-some.result ≡ length text.starts.items - text.chunk = omega (arith, some, c.if-some-count.false) in
    let read = rw c.in-Ok-None.field-0-is at c.in-Ok-None.ensures.read in
    let on : HasReadOn what told (place_past text) c.in-Ok.chunks.items c.read_on.new.chunks.items None = subst (λ (p : SourcePlace). HasReadOn what told p c.in-Ok.chunks.items c.read_on.new.chunks.items None) c.place_behind-last.ensures read in
    rw (← c.self.view_is) (round-none told what c.min-some.result text c.advance-in-Ok-None.new.self c.in-Ok.chunks.items c.read_on.new.chunks.items c.self.invariant.0 c.self.invariant.1 c.advance-in-Ok-None.ensures all c.in-Ok.ensures on)

pub returns-in-Ok-None-clause-over : goal.returns-in-Ok-None-clause-over
returns-in-Ok-None-clause-over g c = λ fewer.
    let what = c.self.inside.what in
    let text = c.self.inside.text in
    let told = g.I.InputFiles.told c.args.input.now in
    let some = some-left text c.chunks_left.result c.min-some.result c.args.count c.min-some.ensures c.chunks_left.ensures in
    let all : c.min-some.result ≡ length text.starts.items - text.chunk = omega (arith, some, c.if-some-count.false) in
    let over = rw c.in-Ok-None.field-0-is at c.in-Ok-None.ensures.over in
    let past = subst (λ (p : SourcePlace). IfSome told (λ files. chunks_left files (state_behind what p) ≡ no_more)) c.place_behind-last.ensures (over fewer) in
    over-none told what c.min-some.result text c.advance-in-Ok-None.new.self c.self.invariant.1 c.advance-in-Ok-None.ensures all past

pub returns-in-Ok-None-clause-fit : goal.returns-in-Ok-None-clause-fit
returns-in-Ok-None-clause-fit g c =
    let what = c.self.inside.what in
    let text = c.self.inside.text in
    let told = g.I.InputFiles.told c.args.input.now in
    let read = rw c.in-Ok-None.field-0-is at c.in-Ok-None.ensures.read in
    rw (← c.self.view_is) (round-fits what told text c.min-some.result c.place_behind-last.result None c.in-Ok.chunks.items c.read_on.new.chunks.items c.in-Ok.ensures read)

pub returns-in-Err-clause-stopped : goal.returns-in-Err-clause-stopped
returns-in-Err-clause-stopped g c =
    let what = c.self.inside.what in
    let text = c.self.inside.text in
    let told = g.I.InputFiles.told c.args.input.now in
    let some = some-left text c.chunks_left.result c.min-some.result c.args.count c.min-some.ensures c.chunks_left.ensures in
    let all : c.min-some.result ≡ length text.starts.items - text.chunk = omega (arith, some, c.if-some-count.false) in
    let stopped = rw c.place_behind-last.ensures at c.in-Err.ensures.stopped in
    rw (← c.self.view_is) (round-stops told what text c.min-some.result c.args.count c.in-Ok.chunks.items c.read_on.new.chunks.items _ c.self.invariant.0 c.self.invariant.1 all c.in-Ok.ensures stopped)

pub advance-requires-clause-within : goal.advance-requires-clause-within
advance-requires-clause-within g c = within-left c.self.inside.what c.self.inside.text c.chunks_left.result c.min-some.result c.args.count c.self.invariant.1 c.min-some.ensures c.chunks_left.ensures

pub advance-requires-clause-few_rows : goal.advance-requires-clause-few_rows
advance-requires-clause-few_rows g c = rows-below c.self.inside.what c.self.inside.text c.self.invariant.1

pub advance-requires-clause-few_chunks : goal.advance-requires-clause-few_chunks
advance-requires-clause-few_chunks g c = chunks-below c.self.inside.what c.self.inside.text c.self.invariant.1

pub place_behind-last-requires-clause-few_rows : goal.place_behind-last-requires-clause-few_rows
place_behind-last-requires-clause-few_rows g c = rows-below c.self.inside.what c.self.inside.text c.self.invariant.1

pub place_behind-last-requires-clause-few_chunks : goal.place_behind-last-requires-clause-few_chunks
place_behind-last-requires-clause-few_chunks g c = chunks-below c.self.inside.what c.self.inside.text c.self.invariant.1

pub advance-requires-in-Ok-None-clause-within : goal.advance-requires-in-Ok-None-clause-within
advance-requires-in-Ok-None-clause-within g c = within-left c.self.inside.what c.self.inside.text c.chunks_left.result c.min-some.result c.args.count c.self.invariant.1 c.min-some.ensures c.chunks_left.ensures

pub advance-requires-in-Ok-None-clause-few_rows : goal.advance-requires-in-Ok-None-clause-few_rows
advance-requires-in-Ok-None-clause-few_rows g c = rows-below c.self.inside.what c.self.inside.text c.self.invariant.1

pub advance-requires-in-Ok-None-clause-few_chunks : goal.advance-requires-in-Ok-None-clause-few_chunks
advance-requires-in-Ok-None-clause-few_chunks g c = chunks-below c.self.inside.what c.self.inside.text c.self.invariant.1

pub chunks_of-requires-clause-some : goal.chunks_of-requires-clause-some
chunks_of-requires-clause-some g c = λ κs bounds. within-left c.self.inside.what c.self.inside.text c.chunks_left.result c.min-some.result c.args.count c.self.invariant.1 c.min-some.ensures c.chunks_left.ensures

pub returns-in_default-clause-tried : goal.returns-in_default-clause-tried
returns-in_default-clause-tried g c = front-none _ _ c.args.self.now.names refl

pub returns-then-some-count-clause-tried : goal.returns-then-some-count-clause-tried
returns-then-some-count-clause-tried g c = front-none _ _ c.args.self.now.names refl

pub returns-in-Ok-Some-clause-tried : goal.returns-in-Ok-Some-clause-tried
returns-in-Ok-Some-clause-tried g c =
    let tried = g.I.InputFiles.tried in
    let what = c.self.inside.what in
    rw (← c.self.view_is) (subst (λ (p : SourcePlace). TriedFront (tried c.args.input.now) (tried c.read_on.new.input) (state_behind what p).names) c.place_behind-last.ensures c.read_on.ensures.tried)

pub returns-in-Ok-None-clause-tried : goal.returns-in-Ok-None-clause-tried
returns-in-Ok-None-clause-tried g c =
    let tried = g.I.InputFiles.tried in
    let what = c.self.inside.what in
    rw (← c.self.view_is) (subst (λ (p : SourcePlace). TriedFront (tried c.args.input.now) (tried c.read_on.new.input) (state_behind what p).names) c.place_behind-last.ensures c.read_on.ensures.tried)
