use Rattle.std.proofs.Common.{rules, true, ◌≡◌, ◌∙◌, ◌<◌, ◌≤◌, ◌^◌, ◌++◌, List, [], length, refl, sym, ap, subst, arith, Option}
use Rattle.std.specs.List.{All}
use Rattle.pipe_columns.specs.declared.data_chunk.DataChunk.{DataChunk}
use Rattle.pipe_columns.specs.declared.schema.Field.{Field}
use Rattle.pipe_columns.specs.Frame.{FitsSchema}
use Rattle.pipe_io.specs.Files.{Files}
use Rattle.pipe_io.specs.Tried.{AreTried}
use Rattle.pipe_io.proofs.TriedFacts.{front-then, tried-none, tried-then}
use Rattle.pipe_model.specs.Rows.{total_height}
use Rattle.pipe_run.specs.Failing.{NoneFailed}
use Rattle.pipe_run.specs.Feeding.{chunks_reached}
use Rattle.pipe_run.specs.Refusals.{AllHaveFields}
use Rattle.pipe_run.specs.Setting.{Setting}
use Rattle.pipe_source.specs.Reader.{given_fields, ReaderState}
use Rattle.tool_run.specs.Answering.{AreFedOf}
use Rattle.tool_run.specs.Reading.{ComeFirst}
use Rattle.tool_run.specs.Rounds.{WereTaken, EndsBehind, HasNoneLeft}
use Rattle.pipe_run.proofs.Counted.{calm-same, calm-twice}
use Rattle.tool_run.proofs.FeedFacts.{chunks-more, ends-behind, feed-cause, fit-more, fit-none, front-of, reached-has, rows-more, taken-all, taken-first, taken-none, taken-then}
use Rattle.tool_run.proofs.feed_files.feed_files.Goals as goal

pub loop-init : goal.loop-init
loop-init g c =
    let none : c.args.run.chunks ≡ [] = c.requires.none in
    record {
      told = refl;
      later = omega arith;
      tried = tried-none _ _ c.args.reader.now.names refl;
      setting = refl;
      fields = c.requires.fits;
      chunks = sym (ap (λ (l : List DataChunk). length l) none);
      rows = sym (ap total_height none);
      few_chunks = omega arith;
      few_rows = omega arith;
      rounds = omega arith;
      fit = fit-none c.args.run.setting.query.schema c.args.run.chunks none;
      counted = calm-same c.args.run.stores c.args.run.stores refl;
      taken = taken-none (g.I.InputFiles.told c.args.input.now) c.args.reader.now c.args.run.chunks none;
    }

pub returns-in-Err-clause-cause : goal.returns-in-Err-clause-cause
returns-in-Err-clause-cause g c =
    let inv = c.loop.invariant in
    let calm : NoneFailed c.args.run.stores _ = calm-twice c.args.run.stores c.loop.run.stores _ inv.counted (calm-same c.loop.run.stores _ c.into_stores.ensures.as_before) in (
      ends-behind c.loop.before (g.I.InputFiles.told c.args.input.now) c.args.reader.now c.loop.reader c.loop.run.chunks c.in-Err.error inv.chunks inv.rows inv.taken
          (subst (λ (t : Option Files). EndsBehind c.loop.before t c.loop.reader c.in-Err.error) inv.told c.in-Err.ensures.ends),
      calm,
    )

pub returns-in-Err-clause-tried : goal.returns-in-Err-clause-tried
returns-in-Err-clause-tried g c = front-then _ _ _ c.args.reader.now.names c.loop.reader.names c.loop.invariant.tried c.read_round.ensures.tried

pub returns-in-Err-feed_lent-clause-tried : goal.returns-in-Err-feed_lent-clause-tried
returns-in-Err-feed_lent-clause-tried g c = front-then _ _ _ c.args.reader.now.names c.loop.reader.names c.loop.invariant.tried c.read_round.ensures.tried

pub returns-then-is_last-clause-tried : goal.returns-then-is_last-clause-tried
returns-then-is_last-clause-tried g c = front-then _ _ _ c.args.reader.now.names c.loop.reader.names c.loop.invariant.tried c.read_round.ensures.tried

pub returns-in-Err-clause-back : goal.returns-in-Err-clause-back
returns-in-Err-clause-back g c =
    let inv = c.loop.invariant in
    let told : Option Files = g.I.InputFiles.told c.args.input.now in
    front-of c.args.run.setting c.loop.run.setting (AreFedOf told c.args.reader.now) true c.loop.run.chunks _ inv.setting
    (taken-first told c.args.reader.now c.loop.reader c.loop.run.chunks inv.taken) inv.fit c.into_stores.ensures.back

pub returns-in-Err-feed_lent-clause-back : goal.returns-in-Err-feed_lent-clause-back
returns-in-Err-feed_lent-clause-back g c =
    let inv = c.loop.invariant in
    let more : List DataChunk = c.in-Ok.read.0.items in
    let fields : List Field = c.args.run.setting.query.schema in
    let fit : AllHaveFields fields (c.loop.run.chunks ++ more) = fit-more fields (given_fields c.loop.reader) c.loop.run.chunks more inv.fields inv.fit c.in-Ok.ensures.fit in
    let told : Option Files = g.I.InputFiles.told c.args.input.now in
    let first = c.args.reader.now in
    let now = c.read_round.new.reader in
    let step : WereTaken told c.loop.reader more now = subst (λ (t : Option Files). WereTaken t c.loop.reader more now) inv.told c.in-Ok.ensures.taken in
    let all : ComeFirst told first (c.loop.run.chunks ++ more) =
    taken-first told first now (c.loop.run.chunks ++ more) (taken-then told first c.loop.reader now c.loop.run.chunks more (c.loop.run.chunks ++ more) refl inv.taken step) in
    let fed : ComeFirst told first (chunks_reached c.loop.run more c.in-Err-feed_lent.error) =
    reached-has (ComeFirst told first) c.loop.run more c.in-Err-feed_lent.error (taken-first told first c.loop.reader c.loop.run.chunks inv.taken) all in
    front-of c.args.run.setting c.loop.run.setting (AreFedOf told first) true (chunks_reached c.loop.run more c.in-Err-feed_lent.error) _ inv.setting fed
    (reached-has (AllHaveFields fields) c.loop.run more c.in-Err-feed_lent.error inv.fit fit) c.in-Err-feed_lent.ensures.back

pub returns-in-Err-feed_lent-clause-cause : goal.returns-in-Err-feed_lent-clause-cause
returns-in-Err-feed_lent-clause-cause g c =
    let inv = c.loop.invariant in
    let more : List DataChunk = c.in-Ok.read.0.items in
    let all : List DataChunk = c.loop.run.chunks ++ more in
    let rows : c.in-Ok.read.1.rows ≡ total_height all = rows-more c.loop.before c.in-Ok.read.1 c.loop.run.chunks more all refl inv.rows c.in-Ok.ensures.rows in
    let chunks : c.in-Ok.read.1.chunks ≡ length all = chunks-more c.loop.before c.in-Ok.read.1 c.loop.run.chunks more all refl inv.chunks c.in-Ok.ensures.chunks in
    let fit : All (λ (x : DataChunk). FitsSchema c.args.run.setting.query.schema x.frame) all =
    fit-more c.args.run.setting.query.schema (given_fields c.loop.reader) c.loop.run.chunks more inv.fields inv.fit c.in-Ok.ensures.fit in
    feed-cause c.args.run c.loop.run more _ c.in-Err-feed_lent.error inv.counted
    (subst (λ (s : Setting). All (λ (x : DataChunk). FitsSchema s.query.schema x.frame) all) (sym inv.setting) fit)
    (subst (λ n. n < 2 ^ 32) rows c.in-Ok.ensures.few.1) (subst (λ n. n < 2 ^ 32) chunks c.in-Ok.ensures.few.0)
    c.in-Err-feed_lent.ensures.cause

pub returns-then-is_last-clause-all : goal.returns-then-is_last-clause-all
returns-then-is_last-clause-all g c =
    let inv = c.loop.invariant in
    let told : Option Files = g.I.InputFiles.told c.args.input.now in
    let more : List DataChunk = c.in-Ok.read.0.items in
    let step : WereTaken told c.loop.reader more c.read_round.new.reader = subst (λ (t : Option Files). WereTaken t c.loop.reader more c.read_round.new.reader) inv.told c.in-Ok.ensures.taken in
    let last : length more < c.args.most = search rules in
    let none : HasNoneLeft told c.read_round.new.reader = subst (λ (t : Option Files). HasNoneLeft t c.read_round.new.reader) inv.told (c.in-Ok.ensures.over last) in
    taken-all told c.args.reader.now c.read_round.new.reader c.in-Ok-feed_lent.fed.0.chunks
    (taken-then told c.args.reader.now c.loop.reader c.read_round.new.reader c.loop.run.chunks more c.in-Ok-feed_lent.fed.0.chunks c.in-Ok-feed_lent.ensures.chunks inv.taken step) none

pub returns-then-is_last-clause-fit : goal.returns-then-is_last-clause-fit
returns-then-is_last-clause-fit g c =
    let inv = c.loop.invariant in
    let more : List DataChunk = c.in-Ok.read.0.items in
    let fields : List Field = c.args.run.setting.query.schema in
    subst (AllHaveFields fields) (sym c.in-Ok-feed_lent.ensures.chunks) (fit-more fields (given_fields c.loop.reader) c.loop.run.chunks more inv.fields inv.fit c.in-Ok.ensures.fit)

pub returns-then-is_last-clause-counted : goal.returns-then-is_last-clause-counted
returns-then-is_last-clause-counted g c = calm-twice c.args.run.stores c.loop.run.stores c.in-Ok-feed_lent.fed.0.stores c.loop.invariant.counted c.in-Ok-feed_lent.ensures.counted

pub loop-preserved : goal.loop-preserved
loop-preserved g c =
    let inv = c.loop.invariant in
    let told : Option Files = g.I.InputFiles.told c.args.input.now in
    let more : List DataChunk = c.in-Ok.read.0.items in
    let now : List DataChunk = c.in-Ok-feed_lent.fed.0.chunks in
    let is : now ≡ c.loop.run.chunks ++ more = c.in-Ok-feed_lent.ensures.chunks in
    let step : WereTaken told c.loop.reader more c.read_round.new.reader = subst (λ (t : Option Files). WereTaken t c.loop.reader more c.read_round.new.reader) inv.told c.in-Ok.ensures.taken in
    let fit : All (λ (x : DataChunk). FitsSchema c.args.run.setting.query.schema x.frame) (c.loop.run.chunks ++ more) =
    fit-more c.args.run.setting.query.schema (given_fields c.loop.reader) c.loop.run.chunks more inv.fields inv.fit c.in-Ok.ensures.fit in
    let full : c.args.most ≤ length more = search rules in
    let read = c.read_round.new.reader.names in
    let back : read ≡ c.take_back.new.self.names = sym (ap (λ (r : ReaderState). r.names) c.take_back.ensures) in
    let gone = subst (AreTried (g.I.InputFiles.tried c.loop.input) (g.I.InputFiles.tried c.read_round.new.input) c.loop.reader.names) back (c.in-Ok.ensures.gone full) in
    record {
      told = search rules;
      later = search rules;
      tried = tried-then _ _ _ c.args.reader.now.names c.loop.reader.names _ inv.tried gone;
      setting = c.in-Ok-feed_lent.ensures.setting ∙ inv.setting;
      fields = search rules;
      chunks = chunks-more c.loop.before c.in-Ok.read.1 c.loop.run.chunks more now is inv.chunks c.in-Ok.ensures.chunks;
      rows = rows-more c.loop.before c.in-Ok.read.1 c.loop.run.chunks more now is inv.rows c.in-Ok.ensures.rows;
      few_chunks = c.in-Ok.ensures.few.0;
      few_rows = c.in-Ok.ensures.few.1;
      rounds = omega (arith, inv.rounds, c.in-Ok.ensures.chunks, full, c.requires.most);
      fit = subst (All (λ (x : DataChunk). FitsSchema c.args.run.setting.query.schema x.frame)) (sym is) fit;
      counted = calm-twice c.args.run.stores c.loop.run.stores c.in-Ok-feed_lent.fed.0.stores inv.counted c.in-Ok-feed_lent.ensures.counted;
      taken = subst (WereTaken told c.args.reader.now now) (sym c.take_back.ensures) (taken-then told c.args.reader.now c.loop.reader c.read_round.new.reader c.loop.run.chunks more now is inv.taken step);
    }
