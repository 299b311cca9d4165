use Rattle.std.proofs.Common.{rules, ◌≡◌, ◌∙◌, ◌+◌, ◌++◌, [], ◌∷◌, List, length, Option, Some, None, refl, sym, ap, subst, arith, length-append}
use Rattle.std.specs.Option.{IfSome}
use Rattle.std.proofs.lemmas.List.Elements.{All-cons, All-nil}
use Rattle.pipe_columns.specs.declared.data_chunk.DataChunk.{DataChunk}
use Rattle.pipe_columns.specs.declared.schema.Field.{Field}
use Rattle.pipe_columns.specs.Frame.{FitsSchema}
use Rattle.pipe_saving.specs.Refusals.{AllFit, AreFew}
use Rattle.pipe_source.specs.Reader.{chunks_left, Gives, given_fields, ReaderState}
use Rattle.pipe_io.specs.Files.{Files}
use Rattle.rollup_save.specs.Taken.{WereTaken}
use Rattle.rollup_save.proofs.RoundFacts.{fit-more, fit-none, taken-all, taken-none, taken-then}
use Rattle.memory_states.proofs.TakenFacts.{first-told, none-left}
use Rattle.memory_states.proofs.feed_left.feed_left.Goals as goal

pub loop-init : goal.loop-init
loop-init g c =
    let none : c.args.saving.taken ≡ [] = c.requires.none in
    record {
      told = refl;
      later = omega arith;
      query = refl;
      first = refl;
      fields = c.requires.fits;
      few = subst (AreFew c.args.saving.first) (sym none) c.requires.few;
      turns = sym (ap (λ (l : List DataChunk). length l) none);
      fit = fit-none c.args.saving.query.schema c.args.saving.taken none;
      taken = taken-none (g.I.InputFiles.told c.args.input.now) c.args.reader.now c.args.saving.taken none;
    }

pub loop-preserved : goal.loop-preserved
loop-preserved g c =
    let inv = c.loop.invariant in
    let told : Option Files = g.I.InputFiles.told c.args.input.now in
    let chunk : DataChunk = c.in-Some.chunk in
    let now : List DataChunk = c.in_ok-saving.saving.taken in
    let new : ReaderState = c.next_fitting.new.reader in
    let is : now ≡ c.loop.saving.taken ++ chunk ∷ [] = search rules in
    let room : AreFew c.loop.saving.first (c.loop.saving.taken ++ chunk ∷ []) = search rules in
    let fits : FitsSchema (given_fields c.loop.reader) chunk.frame = search rules in
    let given : IfSome told (λ files. Gives (Some chunk) (chunks_left files c.loop.reader) (chunks_left files new)) = search rules in
    let count : length now ≡ length c.loop.saving.taken + 1 = ap (λ (l : List DataChunk). length l) is ∙ length-append c.loop.saving.taken (chunk ∷ []) in
    let one : AllFit (given_fields c.loop.reader) (chunk ∷ []) = All-cons (λ (d : DataChunk). FitsSchema (given_fields c.loop.reader) d.frame) chunk [] fits (All-nil (λ (d : DataChunk). FitsSchema (given_fields c.loop.reader) d.frame)) in
    record {
      told = search rules;
      later = search rules;
      query = search rules;
      first = search rules;
      fields = search rules;
      few = subst (AreFew c.args.saving.first) (sym is) (subst (λ n. AreFew n (c.loop.saving.taken ++ chunk ∷ [])) inv.first room);
      turns = omega (arith, inv.turns, count);
      fit = subst (AllFit c.args.saving.query.schema) (sym is) (fit-more c.args.saving.query.schema (given_fields c.loop.reader) c.loop.saving.taken (chunk ∷ []) inv.fields inv.fit one);
      taken = taken-then told c.args.reader.now c.loop.reader new c.loop.saving.taken (chunk ∷ []) now is inv.taken given;
    }
