use Rattle.std.proofs.Common.{◌≡◌, refl, rules, Some, true}
use Rattle.pipe_io.proofs.TriedFacts.{front-none}
use Rattle.pipe_source.specs.CsvChunks.{is_any_wanted, wanted_after}
use Rattle.pipe_source.specs.Kept.{state_behind}
use Rattle.pipe_source.proofs.KeptFacts.{text-next}
use Rattle.pipe_source.proofs.ReaderFacts.{nothing-wanted, of-any}
use Rattle.pipe_source.proofs.reading.Reading.next_text.Goals as goal

pub returns-then-eq-clause-found : goal.returns-then-eq-clause-found
returns-then-eq-clause-found g c =
    let wanted : wanted_after c.args.self.now.options.n_rows c.args.last.rows ≡ Some 0 = search rules in
    of-any (g.I.InputFiles.told c.args.input.now) (λ files. nothing-wanted files (state_behind c.args.self.now c.args.last) refl wanted)

pub returns-in-Ok-Some-clause-found : goal.returns-in-Ok-Some-clause-found
returns-in-Ok-Some-clause-found g c =
    let found = rw (c.fields-fields.ensures, c.deref.ensures.value, c.in-Ok-Some.field-0-is) at c.in-Ok-Some.ensures.found in
    let wanted : is_any_wanted (wanted_after c.args.self.now.options.n_rows c.args.last.rows) ≡ true = search rules in
    text-next c.args.self.now (g.I.InputFiles.told c.args.input.now) c.args.last c.in-Ok-Some.place c.in-Ok-Some.found c.requires.reading c.requires.place found wanted

pub returns-then-eq-clause-tried : goal.returns-then-eq-clause-tried
returns-then-eq-clause-tried g c = front-none _ _ (state_behind c.args.self.now c.args.last).names refl
