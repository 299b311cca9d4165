use Rattle.std.proofs.Common.{◌≡◌, ◌++◌, [], ◌∷◌, refl, rules}
use Rattle.pipe_source.proofs.StartFacts.{noted-more}
use Rattle.pipe_source.proofs.starts.Starts.note.Goals as goal

pub returns-in_ok-push-clause-noted : goal.returns-in_ok-push-clause-noted
returns-in_ok-push-clause-noted c = λ text at row n start.
    let items : c.push.new.self.items ≡ c.args.self.now.places.items ++ (c.args.place ∷ []) = search rules in
    noted-more text at row c.args.place c.args.self.now _ c.requires refl items (search rules) refl n start
