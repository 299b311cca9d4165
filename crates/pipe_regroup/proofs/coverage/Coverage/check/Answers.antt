use Rattle.std.proofs.Common.{rules, ◌≡◌, false, is_some, refl, subst}
use Rattle.pipe_regroup.specs.Covered.{IsToldBy}
use Rattle.pipe_regroup.proofs.AddedFacts.{none-told, overlap-alone, overlap-told}
use Rattle.pipe_regroup.proofs.CoverFacts.{told-none}
use Rattle.pipe_regroup.proofs.coverage.Coverage.check.Goals as goal

pub returns-in-Some-clause-overlap : goal.returns-in-Some-clause-overlap
returns-in-Some-clause-overlap c = λ states i covered.
    overlap-told states c.in-Some.file i _ refl (subst (IsToldBy states c.args.self.now.ranges) c.in-Some.is covered.overlap)

pub returns-in-Some-clause-large : goal.returns-in-Some-clause-large
returns-in-Some-clause-large c = λ states covered.
    overlap-alone states c.in-Some.file _ (λ e. cc) (subst (IsToldBy states c.args.self.now.ranges) c.in-Some.is covered.overlap)

pub returns-then-is_none-clause-overlap : goal.returns-then-is_none-clause-overlap
returns-then-is_none-clause-overlap c = λ states i covered.
    let none : is_some c.args.self.now.overlap ≡ false = search rules in
    none-told states i _ (λ e. cc) (told-none states c.args.self.now.ranges c.args.self.now.overlap none covered.overlap).0

pub returns-clause-overlap : goal.returns-clause-overlap
returns-clause-overlap c = λ states i covered.
    let none : is_some c.args.self.now.overlap ≡ false = search rules in
    none-told states i _ (λ e. cc) (told-none states c.args.self.now.ranges c.args.self.now.overlap none covered.overlap).0
