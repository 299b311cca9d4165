use Rattle.std.proofs.Common.{rules}
use Rattle.pipe_states.specs.Together.{NoneOverlap}
use Rattle.pipe_regroup.proofs.RefusalFacts.{first-named, first-not_large, none-named}
use Rattle.pipe_regroup.proofs.refusal.refusal.Goals as goal

pub returns-in-Some-clause-overlap : goal.returns-in-Some-clause-overlap
returns-in-Some-clause-overlap c = λ i. first-named c.args.files.now c.in-Some.file i c.in-Some.ensures.some

pub returns-in-Some-clause-large : goal.returns-in-Some-clause-large
returns-in-Some-clause-large c = first-not_large c.args.files.now _ c.in-Some.file (λ e. cc) c.in-Some.ensures.some

pub returns-then-is_none-clause-overlap : goal.returns-then-is_none-clause-overlap
returns-then-is_none-clause-overlap c = λ i.
    let none : NoneOverlap c.args.files.now = search rules in
    none-named c.args.files.now _ i (λ e. cc) none

pub returns-clause-overlap : goal.returns-clause-overlap
returns-clause-overlap c = λ i.
    let none : NoneOverlap c.args.files.now = search rules in
    none-named c.args.files.now _ i (λ e. cc) none
