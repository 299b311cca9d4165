use Rattle.std.proofs.Common.{refl}
use Rattle.pipe_regroup.specs.declared.regroup_error.RegroupError.TheVariants as fault
use Rattle.pipe_regroup.proofs.AddedFacts.{none-told}
use Rattle.pipe_regroup.proofs.RefusalFacts.{told}
use Rattle.pipe_regroup.proofs.at_once.regroup.Goals as goal

pub returns-in-Ok-clause-overlap : goal.returns-in-Ok-clause-overlap
returns-in-Ok-clause-overlap c = λ i. none-told c.args.files.now i _ (λ e. cc) c.in-Ok.ensures.ok.apart

pub returns-in-Err-clause-overlap : goal.returns-in-Err-clause-overlap
returns-in-Err-clause-overlap c = λ i. told c.refusal.result (fault.Overlap i) _ refl (c.refusal.ensures.overlap i)
