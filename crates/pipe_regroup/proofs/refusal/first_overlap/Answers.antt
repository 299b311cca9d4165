use Rattle.std.proofs.Common.{◌∙◌, List, take, ap, sym}
use Rattle.std.specs.List.{list_any}
use Rattle.pipe_states.specs.States.{StateSeen}
use Rattle.pipe_states.specs.Together.{do_overlap}
use Rattle.pipe_regroup.proofs.RefusalFacts.{first-at, none-at_first, none-more}
use Rattle.pipe_regroup.proofs.refusal.first_overlap.Goals as goal

pub loop-i-init : goal.loop-i-init
loop-i-init c = record { apart = none-at_first c.args.files.now }

pub returns-then-meets_one-clause-some : goal.returns-then-meets_one-clause-some
returns-then-meets_one-clause-some c =
    let files : List StateSeen = c.args.files.now in
    let i = c.loop-i.i in
    first-at files i c.index-files-i.result c.loop-i-test.true c.loop-i.invariant.apart
    (sym c.if-meets_one.true ∙ c.meets_one.ensures ∙ ap (λ (s : StateSeen). list_any (λ t. do_overlap t s) (take i files)) c.index-files-i.is)

pub loop-i-preserved : goal.loop-i-preserved
loop-i-preserved c =
    let files : List StateSeen = c.args.files.now in
    let i = c.loop-i.i in
    record {
      apart = none-more files i c.index-files-i.result c.loop-i-test.true c.loop-i.invariant.apart
          (sym c.if-meets_one.false ∙ c.meets_one.ensures ∙ ap (λ (s : StateSeen). list_any (λ t. do_overlap t s) (take i files)) c.index-files-i.is);
    }
