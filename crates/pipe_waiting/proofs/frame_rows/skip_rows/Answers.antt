-- One more row is tested, or none begins where one should.
use Rattle.std.proofs.Common.{rules, arith, ◌≡◌, subst, IsErrOf}
use Rattle.pipe_spill.specs.declared.frame_read.FrameError.TheVariants as fault
use Rattle.pipe_waiting.specs.OwnRows.{AreTestedTo}
use Rattle.pipe_waiting.proofs.FrameFacts.{no_next, none_tested, one_tested}
use Rattle.pipe_waiting.proofs.frame_rows.skip_rows.Goals as goal

pub loop-row-init : goal.loop-row-init
loop-row-init c = none_tested c.args.key_types.now c.args.input_types.now c.args.own.partitions c.args.own.number c.args.bytes.now

pub loop-row-preserved : goal.loop-row-preserved
loop-row-preserved c =
    one_tested c.args.key_types.now c.args.input_types.now c.args.own.partitions c.args.own.number c.loop-row.rest.now c.in_ok-rest.rest.now c.args.bytes.now c.loop-row._row
    c.loop-row.invariant c.in_ok-rest.ensures.row

pub returns-in_err-rest-clause-refused : goal.returns-in_err-rest-clause-refused
returns-in_err-rest-clause-refused c = λ h.
    let again : IsErrOf c.skip_row.result fault.NotAFrame = search rules in
    no_next c.args.key_types.now c.args.input_types.now c.args.own.partitions c.args.own.number c.args.count c.loop-row.rest.now c.args.bytes.now
    c.loop-row._row c.loop-row.invariant c.loop-row-test.true (c.skip_row.ensures.not_a_frame again)

pub returns-clause-tested : goal.returns-clause-tested
returns-clause-tested c =
    let at_end : c.loop-row._row ≡ c.args.count = omega arith in
    subst (AreTestedTo c.args.key_types.now c.args.input_types.now c.args.own.partitions c.args.own.number c.loop-row.rest.now c.args.bytes.now) at_end c.loop-row.invariant
