use Rattle.std.proofs.Common.{◌≡◌, ◌∙◌, ◌+◌, ◌++◌, ap, arith, subst, List, take, rules}
use Rattle.std.proofs.lemmas.List.{take_all}
use Rattle.pipe_spill.specs.SpillRow.{joined_rows, Payload}
use Rattle.pipe_spill.specs.declared.spill_row.SpillRow.{SpillRow}
use Rattle.pipe_global.specs.Moving.{AreCovered}
use Rattle.pipe_global.proofs.Moved.{covered-more, joined-more, same-more}
use Rattle.pipe_global.proofs.merge.reserve_payloads.Goals as goal

pub loop-payload-preserved : goal.loop-payload-preserved
loop-payload-preserved c =
    let rows = c.deref.result.now in
    let lent : c.payload-item.result.rows ≡ rows = search rules in
    let has = c.in_ok-reserve.ensures.ok in (
      same-more c.args.table.now c.loop-payload.table c.reserve.new.self rows c.loop-payload.invariant.0 has,
      covered-more c.loop-payload.table c.reserve.new.self (joined_rows (take c.loop-payload.payload-index c.args.waiting.now)) rows
          (joined_rows (take (c.loop-payload.payload-index + 1) c.args.waiting.now)) c.loop-payload.invariant.1 has
          (joined-more c.args.waiting.now c.loop-payload.payload-index c.payload-item.result c.loop-payload-test.true c.payload-item.is
          ∙ ap (λ (l : List SpillRow). joined_rows (take c.loop-payload.payload-index c.args.waiting.now) ++ l) lent),
    )

pub returns-clause-covered : goal.returns-clause-covered
returns-clause-covered c =
    let all = take_all c.loop-payload.payload-index c.args.waiting.now (omega (arith, c.loop-payload-test.false)) in
    subst (λ (ps : List Payload). AreCovered c.loop-payload.table.groups (joined_rows ps)) all c.loop-payload.invariant.1
