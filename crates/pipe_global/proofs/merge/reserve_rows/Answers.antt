use Rattle.std.proofs.Common.{refl}
use Rattle.std.proofs.lemmas.List.Elements.{All-nil}
use Rattle.pipe_spill.specs.declared.spill_row.SpillRow.{SpillRow}
use Rattle.pipe_groups.specs.Groups.{is_covered}
use Rattle.std.proofs.Common.{◌≡◌, true, []}
use Rattle.pipe_global.proofs.Moved.{covered-more, same-more, same-none, same-still}
use Rattle.pipe_global.proofs.merge.reserve_rows.Goals as goal

pub returns-clause-same : goal.returns-clause-same
returns-clause-same c = same-more c.args.table.now c.args.table.now c.reserve.new.self c.args.rows.now (same-none c.args.table.now) c.in_ok-reserve.ensures.ok

pub returns-in_err-reserve-clause-same : goal.returns-in_err-reserve-clause-same
returns-in_err-reserve-clause-same c = same-still c.args.table.now c.args.table.now c.reserve.new.self (same-none c.args.table.now) c.in_err-reserve.ensures.err

pub returns-clause-covered : goal.returns-clause-covered
returns-clause-covered c =
    covered-more c.args.table.now c.reserve.new.self [] c.args.rows.now c.args.rows.now (All-nil (λ (r : SpillRow). is_covered r.key c.args.table.now.groups ≡ true)) c.in_ok-reserve.ensures.ok refl
