use Rattle.std.proofs.Common.{◌∙◌, ℕ, subst, sym}
use Rattle.pipe_groups.specs.Holds.{HoldFewer}
use Rattle.pipe_waiting.proofs.ReadBack.{count_read}
use Rattle.merge_times.proofs.merged.merge.Goals as goal

-- as many rows are lent as wait
pub take_lent-requires-clause-few : goal.take_lent-requires-clause-few
take_lent-requires-clause-few c =
    subst (λ (n : ℕ). HoldFewer c.args.table.now.shape c.args.table.now.groups n)
    (sym (count_read c.args.table.now.shape.input_types c.lend.result.count c.lend.result.bytes ∙ c.lend.ensures.count)) c.requires.few
