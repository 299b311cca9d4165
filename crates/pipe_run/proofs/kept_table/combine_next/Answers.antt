use Rattle.std.proofs.Common.{◌∙◌, ap, subst, sym}
use Rattle.pipe_keyed.specs.Tables.{HoldFewTogether, Table}
use Rattle.pipe_run.proofs.kept_table.combine_next.Goals as goal

pub combine-combined-requires-clause-shape : goal.combine-combined-requires-clause-shape
combine-combined-requires-clause-shape c = ap (λ (t : Table). t.shape) c.map_of-table.ensures ∙ c.requires.shape

pub combine-combined-requires-clause-few : goal.combine-combined-requires-clause-few
combine-combined-requires-clause-few c = subst (HoldFewTogether c.args.kept.now) (sym c.map_of-table.ensures) c.requires.few
