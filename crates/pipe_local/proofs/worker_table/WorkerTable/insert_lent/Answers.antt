-- A row is held, so at most one key more is.
use Rattle.std.proofs.Common.{◌≡◌, ◌∙◌, List, ℕ, refl, ap, arith}
use Rattle.std.proofs.lemmas.Grind.{common_steps}
use Rattle.pipe_columns.specs.Key.{code}
use Rattle.pipe_inputs.specs.ChunkRows.{row_at}
use Rattle.pipe_spill.specs.SpillRow.{spilled}
use Rattle.pipe_groups.specs.Groups.{is_held}
use Rattle.pipe_tables.specs.declared.insert_end.LentEnd.TheVariants as end
use Rattle.pipe_tables.proofs.CountFacts.{limit-put}
use Rattle.pipe_local.proofs.worker_table.WorkerTable.insert_lent.Goals as goal

pub returns-in-Done-clause-bound : goal.returns-in-Done-clause-bound
returns-in-Done-clause-bound c =
    let r = spilled c.self.inside.table.shape.key_types (row_at c.args.rows.now c.args.row) in
    let key : c.args.key.now ≡ code c.self.inside.table.shape.key_types (row_at c.args.rows.now c.args.row).key = grind (arith, common_steps) in
    rw (← c.self.view_is) (limit-put c.self.inside.table c.insert_lent.new.self r
    (λ p. let no : end.Done ≡ end.Overflow = c.in-Done.ensures.overflow.1 (p.0, ap (λ (k : List ℕ). is_held k c.self.inside.table.groups) key ∙ p.1) in cc)
    (c.in-Done.ensures.done refl))
