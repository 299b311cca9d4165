use Rattle.std.proofs.Common.{◌≡◌, ◌∙◌, ℕ, ◌+◌, ◌-◌, List, length, subst, arith}
use Rattle.pipe_groups.specs.Groups.{Group}
use Rattle.pipe_groups.specs.Holds.{HoldFewer}
use Rattle.pipe_groups.specs.Shape.{Shape}
use Rattle.pipe_spill.specs.SpillRow.{AreRows}
use Rattle.pipe_spill.specs.declared.spill_row.SpillRow.{SpillRow}
use Rattle.pipe_tables.proofs.FewerFacts.{fewer}
use Rattle.test_tables.proofs.tables.two_tables.TwoTables.put_other.Goals as goal

pub invariant_of-self : goal.invariant_of-self
invariant_of-self c =
    let i = c.self.invariant in
    let s : Shape = c.self.inside.table.shape in
    let gs : List Group = c.put_last.new.table.groups in
    let left : List SpillRow = c.put_last.new.rows.items in
    let before : ℕ = length c.self.inside.rows.items in
    let n : ℕ = i.0 + before - length left in
    let more : ℕ = 4294967295 - i.0 - before in
    let e = c.put_last.ensures in
    let more_is : more + before ≡ 4294967295 - i.0 = omega (arith, i.1) in
    let own : HoldFewer c.self.inside.other.shape gs (more + length left) = e.few more (rw (more_is, i.5) i.3) in (
      n,
      omega (arith, i.1, e.fewer),
      fewer s c.self.inside.table.groups (i.0 + before) (n + length left) (omega (arith, e.fewer)) i.2,
      fewer s gs (more + length left) (4294967295 - n) (omega (arith, i.1, e.fewer)) (subst (λ (t : Shape). HoldFewer t gs (more + length left)) i.5 own),
      subst (λ (t : Shape). AreRows t.key_types t.input_types left) i.5 e.typed,
      e.shape ∙ i.5,
    )
