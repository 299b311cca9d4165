use Rattle.std.proofs.Common.{ℕ, List, [], ◌∷◌, sym, subst}
use Rattle.pipe_spill.specs.declared.spill_row.SpillRow.{SpillRow}
use Rattle.pipe_groups.specs.Groups.{cover, Group}
use Rattle.pipe_groups.specs.Holds.{HoldFewer}
use Rattle.pipe_groups.specs.Shape.{Shape}
use Rattle.pipe_groups.proofs.KeepFacts.{few-cover}
use Rattle.pipe_keyed.specs.Tables.{Table}
use Rattle.pipe_tables.specs.Tables.{cover_rows}
use Rattle.pipe_keyed.proofs.KeyFacts.{either-end}
use Rattle.test_tables.proofs.tables.two_tables.cover.Goals as goal

-- with room for the keys of rows groups hold the same
few-cover_rows : (s : Shape) (rows : List SpillRow) (gs : List Group) (more : ℕ) → HoldFewer s gs more → HoldFewer s (cover_rows s.prototypes rows gs) more
few-cover_rows s [] gs more h = h
few-cover_rows s (r ∷ rows) gs more h = few-cover_rows s rows (cover s.prototypes r.key gs) more (few-cover s gs more r.key h)

pub returns-clause-few : goal.returns-clause-few
returns-clause-few c = λ more h.
    let t : Table = c.args.table.now in
    let new : List Group = c.reserve.new.self.groups in
    let e = c.reserve.ensures in
    either-end {R = HoldFewer t.shape new more} c.reserve.result e.ok e.err
    (λ made. subst (λ (gs : List Group). HoldFewer t.shape gs more) (sym made.0) (few-cover_rows t.shape c.args.rows.now t.groups more h))
    (λ same. subst (λ (gs : List Group). HoldFewer t.shape gs more) (sym same.0) h)
