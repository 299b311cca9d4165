use Rattle.std.proofs.Common.{◌≡◌, ◌∙◌, ap, refl, sym, arith, true, false}
use Rattle.std.proofs.lemmas.Bool.{false≢true}
use Rattle.std.proofs.lemmas.Grind.{common_steps}
use Rattle.pipe_groups.specs.Groups.{is_held}
use Rattle.pipe_tables.specs.LocalTable.{keeps, Local}
use Rattle.pipe_tables.specs.Tables.{is_full}
use Rattle.pipe_tables.specs.declared.insert_end.InsertEnd.TheVariants as end
use Rattle.pipe_tables.proofs.CountFacts.{limit-put}
use Rattle.pipe_tables.proofs.LocalFacts.{keeps-full}
use Rattle.pipe_tables.proofs.thread_local.ThreadLocalTable.insert.Goals as goal

pub returns-in-Memory-clause-memory : goal.returns-in-Memory-clause-memory
returns-in-Memory-clause-memory c r is =
    let row_is : c.in-Memory.row ≡ c.args.row = (c.in-Memory.ensures.others c.in-Memory.row).1 refl in
    grind (arith, common_steps)

pub returns-in-Overflow-clause-taken : goal.returns-in-Overflow-clause-taken
returns-in-Overflow-clause-taken c taken =
    let row_is : c.in-Overflow.row ≡ c.args.row = (c.in-Overflow.ensures.others c.in-Overflow.row).0 refl in
    let full : (is_full c.self.inside.table ≡ true) × (is_held c.args.row.key c.self.inside.table.groups ≡ false) = c.in-Overflow.ensures.overflow.0 (ap end.Overflow row_is) in
    rw (← c.self.view_is) (grind (arith, common_steps))

pub returns-in-Overflow-clause-payload : goal.returns-in-Overflow-clause-payload
returns-in-Overflow-clause-payload c taken =
    let row_is : c.in-Overflow.row ≡ c.args.row = (c.in-Overflow.ensures.others c.in-Overflow.row).0 refl in
    let full : (is_full c.self.inside.table ≡ true) × (is_held c.args.row.key c.self.inside.table.groups ≡ false) = c.in-Overflow.ensures.overflow.0 (ap end.Overflow row_is) in
    rw (← c.self.view_is) (grind (arith, common_steps))

pub returns-in-Overflow-clause-memory : goal.returns-in-Overflow-clause-memory
returns-in-Overflow-clause-memory c r is =
    let row_is : c.in-Overflow.row ≡ c.args.row = (c.in-Overflow.ensures.others c.in-Overflow.row).0 refl in
    grind (arith, common_steps)

pub returns-in-Overflow-clause-holds : goal.returns-in-Overflow-clause-holds
returns-in-Overflow-clause-holds c taken held =
    let row_is : c.in-Overflow.row ≡ c.args.row = (c.in-Overflow.ensures.others c.in-Overflow.row).0 refl in
    let full : (is_full c.self.inside.table ≡ true) × (is_held c.args.row.key c.self.inside.table.groups ≡ false) = c.in-Overflow.ensures.overflow.0 (ap end.Overflow row_is) in
    let t : Local = record { table = c.self.inside.table; buffers = c.self.inside.buffers; overflowed = c.self.inside.overflowed } in
    let not_held : keeps c.args.row c.args.self.now ≡ false = rw (← c.self.view_is) (keeps-full c.args.row t full.0 full.1) in
    absurd (false≢true (sym not_held ∙ held))

pub returns-in-Done-clause-bound : goal.returns-in-Done-clause-bound
returns-in-Done-clause-bound c = rw (← c.self.view_is) (limit-put c.self.inside.table c.insert.new.self c.args.row (λ p. let no : end.Done ≡ end.Overflow c.args.row = c.in-Done.ensures.overflow.1 p in cc) (c.in-Done.ensures.done refl))
