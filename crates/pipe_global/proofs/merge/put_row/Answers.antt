use Rattle.std.proofs.Common.{◌≡◌, ◌∙◌, [], true, ap}
use Rattle.std.proofs.lemmas.List.Elements.{All-head}
use Rattle.pipe_spill.specs.declared.spill_row.SpillRow.{SpillRow}
use Rattle.pipe_groups.specs.Groups.{is_covered}
use Rattle.pipe_tables.specs.declared.insert_end.InsertEnd.TheVariants as end
use Rattle.pipe_global.proofs.Moved.{never-full, put-keeps}
use Rattle.pipe_global.proofs.merge.put_row.Goals as goal

-- a table without a limit is never full
pub unreachable-requires : goal.unreachable-requires
unreachable-requires c =
    let own : c.insert.result ≡ end.Overflow c.args.row = c.in-Overflow.is ∙ ap (λ (r : SpillRow). end.Overflow r) ((c.insert.ensures.others c.in-Overflow.field-0).0 c.in-Overflow.is) in
    never-full c.args.table.now c.requires.limit ((c.insert.ensures.overflow.0 own).0)

-- and there is room for the key
pub unreachable-requires-in-Memory : goal.unreachable-requires-in-Memory
unreachable-requires-in-Memory c =
    let own : c.insert.result ≡ end.Memory c.args.row = c.in-Memory.is ∙ ap (λ (r : SpillRow). end.Memory r) ((c.insert.ensures.others c.in-Memory.field-0).1 c.in-Memory.is) in
    c.insert.ensures.covered (All-head (λ r. is_covered r.key c.args.table.now.groups ≡ true) c.args.row [] c.requires.covered) own

pub returns-clause-covered : goal.returns-clause-covered
returns-clause-covered c =
    put-keeps c.args.table.now c.insert.new.self c.args.row
    (All-head (λ r. is_covered r.key c.args.table.now.groups ≡ true) c.args.row [] c.requires.covered)
    (c.insert.ensures.done c.in-Done.is)
