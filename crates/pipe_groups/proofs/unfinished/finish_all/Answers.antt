use Rattle.std.proofs.Common.{rules, ◌≡◌, List, ◌∷◌, ◌++◌}
use Rattle.pipe_groups.specs.declared.unfinished.Unfinished.{Unfinished}
use Rattle.pipe_groups.proofs.ColumnRows.{fit-among}
use Rattle.pipe_groups.proofs.unfinished.finish_all.Goals as goal

pub finish-requires : goal.finish-requires
finish-requires c =
    let rest : List Unfinished = c.next.new.self.rest.items in
    let all : c.args.columns.items ≡ c.loop-column.yielded ++ c.in-Some.column ∷ rest = search rules in
    fit-among c.loop-column.yielded rest c.args.columns.items c.in-Some.column all c.requires.fit
