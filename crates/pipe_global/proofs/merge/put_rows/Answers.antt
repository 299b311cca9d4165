use Rattle.std.proofs.Common.{rules, ◌≡◌, [], ◌∷◌, subst}
use Rattle.std.specs.Vec.Iter.{into_iter_items}
use Rattle.pipe_global.specs.Moving.{HasMoved}
use Rattle.pipe_global.proofs.Moved.{can-next, moved-more}
use Rattle.pipe_global.proofs.merge.put_rows.Goals as goal

pub put_row-requires : goal.put_row-requires
put_row-requires c =
    let items : into_iter_items c.loop-row.row-iterator ≡ c.in-Some.row ∷ into_iter_items c.next.new.self = search rules in
    can-next c.args.table.now c.loop-row.table c.args.rows.items (c.in-Some.row ∷ []) (into_iter_items c.next.new.self) c.requires
    (subst (HasMoved c.args.table.now c.loop-row.table c.args.rows.items) items c.loop-row.invariant.2)

pub loop-row-preserved : goal.loop-row-preserved
loop-row-preserved c =
    let items : into_iter_items c.loop-row.row-iterator ≡ c.in-Some.row ∷ into_iter_items c.next.new.self = search rules in (
      tt,
      tt,
      moved-more c.args.table.now c.loop-row.table c.put_row.new.table c.args.rows.items (c.in-Some.row ∷ []) (into_iter_items c.next.new.self)
          (subst (HasMoved c.args.table.now c.loop-row.table c.args.rows.items) items c.loop-row.invariant.2) c.put_row.ensures.taken c.put_row.ensures.covered,
    )
