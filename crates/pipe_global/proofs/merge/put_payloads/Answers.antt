use Rattle.std.proofs.Common.{rules, ◌≡◌, ◌∷◌, ◌++◌, subst, ap, sym, ◌∙◌}
use Rattle.std.specs.Vec.Iter.{into_iter_items}
use Rattle.pipe_spill.specs.SpillRow.{joined_rows, Payload}
use Rattle.pipe_global.specs.Moving.{HasMoved}
use Rattle.pipe_global.proofs.Moved.{can-next, moved-more}
use Rattle.pipe_global.proofs.merge.put_payloads.Goals as goal

pub put_rows-requires : goal.put_rows-requires
put_rows-requires c =
    let items : into_iter_items c.loop-payload.payload-iterator ≡ c.in-Some.payload ∷ into_iter_items c.next.new.self = search rules in
    let rows : joined_rows (into_iter_items c.loop-payload.payload-iterator) ≡ c.payload.inside.rows.items ++ joined_rows (into_iter_items c.next.new.self) =
    ap joined_rows items ∙ ap (λ (p : Payload). p.rows ++ joined_rows (into_iter_items c.next.new.self)) (sym c.payload.view_is) in
    can-next c.args.table.now c.loop-payload.table (joined_rows c.args.waiting.items) c.payload.inside.rows.items (joined_rows (into_iter_items c.next.new.self)) c.requires
    (subst (HasMoved c.args.table.now c.loop-payload.table (joined_rows c.args.waiting.items)) rows c.loop-payload.invariant.2)

pub loop-payload-preserved : goal.loop-payload-preserved
loop-payload-preserved c =
    let items : into_iter_items c.loop-payload.payload-iterator ≡ c.in-Some.payload ∷ into_iter_items c.next.new.self = search rules in
    let rows : joined_rows (into_iter_items c.loop-payload.payload-iterator) ≡ c.payload.inside.rows.items ++ joined_rows (into_iter_items c.next.new.self) =
    ap joined_rows items ∙ ap (λ (p : Payload). p.rows ++ joined_rows (into_iter_items c.next.new.self)) (sym c.payload.view_is) in (
      tt,
      tt,
      moved-more c.args.table.now c.loop-payload.table c.put_rows.new.table (joined_rows c.args.waiting.items) c.payload.inside.rows.items (joined_rows (into_iter_items c.next.new.self))
          (subst (HasMoved c.args.table.now c.loop-payload.table (joined_rows c.args.waiting.items)) rows c.loop-payload.invariant.2) c.put_rows.ensures.taken c.put_rows.ensures.covered,
    )
