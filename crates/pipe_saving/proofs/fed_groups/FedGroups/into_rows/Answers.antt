use Rattle.std.proofs.Common.{◌∙◌, List, length, map, take, drop, ap, arith}
use Rattle.std.specs.List.{range_with_len}
use Rattle.std.proofs.lemmas.Result.{IfOk-weaker}
use Rattle.pipe_saving.specs.declared.extent.Extent.{Extent}
use Rattle.pipe_saving.specs.Lists.{extent_at, row_in}
use Rattle.pipe_saving.proofs.StateFacts.{count-fits, given-rows, IsGiven, width-fits}
use Rattle.pipe_saving.proofs.fed_groups.FedGroups.into_rows.Goals as goal

pub rows_of-requires-clause-columns : goal.rows_of-requires-clause-columns
rows_of-requires-clause-columns c =
    let t = c.args.self.table in
    let fits = width-fits t.shape _ c.in_ok-placed.placed.frame c.in_ok-order.ensures.table.shape c.in_ok-placed.ensures.frame in
    omega (arith, fits, ap (λ ts. length ts) c.key_types-width.ensures)

pub rows_of-requires-clause-count : goal.rows_of-requires-clause-count
rows_of-requires-clause-count c =
    let t = c.args.self.table in
    let turned = c.in_ok-turned.ensures ∙ (λ i. map (extent_at (c.deref.ensures.value i)) (c.deref-2.ensures.value i)) in
    ap (λ (es : List Extent). length es) c.deref-3.ensures.value
    ∙ count-fits t.groups c.args.self.extents.items c.in_ok-turned.turned.items c.in_ok-order.order.items c.in_ok-placed.placed.firsts turned c.in_ok-order.ensures.order c.in_ok-placed.ensures.firsts

pub returns : goal.returns
returns c =
    let t = c.args.self.table in
    let extents = c.args.self.extents.items in
    let order = c.in_ok-order.order.items in
    let turned = c.in_ok-turned.turned.items in
    let frame = c.in_ok-placed.placed.frame in
    let firsts = c.in_ok-placed.placed.firsts in
    let width = length c.key_types-width.result.now in
    let given : IsGiven t extents order turned frame firsts width = record {
      table = c.in_ok-order.ensures.table;
      within = c.in_ok-order.ensures.within;
      ordered = c.in_ok-order.ensures.order;
      turned_are = c.in_ok-turned.ensures ∙ (λ i. map (extent_at (c.deref.ensures.value i)) (c.deref-2.ensures.value i));
      frame_is = c.in_ok-placed.ensures.frame;
      firsts_are = c.in_ok-placed.ensures.firsts;
      width_is = ap (λ ts. length ts) c.key_types-width.ensures;
    } in
    IfOk-weaker c.rows_of.result _ _
    (λ rows is. λ q first taken sound groupable h.
    is
    ∙ ap (λ (es : List Extent). map (row_in (map (λ x. x.values) (take width frame.columns)) (map (λ x. x.values) (drop width frame.columns)) firsts es) (range_with_len 0 (length firsts))) c.deref-3.ensures.value
    ∙ given-rows q first taken t extents order turned frame firsts width given sound groupable h)
    c.rows_of.ensures
