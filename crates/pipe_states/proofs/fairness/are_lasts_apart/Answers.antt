use Rattle.std.proofs.Common.{rules, arith, ◌≡◌, ◌∙◌, ◌≤◌, ◌++◌, ◌∷◌, [], List, true, length, map, take_all, ap, subst}
use Rattle.std.specs.Prelude.{◌↔◌}
use Rattle.std.specs.List.{IsDistinct}
use Rattle.std.specs.Ordering.{eq_by_cmp}
use Rattle.pipe_columns.specs.declared.place.Place.{Place}
use Rattle.pipe_columns.specs.Place.{place_cmp}
use Rattle.pipe_states.specs.declared.state_row.StateRow.{StateRow}
use Rattle.pipe_states.proofs.Appending.{image_more}
use Rattle.pipe_states.proofs.fairness.are_lasts_apart.Goals as goal

pub loop-row-preserved : goal.loop-row-preserved
loop-row-preserved c =
    let rows : List StateRow = c.args.rows.now in
    let r : StateRow = c.row-item.result in
    let pushed : c.push.new.self.items ≡ c.loop-row.places.items ++ r.last ∷ [] = search rules in
    pushed ∙ ap (λ (l : List Place). l ++ r.last ∷ []) c.loop-row.invariant
    ∙ image_more (λ (x : StateRow). x.last) rows c.loop-row.row-index r c.loop-row-test.true c.row-item.is

pub returns : goal.returns
returns c =
    let rows : List StateRow = c.args.rows.now in
    let long : length rows ≤ c.loop-row.row-index = omega (arith, c.loop-row-test.false) in
    subst (λ (ps : List Place). (c.are_apart.result ≡ true) ↔ IsDistinct (eq_by_cmp place_cmp) ps)
    (c.loop-row.invariant ∙ ap (map (λ (x : StateRow). x.last)) (take_all c.loop-row.row-index rows long)) c.are_apart.ensures
