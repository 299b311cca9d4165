use Rattle.std.proofs.Common.{◌≡◌, ◌∙◌, ◌+◌, ◌++◌, ◌∷◌, [], List, take, All, sym, ap, subst}
use Rattle.std.proofs.lemmas.List.{take_more}
use Rattle.std.proofs.lemmas.List.Elements.{All-push}
use Rattle.pipe_states.specs.Fair.{IsFair}
use Rattle.pipe_states.specs.States.{StateSeen}
use Rattle.pipe_states.specs.declared.state_row.StateRow.{StateRow}
use Rattle.pipe_states.specs.Together.{total_rows}
use Rattle.pipe_regroup.specs.Groups.{count_rows}
use Rattle.pipe_regroup.specs.Regrouping.{held_count, with_more}
use Rattle.pipe_regroup.proofs.QueryGroups.{held-more, total-more}
use Rattle.pipe_regroup.proofs.total.total.Goals as goal

pub loop-file-preserved : goal.loop-file-preserved
loop-file-preserved c =
    let states : List StateSeen = c.args.files.now in
    let s : StateSeen = c.file-item.result in
    let i = c.loop-file.file-index in
    let next : take (i + 1) states ≡ take i states ++ s ∷ [] =
    take_more states i s c.loop-file-test.true ∙ ap (λ (x : StateSeen). take i states ++ x ∷ []) (sym c.file-item.is) in
    record {
      rows =
          c.more-rows.ensures
          ∙ (λ j. with_more (c.loop-file.invariant.rows j) (c.counted.ensures j))
          ∙ held-more (total_rows (take i states)) (count_rows c.rows.result.now)
          ∙ ap (λ (l : List StateRow). held_count (total_rows (take i states) + count_rows l)) c.rows.ensures.rows
          ∙ ap held_count (sym (total-more (take i states) s))
          ∙ ap (λ (l : List StateSeen). held_count (total_rows l)) (sym next);
      fair = subst (All IsFair) (sym next) (All-push IsFair (take i states) s c.loop-file.invariant.fair c.rows.ensures.fair);
    }
