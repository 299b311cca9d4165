use Rattle.std.proofs.Common.{◌≡◌, ◌∙◌, ◌+◌, ◌++◌, ◌∷◌, [], suc, ap, sym, arith}
use Rattle.std.specs.List.{range_with_len}
use Rattle.lavzimo_rows.proofs.KeyFacts.{numbers_more}
use Rattle.lavzimo_rows.proofs.by_key.all_rows.Goals as goal

pub loop-row-preserved : goal.loop-row-preserved
loop-row-preserved c =
    let next : suc c.loop-row.row ≡ c.loop-row.row + 1 = omega arith in
    let same : 0 + c.loop-row.row ≡ c.loop-row.row = omega arith in
    c.in_ok-push.ensures.items ∙ ap (λ ns. ns ++ c.loop-row.row ∷ []) c.loop-row.invariant
    ∙ ap (λ m. range_with_len 0 c.loop-row.row ++ m ∷ []) (sym same) ∙ sym (numbers_more 0 c.loop-row.row) ∙ ap (range_with_len 0) next
