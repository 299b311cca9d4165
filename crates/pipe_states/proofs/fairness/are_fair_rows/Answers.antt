use Rattle.std.proofs.Common.{rules, arith, ◌≡◌, ◌∙◌, ◌≤◌, List, true, false, length, take_all, refl, sym, subst}
use Rattle.std.specs.Prelude.{All}
use Rattle.std.proofs.lemmas.Bool.{false≢true}
use Rattle.std.proofs.lemmas.List.Elements.{All-get_or, All-more}
use Rattle.pipe_states.specs.Fair.{IsFairRow}
use Rattle.pipe_states.specs.declared.state_row.StateRow.{StateRow}
use Rattle.pipe_states.proofs.fairness.are_fair_rows.Goals as goal

pub returns-then-not-is_fair_row : goal.returns-then-not-is_fair_row
returns-then-not-is_fair_row c =
    let fair : StateRow → Type 0 = IsFairRow c.args.first c.args.end in
    let rows : List StateRow = c.args.rows.now in
    let r : StateRow = c.row-item.result in
    let no : c.is_fair_row.result ≡ false = search rules in (
      λ e. absurd (false≢true e),
      λ all. sym no ∙ c.is_fair_row.ensures.1 (subst fair (sym c.row-item.is) (All-get_or fair rows c.loop-row.row-index r (omega (arith, c.loop-row-test.true)) all)),
    )

pub loop-row-preserved : goal.loop-row-preserved
loop-row-preserved c =
    let fair : StateRow → Type 0 = IsFairRow c.args.first c.args.end in
    let rows : List StateRow = c.args.rows.now in
    let r : StateRow = c.row-item.result in
    let yes : c.is_fair_row.result ≡ true = search rules in
    All-more fair rows c.loop-row.row-index r (omega (arith, c.loop-row-test.true)) c.loop-row.invariant (subst fair c.row-item.is (c.is_fair_row.ensures.0 yes))

pub returns : goal.returns
returns c =
    let fair : StateRow → Type 0 = IsFairRow c.args.first c.args.end in
    let rows : List StateRow = c.args.rows.now in
    let long : length rows ≤ c.loop-row.row-index = omega (arith, c.loop-row-test.false) in
    (λ e. subst (All fair) (take_all c.loop-row.row-index rows long) c.loop-row.invariant, λ all. refl)
