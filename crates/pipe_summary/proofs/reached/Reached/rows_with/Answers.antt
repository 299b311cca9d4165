use Rattle.std.proofs.Common.{◌≡◌, ◌∙◌, ◌+◌, ◌<◌, ◌^◌, ◌∷◌, ◌++◌, ℕ, [], List, Option, Some, None, IfSome, sym, ap, subst, arith}
use Rattle.std.specs.List.{sum_by}
use Rattle.std.specs.Option.{SomeIff}
use Rattle.pipe_states.specs.declared.state_row.StateRow.{StateRow}
use Rattle.pipe_aggs.specs.QueryTrees.{query_tree}
use Rattle.pipe_model.specs.Query.{QueryTree}
use Rattle.pipe_states.specs.Fair.{IsStateOf}
use Rattle.pipe_states.specs.States.{StateSeen}
use Rattle.pipe_states.specs.Regrouped.{end_of}
use Rattle.pipe_states.specs.Together.{total_rows}
use Rattle.pipe_summary.specs.InTurn.{AreInTurn}
use Rattle.pipe_summary.specs.Seen.{ReachedSeen}
use Rattle.pipe_summary.proofs.TurnFacts.{more-in_turn, not-next, row_count}
use Rattle.pipe_summary.proofs.reached.Reached.rows_with.Goals as goal
use Rattle.pipe_summary.proofs.reached.Reached.rows_with.Goals.{then-first-self-via-then-first-self, then-first-self-via-else-first-self+then-first-end}

-- one state more is in turn
abbrev Next : StateSeen → ReachedSeen → Type 0
Next s v = AreInTurn (query_tree v.query) (v.states ++ s ∷ [])

-- what follows from a sum that fits
if-fits : (r : Option ℕ) (n : ℕ) (P : Type 0) → SomeIff r (n < 2 ^ 32) n → (n < 2 ^ 32 → P) → IfSome r (λ m. P)
if-fits None n P e f = tt
if-fits (Some m) n P e f = f e.0

pub returns-then-first-self-clause-none : goal.returns-then-first-self-clause-none
returns-then-first-self-clause-none c =
    let q : QueryTree = query_tree c.self.inside.query.now in
    let states : List StateSeen = c.self.inside.states in
    let s : StateSeen = c.args.file.now in
    let at : c.self.inside.end ≡ end_of states = c.self.invariant.end in
    let begins : c.first-first.result ≡ s.first = c.first-first.ensures.first in
    let late : s.first ≡ end_of states → s.first ≡ s.end =
    λ e.
    elim c.then-first-self.branch [
      | then-first-self-via-then-first-self w ↦ absurd (w.if-first-self.true (begins ∙ e ∙ sym at))
      | then-first-self-via-else-first-self+then-first-end w ↦ sym begins ∙ w.if-first-end.true ∙ w.end.ensures.end
    ] in
    subst (λ (v : ReachedSeen). Next s v → ⊥) c.self.view_is (not-next q states s late)

pub returns-clause-in_turn : goal.returns-clause-in_turn
returns-clause-in_turn c =
    let q : QueryTree = query_tree c.self.inside.query.now in
    let states : List StateSeen = c.self.inside.states in
    let s : StateSeen = c.args.file.now in
    let of_query : IsStateOf q s = subst (λ (v : ReachedSeen). IsStateOf (query_tree v.query) s) (sym c.self.view_is) c.requires in
    let begins : s.first ≡ end_of states = sym c.first-first.ensures.first ∙ c.if-first-self.false ∙ c.self.invariant.end in
    let some : s.first < s.end = grind (arith, c.first-first.ensures.first, c.end.ensures.end, c.if-first-end.false, c.first-first.ensures.fair.range) in
    let counted : c.counted.result ≡ row_count s = c.counted.ensures ∙ ap (λ (l : List StateRow). sum_by (λ r. r.rows) l) c.rows.ensures.rows in
    let whole : c.self.inside.rows + c.counted.result ≡ total_rows states + row_count s = λ i. c.self.invariant.rows i + counted i in
    if-fits c.checked_add.result (c.self.inside.rows + c.counted.result) (Next s c.args.self.now) c.checked_add.ensures
    (λ few. subst (Next s) c.self.view_is
    (more-in_turn q states s c.self.invariant.in_turn (record { fair = c.first-first.ensures.fair; of_query = of_query }) begins some (subst (λ (n : ℕ). n < 2 ^ 32) whole few)))
