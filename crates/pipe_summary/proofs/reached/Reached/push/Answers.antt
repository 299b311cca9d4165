use Rattle.std.proofs.Common.{◌≡◌, ◌∙◌, ◌∷◌, ◌++◌, [], List, sym, subst}
use Rattle.pipe_aggs.specs.QueryTrees.{query_tree}
use Rattle.pipe_model.specs.Query.{QueryTree}
use Rattle.pipe_states.specs.States.{StateSeen}
use Rattle.pipe_states.specs.Together.{total_rows}
use Rattle.pipe_summary.specs.Held.{HasReached}
use Rattle.pipe_summary.specs.InTurn.{AreInTurn}
use Rattle.pipe_summary.specs.Seen.{ReachedSeen}
use Rattle.pipe_summary.proofs.TurnFacts.{end-more}
use Rattle.pipe_summary.proofs.reached.Reached.push.Goals as goal

pub invariant_of-self : goal.invariant_of-self
invariant_of-self c =
    let states : List StateSeen = c.self.inside.states in
    let s : StateSeen = c.args.file.now in
    let q : QueryTree = query_tree c.self.inside.query.now in
    subst (λ (l : List StateSeen). HasReached q l c.end-self-inside.result c.args.rows) (sym c.add.ensures) (record {
      in_turn = subst (λ (v : ReachedSeen). AreInTurn (query_tree v.query) (v.states ++ s ∷ [])) (sym c.self.view_is) c.requires.in_turn;
      end = c.end-self-inside.ensures.end ∙ sym (end-more states s);
      rows = subst (λ (v : ReachedSeen). c.args.rows ≡ total_rows (v.states ++ s ∷ [])) (sym c.self.view_is) c.requires.rows;
    })
