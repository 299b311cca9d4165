use Rattle.std.proofs.Common.{◌≡◌, ◌∙◌, ℕ, List, ap, subst}
use Rattle.pipe_aggs.specs.declared.query.Query.{Query}
use Rattle.pipe_aggs.specs.QueryTrees.{query_tree}
use Rattle.pipe_columns.specs.declared.data_chunk.DataChunk.{DataChunk}
use Rattle.pipe_saving.specs.Refusals.{AllFit, AreFew}
use Rattle.pipe_saving.specs.Taken.{SavingSeen}
use Rattle.pipe_states.specs.Fair.{IsStateOf}
use Rattle.pipe_states.specs.Parts.{part_of, saved}
use Rattle.pipe_states.specs.States.{StateSeen}
use Rattle.memory_states.proofs.saved.save_left.Goals as goal

-- the state of chunks, by a query and from a position that are told
state-by : (x y : Query) (a b : ℕ) (chunks : List DataChunk) (s : StateSeen) → x ≡ y → a ≡ b → s ≡ saved (query_tree x) (part_of (query_tree x) a chunks) → s ≡ saved (query_tree y) (part_of (query_tree y) b chunks)
state-by x y a b chunks s query first is = is ∙ (λ i. saved (query_tree (query i)) (part_of (query_tree (query i)) (first i) chunks))

pub returns-clause-state : goal.returns-clause-state
returns-clause-state g c =
    let s = c.in_ok-saving-2.saving in
    let query : s.query ≡ c.args.query.now = c.in_ok-saving-2.ensures.query ∙ ap (λ (b : SavingSeen). b.query) c.in_ok-saving.ensures in
    let first : s.first ≡ c.args.first = c.in_ok-saving-2.ensures.first ∙ ap (λ (b : SavingSeen). b.first) c.in_ok-saving.ensures in
    record {
      chunks = s.taken;
      all = c.in_ok-saving-2.ensures.all;
      can = record {
        fit = subst (λ (x : Query). AllFit x.schema s.taken) (ap (λ (b : SavingSeen). b.query) c.in_ok-saving.ensures) c.in_ok-saving-2.ensures.fit;
        few = subst (λ n. AreFew n s.taken) (ap (λ (b : SavingSeen). b.first) c.in_ok-saving.ensures) c.in_ok-saving-2.ensures.few;
      };
      state = state-by s.query c.args.query.now s.first c.args.first s.taken c.in_ok-finish.field-0 query first c.in_ok-finish.ensures.state;
    }

pub returns-clause-of_query : goal.returns-clause-of_query
returns-clause-of_query g c =
    let query : c.in_ok-saving-2.saving.query ≡ c.args.query.now = c.in_ok-saving-2.ensures.query ∙ ap (λ (b : SavingSeen). b.query) c.in_ok-saving.ensures in
    subst (λ (x : Query). IsStateOf (query_tree x) c.in_ok-finish.field-0) query c.in_ok-finish.ensures.of_query
