use Rattle.std.proofs.Common.{◌≡◌, length}
use Rattle.pipe_aggs.specs.QueryTrees.{query_tree}
use Rattle.pipe_summary.specs.Held.{AreFront}
use Rattle.pipe_summary.specs.InTurn.{AreInTurn}
use Rattle.pipe_summary.proofs.compact.read_files.Given as goal

-- the states of the frames so far were reached, and the store is as it was
abbrev pub invariant-loop-number : goal.invariant-loop-number
invariant-loop-number g l =
    let store = g.S.SpillStore in
    record {
      query : l.reached.query ≡ l.fn.reached.query;
      count : l.number ≡ length l.reached.states;
      in_turn : AreInTurn (query_tree l.fn.reached.query) l.reached.states;
      front : AreFront (query_tree l.fn.reached.query) (store.told l.fn.store) l.reached.states;
      told : store.told l.store ≡ store.told l.fn.store;
      held : store.held l.store ≡ store.held l.fn.store;
      sure : store.sure l.store ≡ store.sure l.fn.store;
      path : store.path l.store ≡ store.path l.fn.store;
      faults : store.faults l.store ≡ store.faults l.fn.store;
      files : l.files.items ≡ l.reached.states;
    }
