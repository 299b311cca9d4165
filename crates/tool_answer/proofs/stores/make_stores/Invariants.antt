use Rattle.std.proofs.Common.{◌≡◌, ◌++◌, All, length, map, option_map}
use Rattle.tool_stores.specs.StorePath.{store_paths}
use Rattle.pipe_plan.specs.Stores.{stores_seen}
use Rattle.tool_answer.specs.Ended.{IsMade}
use Rattle.tool_answer.proofs.stores.make_stores.Given as goal

-- each store so far is as it was made, and lies at its path
abbrev pub invariant-loop-partition : goal.invariant-loop-partition
invariant-loop-partition g l =
    let store = g.M.Store.SpillStore in
    record {
      made : All (IsMade (option_map (λ f. f.now) l.folder)) (stores_seen store.held store.told store.faults store.sure store.path l.stores.items);
      count : length l.stores.items ≡ l.partition;
      paths : map g.M.Store.SpillStore.path l.stores.items ≡ store_paths (option_map (λ f. f.now) l.folder) l.partition;
      stores_made : g.M.StoreMaker.made l.maker ≡ g.M.StoreMaker.made l.fn.maker ++ store_paths (option_map (λ f. f.now) l.folder) l.partition;
    }
