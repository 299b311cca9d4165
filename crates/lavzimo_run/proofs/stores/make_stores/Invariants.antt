use Rattle.std.proofs.Common.{◌≡◌, ◌+◌, ◌++◌, option_map}
use Rattle.std.specs.Prelude.{replicate}
use Rattle.pipe_plan.specs.Stores.{stores_seen}
use Rattle.lavzimo_run.specs.Stores.{AreMade}
use Rattle.lavzimo_run.proofs.stores.make_stores.Given as goal

-- the stores so far are as they were made, and counted, each in the folder
abbrev pub invariant-loop : goal.invariant-loop
invariant-loop g l =
    let store = g.M.Store.SpillStore in
    record {
      made : AreMade (option_map (λ f. f.now) l.folder) l.counter (stores_seen store.held store.told store.faults store.sure store.path l.stores.items);
      number : g.M.SpillMaker.made l.maker ≡ g.M.SpillMaker.made l.fn.maker + l.counter;
      folders : g.M.SpillMaker.folders l.maker ≡ g.M.SpillMaker.folders l.fn.maker ++ replicate l.counter (option_map (λ f. f.now) l.folder);
    }
