use Rattle.std.proofs.Common.{[], ap, map, option_map, rules}
use Rattle.tool_stores.proofs.StorePathFacts.{paths-more, paths-none}
use Rattle.tool_answer.proofs.StoreFacts.{made-more, made-none, none-mapped, path-more}
use Rattle.tool_answer.proofs.stores.make_stores.Goals as goal

pub loop-partition-init : goal.loop-partition-init
loop-partition-init g c =
    let store = g.M.Store.SpillStore in
    record {
      made = made-none store.held store.told store.faults store.sure store.path (option_map (λ f. f.now) c.args.folder) c.new-stores.result.items c.new-stores.ensures.items;
      count = search rules;
      paths = ap (map g.M.Store.SpillStore.path) c.new-stores.ensures.items;
      stores_made = paths-none (option_map (λ f. f.now) c.args.folder) (g.M.StoreMaker.made c.args.maker.now);
    }

pub loop-partition-preserved : goal.loop-partition-preserved
loop-partition-preserved g c =
    let store = g.M.Store.SpillStore in
    record {
      made = made-more store.held store.told store.faults store.sure store.path (option_map (λ f. f.now) c.args.folder) c.loop-partition.stores.items c.push.new.self.items c.in_ok-make.field-0
          c.in_ok-push.ensures.items c.loop-partition.invariant.made
          (record {
            held = c.in_ok-make.ensures.held;
            faults = c.in_ok-make.ensures.faults;
            tells = λ none. c.in_ok-make.ensures.tells (none-mapped (λ f. f.now) c.args.folder none);
            sure = λ none. c.in_ok-make.ensures.sure (none-mapped (λ f. f.now) c.args.folder none);
          });
      count = search rules;
      paths = paths-more (option_map (λ f. f.now) c.args.folder) c.loop-partition.partition [] (map g.M.Store.SpillStore.path c.loop-partition.stores.items) (map g.M.Store.SpillStore.path c.push.new.self.items)
          (g.M.Store.SpillStore.path c.in_ok-make.field-0) c.loop-partition.invariant.paths c.in_ok-make.ensures.path
          (path-more g.M.Store.SpillStore.path c.loop-partition.stores.items c.push.new.self.items c.in_ok-make.field-0 c.in_ok-push.ensures.items);
      stores_made = paths-more (option_map (λ f. f.now) c.args.folder) c.loop-partition.partition (g.M.StoreMaker.made c.args.maker.now) (g.M.StoreMaker.made c.loop-partition.maker)
          (g.M.StoreMaker.made c.make.new.self) (g.M.Store.SpillStore.path c.in_ok-make.field-0) c.loop-partition.invariant.stores_made c.in_ok-make.ensures.path c.in_ok-make.ensures.made;
    }
