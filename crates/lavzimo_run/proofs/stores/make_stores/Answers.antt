use Rattle.std.proofs.Common.{◌+◌, option_map, arith, rules}
use Rattle.lavzimo_run.proofs.StoreFacts.{made-in-more, made-in-none, made-more, made-none, none-mapped}
use Rattle.lavzimo_run.proofs.stores.make_stores.Goals as goal

pub loop-init : goal.loop-init
loop-init g c =
    let store = g.M.Store.SpillStore in
    record {
      made = made-none store.held store.told store.faults store.sure store.path (option_map (λ f. f.now) c.args.folder) c.new-stores.result.items c.new-stores.ensures.items;
      number = omega arith;
      folders = made-in-none (option_map (λ f. f.now) c.args.folder) _;
    }

pub loop-preserved : goal.loop-preserved
loop-preserved g c =
    let store = g.M.Store.SpillStore in
    record {
      made = made-more store.held store.told store.faults store.sure store.path (option_map (λ f. f.now) c.args.folder) c.loop.counter c.loop.stores.items c.push.new.self.items c.in_ok-make.field-0
          c.in_ok-push.ensures.items c.loop.invariant.made
          (record {
            held = c.in_ok-make.ensures.held;
            faults = c.in_ok-make.ensures.faults;
            tells = λ none. c.in_ok-make.ensures.tells (none-mapped (λ f. f.now) c.args.folder none);
            sure = λ none. c.in_ok-make.ensures.sure (none-mapped (λ f. f.now) c.args.folder none);
          });
      number = search rules;
      folders = made-in-more (option_map (λ f. f.now) c.args.folder) c.loop.counter _ _ _ c.loop.invariant.folders c.in_ok-make.ensures.folder;
    }

pub returns-in_err-push-clause-folders : goal.returns-in_err-push-clause-folders
returns-in_err-push-clause-folders g c =
    (c.loop.counter + 1, made-in-more (option_map (λ f. f.now) c.args.folder) c.loop.counter _ _ _ c.loop.invariant.folders c.in_ok-make.ensures.folder)
