use Rattle.std.proofs.Common.{◌≡◌, length, arith}
use Rattle.pipe_aggs.specs.QueryTrees.{query_tree}
use Rattle.pipe_summary.proofs.HoldFacts.{added-some, none-can}
use Rattle.pipe_summary.proofs.summary.Summary.add.Goals as goal

pub returns-then-is_empty-clause-holds : goal.returns-then-is_empty-clause-holds
returns-then-is_empty-clause-holds g c = c.recall.ensures.holds

pub returns-then-is_empty-clause-ok : goal.returns-then-is_empty-clause-ok
returns-then-is_empty-clause-ok g c =
    let none : length c.args.chunks.now ≡ 0 = grind (arith, c.is_empty.ensures, c.if-is_empty.true) in
    none-can (query_tree c.args.self.now.query) c.args.self.now.query.schema c.args.self.now.states c.args.chunks.now c.recall.ensures.holds.in_turn none

pub returns-in_err-file-clause-holds : goal.returns-in_err-file-clause-holds
returns-in_err-file-clause-holds g c = c.recall.ensures.holds

pub returns-in-Ok-clause-told : goal.returns-in-Ok-clause-told
returns-in-Ok-clause-told g c =
    (added-some (query_tree c.args.self.now.query) (g.S.SpillStore.told c.args.self.now.store) (g.S.SpillStore.told c.put_state.new.self.store) (g.S.SpillStore.held c.args.self.now.store)
    c.args.self.now.states c.put_state.new.self.states c.args.chunks.now c.in_ok-file.file c.recall.ensures.holds (grind (arith, c.is_empty.ensures, c.if-is_empty.false)) c.in_ok-file.ensures.state c.in_ok-file.ensures.in_turn
    c.in-Ok.ensures.states c.in-Ok.ensures.told).put

pub returns-in-Ok-clause-stands : goal.returns-in-Ok-clause-stands
returns-in-Ok-clause-stands g c =
    (added-some (query_tree c.args.self.now.query) (g.S.SpillStore.told c.args.self.now.store) (g.S.SpillStore.told c.put_state.new.self.store) (g.S.SpillStore.held c.args.self.now.store)
    c.args.self.now.states c.put_state.new.self.states c.args.chunks.now c.in_ok-file.file c.recall.ensures.holds (grind (arith, c.is_empty.ensures, c.if-is_empty.false)) c.in_ok-file.ensures.state c.in_ok-file.ensures.in_turn
    c.in-Ok.ensures.states c.in-Ok.ensures.told).stands
