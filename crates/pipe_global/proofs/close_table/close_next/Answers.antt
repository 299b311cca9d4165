use Rattle.std.proofs.Common.{rules, ◌≡◌, ◌∙◌, ◌∷◌, ◌++◌, [], List, ap, sym, subst, length, vec_len}
use Rattle.pipe_global.specs.Closed.{AreClosed, AreFailed, IsClosed}
use Rattle.pipe_global.specs.Partition.{PartitionSeen}
use Rattle.pipe_global.proofs.Closing.{closed-push, failed-push}
use Rattle.pipe_global.proofs.close_table.close_next.Goals as goal

pub returns-clause-closed : goal.returns-clause-closed
returns-clause-closed g c =
    let r = g.R.Naming.run in
    let x : PartitionSeen = c.hand_back.result in
    let old : List PartitionSeen = c.args.closed.now.items in
    let items : c.push_reserved.new.self.items ≡ old ++ x ∷ [] = search rules in
    let count : length old ≡ vec_len c.args.closed.now = search rules in
    let at : x.number ≡ length old = ap (λ (s : PartitionSeen). s.number) c.hand_back.ensures.is ∙ c.requires.number ∙ sym count in
    subst (AreClosed r) (sym items) (closed-push r old x c.requires.closed (subst (λ n. IsClosed r n x) at c.hand_back.ensures.closed))

pub returns-clause-failed : goal.returns-clause-failed
returns-clause-failed g c =
    let x : PartitionSeen = c.hand_back.result in
    let old : List PartitionSeen = c.args.closed.now.items in
    let items : c.push_reserved.new.self.items ≡ old ++ x ∷ [] = search rules in
    subst (λ (l : List PartitionSeen). AreFailed l c.hand_back.new.refusals.amount) (sym items)
    (failed-push old x c.args.refusals.now.amount c.hand_back.new.refusals.amount c.requires.failed c.hand_back.ensures.failed c.hand_back.ensures.refusals)
