use Rattle.std.proofs.Common.{◌≡◌, ◌∙◌, ℤ, ◌+ℤ◌, ap, rules}
use Rattle.pipe_columns.specs.DataType.{wrapped}
use Rattle.pipe_model.specs.Aggregate.{addend}
use Rattle.pipe_regroup.proofs.SumFacts.{sum-wrapped}
use Rattle.pipe_regroup.proofs.join.sum_in.Goals as goal

pub returns : goal.returns
returns g c =
    let k = g.K.NumericNative.native in
    let a : ℤ = addend c.args.held.now in
    let b : ℤ = addend c.args.more.now in
    let first : c.narrowed.result ≡ k.wrap a = search rules in
    let second : c.narrowed-2.result ≡ k.wrap b = search rules in
    let value : c.widened.result ≡ wrapped k.dtype (a +ℤ b) =
    c.widened.ensures ∙ ap k.number c.plus-sum.ensures ∙ (λ i. k.number (k.wrap (k.number (first i) +ℤ k.number (second i)))) ∙ sum-wrapped k g.met.K.NumericNative.laws a b in
    search (rules, value)
