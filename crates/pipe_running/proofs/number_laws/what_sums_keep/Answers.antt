use Rattle.std.proofs.Common.{[], ◌∷◌, ◌++◌, ap, refl}
use Rattle.std.proofs.lemmas.List.Sorted.{IsPermutation-append_comm}
use Rattle.pipe_columns.specs.declared.any_value.AnyValue.{AnyValue}
use Rattle.pipe_model.specs.Aggregate.{values_in}
use Rattle.pipe_running.specs.Transitions.{sums_joined}
use Rattle.pipe_running.proofs.GivenFacts.{sum-gives}
use Rattle.pipe_running.proofs.KindFacts.{sum-after, sum-joined, sum-moved}
use Rattle.pipe_running.proofs.number_laws.what_sums_keep.Goals as goal

pub returns-clause-fresh : goal.returns-clause-fresh
returns-clause-fresh g c = record { sum = refl; came = refl }

pub returns-clause-value : goal.returns-clause-value
returns-clause-value g c = λ a entries p v h. sum-after g.K.NumericNative.native g.met.K.NumericNative.laws p v a entries h

pub returns-clause-joined : goal.returns-clause-joined
returns-clause-joined g c = λ a b xs ys h k.
    let native = g.K.NumericNative.native in
    let both = sum-joined native g.met.K.NumericNative.laws a b xs ys h k in
    (both, sum-moved native (sums_joined native a b) (xs ++ ys) (ys ++ xs) (IsPermutation-append_comm xs ys) both)

pub returns-clause-order : goal.returns-clause-order
returns-clause-order g c = λ a xs ys moved h. sum-moved g.K.NumericNative.native a xs ys moved h

pub returns-clause-given : goal.returns-clause-given
returns-clause-given g c = λ a t entries e h.
    ap (λ (v : AnyValue). v ∷ []) (sum-gives g.K.NumericNative.native g.met.K.NumericNative.laws t a.sum (values_in entries) e h.sum)
