use Rattle.std.proofs.Common.{◌++◌, refl}
use Rattle.std.proofs.lemmas.List.Sorted.{IsPermutation-append_comm}
use Rattle.pipe_running.specs.Transitions.{extremes_joined}
use Rattle.pipe_running.proofs.GivenFacts.{extreme-gives}
use Rattle.pipe_running.proofs.KindFacts.{extreme-after, extreme-joined, extreme-moved}
use Rattle.pipe_running.proofs.number_laws.what_extremes_keep.Goals as goal

pub returns-clause-fresh : goal.returns-clause-fresh
returns-clause-fresh g c = λ d. refl

pub returns-clause-value : goal.returns-clause-value
returns-clause-value g c = λ a entries p v e h. extreme-after g.K.NumericNative.native g.met.K.NumericNative.laws p v a entries e h

pub returns-clause-joined : goal.returns-clause-joined
returns-clause-joined g c = λ a b xs ys e h k.
    let native = g.K.NumericNative.native in
    let both = extreme-joined native g.met.K.NumericNative.laws a b xs ys e h k in
    (both, extreme-moved native (extremes_joined native a b) (xs ++ ys) (ys ++ xs) (IsPermutation-append_comm xs ys) both)

pub returns-clause-order : goal.returns-clause-order
returns-clause-order g c = λ a xs ys moved h. extreme-moved g.K.NumericNative.native a xs ys moved h

pub returns-clause-given : goal.returns-clause-given
returns-clause-given g c = λ a t entries h. extreme-gives g.K.NumericNative.native a.direction a.extreme t entries h
