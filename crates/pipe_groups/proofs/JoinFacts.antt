-- The running aggregates of a group, joined with those of another one by one.
use Rattle.std.proofs.Common.{ℕ, ◌+◌, ◌<◌, ◌^◌, List, [], ◌∷◌, arith}
use Rattle.pipe_running.specs.declared.function.AggregateFunction.{AggregateFunction}
use Rattle.pipe_running.specs.GroupStates.{SameKinds, StatesSeen}
use Rattle.pipe_running.proofs.AlikeFacts.{alike-back, alike-through}
use Rattle.pipe_groups.specs.Groups.{AreJoinable}

abbrev States : Type 0
States = List AggregateFunction

-- running aggregates of the same kinds that have counted few values together may be joined
pub kinds-joinable : (ps ss ts : States) (m n : ℕ) → SameKinds ps ss → SameKinds ps ts → StatesSeen m ss → StatesSeen n ts → m + n < 2 ^ 32 → AreJoinable ss ts
kinds-joinable [] [] [] m n k l s t few = tt
kinds-joinable [] [] (t ∷ ts) m n k l x y few = absurd l
kinds-joinable [] (s ∷ ss) ts m n k l x y few = absurd k
kinds-joinable (f ∷ fs) [] ts m n k l x y few = absurd k
kinds-joinable (f ∷ fs) (s ∷ ss) [] m n k l x y few = absurd l
kinds-joinable (f ∷ fs) (s ∷ ss) (t ∷ ts) m n k l x y few =
    (alike-through s f t (alike-back f s k.0.alike) l.0.alike, omega (arith, x.0, y.0, few), kinds-joinable fs ss ts m n k.1 l.1 x.1 y.1 few)
