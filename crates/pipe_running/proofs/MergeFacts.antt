-- Running aggregates of one kind together: which is first, and which two are joined first, changes nothing of what they give.
use Rattle.std.proofs.Common.{◌≡◌, true, List, [], ◌++◌, refl, subst, append_assoc}
use Rattle.std.proofs.lemmas.List.{append-nil}
use Rattle.std.proofs.lemmas.List.Sorted.{IsPermutation-append_comm}
use Rattle.pipe_columns.specs.declared.any_value.AnyValue.{AnyValue}
use Rattle.pipe_columns.specs.declared.place.Place.{Place}
use Rattle.pipe_columns.specs.Place.{DistinctPlaces}
use Rattle.pipe_running.specs.declared.function.AggregateFunction.{AggregateFunction}
use Rattle.pipe_running.specs.Stands.{Stands}
use Rattle.pipe_running.specs.States.{alike, fresh, given, joined}
use Rattle.pipe_running.proofs.AlikeFacts.{alike-back, alike-fresh, alike-from, alike-joined, alike-through}
use Rattle.pipe_running.proofs.StandFacts.{given-same, stands-fresh, stands-joined, stands-moved}

-- two together stand for both lists together, in either order
pub stands-both : (f g : AggregateFunction) (xs ys : List (Place × AnyValue)) → alike f g ≡ true → Stands f xs → Stands g ys
    → Stands (joined f g) (xs ++ ys) × Stands (joined f g) (ys ++ xs)
stands-both f g xs ys e h k =
    let both = stands-joined f g xs ys e h k in
    (both, stands-moved (joined f g) (xs ++ ys) (ys ++ xs) (IsPermutation-append_comm xs ys) both)

-- the first with the second gives what the second gives with the first
pub joined-commute : (f g : AggregateFunction) (xs ys : List (Place × AnyValue)) → alike f g ≡ true → Stands f xs → Stands g ys → DistinctPlaces (xs ++ ys)
    → given (joined f g) ≡ given (joined g f)
joined-commute f g xs ys e h k d =
    given-same (joined f g) (joined g f) (xs ++ ys)
    (alike-joined f g (joined g f) (alike-back (joined g f) f (alike-joined g f f (alike-back f g e)))) d
    (stands-joined f g xs ys e h k) (stands-both g f ys xs (alike-back f g e) k h).1

-- three give the same whichever two are joined first
pub joined-associate : (f g h : AggregateFunction) (xs ys zs : List (Place × AnyValue)) → alike f g ≡ true → alike g h ≡ true
    → Stands f xs → Stands g ys → Stands h zs → DistinctPlaces (xs ++ (ys ++ zs)) → given (joined (joined f g) h) ≡ given (joined f (joined g h))
joined-associate f g h xs ys zs e k s t u d =
    let far = alike-through f g h e k in
    let inner : alike f (joined g h) ≡ true = alike-back (joined g h) f (alike-joined g h f (alike-back f g e)) in
    let outer : alike (joined f g) h ≡ true = alike-joined f g h far in
    given-same (joined (joined f g) h) (joined f (joined g h)) (xs ++ (ys ++ zs))
    (alike-joined (joined f g) h (joined f (joined g h)) (alike-joined f g (joined f (joined g h)) (alike-back (joined f (joined g h)) f (alike-joined f (joined g h) f (alike-from f f refl refl))))) d
    (subst (Stands (joined (joined f g) h)) (append_assoc xs ys zs) (stands-joined (joined f g) h (xs ++ ys) zs outer (stands-joined f g xs ys e s t) u))
    (stands-joined f (joined g h) xs (ys ++ zs) inner s (stands-joined g h ys zs k t u))

-- a fresh one changes nothing
pub joined-fresh : (f : AggregateFunction) (xs : List (Place × AnyValue)) → Stands f xs → DistinctPlaces xs
    → (given (joined f (fresh f)) ≡ given f) × (given (joined (fresh f) f) ≡ given f)
joined-fresh f xs h d = (
  given-same (joined f (fresh f)) f xs (alike-joined f (fresh f) f (alike-from f f refl refl)) d
      (subst (Stands (joined f (fresh f))) (append-nil xs) (stands-joined f (fresh f) xs [] (alike-fresh f) h (stands-fresh f))) h,
  given-same (joined (fresh f) f) f xs (alike-joined (fresh f) f f (alike-back f (fresh f) (alike-fresh f))) d
      (stands-joined (fresh f) f [] xs (alike-back f (fresh f) (alike-fresh f)) (stands-fresh f) h) h,
)
