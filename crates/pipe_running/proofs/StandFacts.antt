-- What a running aggregate of any kind stands for, and what it gives.
use Rattle.std.proofs.Common.{◌≡◌, ◌∙◌, ℕ, ◌+◌, ◌≤◌, Bool, true, false, List, [], ◌∷◌, ◌++◌, length, Option, refl, sym, ap, subst, append_assoc, arith}
use Rattle.std.specs.List.{list_all}
use Rattle.std.specs.List.Sorted.{IsPermutation}
use Rattle.std.proofs.lemmas.List.{append-nil}
use Rattle.pipe_columns.specs.declared.any_value.AnyValue.{AnyValue}
use Rattle.pipe_columns.specs.declared.any_value.AnyValue.TheVariants as av
use Rattle.pipe_columns.specs.declared.data_type.DataType.{DataType}
use Rattle.pipe_columns.specs.declared.place.Place.{Place}
use Rattle.pipe_columns.specs.Place.{DistinctPlaces}
use Rattle.pipe_model.specs.Aggregate.{agg, counted, values_in, entry_value, present, reads_places}
use Rattle.pipe_model.specs.Least.{by_place, from_last, HoldsLeast}
use Rattle.pipe_model.proofs.LeastFacts.{holds-moved, holds-unique}
use Rattle.pipe_model.proofs.PlaceFacts.{by_place-total, from_last-total}
use Rattle.pipe_native.specs.Native.{Native, native_i8, native_i16, native_i32, native_i64, native_u8, native_u16, native_u32, native_u64}
use Rattle.pipe_native.specs.NativeLaws.{is_native_i8, is_native_i16, is_native_i32, is_native_i64, is_native_u8, is_native_u16, is_native_u32, is_native_u64}
use Rattle.pipe_running.specs.declared.function.AggregateFunction.{AggregateFunction}
use Rattle.pipe_running.specs.declared.function.AggregateFunction.TheVariants as function
use Rattle.pipe_running.specs.declared.interface.Finalized.TheVariants as finalized
use Rattle.pipe_running.specs.declared.min_max.Direction.{Direction}
use Rattle.pipe_running.specs.Runs.{after_run, placed}
use Rattle.pipe_running.specs.Stands.{held_value, is_mean, is_pair, Stands, value_order, Suits}
use Rattle.pipe_running.specs.StateLaws.{function_takes_alike}
use Rattle.pipe_running.specs.States.{after_value, alike, fresh, given, joined, kind_of, output_values, seen, takes}
use Rattle.pipe_running.specs.Transitions.{extreme_value, mean_given, same_direction}
use Rattle.pipe_running.proofs.GivenFacts.{extreme-gives, first-gives, first_held, held_is, last-gives, last_held, mean-gives, sum-gives, value_or_null, value_ties}
use Rattle.pipe_running.proofs.KindFacts.{count-after, count-joined, directions-same, extreme-after, extreme-joined, extreme-moved, mean-after, mean-joined, sum-after, sum-joined, sum-moved, value_order-total}
use Rattle.pipe_running.proofs.NearestFacts.{holds-after, holds-joined}
use Rattle.pipe_running.proofs.TallyFacts.{sum_in-moved, tally-moved, tally-short}

-- a fresh aggregate stands for no value
pub stands-fresh : (f : AggregateFunction) → Stands (fresh f) []
stands-fresh (function.Null a) = tt
stands-fresh (function.Mean a) = record { sum = refl; count = refl }
stands-fresh (function.SumU32 a) = record { sum = refl; came = refl }
stands-fresh (function.SumU64 a) = record { sum = refl; came = refl }
stands-fresh (function.SumI32 a) = record { sum = refl; came = refl }
stands-fresh (function.SumI64 a) = record { sum = refl; came = refl }
stands-fresh f = refl

-- with one more value it stands for one entry more
pub stands-after : (f : AggregateFunction) (xs : List (Place × AnyValue)) (p : Place) (v : AnyValue) → takes f v ≡ true → Stands f xs → Stands (after_value p v f) (xs ++ (p, v) ∷ [])
stands-after (function.First a) xs p v e h = holds-after by_place-total a.held xs (p, v) h
stands-after (function.Last a) xs p v e h = holds-after from_last-total a.held xs (p, v) h
stands-after (function.Count a) xs p v e h = count-after false p v a.count xs h
stands-after (function.Len a) xs p v e h = count-after true p v a.count xs h
stands-after (function.Mean a) xs p v e h = mean-after p v a xs h
stands-after (function.Null a) xs p v e h = tt
stands-after (function.SumU32 a) xs p v e h = sum-after native_u32 is_native_u32 p v a xs h
stands-after (function.SumU64 a) xs p v e h = sum-after native_u64 is_native_u64 p v a xs h
stands-after (function.SumI32 a) xs p v e h = sum-after native_i32 is_native_i32 p v a xs h
stands-after (function.SumI64 a) xs p v e h = sum-after native_i64 is_native_i64 p v a xs h
stands-after (function.MinMaxU8 a) xs p v e h = extreme-after native_u8 is_native_u8 p v a xs e h
stands-after (function.MinMaxU16 a) xs p v e h = extreme-after native_u16 is_native_u16 p v a xs e h
stands-after (function.MinMaxU32 a) xs p v e h = extreme-after native_u32 is_native_u32 p v a xs e h
stands-after (function.MinMaxU64 a) xs p v e h = extreme-after native_u64 is_native_u64 p v a xs e h
stands-after (function.MinMaxI8 a) xs p v e h = extreme-after native_i8 is_native_i8 p v a xs e h
stands-after (function.MinMaxI16 a) xs p v e h = extreme-after native_i16 is_native_i16 p v a xs e h
stands-after (function.MinMaxI32 a) xs p v e h = extreme-after native_i32 is_native_i32 p v a xs e h
stands-after (function.MinMaxI64 a) xs p v e h = extreme-after native_i64 is_native_i64 p v a xs e h

-- two of one kind together stand for both lists together
pub stands-joined : (f g : AggregateFunction) (xs ys : List (Place × AnyValue)) → alike f g ≡ true → Stands f xs → Stands g ys → Stands (joined f g) (xs ++ ys)
stands-joined (function.First a) (function.First b) xs ys e h k = holds-joined by_place-total a.held b.held xs ys h k
stands-joined (function.Last a) (function.Last b) xs ys e h k = holds-joined from_last-total a.held b.held xs ys h k
stands-joined (function.Count a) (function.Count b) xs ys e h k = count-joined false a.count b.count xs ys h k
stands-joined (function.Len a) (function.Len b) xs ys e h k = count-joined true a.count b.count xs ys h k
stands-joined (function.Mean a) (function.Mean b) xs ys e h k = mean-joined a b xs ys h k
stands-joined (function.Null a) (function.Null b) xs ys e h k = tt
stands-joined (function.SumU32 a) (function.SumU32 b) xs ys e h k = sum-joined native_u32 is_native_u32 a b xs ys h k
stands-joined (function.SumU64 a) (function.SumU64 b) xs ys e h k = sum-joined native_u64 is_native_u64 a b xs ys h k
stands-joined (function.SumI32 a) (function.SumI32 b) xs ys e h k = sum-joined native_i32 is_native_i32 a b xs ys h k
stands-joined (function.SumI64 a) (function.SumI64 b) xs ys e h k = sum-joined native_i64 is_native_i64 a b xs ys h k
stands-joined (function.MinMaxU8 a) (function.MinMaxU8 b) xs ys e h k = extreme-joined native_u8 is_native_u8 a b xs ys e h k
stands-joined (function.MinMaxU16 a) (function.MinMaxU16 b) xs ys e h k = extreme-joined native_u16 is_native_u16 a b xs ys e h k
stands-joined (function.MinMaxU32 a) (function.MinMaxU32 b) xs ys e h k = extreme-joined native_u32 is_native_u32 a b xs ys e h k
stands-joined (function.MinMaxU64 a) (function.MinMaxU64 b) xs ys e h k = extreme-joined native_u64 is_native_u64 a b xs ys e h k
stands-joined (function.MinMaxI8 a) (function.MinMaxI8 b) xs ys e h k = extreme-joined native_i8 is_native_i8 a b xs ys e h k
stands-joined (function.MinMaxI16 a) (function.MinMaxI16 b) xs ys e h k = extreme-joined native_i16 is_native_i16 a b xs ys e h k
stands-joined (function.MinMaxI32 a) (function.MinMaxI32 b) xs ys e h k = extreme-joined native_i32 is_native_i32 a b xs ys e h k
stands-joined (function.MinMaxI64 a) (function.MinMaxI64 b) xs ys e h k = extreme-joined native_i64 is_native_i64 a b xs ys e h k
stands-joined f g xs ys e h k = cc

-- it gives the aggregate of the list, where no place stands twice if it looks at places
pub stands-gives : (f : AggregateFunction) (t : DataType) (xs : List (Place × AnyValue)) → Suits f t → Stands f xs → (reads_places (kind_of f) ≡ true → DistinctPlaces xs) → output_values (given f) ≡ agg (kind_of f) t xs
stands-gives (function.First a) t xs s h d = ap (λ (v : AnyValue). v ∷ []) (first-gives a.held xs (d refl) h)
stands-gives (function.Last a) t xs s h d = ap (λ (v : AnyValue). v ∷ []) (last-gives a.held xs (d refl) h)
stands-gives (function.Count a) t xs s h d = ap (λ (n : ℕ). counted n ∷ []) h
stands-gives (function.Len a) t xs s h d = ap (λ (n : ℕ). counted n ∷ []) h
stands-gives (function.Mean a) t xs s h d = mean-gives t a xs s h
stands-gives (function.Null a) t xs s h d = rw s refl
stands-gives (function.SumU32 a) t xs s h d = ap (λ (v : AnyValue). v ∷ []) (sum-gives native_u32 is_native_u32 t a.sum (values_in xs) s h.sum)
stands-gives (function.SumU64 a) t xs s h d = ap (λ (v : AnyValue). v ∷ []) (sum-gives native_u64 is_native_u64 t a.sum (values_in xs) s h.sum)
stands-gives (function.SumI32 a) t xs s h d = ap (λ (v : AnyValue). v ∷ []) (sum-gives native_i32 is_native_i32 t a.sum (values_in xs) s h.sum)
stands-gives (function.SumI64 a) t xs s h d = ap (λ (v : AnyValue). v ∷ []) (sum-gives native_i64 is_native_i64 t a.sum (values_in xs) s h.sum)
stands-gives (function.MinMaxU8 a) t xs s h d = extreme-gives native_u8 a.direction a.extreme t xs h
stands-gives (function.MinMaxU16 a) t xs s h d = extreme-gives native_u16 a.direction a.extreme t xs h
stands-gives (function.MinMaxU32 a) t xs s h d = extreme-gives native_u32 a.direction a.extreme t xs h
stands-gives (function.MinMaxU64 a) t xs s h d = extreme-gives native_u64 a.direction a.extreme t xs h
stands-gives (function.MinMaxI8 a) t xs s h d = extreme-gives native_i8 a.direction a.extreme t xs h
stands-gives (function.MinMaxI16 a) t xs s h d = extreme-gives native_i16 a.direction a.extreme t xs h
stands-gives (function.MinMaxI32 a) t xs s h d = extreme-gives native_i32 a.direction a.extreme t xs h
stands-gives (function.MinMaxI64 a) t xs s h d = extreme-gives native_i64 a.direction a.extreme t xs h

-- it has seen no more values than the list has
pub seen-short : (f : AggregateFunction) (xs : List (Place × AnyValue)) → Stands f xs → seen f ≤ length xs
seen-short (function.Count a) xs h = let short = tally-short false xs in omega arith
seen-short (function.Len a) xs h = let short = tally-short true xs in omega arith
seen-short (function.Mean a) xs h = let short = tally-short false xs in let held = h.count in omega arith
seen-short f xs h = omega arith

-- a run of values adds their entries
pub stands-run : (f : AggregateFunction) (xs : List (Place × AnyValue)) (chunk row : ℕ) (values : List AnyValue) → list_all (takes f) values ≡ true
    → Stands f xs → Stands (after_run after_value chunk row values f) (xs ++ placed chunk row values)
stands-run f xs chunk row [] e h = subst (Stands f) (sym (append-nil xs)) h
stands-run f xs chunk row (v ∷ vs) e h =
    let p : Place = record { chunk = chunk; row = row } in
    let first : takes f v ≡ true = grind arith in
    let rest : list_all (takes f) vs ≡ true = grind arith in
    subst (Stands (after_run after_value chunk row (v ∷ vs) f)) (append_assoc xs ((p, v) ∷ []) (placed chunk (row + 1) vs))
    (stands-run (after_value p v f) (xs ++ (p, v) ∷ []) chunk (row + 1) vs
    (ap (λ (t : AnyValue → Bool). list_all t vs) (λ i w. function_takes_alike p v w f i) ∙ rest)
    (stands-after f xs p v first h))

-- in another order it stands for the same
pub stands-moved : (f : AggregateFunction) (xs ys : List (Place × AnyValue)) → IsPermutation xs ys → Stands f xs → Stands f ys
stands-moved (function.First a) xs ys moved h = holds-moved by_place a.held xs ys moved h
stands-moved (function.Last a) xs ys moved h = holds-moved from_last a.held xs ys moved h
stands-moved (function.Count a) xs ys moved h = h ∙ tally-moved false xs ys moved
stands-moved (function.Len a) xs ys moved h = h ∙ tally-moved true xs ys moved
stands-moved (function.Mean a) xs ys moved h = record { sum = h.sum ∙ sum_in-moved xs ys moved; count = h.count ∙ tally-moved false xs ys moved }
stands-moved (function.Null a) xs ys moved h = tt
stands-moved (function.SumU32 a) xs ys moved h = sum-moved native_u32 a xs ys moved h
stands-moved (function.SumU64 a) xs ys moved h = sum-moved native_u64 a xs ys moved h
stands-moved (function.SumI32 a) xs ys moved h = sum-moved native_i32 a xs ys moved h
stands-moved (function.SumI64 a) xs ys moved h = sum-moved native_i64 a xs ys moved h
stands-moved (function.MinMaxU8 a) xs ys moved h = extreme-moved native_u8 a xs ys moved h
stands-moved (function.MinMaxU16 a) xs ys moved h = extreme-moved native_u16 a xs ys moved h
stands-moved (function.MinMaxU32 a) xs ys moved h = extreme-moved native_u32 a xs ys moved h
stands-moved (function.MinMaxU64 a) xs ys moved h = extreme-moved native_u64 a xs ys moved h
stands-moved (function.MinMaxI8 a) xs ys moved h = extreme-moved native_i8 a xs ys moved h
stands-moved (function.MinMaxI16 a) xs ys moved h = extreme-moved native_i16 a xs ys moved h
stands-moved (function.MinMaxI32 a) xs ys moved h = extreme-moved native_i32 a xs ys moved h
stands-moved (function.MinMaxI64 a) xs ys moved h = extreme-moved native_i64 a xs ys moved h

-- the extreme of one list
one-extreme : {K : Type 0} (k : Native K) (d f : Direction) (a b : Option K) (vs : List AnyValue) → same_direction d f ≡ true
    → HoldsLeast (value_order d) (held_value k a) vs → HoldsLeast (value_order f) (held_value k b) vs → finalized.One (extreme_value k a) ≡ finalized.One (extreme_value k b)
one-extreme k d f a b vs e h j = ap finalized.One (held_is k a ∙ ap value_or_null same ∙ sym (held_is k b)) where
  same : held_value k a ≡ held_value k b
  same = holds-unique (value_order-total d) vs (λ x y c g. value_ties d x y) (held_value k a) (held_value k b) h
      (subst (λ (g : Direction). HoldsLeast (value_order g) (held_value k b) vs) (sym (directions-same d f e)) j)

-- two of one kind that stand for one list give the same, where no place stands twice
pub given-same : (f g : AggregateFunction) (xs : List (Place × AnyValue)) → alike f g ≡ true → DistinctPlaces xs → Stands f xs → Stands g xs → given f ≡ given g
given-same (function.First a) (function.First b) xs e d h k = ap (λ held. finalized.One (entry_value held)) (first_held xs d a.held b.held h k)
given-same (function.Last a) (function.Last b) xs e d h k = ap (λ held. finalized.One (entry_value held)) (last_held xs d a.held b.held h k)
given-same (function.Count a) (function.Count b) xs e d h k = ap (λ (n : ℕ). finalized.One (counted n)) (h ∙ sym k)
given-same (function.Len a) (function.Len b) xs e d h k = ap (λ (n : ℕ). finalized.One (counted n)) (h ∙ sym k)
given-same (function.Mean a) (function.Mean b) xs e d h k = λ i. mean_given (record { sum = (h.sum ∙ sym k.sum) i; count = (h.count ∙ sym k.count) i })
given-same (function.Null a) (function.Null b) xs e d h k = refl
given-same (function.SumU32 a) (function.SumU32 b) xs e d h k = ap (λ s. finalized.One (av.Int (native_u32.number s))) (h.sum ∙ sym k.sum)
given-same (function.SumU64 a) (function.SumU64 b) xs e d h k = ap (λ s. finalized.One (av.Int (native_u64.number s))) (h.sum ∙ sym k.sum)
given-same (function.SumI32 a) (function.SumI32 b) xs e d h k = ap (λ s. finalized.One (av.Int (native_i32.number s))) (h.sum ∙ sym k.sum)
given-same (function.SumI64 a) (function.SumI64 b) xs e d h k = ap (λ s. finalized.One (av.Int (native_i64.number s))) (h.sum ∙ sym k.sum)
given-same (function.MinMaxU8 a) (function.MinMaxU8 b) xs e d h k = one-extreme native_u8 a.direction b.direction a.extreme b.extreme (present (values_in xs)) e h k
given-same (function.MinMaxU16 a) (function.MinMaxU16 b) xs e d h k = one-extreme native_u16 a.direction b.direction a.extreme b.extreme (present (values_in xs)) e h k
given-same (function.MinMaxU32 a) (function.MinMaxU32 b) xs e d h k = one-extreme native_u32 a.direction b.direction a.extreme b.extreme (present (values_in xs)) e h k
given-same (function.MinMaxU64 a) (function.MinMaxU64 b) xs e d h k = one-extreme native_u64 a.direction b.direction a.extreme b.extreme (present (values_in xs)) e h k
given-same (function.MinMaxI8 a) (function.MinMaxI8 b) xs e d h k = one-extreme native_i8 a.direction b.direction a.extreme b.extreme (present (values_in xs)) e h k
given-same (function.MinMaxI16 a) (function.MinMaxI16 b) xs e d h k = one-extreme native_i16 a.direction b.direction a.extreme b.extreme (present (values_in xs)) e h k
given-same (function.MinMaxI32 a) (function.MinMaxI32 b) xs e d h k = one-extreme native_i32 a.direction b.direction a.extreme b.extreme (present (values_in xs)) e h k
given-same (function.MinMaxI64 a) (function.MinMaxI64 b) xs e d h k = one-extreme native_i64 a.direction b.direction a.extreme b.extreme (present (values_in xs)) e h k
given-same f g xs e d h k = cc

-- a mean alone gives a pair
pub pair-mean : (f : AggregateFunction) → is_pair (given f) ≡ is_mean f
pair-mean (function.Mean a) = refl
pair-mean f = refl
