-- A run of rows that a group takes.
use Rattle.std.proofs.Common.{◌≡◌, ◌∙◌, ℕ, ◌+◌, ◌<◌, true, false, List, [], ◌∷◌, ◌++◌, map, Option, Some, refl, sym, ap, subst, arith}
use Rattle.std.specs.Cmp.Derive as derive
use Rattle.std.specs.List.{All, list_all}
use Rattle.std.specs.Ordering.{is_gt}
use Rattle.std.proofs.lemmas.Cmp.{tied_itself}
use Rattle.std.proofs.lemmas.List.{append-nil}
use Rattle.std.proofs.lemmas.List.Elements.{All-cons, All-head, All-nil, All-tail, All-weaker, Contains-append_left, Contains-push}
use Rattle.pipe_columns.specs.declared.any_value.AnyValue.{AnyValue}
use Rattle.pipe_columns.specs.declared.place.Place.{Place}
use Rattle.pipe_columns.specs.Frame.{value_at}
use Rattle.pipe_columns.specs.Place.{place_cmp}
use Rattle.pipe_model.specs.Answer.{inputs_at}
use Rattle.pipe_model.specs.Least.{HoldsLeast, IsLeast}
use Rattle.pipe_model.proofs.PlaceFacts.{place_total}
use Rattle.pipe_running.specs.declared.function.AggregateFunction.{AggregateFunction}
use Rattle.pipe_running.specs.GroupStates.{GroupStands, least_with_run, run_from, SameKinds, StandFrom, TakesFrom}
use Rattle.pipe_running.specs.Pick.{nearer}
use Rattle.pipe_running.specs.Runs.{after_run, placed}
use Rattle.pipe_running.specs.SameKind.{SameKind}
use Rattle.pipe_running.specs.Stands.{Stands}
use Rattle.pipe_running.specs.States.{after_value, takes}
use Rattle.pipe_running.proofs.EndFacts.{at, later_row}
use Rattle.pipe_running.proofs.GroupStateFacts.{Entries, inputs_at-append, kinds-take, places_of, places_of-append}
use Rattle.pipe_running.proofs.KindStays.{same-after, same-then}
use Rattle.pipe_running.proofs.NearestFacts.{holds-joined}
use Rattle.pipe_running.proofs.StandFacts.{stands-run}

-- a run leaves a running aggregate of its kind
same-run : (f s : AggregateFunction) (chunk row : ℕ) (values : List AnyValue) → SameKind f s → SameKind f (after_run after_value chunk row values s)
same-run f s chunk row [] k = k
same-run f s chunk row (v ∷ vs) k =
    let p : Place = at chunk row in
    same-run f (after_value p v s) chunk (row + 1) vs (same-then f s (after_value p v s) k (same-after p v s))

-- and each of a group
kinds-run : (chunk row j : ℕ) (rows : List (List AnyValue)) (ps ss : List AggregateFunction) → SameKinds ps ss → SameKinds ps (run_from chunk row j rows ss)
kinds-run chunk row j rows [] [] k = tt
kinds-run chunk row j rows [] (s ∷ ss) k = absurd k
kinds-run chunk row j rows (f ∷ fs) [] k = absurd k
kinds-run chunk row j rows (f ∷ fs) (s ∷ ss) k =
    (same-run f s chunk row (map (λ inputs. value_at inputs j) rows) k.0, kinds-run chunk row (j + 1) rows fs ss k.1)

-- the inputs of the rows of a run are a run
placed-inputs : (chunk row j : ℕ) (rows : List (List AnyValue)) → inputs_at j (placed chunk row rows) ≡ placed chunk row (map (λ inputs. value_at inputs j) rows)
placed-inputs chunk row j [] = refl
placed-inputs chunk row j (r ∷ rs) = ap (λ (es : List (Place × AnyValue)). (at chunk row, value_at r j) ∷ es) (placed-inputs chunk (row + 1) j rs)

-- what a running aggregate takes of a run
run-takes : (j : ℕ) (s : AggregateFunction) (ss : List AggregateFunction) (rows : List (List AnyValue)) → All (TakesFrom j (s ∷ ss)) rows → list_all (takes s) (map (λ inputs. value_at inputs j) rows) ≡ true
run-takes j s ss [] h = refl
run-takes j s ss (r ∷ rs) h = derive.both_true (All-head (TakesFrom j (s ∷ ss)) r rs h).0 (run-takes j s ss rs (All-tail (TakesFrom j (s ∷ ss)) r rs h))

-- each stands for the rows of a run too
stand-run : (chunk row j : ℕ) (rows : List (List AnyValue)) (ss : List AggregateFunction) (xs : Entries) → All (TakesFrom j ss) rows → StandFrom j ss xs → StandFrom j (run_from chunk row j rows ss) (xs ++ placed chunk row rows)
stand-run chunk row j rows [] xs t h = tt
stand-run chunk row j rows (s ∷ ss) xs t h =
    let values : List AnyValue = map (λ inputs. value_at inputs j) rows in (
      subst (Stands (after_run after_value chunk row values s)) (sym (inputs_at-append j xs (placed chunk row rows) ∙ ap (λ (es : List (Place × AnyValue)). inputs_at j xs ++ es) (placed-inputs chunk row j rows)))
          (stands-run s (inputs_at j xs) chunk row values (run-takes j s ss rows t) h.0),
      stand-run chunk row (j + 1) rows ss xs (All-weaker (TakesFrom j (s ∷ ss)) (TakesFrom (j + 1) ss) (λ r k. k.1) rows t) h.1,
    )

-- a row is before those behind it
before-run : (chunk n row : ℕ) (rows : List (List AnyValue)) → n < row → All (λ q. is_gt (place_cmp (at chunk n) q) ≡ false) (places_of (placed chunk row rows))
before-run chunk n row [] lt = All-nil (λ (q : Place). is_gt (place_cmp (at chunk n) q) ≡ false)
before-run chunk n row (r ∷ rs) lt =
    All-cons (λ (q : Place). is_gt (place_cmp (at chunk n) q) ≡ false) (at chunk row) (places_of (placed chunk (row + 1) rs)) (ap is_gt (later_row chunk n row lt)) (before-run chunk n (row + 1) rs (omega arith))

-- so the first row of a run has its least place
first-of-run : (chunk row : ℕ) (r : List AnyValue) (rs : List (List AnyValue)) → IsLeast place_cmp (at chunk row) (places_of (placed chunk row (r ∷ rs)))
first-of-run chunk row r rs =
    let others : List Place = places_of (placed chunk (row + 1) rs) in
    record {
      within = Contains-append_left (at chunk row ∷ []) others (at chunk row) (Contains-push [] (at chunk row));
      bound = All-cons (λ (q : Place). is_gt (place_cmp (at chunk row) q) ≡ false) (at chunk row) others (ap is_gt (tied_itself place_total (at chunk row))) (before-run chunk row (row + 1) rs (omega arith));
    }

-- the least place with those of a run
least-run : (chunk row : ℕ) (rows : List (List AnyValue)) (first : Option Place) (xs : Entries) → HoldsLeast place_cmp first (places_of xs) → HoldsLeast place_cmp (least_with_run chunk row rows first) (places_of (xs ++ placed chunk row rows))
least-run chunk row [] first xs h = subst (λ (es : Entries). HoldsLeast place_cmp first (places_of es)) (sym (append-nil xs)) h
least-run chunk row (r ∷ rs) first xs h =
    subst (HoldsLeast place_cmp (Some (nearer place_cmp (at chunk row) first))) (sym (places_of-append xs (placed chunk row (r ∷ rs))))
    (holds-joined place_total first (Some (at chunk row)) (places_of xs) (places_of (placed chunk row (r ∷ rs))) h (first-of-run chunk row r rs))

-- a group stands for the rows of a run too
pub group-run : (ps ss : List AggregateFunction) (first : Option Place) (xs : Entries) (chunk row : ℕ) (rows : List (List AnyValue)) → All (TakesFrom 0 ps) rows → GroupStands ps first ss xs
    → GroupStands ps (least_with_run chunk row rows first) (run_from chunk row 0 rows ss) (xs ++ placed chunk row rows)
group-run ps ss first xs chunk row rows t h = record {
  kinds = kinds-run chunk row 0 rows ps ss h.kinds;
  stand = stand-run chunk row 0 rows ss xs (All-weaker (TakesFrom 0 ps) (TakesFrom 0 ss) (λ r k. kinds-take 0 r ps ss h.kinds k) rows t) h.stand;
  least = least-run chunk row rows first xs h.least;
}
