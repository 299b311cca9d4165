-- What the running aggregates of a group and its least place stand for, and what they give.
use Rattle.std.proofs.Common.{◌≡◌, ◌∙◌, ℕ, suc, ◌+◌, ◌<◌, ◌^◌, true, false, List, [], ◌∷◌, ◌++◌, length, map, Option, Some, None, option_map, refl, sym, ap, subst, arith}
use Rattle.std.specs.Cmp.Derive as derive
use Rattle.std.specs.List.{All, Contains, flat_map, list_all}
use Rattle.std.specs.List.Sorted.{IsPermutation}
use Rattle.std.specs.Ordering.{is_gt}
use Rattle.std.proofs.lemmas.List.{get_or-map, length-map, map-append}
use Rattle.std.proofs.lemmas.List.Elements.{All-head, All-map, All-tail, All-weaker}
use Rattle.std.proofs.lemmas.List.Sorted.{IsPermutation-append_comm, IsPermutation-map}
use Rattle.pipe_columns.specs.declared.any_value.AnyValue.{AnyValue}
use Rattle.pipe_columns.specs.declared.data_type.DataType.{DataType}
use Rattle.pipe_columns.specs.declared.place.Place.{Place}
use Rattle.pipe_columns.specs.declared.schema.Field.{Field}
use Rattle.pipe_columns.specs.AnyValue.{fits}
use Rattle.pipe_columns.specs.Frame.{value_at}
use Rattle.pipe_columns.specs.Place.{DistinctPlaces, first_entry, place_cmp}
use Rattle.pipe_model.specs.Aggregate.{agg, values_in}
use Rattle.pipe_model.specs.Answer.{aggs_from, inputs_at}
use Rattle.pipe_model.specs.Kind.{Kind}
use Rattle.pipe_model.specs.Least.{by_place, HoldsLeast}
use Rattle.pipe_model.specs.Output.{input_type}
use Rattle.pipe_model.specs.Query.{AggTree}
use Rattle.pipe_model.proofs.LeastFacts.{holds-moved, holds-unique}
use Rattle.pipe_model.proofs.PlaceFacts.{first-holds, place_tie, place_total}
use Rattle.pipe_model.proofs.RowFacts.{inputs_at-distinct}
use Rattle.pipe_running.specs.declared.function.AggregateFunction.{AggregateFunction}
use Rattle.pipe_running.specs.GroupStates.{fed_from, FitsFrom, fresh_states, given_all, GroupStands, joined_states, SameKinds, ServeAll, StandFrom, StatesHold, StatesSeen, TakesFrom}
use Rattle.pipe_running.specs.Pick.{nearer, nearest}
use Rattle.pipe_running.specs.Stands.{FitTypes, given_types, Stands}
use Rattle.pipe_running.specs.States.{after_value, given, joined, output_values}
use Rattle.pipe_running.proofs.AlikeFacts.{alike-back, alike-through}
use Rattle.pipe_running.proofs.FitFacts.{given-fits}
use Rattle.pipe_running.proofs.KindStays.{same-after, same-fresh, same-joined, same-then}
use Rattle.pipe_running.proofs.NearestFacts.{holds-after, holds-joined}
use Rattle.pipe_running.proofs.StandFacts.{seen-short, stands-after, stands-fresh, stands-gives, stands-joined, stands-moved}

-- the places and inputs of rows
abbrev pub Entries : Type 0
Entries = List (Place × List AnyValue)

-- the places of rows
abbrev pub places_of : Entries → List Place
places_of entries = map (λ e. e.0) entries

-- ---- kinds

-- before any row each is of its prototype's kind
kinds-fresh : (ps : List AggregateFunction) → SameKinds ps (fresh_states ps)
kinds-fresh [] = tt
kinds-fresh (f ∷ fs) = (same-fresh f, kinds-fresh fs)

-- and with one more row
kinds-fed : (p : Place) (j : ℕ) (inputs : List AnyValue) (ps ss : List AggregateFunction) → SameKinds ps ss → SameKinds ps (fed_from p j inputs ss)
kinds-fed p j inputs [] [] k = tt
kinds-fed p j inputs [] (s ∷ ss) k = absurd k
kinds-fed p j inputs (f ∷ fs) [] k = absurd k
kinds-fed p j inputs (f ∷ fs) (s ∷ ss) k = (same-then f s (after_value p (value_at inputs j) s) k.0 (same-after p (value_at inputs j) s), kinds-fed p (j + 1) inputs fs ss k.1)

-- and with those of another group
kinds-joined : (ps ss ts : List AggregateFunction) → SameKinds ps ss → SameKinds ps ts → SameKinds ps (joined_states ss ts)
kinds-joined [] [] ts k l = tt
kinds-joined [] (s ∷ ss) ts k l = absurd k
kinds-joined (f ∷ fs) [] ts k l = absurd k
kinds-joined (f ∷ fs) (s ∷ ss) [] k l = absurd l
kinds-joined (f ∷ fs) (s ∷ ss) (t ∷ ts) k l = (same-then f s (joined s t) k.0 (same-joined s t), kinds-joined fs ss ts k.1 l.1)

-- what the prototypes take they take
pub kinds-take : (j : ℕ) (inputs : List AnyValue) (ps ss : List AggregateFunction) → SameKinds ps ss → TakesFrom j ps inputs → TakesFrom j ss inputs
kinds-take j inputs [] [] k t = tt
kinds-take j inputs [] (s ∷ ss) k t = absurd k
kinds-take j inputs (f ∷ fs) [] k t = absurd k
kinds-take j inputs (f ∷ fs) (s ∷ ss) k t = (k.0.takes (value_at inputs j) ∙ t.0, kinds-take (j + 1) inputs fs ss k.1 t.1)

-- ---- inputs

-- the inputs of two lists of rows
pub inputs_at-append : (j : ℕ) (xs ys : Entries) → inputs_at j (xs ++ ys) ≡ inputs_at j xs ++ inputs_at j ys
inputs_at-append j xs ys = map-append (λ (e : Place × List AnyValue). (e.0, value_at e.1 j)) xs ys

-- there are as many as rows
inputs_at-length : (j : ℕ) (xs : Entries) → length (inputs_at j xs) ≡ length xs
inputs_at-length j [] = refl
inputs_at-length j (e ∷ es) = ap suc (inputs_at-length j es)

-- before any row each stands for none
stand-fresh : (j : ℕ) (ps : List AggregateFunction) → StandFrom j (fresh_states ps) []
stand-fresh j [] = tt
stand-fresh j (f ∷ fs) = (stands-fresh f, stand-fresh (j + 1) fs)

-- with one more row
stand-fed : (p : Place) (j : ℕ) (inputs : List AnyValue) (ss : List AggregateFunction) (xs : Entries) → TakesFrom j ss inputs → StandFrom j ss xs → StandFrom j (fed_from p j inputs ss) (xs ++ (p, inputs) ∷ [])
stand-fed p j inputs [] xs t h = tt
stand-fed p j inputs (s ∷ ss) xs t h = (
  subst (Stands (after_value p (value_at inputs j) s)) (sym (inputs_at-append j xs ((p, inputs) ∷ []))) (stands-after s (inputs_at j xs) p (value_at inputs j) t.0 h.0),
  stand-fed p (j + 1) inputs ss xs t.1 h.1,
)

-- with those of another group
stand-joined : (j : ℕ) (ps ss ts : List AggregateFunction) (xs ys : Entries) → SameKinds ps ss → SameKinds ps ts → StandFrom j ss xs → StandFrom j ts ys → StandFrom j (joined_states ss ts) (xs ++ ys)
stand-joined j [] [] ts xs ys k l g h = tt
stand-joined j [] (s ∷ ss) ts xs ys k l g h = absurd k
stand-joined j (f ∷ fs) [] ts xs ys k l g h = absurd k
stand-joined j (f ∷ fs) (s ∷ ss) [] xs ys k l g h = absurd l
stand-joined j (f ∷ fs) (s ∷ ss) (t ∷ ts) xs ys k l g h = (
  subst (Stands (joined s t)) (sym (inputs_at-append j xs ys))
      (stands-joined s t (inputs_at j xs) (inputs_at j ys) (alike-through s f t (alike-back f s k.0.alike) l.0.alike) g.0 h.0),
  stand-joined (j + 1) fs ss ts xs ys k.1 l.1 g.1 h.1,
)

-- in another order
stand-moved : (j : ℕ) (ss : List AggregateFunction) (xs ys : Entries) → IsPermutation xs ys → StandFrom j ss xs → StandFrom j ss ys
stand-moved j [] xs ys moved h = tt
stand-moved j (s ∷ ss) xs ys moved h = (
  stands-moved s (inputs_at j xs) (inputs_at j ys) (IsPermutation-map (λ (e : Place × List AnyValue). (e.0, value_at e.1 j)) xs ys moved) h.0,
  stand-moved (j + 1) ss xs ys moved h.1,
)

-- none has counted more values than there are rows
stand-seen : (j : ℕ) (ss : List AggregateFunction) (xs : Entries) → StandFrom j ss xs → StatesSeen (length xs) ss
stand-seen j [] xs h = tt
stand-seen j (s ∷ ss) xs h = (omega (arith, seen-short s (inputs_at j xs) h.0, inputs_at-length j xs), stand-seen (j + 1) ss xs h.1)

-- ---- the least place

-- the places of two lists of rows
pub places_of-append : (xs ys : Entries) → places_of (xs ++ ys) ≡ places_of xs ++ places_of ys
places_of-append xs ys = map-append (λ (e : Place × List AnyValue). e.0) xs ys

-- ---- a group

-- before any row a group stands for none
pub group-fresh : (ps : List AggregateFunction) → GroupStands ps None (fresh_states ps) []
group-fresh ps = record { kinds = kinds-fresh ps; stand = stand-fresh 0 ps; least = refl }

-- with one more row it stands for that row too
pub group-fed : (ps ss : List AggregateFunction) (first : Option Place) (xs : Entries) (p : Place) (inputs : List AnyValue) → TakesFrom 0 ps inputs → GroupStands ps first ss xs
    → GroupStands ps (Some (nearer place_cmp p first)) (fed_from p 0 inputs ss) (xs ++ (p, inputs) ∷ [])
group-fed ps ss first xs p inputs t h = record {
  kinds = kinds-fed p 0 inputs ps ss h.kinds;
  stand = stand-fed p 0 inputs ss xs (kinds-take 0 inputs ps ss h.kinds t) h.stand;
  least = subst (HoldsLeast place_cmp (Some (nearer place_cmp p first))) (sym (places_of-append xs ((p, inputs) ∷ []))) (holds-after place_total first (places_of xs) p h.least);
}

-- in another order it stands for the same rows
pub group-moved : (ps ss : List AggregateFunction) (first : Option Place) (xs ys : Entries) → IsPermutation xs ys → GroupStands ps first ss xs → GroupStands ps first ss ys
group-moved ps ss first xs ys moved h = record {
  kinds = h.kinds;
  stand = stand-moved 0 ss xs ys moved h.stand;
  least = holds-moved place_cmp first (places_of xs) (places_of ys) (IsPermutation-map (λ (e : Place × List AnyValue). e.0) xs ys moved) h.least;
}

-- two together stand for the rows of both
group-both : (ps ss ts : List AggregateFunction) (first other : Option Place) (xs ys : Entries) → GroupStands ps first ss xs → GroupStands ps other ts ys
    → GroupStands ps (nearest place_cmp other first) (joined_states ss ts) (xs ++ ys)
group-both ps ss ts first other xs ys g h = record {
  kinds = kinds-joined ps ss ts g.kinds h.kinds;
  stand = stand-joined 0 ps ss ts xs ys g.kinds h.kinds g.stand h.stand;
  least = subst (HoldsLeast place_cmp (nearest place_cmp other first)) (sym (places_of-append xs ys)) (holds-joined place_total first other (places_of xs) (places_of ys) g.least h.least);
}

-- in either order
pub group-joined : (ps ss ts : List AggregateFunction) (first other : Option Place) (xs ys : Entries) → GroupStands ps first ss xs → GroupStands ps other ts ys
    → GroupStands ps (nearest place_cmp other first) (joined_states ss ts) (xs ++ ys) × GroupStands ps (nearest place_cmp other first) (joined_states ss ts) (ys ++ xs)
group-joined ps ss ts first other xs ys g h =
    let both = group-both ps ss ts first other xs ys g h in
    (both, group-moved ps (joined_states ss ts) (nearest place_cmp other first) (xs ++ ys) (ys ++ xs) (IsPermutation-append_comm xs ys) both)

-- ---- what a row needs of a group

-- what the kinds take and have counted
states-hold : (n : ℕ) (ps ss : List AggregateFunction) → SameKinds ps ss → StatesSeen n ss → StatesHold n ps ss
states-hold n [] [] k h = tt
states-hold n [] (s ∷ ss) k h = absurd k
states-hold n (f ∷ fs) [] k h = absurd k
states-hold n (f ∷ fs) (s ∷ ss) k h = ((h.0, k.0.takes), states-hold n fs ss k.1 h.1)

-- a group has counted no more values than it has rows, and takes what its prototypes take
pub group-holds : (ps ss : List AggregateFunction) (first : Option Place) (xs : Entries) → GroupStands ps first ss xs → StatesHold (length xs) ps ss
group-holds ps ss first xs h = states-hold (length xs) ps ss h.kinds (stand-seen 0 ss xs h.stand)

-- ---- types

-- the inputs of an aggregate in rows that fit
inputs-fit : (j : ℕ) (schema : List Field) (a : AggTree) (others : List AggTree) (xs : Entries) → All (λ e. FitsFrom j schema (a ∷ others) e.1) xs
    → list_all (λ v. fits v (input_type schema a.input)) (values_in (inputs_at j xs)) ≡ true
inputs-fit j schema a others [] h = refl
inputs-fit j schema a others (e ∷ es) h =
    let P : Place × List AnyValue → Type 0 = λ x. FitsFrom j schema (a ∷ others) x.1 in
    derive.both_true (All-head P e es h).0 (inputs-fit j schema a others es (All-tail P e es h))

-- values of two parts that fit fit both
types-append : (vs ws : List AnyValue) (ts us : List DataType) → FitTypes vs ts → FitTypes ws us → FitTypes (vs ++ ws) (ts ++ us)
types-append [] ws [] us h k = k
types-append [] ws (t ∷ ts) us h k = absurd h
types-append (v ∷ vs) ws [] us h k = absurd h
types-append (v ∷ vs) ws (t ∷ ts) us h k = (h.0, types-append vs ws ts us h.1 k)

-- ---- what a group gives

-- what the aggregates of a query take
pub serve-take : (j : ℕ) (schema : List Field) (aggs : List AggTree) (ps : List AggregateFunction) (inputs : List AnyValue) → ServeAll schema aggs ps → FitsFrom j schema aggs inputs → TakesFrom j ps inputs
serve-take j schema [] [] inputs s h = tt
serve-take j schema [] (f ∷ fs) inputs s h = absurd s
serve-take j schema (a ∷ others) [] inputs s h = absurd s
serve-take j schema (a ∷ others) (f ∷ fs) inputs s h = (s.0.takes (value_at inputs j) h.0, serve-take (j + 1) schema others fs inputs s.1 h.1)

-- running aggregates that stand for their inputs give the aggregates
states-give : (j : ℕ) (schema : List Field) (aggs : List AggTree) (ps ss : List AggregateFunction) (xs : Entries) → ServeAll schema aggs ps → SameKinds ps ss → StandFrom j ss xs → DistinctPlaces xs
    → given_all ss ≡ aggs_from j schema aggs xs
states-give j schema [] [] [] xs s k h d = refl
states-give j schema [] [] (t ∷ ts) xs s k h d = absurd k
states-give j schema [] (f ∷ fs) ss xs s k h d = absurd s
states-give j schema (a ∷ others) [] ss xs s k h d = absurd s
states-give j schema (a ∷ others) (f ∷ fs) [] xs s k h d = absurd k
states-give j schema (a ∷ others) (f ∷ fs) (g ∷ gs) xs s k h d =
    let t : DataType = input_type schema a.input in
    let own : output_values (given g) ≡ agg a.kind t (inputs_at j xs) =
    stands-gives g t (inputs_at j xs) (k.0.suits t s.0.suits) h.0 (λ r. inputs_at-distinct j xs d) ∙ ap (λ (x : Kind). agg x t (inputs_at j xs)) k.0.kind ∙ s.0.gives (inputs_at j xs) in
    ap (λ (vs : List AnyValue). vs ++ given_all gs) own ∙ ap (λ (vs : List AnyValue). agg a.kind t (inputs_at j xs) ++ vs) (states-give (j + 1) schema others fs gs xs s.1 k.1 h.1 d)

-- so does a group
pub group-gives : (schema : List Field) (aggs : List AggTree) (ps ss : List AggregateFunction) (first : Option Place) (xs : Entries) → ServeAll schema aggs ps → GroupStands ps first ss xs → DistinctPlaces xs
    → given_all ss ≡ aggs_from 0 schema aggs xs
group-gives schema aggs ps ss first xs s h d = states-give 0 schema aggs ps ss xs s h.kinds h.stand d

-- and what it gives fits the types of what its prototypes give, in fewer than 2^32 rows
states-fit : (j : ℕ) (schema : List Field) (aggs : List AggTree) (ps ss : List AggregateFunction) (xs : Entries) → ServeAll schema aggs ps → SameKinds ps ss → StandFrom j ss xs
    → All (λ e. FitsFrom j schema aggs e.1) xs → length xs < 2 ^ 32 → FitTypes (given_all ss) (flat_map given_types ps)
states-fit j schema [] [] [] xs s k h fit few = tt
states-fit j schema [] [] (t ∷ ts) xs s k h fit few = absurd k
states-fit j schema [] (f ∷ fs) ss xs s k h fit few = absurd s
states-fit j schema (a ∷ others) [] ss xs s k h fit few = absurd s
states-fit j schema (a ∷ others) (f ∷ fs) [] xs s k h fit few = absurd k
states-fit j schema (a ∷ others) (f ∷ fs) (g ∷ gs) xs s k h fit few =
    let t : DataType = input_type schema a.input in
    let T : List DataType → Type 0 = λ ts. FitTypes (output_values (given g)) ts in
    let own : FitTypes (output_values (given g)) (given_types f) =
    subst T k.0.types (given-fits g t (inputs_at j xs) (k.0.suits t s.0.suits) h.0 (inputs-fit j schema a others xs fit) (omega (arith, few, inputs_at-length j xs))) in
    types-append (output_values (given g)) (given_all gs) (given_types f) (flat_map given_types fs) own
    (states-fit (j + 1) schema others fs gs xs s.1 k.1 h.1 (All-weaker (λ (e : Place × List AnyValue). FitsFrom j schema (a ∷ others) e.1) (λ (e : Place × List AnyValue). FitsFrom (j + 1) schema others e.1) (λ e r. r.1) xs fit) few)

pub group-fits : (schema : List Field) (aggs : List AggTree) (ps ss : List AggregateFunction) (first : Option Place) (xs : Entries) → ServeAll schema aggs ps → GroupStands ps first ss xs
    → All (λ e. FitsFrom 0 schema aggs e.1) xs → length xs < 2 ^ 32 → FitTypes (given_all ss) (flat_map given_types ps)
group-fits schema aggs ps ss first xs s h fit few = states-fit 0 schema aggs ps ss xs s h.kinds h.stand fit few

-- ---- the least place is that of the first entry

-- the place of an entry of a list is one of its places
place_within : (xs : Entries) (e : Place × List AnyValue) → Contains xs e → Contains (places_of xs) e.0
place_within xs e c = (
  c.0,
  omega (arith, c.1, length-map xs (λ (f : Place × List AnyValue). f.0)),
  get_or-map (λ (f : Place × List AnyValue). f.0) xs c.0 e e.0 c.1 ∙ ap (λ (f : Place × List AnyValue). f.0) c.2,
)

-- the place of a least entry is the least place
place-holds : (o : Option (Place × List AnyValue)) (xs : Entries) → HoldsLeast by_place o xs → HoldsLeast place_cmp (option_map (λ e. e.0) o) (places_of xs)
place-holds None xs h = ap places_of h
place-holds (Some e) xs h = record {
  within = place_within xs e h.within;
  bound = All-map (λ (q : Place). is_gt (place_cmp e.0 q) ≡ false) (λ (f : Place × List AnyValue). f.0) xs h.bound;
}

-- so a group has the place of the first entry
pub group-first : (ps ss : List AggregateFunction) (first : Option Place) (xs : Entries) → GroupStands ps first ss xs → first ≡ option_map (λ e. e.0) (first_entry xs)
group-first ps ss first xs h =
    holds-unique place_total (places_of xs) (λ p q c d e. place_tie p q e) first (option_map (λ e. e.0) (first_entry xs)) h.least (place-holds (first_entry xs) xs (first-holds xs))
