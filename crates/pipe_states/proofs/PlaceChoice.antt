-- The least and the greatest of some places, and places of elements with different keys.
use Rattle.std.proofs.Common.{◌≡◌, ◌∙◌, false, List, [], ◌∷◌, map, inl, inr, refl, sym, ap, subst}
use Rattle.std.specs.List.{AllByRecursion, IsDistinct}
use Rattle.std.specs.declared.cmp.Ordering.{Ordering}
use Rattle.std.specs.declared.cmp.Ordering.TheVariants.{Less, Equal, Greater}
use Rattle.std.specs.Cmp.{tied_itself}
use Rattle.std.specs.Ordering.{eq_by_cmp, is_eq, is_gt}
use Rattle.pipe_columns.specs.declared.any_value.AnyValue.{AnyValue}
use Rattle.pipe_columns.specs.declared.place.Place.{Place}
use Rattle.pipe_columns.specs.Groups.{IsAscending}
use Rattle.pipe_columns.specs.Place.{earlier, first_entry, last_entry, later, place_cmp}
use Rattle.pipe_columns.proofs.AscendingFacts.{Below}
use Rattle.pipe_columns.proofs.ElementFacts.{all_at, Contains-from_has, Has, has-from_Contains}
use Rattle.pipe_columns.proofs.ValueOrder.{tuples_total}
use Rattle.pipe_model.specs.Answer.{tuple_cmp}
use Rattle.pipe_model.specs.Least.{by_place, from_last}
use Rattle.pipe_model.proofs.PlaceFacts.{first-holds, last-holds, one_at_a_place}
use Rattle.pipe_states.specs.Regrouped.{greatest_place, least_place}
use Rattle.pipe_states.proofs.TupleFacts.{has-image, image-of}

-- ---- the least and the greatest

-- a place as an entry
abbrev twin : Place → Place × Place
twin p = (p, p)

-- the least of some places is one of them
pub least-in : (p : Place) (ps : List Place) → Has p ps → Has (least_place ps) ps
least-in p [] m = absurd m
least-in p (x ∷ xs) m =
    let f : Place × Place = earlier (twin x) (first_entry (map twin xs)) in
    let found = image-of twin f (x ∷ xs) (has-from_Contains (map twin (x ∷ xs)) f (first-holds (map twin (x ∷ xs))).within) in
    subst (λ (r : Place). Has r (x ∷ xs)) (sym (ap (λ (e : Place × Place). e.0) found.2)) found.1

-- and so is the greatest
pub greatest-in : (p : Place) (ps : List Place) → Has p ps → Has (greatest_place ps) ps
greatest-in p [] m = absurd m
greatest-in p (x ∷ xs) m =
    let f : Place × Place = later (twin x) (last_entry (map twin xs)) in
    let found = image-of twin f (x ∷ xs) (has-from_Contains (map twin (x ∷ xs)) f (last-holds (map twin (x ∷ xs))).within) in
    subst (λ (r : Place). Has r (x ∷ xs)) (sym (ap (λ (e : Place × Place). e.0) found.2)) found.1

-- the least is no greater than any
pub least-under : (p : Place) (ps : List Place) → Has p ps → is_gt (place_cmp (least_place ps) p) ≡ false
least-under p [] m = absurd m
least-under p (x ∷ xs) m =
    all_at (λ (e : Place × Place). is_gt (by_place (earlier (twin x) (first_entry (map twin xs))) e) ≡ false) (map twin (x ∷ xs)) (twin p)
    (first-holds (map twin (x ∷ xs))).bound (has-image twin p (x ∷ xs) m)

-- and none is greater than the greatest
pub greatest-over : (p : Place) (ps : List Place) → Has p ps → is_gt (place_cmp p (greatest_place ps)) ≡ false
greatest-over p [] m = absurd m
greatest-over p (x ∷ xs) m =
    all_at (λ (e : Place × Place). is_gt (from_last (later (twin x) (last_entry (map twin xs))) e) ≡ false) (map twin (x ∷ xs)) (twin p)
    (last-holds (map twin (x ∷ xs))).bound (has-image twin p (x ∷ xs) m)

-- ---- elements by their keys

module _ {X : Type 0} (place : X → Place) (key : X → List AnyValue) (xs : List X) where
  -- a place is that of an element of a key
  pub record IsOf (k : List AnyValue) (p : Place) : Type 0 where
    pub element : X
    pub within : Has element xs
    pub key_is : key element ≡ k
    pub place_is : place element ≡ p

  module _ (d : IsDistinct (eq_by_cmp place_cmp) (map place xs)) where
    -- elements of different keys stand at different places, where no place stands twice
    apart_keys : (a b : List AnyValue) (p r : Place) → IsOf a p → IsOf b r → tuple_cmp a b ≡ Less → eq_by_cmp place_cmp p r ≡ false
    apart_keys a b p r x y less = by (place_cmp p r) refl where
      one : place_cmp p r ≡ Equal → a ≡ b
      one tie =
          let same : x.element ≡ y.element = one_at_a_place place xs d x.element y.element (Contains-from_has xs x.element x.within) (Contains-from_has xs y.element y.within)
          (ap (λ (s : Place). place_cmp s (place y.element)) x.place_is ∙ ap (place_cmp p) y.place_is ∙ tie) in
          sym x.key_is ∙ ap key same ∙ y.key_is

      by : (o : Ordering) → place_cmp p r ≡ o → is_eq (place_cmp p r) ≡ false
      by Less e = ap is_eq e
      by Equal e = let itself : tuple_cmp a b ≡ Equal = ap (tuple_cmp a) (sym (one e)) ∙ tied_itself tuples_total a in cc
      by Greater e = ap is_eq e

    module _ (all : List (List AnyValue)) (rep : List AnyValue → Place) (stands : (k : List AnyValue) → Has k all → IsOf k (rep k)) where
      -- a place of a key is none of those of keys above it
      apart_above : (k : List AnyValue) (ks : List (List AnyValue)) → Has k all → ((x : List AnyValue) → Has x ks → Has x all) → Below tuple_cmp k ks
          → AllByRecursion (λ p. eq_by_cmp place_cmp (rep k) p ≡ false) (map rep ks)
      apart_above k [] m h b = tt
      apart_above k (x ∷ ks) m h b = (apart_keys k x (rep k) (rep x) (stands k m) (stands x (h x (inl refl))) b.0, apart_above k ks m (λ y n. h y (inr n)) b.1)

      -- so places of ascending keys differ
      pub distinct_places : (ks : List (List AnyValue)) → ((x : List AnyValue) → Has x ks → Has x all) → IsAscending tuple_cmp ks → IsDistinct (eq_by_cmp place_cmp) (map rep ks)
      unfolding IsDistinct
      distinct_places [] h a = tt
      distinct_places (k ∷ ks) h a = (apart_above k ks (h k (inl refl)) (λ y n. h y (inr n)) a.0, distinct_places ks (λ y n. h y (inr n)) a.1)
