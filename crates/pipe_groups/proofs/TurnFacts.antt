-- Groups in the order of places: where they stand, and the places of partitions.
use Rattle.std.proofs.Common.{◌≡◌, ◌∙◌, ℕ, suc, ◌+◌, ◌<◌, ◌≤◌, ◌%◌, ◌⊎◌, inl, inr, false, List, [], ◌∷◌, ◌++◌, length, map, take, get_or, refl, sym, ap, subst, arith}
use Rattle.std.specs.List.{All, AllByRecursion, IsDistinct}
use Rattle.std.specs.List.Sorted.{IsPermutation, IsSorted}
use Rattle.std.specs.declared.cmp.Ordering.{Ordering}
use Rattle.std.specs.declared.cmp.Ordering.TheVariants.{Less, Equal, Greater}
use Rattle.std.specs.Ordering.{eq_by_cmp, is_eq, nat_cmp, ordering_then}
use Rattle.std.proofs.lemmas.Bool.{cases_lt}
use Rattle.std.proofs.lemmas.Cmp.{eq_by_cmp_equiv}
use Rattle.std.proofs.lemmas.List.{get_or-map, length-map, length-take-le, map-append, take_more}
use Rattle.std.proofs.lemmas.List.Elements.{All-head, All-tail}
use Rattle.std.proofs.lemmas.List.Sorted.{All-permutation, IsPermutation-map}
use Rattle.std.proofs.lemmas.Map.Keys.{IsDistinct-IsPermutation}
use Rattle.std.proofs.lemmas.Simd.{map-map}
use Rattle.std.specs.Cmp.{nat_cmp_is}
use Rattle.pipe_columns.specs.declared.place.Place.{Place}
use Rattle.pipe_columns.specs.Groups.{IsAscending, sorted_keys}
use Rattle.pipe_columns.specs.Key.{fold_bytes}
use Rattle.pipe_columns.specs.Place.{place_cmp}
use Rattle.pipe_columns.proofs.AscendingFacts.{sorted-holds}
use Rattle.pipe_model.proofs.PlaceFacts.{place_tie, place_total}
use Rattle.pipe_groups.specs.declared.place_order.PlacedRow.{PlacedRow}
use Rattle.pipe_groups.specs.Groups.{Group, group_of, no_group}
use Rattle.pipe_groups.specs.Placed.{groups_by_place, key_places}
use Rattle.pipe_groups.specs.PlacedRanks.{place_at, turn_at}
use Rattle.pipe_groups.proofs.AscentFacts.{ascending-sorted, sorted-ascend}
use Rattle.pipe_groups.proofs.PlaceOrder.{place-found, row_cmp, row_number, row_place, row_total, same_place}

-- ---- turns

module _ (places : List Place) (order : List ℕ) (apart : IsDistinct same_place places) where
  -- a row stands in the order where its place stands
  abbrev IsTurn : PlacedRow → Type 0
  IsTurn r = turn_at places order r.place ≡ r.row

  rows-turned : (rows : List PlacedRow) → All IsTurn rows → map row_number rows ≡ map (turn_at places order) (map row_place rows)
  rows-turned [] h = refl
  rows-turned (r ∷ rs) h =
      let here = sym (All-head IsTurn r rs h) in
      let rest = rows-turned rs (All-tail IsTurn r rs h) in
      λ i. here i ∷ rest i

  module _ (before after : List PlacedRow) (are : map row_place before ≡ places) (numbers : map row_number before ≡ order) (moved : IsPermutation before after) (sorted : IsSorted row_cmp after) where
    each-turn : All IsTurn before
    each-turn k d lt =
        let there : k < length places = omega (arith, lt, length-map before row_place, ap (λ (ps : List Place). length ps) are) in
        let place : (get_or before k d).place ≡ get_or places k d.place = sym (get_or-map row_place before k d d.place lt) ∙ ap (λ (ps : List Place). get_or ps k d.place) are in
        let number : get_or order k 0 ≡ (get_or before k d).row = ap (λ (ns : List ℕ). get_or ns k 0) (sym numbers) ∙ get_or-map row_number before k d 0 lt in
        ap (λ (i : ℕ). get_or order i 0) (ap (place_at places) place ∙ place-found places k d.place apart there) ∙ number

    turns-each : All IsTurn after
    turns-each = All-permutation IsTurn before after moved each-turn

    turn-places : IsPermutation places (map row_place after)
    turn-places = subst (λ (ps : List Place). IsPermutation ps (map row_place after)) are (IsPermutation-map row_place before after moved)

    turns-ascend : IsAscending place_cmp (map row_place after)
    turns-ascend = sorted-ascend row_place place_cmp place_total same_place (λ p q e. ap is_eq e) row_cmp row_total (λ r s. nat_cmp r.row s.row) IsTurn (λ r s h k. refl)
        after turns-each sorted (IsDistinct-IsPermutation same_place (eq_by_cmp_equiv place_total).symm places (map row_place after) turn-places apart)

    -- what was sorted by place stands in the order of places
    pub turns-are : map row_number after ≡ map (turn_at places order) (sorted_keys place_cmp places)
    turns-are = rows-turned after turns-each ∙ ap (map (turn_at places order)) (ascending-sorted place_cmp place_total place_tie places (map row_place after) turn-places turns-ascend)

    -- and is the order, moved
    pub turns-moved : IsPermutation order (map row_number after)
    turns-moved = subst (λ (ns : List ℕ). IsPermutation ns (map row_number after)) numbers (IsPermutation-map row_number before after moved)

  -- ---- groups

  module _ (gs : List Group) (count : length places ≡ length order) where
    abbrev IsThere : Place → Type 0
    IsThere p = place_at places p < length places

    all-there : All IsThere places
    all-there k d lt = omega (arith, lt, place-found places k d apart lt)

    groups-at : (ps : List Place) → All IsThere ps → map (λ p. group_of gs (turn_at places order p)) ps ≡ map (λ p. group_of (map (group_of gs) order) (place_at places p)) ps
    groups-at [] h = refl
    groups-at (p ∷ ps) h =
        let lt : place_at places p < length places = All-head IsThere p ps h in
        let here = sym (get_or-map (group_of gs) order (place_at places p) 0 no_group (omega (arith, lt, count))) in
        let rest = groups-at ps (All-tail IsThere p ps h) in
        λ i. here i ∷ rest i

    -- the groups that stand there are in the order of places
    pub groups-turned : map (group_of gs) (map (turn_at places order) (sorted_keys place_cmp places)) ≡ groups_by_place places (map (group_of gs) order)
    groups-turned =
        map-map (group_of gs) (turn_at places order) (sorted_keys place_cmp places)
        ∙ groups-at (sorted_keys place_cmp places) (sorted-holds IsThere place_cmp places all-there)

-- ---- the places of partitions

module _ (n : ℕ) where
  pub key_places-length : (i : ℕ) (ks : List (List ℕ)) → length (key_places n i ks) ≡ length ks
  key_places-length i [] = refl
  key_places-length i (k ∷ ks) = ap suc (key_places-length (i + 1) ks)

  -- one key more
  pub key_places-push : (i : ℕ) (ks : List (List ℕ)) (k : List ℕ) → key_places n i (ks ++ k ∷ []) ≡ key_places n i ks ++ record { chunk = fold_bytes k % n; row = i + length ks } ∷ []
  key_places-push i [] k = let e : i ≡ i + 0 = omega arith in ap (λ (r : ℕ). record { chunk = fold_bytes k % n; row = r } ∷ []) e
  key_places-push i (x ∷ xs) k =
      let e : i + 1 + length xs ≡ i + length (x ∷ xs) = omega arith in
      ap (λ (l : List Place). record { chunk = fold_bytes x % n; row = i } ∷ l)
      (key_places-push (i + 1) xs k ∙ ap (λ (r : ℕ). key_places n (i + 1) xs ++ record { chunk = fold_bytes k % n; row = r } ∷ []) e)

  -- places in different rows differ
  rows-differ : (p x : Place) → (p.row ≡ x.row → ⊥) → eq_by_cmp place_cmp p x ≡ false
  rows-differ p x ne = by (nat_cmp p.chunk x.chunk) where
    untied : is_eq (nat_cmp p.row x.row) ≡ false
    untied = row (cases_lt p.row x.row) where
      row : (p.row < x.row) ⊎ (x.row ≤ p.row) → is_eq (nat_cmp p.row x.row) ≡ false
      row (inl lt) = ap is_eq (sym (nat_cmp_is p.row x.row Less lt))
      row (inr le) = let gt : x.row < p.row = omega (arith, le, ne) in ap is_eq (sym (nat_cmp_is p.row x.row Greater gt))

    by : (o : Ordering) → is_eq (ordering_then o (nat_cmp p.row x.row)) ≡ false
    by Less = refl
    by Equal = untied
    by Greater = refl

  later-differ : (p : Place) (i : ℕ) (ks : List (List ℕ)) → p.row < i → AllByRecursion (λ x. eq_by_cmp place_cmp p x ≡ false) (key_places n i ks)
  later-differ p i [] lt = tt
  later-differ p i (k ∷ ks) lt = (rows-differ p (record { chunk = fold_bytes k % n; row = i }) (λ e. omega (arith, lt, e)), later-differ p (i + 1) ks (omega (arith, lt)))

  -- no place stands twice
  pub key_places-once : (i : ℕ) (ks : List (List ℕ)) → IsDistinct same_place (key_places n i ks)
  unfolding IsDistinct
  key_places-once i [] = tt
  key_places-once i (k ∷ ks) = (later-differ (record { chunk = fold_bytes k % n; row = i }) (i + 1) ks (omega arith), key_places-once (i + 1) ks)

-- the places of groups so far, with that of one more
pub key_places-next : (n : ℕ) (gs : List Group) (order : List ℕ) (i c r : ℕ) (places more : List Place) → i < length order → places ≡ key_places n 0 (map (λ j. (group_of gs j).key) (take i order))
    → c ≡ fold_bytes (group_of gs (get_or order i 0)).key % n → r ≡ i → more ≡ places ++ record { chunk = c; row = r } ∷ [] → more ≡ key_places n 0 (map (λ j. (group_of gs j).key) (take (i + 1) order))
key_places-next n gs order i c r places more lt are chunk row e =
    let key : ℕ → List ℕ = λ j. (group_of gs j).key in
    let own : r ≡ 0 + length (map key (take i order)) = omega (arith, row, length-map (take i order) key, length-take-le i order (omega (arith, lt))) in
    let longer : map key (take (i + 1) order) ≡ map key (take i order) ++ key (get_or order i 0) ∷ [] = ap (map key) (take_more order i 0 lt) ∙ map-append key (take i order) (get_or order i 0 ∷ []) in
    e
    ∙ (λ j. are j ++ record { chunk = chunk j; row = own j } ∷ [])
    ∙ sym (key_places-push n 0 (map key (take i order)) (key (get_or order i 0)))
    ∙ ap (key_places n 0) (sym longer)
