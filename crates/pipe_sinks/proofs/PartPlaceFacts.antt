-- Rows of keys that ascend, in the order of places that tell a number of each key: by number, then by key.
use Rattle.std.proofs.Common.{◌≡◌, ◌∙◌, ◌⊎◌, inl, inr, ℕ, zero, suc, ◌+◌, ◌<◌, ◌≤◌, true, false, List, [], ◌∷◌, ◌++◌, length, map, get_or, Option, Some, unwrap_or, refl, sym, ap, arith}
use Rattle.std.specs.Cmp.{nat_cmp_is, nat_cmp_total, tied_itself}
use Rattle.std.specs.List.{All, AllByRecursion, position, position_from}
use Rattle.std.specs.declared.cmp.Ordering.{Ordering}
use Rattle.std.specs.declared.cmp.Ordering.TheVariants.{Less, Equal, Greater}
use Rattle.std.specs.Ordering.{eq_by_cmp, is_eq, nat_cmp, ordering_reverse, ordering_then}
use Rattle.std.proofs.lemmas.Bool.{cases_lt}
use Rattle.std.proofs.lemmas.Iterator.Adapters.{position_from-zero}
use Rattle.std.proofs.lemmas.List.{append_assoc, get_or-map, length-append, length-map}
use Rattle.std.proofs.lemmas.List.Elements.{All-cons, All-head, All-nil, All-tail}
use Rattle.pipe_columns.specs.declared.any_value.AnyValue.{AnyValue}
use Rattle.pipe_columns.specs.declared.place.Place.{Place}
use Rattle.pipe_columns.specs.declared.schema.Field.{Field}
use Rattle.pipe_columns.specs.Frame.{frame_of, row_at}
use Rattle.pipe_columns.specs.Groups.{IsAscending, sorted_keys}
use Rattle.pipe_columns.specs.Place.{place_cmp}
use Rattle.pipe_columns.proofs.AscendingFacts.{sorted-holds}
use Rattle.pipe_columns.proofs.ValueOrder.{tuples_exact, tuples_total}
use Rattle.pipe_model.specs.Answer.{tuple_cmp}
use Rattle.pipe_model.proofs.PlaceFacts.{place_total}
use Rattle.pipe_groups.specs.Placed.{row_with, rows_by_place}
use Rattle.pipe_groups.proofs.CodedFacts.{sorted-image}
use Rattle.pipe_groups.proofs.FrameRows.{row-frame}
use Rattle.pipe_sinks.specs.PartPlaces.{part_places}
use Rattle.pipe_sinks.proofs.PlacedFacts.{untied}

-- a key and where it stands
abbrev Entry : Type 0
Entry = ℕ × List AnyValue

-- keys with where they stand, from a number on
abbrev entries : ℕ → List (List AnyValue) → List Entry
entries i [] = []
entries i (k ∷ ks) = (i, k) ∷ entries (i + 1) ks

-- ---- keys that ascend

below-at : (k : List AnyValue) (ks : List (List AnyValue)) (j : ℕ) → AllByRecursion (λ y. tuple_cmp k y ≡ Less) ks → j < length ks → tuple_cmp k (get_or ks j []) ≡ Less
below-at k [] j b lt = absurd (omega arith)
below-at k (x ∷ xs) zero b lt = b.0
below-at k (x ∷ xs) (suc j) b lt = below-at k xs j b.1 (omega arith)

ascends-at : (ks : List (List AnyValue)) (i j : ℕ) → IsAscending tuple_cmp ks → i < j → j < length ks → tuple_cmp (get_or ks i []) (get_or ks j []) ≡ Less
ascends-at [] i j a lt l = absurd (omega arith)
ascends-at (x ∷ xs) i zero a lt l = absurd (omega arith)
ascends-at (x ∷ xs) zero (suc j) a lt l = below-at x xs j a.0 (omega arith)
ascends-at (x ∷ xs) (suc i) (suc j) a lt l = ascends-at xs i j a.1 (omega arith) (omega arith)

-- keys are compared as where they stand
compares-at : (ks : List (List AnyValue)) (i j : ℕ) → IsAscending tuple_cmp ks → i < length ks → j < length ks → tuple_cmp (get_or ks i []) (get_or ks j []) ≡ nat_cmp i j
compares-at ks i j a l m = by (cases_lt i j) (cases_lt j i) where
  by : (i < j) ⊎ (j ≤ i) → (j < i) ⊎ (i ≤ j) → tuple_cmp (get_or ks i []) (get_or ks j []) ≡ nat_cmp i j
  by (inl lt) o = ascends-at ks i j a lt m ∙ nat_cmp_is i j Less lt
  by (inr le) (inl gt) =
      tuples_exact.total.turns (get_or ks i []) (get_or ks j []) tt tt ∙ ap ordering_reverse (ascends-at ks j i a gt l) ∙ nat_cmp_is i j Greater gt
  by (inr le) (inr ge) =
      let e : i ≡ j = omega arith in
      ap (λ (n : ℕ). tuple_cmp (get_or ks n []) (get_or ks j [])) e ∙ tied_itself tuples_total (get_or ks j []) ∙ sym (ap (λ (n : ℕ). nat_cmp n j) e ∙ tied_itself nat_cmp_total j)

module _ (part : List AnyValue → ℕ) (whole : List (List AnyValue)) where
  -- a key stands there
  abbrev IsEntry : Entry → Type 0
  IsEntry e = (e.0 < length whole) × (get_or whole e.0 [] ≡ e.1)

  at-front : (front rest : List (List AnyValue)) (k : List AnyValue) → get_or (front ++ k ∷ rest) (length front) [] ≡ k
  at-front [] rest k = refl
  at-front (x ∷ xs) rest k = at-front xs rest k

  entries-are : (front ks : List (List AnyValue)) (i : ℕ) → whole ≡ front ++ ks → i ≡ length front → All IsEntry (entries i ks)
  entries-are front [] i e n = All-nil IsEntry
  entries-are front (k ∷ ks) i e n =
      let lt : i < length whole = omega (arith, n, ap (λ (l : List (List AnyValue)). length l) e, length-append front (k ∷ ks)) in
      All-cons IsEntry (i, k) (entries (i + 1) ks)
      (lt, (λ j. get_or (e j) (n j) []) ∙ at-front front ks k)
      (entries-are (front ++ k ∷ []) ks (i + 1) (e ∙ sym (append_assoc front (k ∷ []) ks)) (omega (arith, n, length-append front (k ∷ []))))

  -- the place of an entry
  abbrev place_at : Entry → Place
  place_at e = record { chunk = part e.1; row = e.0 }

  places-are : (i : ℕ) (ks : List (List AnyValue)) → part_places part i ks ≡ map place_at (entries i ks)
  places-are i [] = refl
  places-are i (k ∷ ks) = ap (λ (l : List Place). place_at (i, k) ∷ l) (places-are (i + 1) ks)

  keys-are : (i : ℕ) (ks : List (List AnyValue)) → map (λ (e : Entry). e.1) (entries i ks) ≡ ks
  keys-are i [] = refl
  keys-are i (k ∷ ks) = ap (λ (l : List (List AnyValue)). k ∷ l) (keys-are (i + 1) ks)

  -- ---- the position of a place

  -- places in other rows differ
  rows-differ : (p x : Place) → (p.row ≡ x.row → ⊥) → eq_by_cmp place_cmp p x ≡ false
  rows-differ p x ne = by (nat_cmp p.chunk x.chunk) where
    by : (o : Ordering) → is_eq (ordering_then o (nat_cmp p.row x.row)) ≡ false
    by Less = refl
    by Equal = untied p.row x.row ne
    by Greater = refl

  place-found : (ks : List (List AnyValue)) (i n m : ℕ) (p : Place) → n < length ks → p.row ≡ i + n → p.chunk ≡ part (get_or ks n [])
      → position_from (λ x. eq_by_cmp place_cmp p x) m (part_places part i ks) ≡ Some (m + n)
  place-found [] i n m p lt r c = absurd (omega arith)
  place-found (k ∷ ks) i zero m p lt r c =
      let head : Place = record { chunk = part k; row = i } in
      let own : p.row ≡ i = omega (arith, r) in
      let same : p ≡ head = λ j. record { chunk = c j; row = own j } in
      let e : eq_by_cmp place_cmp p head ≡ true = ap (λ (x : Place). eq_by_cmp place_cmp x head) same ∙ ap is_eq (tied_itself place_total head) in
      rw e (ap Some (omega arith))
  place-found (k ∷ ks) i (suc n) m p lt r c =
      let head : Place = record { chunk = part k; row = i } in
      let e : eq_by_cmp place_cmp p head ≡ false = rows-differ p head (λ q. omega (arith, q, r)) in
      rw e (place-found ks (i + 1) n (m + 1) p (omega arith) (omega (arith, r)) c ∙ ap Some (omega arith))

  -- ---- rows by these places

  module _ (ascends : IsAscending tuple_cmp whole) (by_part : List AnyValue → List AnyValue → Ordering)
      (is : (a b : List AnyValue) → by_part a b ≡ ordering_then (nat_cmp (part a) (part b)) (tuple_cmp a b))
      (fields : List Field) (row : List AnyValue → List AnyValue) (long : (n : ℕ) → n < length whole → length (row (get_or whole n [])) ≡ length fields) where
    abbrev places : List Place
    places = part_places part 0 whole

    -- entries in the order of their places
    abbrev by_entry : Entry → Entry → Ordering
    by_entry a b = place_cmp (place_at a) (place_at b)

    alike : (a b : Entry) → IsEntry a → IsEntry b → by_part a.1 b.1 ≡ by_entry a b
    alike a b x y =
        is a.1 b.1
        ∙ ap (λ (o : Ordering). ordering_then (nat_cmp (part a.1) (part b.1)) o)
        ((λ j. tuple_cmp (sym x.1 j) (sym y.1 j)) ∙ compares-at whole a.0 b.0 ascends x.0 y.0)

    all-entries : All IsEntry (entries 0 whole)
    all-entries = entries-are [] whole 0 refl refl

    keys-sorted : sorted_keys by_part whole ≡ map (λ (e : Entry). e.1) (sorted_keys by_entry (entries 0 whole))
    keys-sorted =
        ap (sorted_keys by_part) (sym (keys-are 0 whole))
        ∙ sorted-image IsEntry (λ (e : Entry). e.1) by_entry by_part alike (entries 0 whole) all-entries

    places-sorted : sorted_keys place_cmp places ≡ map place_at (sorted_keys by_entry (entries 0 whole))
    places-sorted =
        ap (sorted_keys place_cmp) (places-are 0 whole)
        ∙ sorted-image IsEntry place_at by_entry place_cmp (λ a b x y. refl) (entries 0 whole) all-entries

    row-found : (e : Entry) → IsEntry e → row_with places (frame_of fields (map row whole)) (place_at e) ≡ row e.1
    row-found e x =
        let found : position (λ p. eq_by_cmp place_cmp (place_at e) p) places ≡ Some (0 + e.0) =
        position_from-zero (λ p. eq_by_cmp place_cmp (place_at e) p) places ∙ place-found whole 0 e.0 0 (place_at e) x.0 (omega arith) (ap part (sym x.1)) in
        let at : unwrap_or (position (λ p. eq_by_cmp place_cmp (place_at e) p) places) 0 ≡ e.0 = ap (λ (o : Option ℕ). unwrap_or o 0) found ∙ (omega arith) in
        let own : get_or (map row whole) e.0 [] ≡ row (get_or whole e.0 []) = get_or-map row whole e.0 [] [] x.0 in
        let lt = x.0 in
        let size : length (get_or (map row whole) e.0 []) ≡ length fields = ap (λ (r : List AnyValue). length r) own ∙ long e.0 x.0 in
        ap (row_at (frame_of fields (map row whole)).columns) at
        ∙ row-frame fields (map row whole) e.0 (omega (arith, lt, length-map whole row)) size
        ∙ own ∙ ap row x.1

    rows-found : (es : List Entry) → All IsEntry es → map (row_with places (frame_of fields (map row whole))) (map place_at es) ≡ map row (map (λ (e : Entry). e.1) es)
    rows-found [] h = refl
    rows-found (e ∷ es) h =
        let here = row-found e (All-head IsEntry e es h) in
        let rest = rows-found es (All-tail IsEntry e es h) in
        λ j. here j ∷ rest j

    -- are those of the keys by number, then by key
    pub rows-by_part : rows_by_place places (frame_of fields (map row whole)) ≡ map row (sorted_keys by_part whole)
    rows-by_part =
        ap (map (row_with places (frame_of fields (map row whole)))) places-sorted
        ∙ rows-found (sorted_keys by_entry (entries 0 whole)) (sorted-holds IsEntry by_entry (entries 0 whole) all-entries)
        ∙ ap (map row) (sym keys-sorted)
