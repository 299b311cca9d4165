-- The places of rows, and the order of keys by the places where they first stand.
use Rattle.std.proofs.Common.{◌≡◌, ◌∙◌, ℕ, zero, suc, ◌+◌, ◌<◌, Bool, true, false, cond, inl, inr, List, [], ◌∷◌, ◌++◌, map, Option, Some, None, option_map, unwrap_or, refl, sym, ap, subst, arith}
use Rattle.std.specs.List.{range_with_len}
use Rattle.std.specs.declared.cmp.Ordering.{Ordering}
use Rattle.std.specs.declared.cmp.Ordering.TheVariants.{Less, Equal, Greater}
use Rattle.std.specs.Ordering.{is_eq, nat_cmp, ordering_then}
use Rattle.std.specs.Cmp.{Equal-is, IsTotalOrder, nat_cmp_is, nat_cmp_total, on_total, then_total, tied_itself}
use Rattle.std.specs.FinMap.{nat_cmp-IsAntisymmetric}
use Rattle.pipe_columns.specs.declared.any_value.AnyValue.{AnyValue}
use Rattle.pipe_columns.specs.declared.data_chunk.DataChunk.{DataChunk}
use Rattle.pipe_columns.specs.declared.place.Place.{Place}
use Rattle.pipe_columns.specs.Frame.{FrameData}
use Rattle.pipe_columns.specs.Place.{earlier, first_entry, place_cmp}
use Rattle.pipe_columns.specs.Row.{Row}
use Rattle.pipe_columns.proofs.ValueOrder.{tuples_tie, tuples_total}
use Rattle.pipe_model.specs.Query.{QueryTree}
use Rattle.pipe_model.specs.Answer.{first_place_cmp, rows_at, tuple_cmp}
use Rattle.pipe_model.proofs.PlaceFacts.{place_tie, place_total}
use Rattle.pipe_columns.specs.Groups.{IsAscending}
use Rattle.pipe_columns.proofs.AscendingFacts.{Below}
use Rattle.pipe_columns.proofs.ElementFacts.{Has}

-- the places of rows
abbrev places : List Row → List Place
places rs = map (λ r. r.place) rs

-- ---- the first row of a key

-- where a key first stands
abbrev pub first_at : List Row → List AnyValue → Option Place
first_at [] k = None
first_at (r ∷ rs) k = cond (is_eq (tuple_cmp r.key k)) (Some r.place) (first_at rs k)

same_Some : {X : Type 0} (x y : X) → Some x ≡ Some y → x ≡ y
same_Some x y e = ap (λ o. unwrap_or o x) e

first_below : (p : Place) (rs : List Row) (k : List AnyValue) (q : Place) → Below place_cmp p (places rs) → first_at rs k ≡ Some q → place_cmp p q ≡ Less
first_below p [] k q b e = cc
first_below p (r ∷ rs) k q b e = by_test (is_eq (tuple_cmp r.key k)) e (first_below p rs k q b.1) where
  by_test : (t : Bool) → cond t (Some r.place) (first_at rs k) ≡ Some q → (first_at rs k ≡ Some q → place_cmp p q ≡ Less) → place_cmp p q ≡ Less
  by_test true f next = subst (λ (z : Place). place_cmp p z ≡ Less) (same_Some r.place q f) b.0
  by_test false f next = next f

earlier_is : {V : Type 0} (e : Place × V) (o : Option (Place × V)) → ((q : Place) → option_map (λ f. f.0) o ≡ Some q → place_cmp e.0 q ≡ Less) → (earlier e o).0 ≡ e.0
earlier_is e None h = refl
earlier_is e (Some f) h = rw (h f.0 refl) refl

-- the entry at the least place is that of the first row
first_entry_is : (rs : List Row) (k : List AnyValue) → IsAscending place_cmp (places rs) → option_map (λ e. e.0) (first_entry (rows_at rs k)) ≡ first_at rs k
first_entry_is [] k a = refl
first_entry_is (r ∷ rs) k a = by_test (is_eq (tuple_cmp r.key k)) refl (first_entry_is rs k a.1) where
  by_test : (t : Bool) → is_eq (tuple_cmp r.key k) ≡ t → option_map (λ e. e.0) (first_entry (rows_at rs k)) ≡ first_at rs k
      → option_map (λ e. e.0) (first_entry (rows_at (r ∷ rs) k)) ≡ first_at (r ∷ rs) k
  by_test true f rest = rw f (ap Some (earlier_is (r.place, r.inputs) (first_entry (rows_at rs k)) (λ q e. first_below r.place rs k q a.0 (sym rest ∙ e))))
  by_test false f rest = rw f rest

-- a key of the rows has a first row
pub has_first : (rs : List Row) (k : List AnyValue) → Has k (map (λ r. r.key) rs) → (p : Place) × (first_at rs k ≡ Some p)
has_first [] k m = absurd m
has_first (r ∷ rs) k (inl e) = (r.place, rw (e, tied_itself tuples_total r.key) refl)
has_first (r ∷ rs) k (inr m) = by_test (is_eq (tuple_cmp r.key k)) (has_first rs k m) where
  by_test : (t : Bool) → ((p : Place) × (first_at rs k ≡ Some p)) → (p : Place) × (cond t (Some r.place) (first_at rs k) ≡ Some p)
  by_test true h = (r.place, refl)
  by_test false h = h

-- keys that first stand at one place are one key
first_alone : (rs : List Row) (a b : List AnyValue) (p : Place) → IsAscending place_cmp (places rs) → first_at rs a ≡ Some p → first_at rs b ≡ Some p → a ≡ b
first_alone [] a b p up e f = cc
first_alone (r ∷ rs) a b p up e f = by_test (is_eq (tuple_cmp r.key a)) (is_eq (tuple_cmp r.key b)) refl refl e f (first_alone rs a b p up.1) where
  not_again : (k : List AnyValue) → Some r.place ≡ Some p → first_at rs k ≡ Some p → a ≡ b
  not_again k e f =
      let later : place_cmp r.place p ≡ Less = first_below r.place rs k p up.0 f in
      let itself : place_cmp p p ≡ Less = subst (λ (z : Place). place_cmp z p ≡ Less) (same_Some r.place p e) later in
      let tie : place_cmp p p ≡ Equal = tied_itself place_total p in
      cc

  by_test : (s t : Bool) → is_eq (tuple_cmp r.key a) ≡ s → is_eq (tuple_cmp r.key b) ≡ t → cond s (Some r.place) (first_at rs a) ≡ Some p → cond t (Some r.place) (first_at rs b) ≡ Some p
      → (first_at rs a ≡ Some p → first_at rs b ≡ Some p → a ≡ b) → a ≡ b
  by_test true true x y e f next = sym (tuples_tie r.key a ((Equal-is (tuple_cmp r.key a)).0 x)) ∙ tuples_tie r.key b ((Equal-is (tuple_cmp r.key b)).0 y)
  by_test true false x y e f next = not_again b e f
  by_test false true x y e f next = not_again a f e
  by_test false false x y e f next = next e f

-- ---- the order by first places

-- the place where a key first stands, the first of all places where it has no row
abbrev pub first_of : List Row → List AnyValue → Place
first_of rs k = unwrap_or (first_at rs k) (record { chunk = 0; row = 0 })

places_compared : (x y : Option (Place × List AnyValue)) (p q : Place) → option_map (λ e. e.0) x ≡ Some p → option_map (λ e. e.0) y ≡ Some q → first_place_cmp x y ≡ place_cmp p q
places_compared None y p q e f = cc
places_compared (Some x) None p q e f = cc
places_compared (Some x) (Some y) p q e f = rw (same_Some x.0 p e, same_Some y.0 q f) refl

then_tied : (r s : Ordering) → (r ≡ Equal → s ≡ Equal) → r ≡ ordering_then r s
then_tied Less s h = refl
then_tied Equal s h = sym (h refl)
then_tied Greater s h = refl

-- keys of rows, by first place and then by tuple: the places decide
pub by_first_place : (rs : List Row) (a b : List AnyValue) → IsAscending place_cmp (places rs) → Has a (map (λ r. r.key) rs) → Has b (map (λ r. r.key) rs)
    → first_place_cmp (first_entry (rows_at rs a)) (first_entry (rows_at rs b)) ≡ ordering_then (place_cmp (first_of rs a) (first_of rs b)) (tuple_cmp a b)
by_first_place rs a b up m n =
    let p = has_first rs a m in
    let q = has_first rs b n in
    let tied : place_cmp p.0 q.0 ≡ Equal → tuple_cmp a b ≡ Equal = λ e.
    let same : a ≡ b = first_alone rs a b q.0 up (p.1 ∙ ap Some (place_tie p.0 q.0 e)) q.1 in
    rw same (tied_itself tuples_total b) in
    places_compared (first_entry (rows_at rs a)) (first_entry (rows_at rs b)) p.0 q.0 (first_entry_is rs a up ∙ p.1) (first_entry_is rs b up ∙ q.1)
    ∙ then_tied (place_cmp p.0 q.0) (tuple_cmp a b) tied
    ∙ rw (p.1, q.1) refl
