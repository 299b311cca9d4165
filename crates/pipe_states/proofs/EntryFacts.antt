-- The first and the last entry of joined lists, also where a place stands twice.
use Rattle.std.proofs.Common.{◌≡◌, ◌∙◌, List, [], ◌∷◌, ◌++◌, map, Option, Some, None, option_map, refl, sym, ap}
use Rattle.std.specs.List.{flat_map}
use Rattle.std.specs.Option.{option_to_list}
use Rattle.std.specs.declared.cmp.Ordering.{Ordering}
use Rattle.std.specs.declared.cmp.Ordering.TheVariants.{Less, Equal, Greater}
use Rattle.std.specs.Ordering.{match_ordering, ordering_reverse}
use Rattle.pipe_columns.specs.declared.place.Place.{Place}
use Rattle.pipe_columns.specs.Place.{earlier, first_entry, last_entry, later, place_cmp}
use Rattle.pipe_model.proofs.PlaceFacts.{place_tie, place_total}

-- a place above another has it below
turned : (p q : Place) → place_cmp p q ≡ Greater → place_cmp q p ≡ Less
turned p q e = place_total.antisymm q p ∙ ap ordering_reverse e

-- what is above a place is above all below it
above : (p q r : Place) → place_cmp p q ≡ Greater → place_cmp q r ≡ Greater → place_cmp p r ≡ Greater
above p q r e f = place_total.antisymm p r ∙ ap ordering_reverse (place_total.trans r q p (turned q r f) (turned p q e))

-- a place that ties with another is to a third as that one is
from_left : (p q r : Place) → place_cmp p q ≡ Equal → place_cmp p r ≡ place_cmp q r
from_left p q r e = ap (λ (x : Place). place_cmp x r) (place_tie p q e)

-- and a third is to it as to that one
from_right : (p q r : Place) → place_cmp q r ≡ Equal → place_cmp p r ≡ place_cmp p q
from_right p q r e = ap (place_cmp p) (sym (place_tie q r e))

module _ {V : Type 0} where
  -- of three entries the first is the first of one and of the first of the others, whichever
  earlier-three : (x f g : Place × V) → earlier x (Some (earlier f (Some g))) ≡ earlier (earlier x (Some f)) (Some g)
  earlier-three x f g = by (place_cmp x.0 f.0) (place_cmp f.0 g.0) refl refl where
    by : (r s : Ordering) → place_cmp x.0 f.0 ≡ r → place_cmp f.0 g.0 ≡ s → earlier x (Some (match_ordering s f f g)) ≡ earlier (match_ordering r x x f) (Some g)
    by Less Less e h = ap (λ (o : Ordering). match_ordering o x x f) e ∙ sym (ap (λ (o : Ordering). match_ordering o x x g) (place_total.trans x.0 f.0 g.0 e h))
    by Less Equal e h = ap (λ (o : Ordering). match_ordering o x x f) e ∙ sym (ap (λ (o : Ordering). match_ordering o x x g) (from_right x.0 f.0 g.0 h ∙ e))
    by Less Greater e h = refl
    by Equal Less e h = ap (λ (o : Ordering). match_ordering o x x f) e ∙ sym (ap (λ (o : Ordering). match_ordering o x x g) (from_left x.0 f.0 g.0 e ∙ h))
    by Equal Equal e h = ap (λ (o : Ordering). match_ordering o x x f) e ∙ sym (ap (λ (o : Ordering). match_ordering o x x g) (from_left x.0 f.0 g.0 e ∙ h))
    by Equal Greater e h = refl
    by Greater Less e h = ap (λ (o : Ordering). match_ordering o x x f) e ∙ sym (ap (λ (o : Ordering). match_ordering o f f g) h)
    by Greater Equal e h = ap (λ (o : Ordering). match_ordering o x x f) e ∙ sym (ap (λ (o : Ordering). match_ordering o f f g) h)
    by Greater Greater e h = ap (λ (o : Ordering). match_ordering o x x g) (above x.0 f.0 g.0 e h) ∙ sym (ap (λ (o : Ordering). match_ordering o f f g) h)

  -- and so is the last
  later-three : (x f g : Place × V) → later x (Some (later f (Some g))) ≡ later (later x (Some f)) (Some g)
  later-three x f g = by (place_cmp x.0 f.0) (place_cmp f.0 g.0) refl refl where
    by : (r s : Ordering) → place_cmp x.0 f.0 ≡ r → place_cmp f.0 g.0 ≡ s → later x (Some (match_ordering s g f f)) ≡ later (match_ordering r f x x) (Some g)
    by Less Less e h = ap (λ (o : Ordering). match_ordering o g x x) (place_total.trans x.0 f.0 g.0 e h) ∙ sym (ap (λ (o : Ordering). match_ordering o g f f) h)
    by Less Equal e h = ap (λ (o : Ordering). match_ordering o f x x) e ∙ sym (ap (λ (o : Ordering). match_ordering o g f f) h)
    by Less Greater e h = ap (λ (o : Ordering). match_ordering o f x x) e ∙ sym (ap (λ (o : Ordering). match_ordering o g f f) h)
    by Equal Less e h = refl
    by Equal Equal e h = ap (λ (o : Ordering). match_ordering o f x x) e ∙ sym (ap (λ (o : Ordering). match_ordering o g x x) (from_left x.0 f.0 g.0 e ∙ h))
    by Equal Greater e h = ap (λ (o : Ordering). match_ordering o f x x) e ∙ sym (ap (λ (o : Ordering). match_ordering o g x x) (from_left x.0 f.0 g.0 e ∙ h))
    by Greater Less e h = refl
    by Greater Equal e h = ap (λ (o : Ordering). match_ordering o f x x) e ∙ sym (ap (λ (o : Ordering). match_ordering o g x x) (from_right x.0 f.0 g.0 h ∙ e))
    by Greater Greater e h = ap (λ (o : Ordering). match_ordering o f x x) e ∙ sym (ap (λ (o : Ordering). match_ordering o g x x) (above x.0 f.0 g.0 e h))

  -- ---- joined lists

  -- the first entry of a list of one, if any, is that one
  first-once : (o : Option (Place × V)) → first_entry (option_to_list o) ≡ o
  first-once None = refl
  first-once (Some e) = refl

  last-once : (o : Option (Place × V)) → last_entry (option_to_list o) ≡ o
  last-once None = refl
  last-once (Some e) = refl

  -- the first entry of two lists joined is the first of their first ones
  first-joined : (xs ys : List (Place × V)) → first_entry (xs ++ ys) ≡ first_entry (option_to_list (first_entry xs) ++ option_to_list (first_entry ys))
  first-joined [] ys = sym (first-once (first_entry ys))
  first-joined (x ∷ xs) ys = ap (λ (o : Option (Place × V)). Some (earlier x o)) (first-joined xs ys) ∙ by (first_entry xs) (first_entry ys) where
    by : (a b : Option (Place × V)) → Some (earlier x (first_entry (option_to_list a ++ option_to_list b))) ≡ first_entry (earlier x a ∷ option_to_list b)
    by None None = refl
    by None (Some g) = refl
    by (Some f) None = refl
    by (Some f) (Some g) = ap Some (earlier-three x f g)

  -- and the last one the last
  last-joined : (xs ys : List (Place × V)) → last_entry (xs ++ ys) ≡ last_entry (option_to_list (last_entry xs) ++ option_to_list (last_entry ys))
  last-joined [] ys = sym (last-once (last_entry ys))
  last-joined (x ∷ xs) ys = ap (λ (o : Option (Place × V)). Some (later x o)) (last-joined xs ys) ∙ by (last_entry xs) (last_entry ys) where
    by : (a b : Option (Place × V)) → Some (later x (last_entry (option_to_list a ++ option_to_list b))) ≡ last_entry (later x a ∷ option_to_list b)
    by None None = refl
    by None (Some g) = refl
    by (Some f) None = refl
    by (Some f) (Some g) = ap Some (later-three x f g)

  -- ---- of many lists

  -- the first entry of each list that has one
  abbrev pub firsts : List (List (Place × V)) → List (Place × V)
  firsts lists = flat_map (λ xs. option_to_list (first_entry xs)) lists

  -- and the last
  abbrev pub lasts : List (List (Place × V)) → List (Place × V)
  lasts lists = flat_map (λ xs. option_to_list (last_entry xs)) lists

  -- the first of them is the first entry of all lists joined
  pub first-of_firsts : (lists : List (List (Place × V))) → first_entry (firsts lists) ≡ first_entry (flat_map (λ xs. xs) lists)
  first-of_firsts [] = refl
  first-of_firsts (xs ∷ lists) =
      first-joined (option_to_list (first_entry xs)) (firsts lists)
      ∙ (λ i. first_entry (option_to_list (first-once (first_entry xs) i) ++ option_to_list (first-of_firsts lists i)))
      ∙ sym (first-joined xs (flat_map (λ ys. ys) lists))

  -- and the last the last
  pub last-of_lasts : (lists : List (List (Place × V))) → last_entry (lasts lists) ≡ last_entry (flat_map (λ xs. xs) lists)
  last-of_lasts [] = refl
  last-of_lasts (xs ∷ lists) =
      last-joined (option_to_list (last_entry xs)) (lasts lists)
      ∙ (λ i. last_entry (option_to_list (last-once (last_entry xs) i) ++ option_to_list (last-of_lasts lists i)))
      ∙ sym (last-joined xs (flat_map (λ ys. ys) lists))

-- ---- of images

module _ {V W : Type 0} (f : Place × V → W) where
  -- an entry with another value at its place
  abbrev pub with_value : Place × V → Place × W
  with_value e = (e.0, f e)

  -- the image of the earlier of two is the earlier of the images
  earlier-map : (e : Place × V) (o : Option (Place × V)) → earlier (with_value e) (option_map with_value o) ≡ with_value (earlier e o)
  earlier-map e None = refl
  earlier-map e (Some g) = by (place_cmp e.0 g.0) where
    by : (r : Ordering) → match_ordering r (with_value e) (with_value e) (with_value g) ≡ with_value (match_ordering r e e g)
    by Less = refl
    by Equal = refl
    by Greater = refl

  later-map : (e : Place × V) (o : Option (Place × V)) → later (with_value e) (option_map with_value o) ≡ with_value (later e o)
  later-map e None = refl
  later-map e (Some g) = by (place_cmp e.0 g.0) where
    by : (r : Ordering) → match_ordering r (with_value g) (with_value e) (with_value e) ≡ with_value (match_ordering r g e e)
    by Less = refl
    by Equal = refl
    by Greater = refl

  -- the first entry of images is the image of the first entry
  pub first-map : (xs : List (Place × V)) → first_entry (map with_value xs) ≡ option_map with_value (first_entry xs)
  first-map [] = refl
  first-map (x ∷ xs) = ap (λ (o : Option (Place × W)). Some (earlier (with_value x) o)) (first-map xs) ∙ ap Some (earlier-map x (first_entry xs))

  -- and so of the last
  pub last-map : (xs : List (Place × V)) → last_entry (map with_value xs) ≡ option_map with_value (last_entry xs)
  last-map [] = refl
  last-map (x ∷ xs) = ap (λ (o : Option (Place × W)). Some (later (with_value x) o)) (last-map xs) ∙ ap Some (later-map x (last_entry xs))
