-- The orders of keys: by partition, and by the least place of their rows.
use Rattle.std.proofs.Common.{◌≡◌, ◌∙◌, ℕ, Bool, true, false, List, [], ◌∷◌, Option, Some, None, option_map, if◌then◌else◌, inl, inr, refl, sym, ap, subst}
use Rattle.std.specs.declared.cmp.Ordering.{Ordering}
use Rattle.std.specs.declared.cmp.Ordering.TheVariants.{Less, Equal, Greater}
use Rattle.std.specs.Cmp.{Equal-is, IsTotalOrder, nat_cmp_total, on_total, then_total, tied_itself}
use Rattle.std.specs.List.{All, Contains}
use Rattle.std.specs.Ordering.{is_eq, nat_cmp, ordering_reverse}
use Rattle.std.proofs.lemmas.List.Elements.{All-cons, All-contains, All-contains_itself, All-head, All-nil, All-tail}
use Rattle.pipe_columns.specs.declared.any_value.AnyValue.{AnyValue}
use Rattle.pipe_columns.specs.declared.data_type.DataType.{DataType}
use Rattle.pipe_columns.specs.declared.place.Place.{Place}
use Rattle.pipe_columns.specs.Groups.{IsExactOn}
use Rattle.pipe_columns.specs.Key.{partition}
use Rattle.pipe_columns.specs.Place.{first_entry, place_cmp}
use Rattle.pipe_columns.specs.Row.{Row}
use Rattle.pipe_columns.proofs.ElementFacts.{Has}
use Rattle.pipe_columns.proofs.ValueOrder.{tuples_tie, tuples_total}
use Rattle.pipe_model.specs.Answer.{first_place_cmp, group_cmp, partition_cmp, rows_at, tuple_cmp}
use Rattle.pipe_model.specs.Least.{by_place, HoldsLeast}
use Rattle.pipe_model.specs.Output.{key_types}
use Rattle.pipe_model.specs.Query.{QueryTree}
use Rattle.pipe_model.specs.Rows.{HaveDistinctPlaces, keys_of}
use Rattle.pipe_model.proofs.PlaceFacts.{first-holds, one_at_a_place, place_total, then_both}

-- ---- by partition

-- keys by partition are in a total order
pub partition-total : (partitions : ℕ) (types : List DataType) → IsTotalOrder (partition_cmp partitions types)
partition-total partitions types = then_total (on_total (λ (key : List AnyValue). partition partitions types key) nat_cmp_total) tuples_total

-- and keys that tie are the same
pub partition-tie : (partitions : ℕ) (types : List DataType) (a b : List AnyValue) → partition_cmp partitions types a b ≡ Equal → a ≡ b
partition-tie partitions types a b e = tuples_tie a b (then_both (nat_cmp (partition partitions types a) (partition partitions types b)) (tuple_cmp a b) e).1

-- a total order in which only equal keys tie is one of any keys
any-exact : (P : List AnyValue → Type 0) (R : List AnyValue → List AnyValue → Ordering) → IsTotalOrder R → ((a b : List AnyValue) → R a b ≡ Equal → a ≡ b) → IsExactOn P R
any-exact P R o exact = record { total = record { turns = λ a b m n. o.antisymm a b; through = λ a b c m n l. o.trans a b c }; exact = λ a b m n. exact a b }

-- ---- the rows of a key

-- what is known of an entry of a key: a row of the key stands at its place
record StandsAt (rs : List Row) (k : List AnyValue) (e : Place × List AnyValue) : Type 0 where
  row : Row
  within : Contains rs row
  key : row.key ≡ k
  place : row.place ≡ e.0

-- each entry of a key stands at the place of a row of the key
entries_stand : (all rs : List Row) (k : List AnyValue) → All (Contains all) rs → All (StandsAt all k) (rows_at rs k)
entries_stand all [] k h = All-nil (StandsAt all k)
entries_stand all (r ∷ rs) k h = by_test (is_eq (tuple_cmp r.key k)) refl (entries_stand all rs k (All-tail (Contains all) r rs h)) where
  by_test : (t : Bool) → is_eq (tuple_cmp r.key k) ≡ t → All (StandsAt all k) (rows_at rs k) → All (StandsAt all k) (rows_at (r ∷ rs) k)
  by_test true f rest =
      let here : StandsAt all k (r.place, r.inputs) = record { row = r; within = All-head (Contains all) r rs h; key = tuples_tie r.key k ((Equal-is (tuple_cmp r.key k)).0 f); place = refl } in
      rw f (All-cons (StandsAt all k) (r.place, r.inputs) (rows_at rs k) here rest)
  by_test false f rest = rw f rest

-- a key of the rows has an entry
pub has_entry : (rs : List Row) (k : List AnyValue) → Has k (keys_of rs) → (e : Place × List AnyValue) × (first_entry (rows_at rs k) ≡ Some e)
has_entry [] k m = absurd m
has_entry (r ∷ rs) k m = by_test (is_eq (tuple_cmp r.key k)) refl m (has_entry rs k) where
  by_test : (t : Bool) → is_eq (tuple_cmp r.key k) ≡ t → Has k (keys_of (r ∷ rs)) → (Has k (keys_of rs) → (e : Place × List AnyValue) × (first_entry (rows_at rs k) ≡ Some e))
      → (e : Place × List AnyValue) × (first_entry (rows_at (r ∷ rs) k) ≡ Some e)
  by_test true f m next = rw f ((_, refl))
  by_test false f (inl e) next = absurd (let itself = tied_itself tuples_total r.key in cc)
  by_test false f (inr m) next = rw f (next m)

-- ---- by the least place

-- the first entry of a key stands at the place of a row of the key
first_stands : (rs : List Row) (k : List AnyValue) (e : Place × List AnyValue) → first_entry (rows_at rs k) ≡ Some e → StandsAt rs k e
first_stands rs k e f =
    let held : HoldsLeast by_place (Some e) (rows_at rs k) = subst (λ (o : Option (Place × List AnyValue)). HoldsLeast by_place o (rows_at rs k)) f (first-holds (rows_at rs k)) in
    All-contains (StandsAt rs k) (rows_at rs k) e (entries_stand rs rs k (All-contains_itself rs)) held.within

-- keys with one least place are one key, where no place stands twice
one_key : (rs : List Row) → HaveDistinctPlaces rs → (a b : List AnyValue) (e f : Place × List AnyValue) → first_entry (rows_at rs a) ≡ Some e → first_entry (rows_at rs b) ≡ Some f
    → place_cmp e.0 f.0 ≡ Equal → a ≡ b
one_key rs d a b e f g h tie =
    let x = first_stands rs a e g in
    let y = first_stands rs b f h in
    let same : x.row ≡ y.row = one_at_a_place (λ (r : Row). r.place) rs d x.row y.row x.within y.within (ap (λ (p : Place). place_cmp p y.row.place) x.place ∙ ap (place_cmp e.0) y.place ∙ tie) in
    sym x.key ∙ ap (λ (r : Row). r.key) same ∙ y.key

-- the order of two places that may be there, one that isn't first
abbrev pub places_cmp : Option Place → Option Place → Ordering
places_cmp None None = Equal
places_cmp None (Some q) = Less
places_cmp (Some p) None = Greater
places_cmp (Some p) (Some q) = place_cmp p q

-- entries are compared by their places alone
pub first_place_is : (x y : Option (Place × List AnyValue)) → first_place_cmp x y ≡ places_cmp (option_map (λ e. e.0) x) (option_map (λ e. e.0) y)
first_place_is None None = refl
first_place_is None (Some f) = refl
first_place_is (Some e) None = refl
first_place_is (Some e) (Some f) = refl

-- places that may be there turn with their sides
first_place-turns : (x y : Option (Place × List AnyValue)) → first_place_cmp x y ≡ ordering_reverse (first_place_cmp y x)
first_place-turns None None = refl
first_place-turns None (Some f) = refl
first_place-turns (Some e) None = refl
first_place-turns (Some e) (Some f) = place_total.antisymm e.0 f.0

-- and lead from one to the next
first_place-through : (x y z : Option (Place × List AnyValue)) → first_place_cmp x y ≡ Less → first_place_cmp y z ≡ Less → first_place_cmp x z ≡ Less
first_place-through x None None e f = cc
first_place-through None None (Some h) e f = cc
first_place-through (Some d) None (Some h) e f = cc
first_place-through x (Some g) None e f = cc
first_place-through None (Some g) (Some h) e f = refl
first_place-through (Some d) (Some g) (Some h) e f = place_total.trans d.0 g.0 h.0 e f

-- keys of rows by their least places: an order that sets different keys apart, where no place stands twice
pub least_place-exact : (rs : List Row) → HaveDistinctPlaces rs → IsExactOn (λ k. Has k (keys_of rs)) (λ a b. first_place_cmp (first_entry (rows_at rs a)) (first_entry (rows_at rs b)))
least_place-exact rs d = record {
  total = record {
    turns = λ a b m n. first_place-turns (first_entry (rows_at rs a)) (first_entry (rows_at rs b));
    through = λ a b c m n l. first_place-through (first_entry (rows_at rs a)) (first_entry (rows_at rs b)) (first_entry (rows_at rs c));
  };
  exact = λ a b m n e.
      let x = has_entry rs a m in
      let y = has_entry rs b n in
      one_key rs d a b x.0 y.0 x.1 y.1 (rw (x.1, y.1) at e);
}

-- ---- the order of groups

-- keys of rows in the order of groups, where no place stands twice if order is kept
pub group-exact : (rs : List Row) (q : QueryTree) (partitions : ℕ) → (q.keeps_order ≡ true → HaveDistinctPlaces rs) → IsExactOn (λ k. Has k (keys_of rs)) (group_cmp q partitions rs)
group-exact rs q partitions d = by q.keeps_order refl where
  by : (kept : Bool) → q.keeps_order ≡ kept
      → IsExactOn (λ k. Has k (keys_of rs)) (λ a b. if kept then first_place_cmp (first_entry (rows_at rs a)) (first_entry (rows_at rs b)) else partition_cmp partitions (key_types q) a b)
  by true e = least_place-exact rs (d e)
  by false e = any-exact (λ k. Has k (keys_of rs)) (partition_cmp partitions (key_types q)) (partition-total partitions (key_types q)) (partition-tie partitions (key_types q))
