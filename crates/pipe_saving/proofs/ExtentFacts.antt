-- The extents of groups with one more row.
use Rattle.std.proofs.Common.{◌≡◌, ◌∙◌, ℕ, zero, suc, ◌<◌, ◌≤◌, Bool, true, false, ◌||◌, cond, if◌then◌else◌, List, [], ◌∷◌, ◌++◌, length, set, All, Option, Some, None, refl, sym, ap, arith}
use Rattle.std.specs.List.{AllByRecursion, IsDistinct}
use Rattle.std.specs.Option.{option_to_list}
use Rattle.std.specs.Cmp.{nat_cmp_is}
use Rattle.std.specs.Str.{bytes_eq}
use Rattle.std.specs.declared.cmp.Ordering.{Ordering}
use Rattle.std.specs.declared.cmp.Ordering.TheVariants.{Less, Equal, Greater}
use Rattle.std.specs.Ordering.{is_lt, match_ordering, nat_cmp, ordering_then}
use Rattle.std.proofs.lemmas.Cmp.{nat_list_eq_equiv}
use Rattle.std.proofs.lemmas.List.{append-nil, length-append, map-append}
use Rattle.std.proofs.lemmas.List.Elements.{All-cons, All-nil, filter-append}
use Rattle.std.proofs.lemmas.List.Sums.{count_by-le-length, length-filter}
use Rattle.std.proofs.lemmas.Map.Keys.{IsDistinct-head, IsDistinct-tail}
use Rattle.pipe_columns.specs.declared.any_value.AnyValue.{AnyValue}
use Rattle.pipe_columns.specs.declared.place.Place.{Place}
use Rattle.pipe_columns.specs.Place.{last_entry, place_cmp}
use Rattle.pipe_groups.specs.Groups.{Group, group_keys, group_of, is_covered, put}
use Rattle.pipe_groups.specs.Holds.{entries_of, of_key}
use Rattle.pipe_groups.proofs.PutFacts.{later-differs, not-first, not-later, same-key}
use Rattle.pipe_running.specs.declared.function.AggregateFunction.{AggregateFunction}
use Rattle.pipe_saving.specs.declared.extent.Extent.{Extent}
use Rattle.pipe_saving.specs.Extents.{extent_of, extents_of}
use Rattle.pipe_saving.specs.Lists.{extent_at, no_extent, no_place, with_place}
use Rattle.pipe_spill.specs.declared.spill_row.SpillRow.{SpillRow}
use Rattle.pipe_states.specs.States.{place_of}
use Rattle.pipe_states.proofs.EntryFacts.{last-of_lasts}

-- ---- the greatest place

-- the later of two places
abbrev later_of : Place → Place → Place
later_of p l = if is_lt (place_cmp l p) then p else l

-- a lesser number is below
less : (m n : ℕ) → m < n → nat_cmp m n ≡ Less
less m n h = sym (nat_cmp_is m n Less h)

-- none is before the place that stands for none
past-none : (p : Place) → later_of p no_place ≡ p
past-none p = by p.chunk p.row where
  by : (c r : ℕ) → later_of (record { chunk = c; row = r }) no_place ≡ record { chunk = c; row = r }
  by zero zero = refl
  by zero (suc r) = ap (λ (o : Ordering). if is_lt (ordering_then (nat_cmp 0 0) o) then record { chunk = 0; row = suc r } else no_place) (less 0 (suc r) (omega arith))
  by (suc c) r = ap (λ (o : Ordering). if is_lt (ordering_then o (nat_cmp 0 r)) then record { chunk = suc c; row = r } else no_place) (less 0 (suc c) (omega arith))

module _ {V : Type 0} where
  -- the later of two entries has the later place
  later-place : (f e : Place × V) → place_of (Some (match_ordering (place_cmp f.0 e.0) e f f)) ≡ later_of e.0 f.0
  later-place f e = by (place_cmp f.0 e.0) where
    by : (o : Ordering) → place_of (Some (match_ordering o e f f)) ≡ (if is_lt o then e.0 else f.0)
    by Less = refl
    by Equal = refl
    by Greater = refl

  -- the greatest place with one more entry
  last-more : (es : List (Place × V)) (e : Place × V) → place_of (last_entry (es ++ e ∷ [])) ≡ later_of e.0 (place_of (last_entry es))
  last-more es e = ap place_of (sym (last-of_lasts (es ∷ (e ∷ []) ∷ []))) ∙ by (last_entry es) where
    by : (o : Option (Place × V)) → place_of (last_entry (option_to_list o ++ e ∷ [])) ≡ later_of e.0 (place_of o)
    by None = sym (past-none e.0)
    by (Some f) = later-place f e

-- ---- one key

-- the rows of a key with one more
of_key-more : (k : List ℕ) (rows : List SpillRow) (r : SpillRow) → of_key k (rows ++ r ∷ []) ≡ of_key k rows ++ cond (bytes_eq k r.key) (r ∷ []) []
of_key-more k rows r = filter-append (λ (x : SpillRow). bytes_eq k x.key) rows (r ∷ [])

module _ (rows : List SpillRow) (r : SpillRow) where
  -- the extent of its key has it
  extent-here : (k : List ℕ) → k ≡ r.key → extent_of (rows ++ r ∷ []) k ≡ with_place r.place (extent_of rows k)
  extent-here k e =
      let mine : bytes_eq k r.key ≡ true = ap (λ (x : List ℕ). bytes_eq x r.key) e ∙ nat_list_eq_equiv.refl r.key in
      let more : of_key k (rows ++ r ∷ []) ≡ of_key k rows ++ r ∷ [] = of_key-more k rows r ∙ ap (λ (b : Bool). of_key k rows ++ cond b (r ∷ []) []) mine in
      let entries : entries_of (of_key k (rows ++ r ∷ [])) ≡ entries_of (of_key k rows) ++ (r.place, r.values) ∷ [] =
      ap entries_of more ∙ map-append (λ (x : SpillRow). (x.place, x.values)) (of_key k rows) (r ∷ []) in
      let last = ap (λ (es : List (Place × List AnyValue)). place_of (last_entry es)) entries ∙ last-more (entries_of (of_key k rows)) (r.place, r.values) in
      let count = ap (λ (xs : List SpillRow). length xs) more ∙ length-append (of_key k rows) (r ∷ []) in
      λ i. record { last = last i; rows = count i }

  -- that of another key has not
  extent-other : (k : List ℕ) → bytes_eq r.key k ≡ false → extent_of (rows ++ r ∷ []) k ≡ extent_of rows k
  extent-other k h =
      let other : bytes_eq k r.key ≡ false = nat_list_eq_equiv.symm k r.key ∙ h in
      let more : of_key k (rows ++ r ∷ []) ≡ of_key k rows =
      of_key-more k rows r ∙ ap (λ (b : Bool). of_key k rows ++ cond b (r ∷ []) []) other ∙ append-nil (of_key k rows) in
      ap (λ (xs : List SpillRow). record { last = place_of (last_entry (entries_of xs)); rows = length xs }) more

  -- those of groups of other keys stay
  extents-others : (gs : List Group) → is_covered r.key gs ≡ false → extents_of (rows ++ r ∷ []) gs ≡ extents_of rows gs
  extents-others [] h = refl
  extents-others (g ∷ gs) h =
      let here = extent-other g.key (not-first r.key g gs h) in
      let rest = extents-others gs (not-later r.key g gs h) in
      λ i. here i ∷ rest i

  -- no later group has the key of the first
  none-later : (g : Group) (gs : List Group) → g.key ≡ r.key → IsDistinct bytes_eq (group_keys (g ∷ gs)) → is_covered r.key gs ≡ false
  none-later g gs e d = ap (λ (k : List ℕ). is_covered k gs) (sym e) ∙ by gs (IsDistinct-head bytes_eq g.key (group_keys gs) d) where
    by : (hs : List Group) → AllByRecursion (λ y. bytes_eq g.key y ≡ false) (group_keys hs) → is_covered g.key hs ≡ false
    by [] h = refl
    by (x ∷ hs) h = rw h.0 (by hs h.1)

  -- ---- groups with the row

  module _ (ps : List AggregateFunction) where
    -- the groups with the row
    abbrev pub after : List Group → List Group
    after gs = put ps r.key r.place r.values gs

    -- where a group has its key, the extent of that group has it
    pub extents-at : (gs : List Group) (i : ℕ) → IsDistinct bytes_eq (group_keys gs) → i < length gs → (group_of gs i).key ≡ r.key
        → extents_of (rows ++ r ∷ []) (after gs) ≡ set (extents_of rows gs) i (with_place r.place (extent_at (extents_of rows gs) i))
    extents-at [] i d lt e = absurd (omega arith)
    extents-at (g ∷ gs) zero d lt e =
        let here = extent-here g.key e in
        let rest = extents-others gs (none-later g gs e d) in
        rw (same-key r.key g.key e) (λ i. here i ∷ rest i)
    extents-at (g ∷ gs) (suc i) d lt e =
        let other : bytes_eq r.key g.key ≡ false = later-differs g gs i r.key d (omega arith) e in
        let here = extent-other g.key other in
        let rest = extents-at gs i (IsDistinct-tail bytes_eq g.key (group_keys gs) d) (omega arith) e in
        rw other (λ j. here j ∷ rest j)

    -- where none has it, there is one more
    pub extents-new : (gs : List Group) → is_covered r.key gs ≡ false → of_key r.key rows ≡ []
        → extents_of (rows ++ r ∷ []) (after gs) ≡ extents_of rows gs ++ (record { last = r.place; rows = 1 }) ∷ []
    extents-new [] h none =
        let own : extent_of rows r.key ≡ no_extent = ap (λ (xs : List SpillRow). record { last = place_of (last_entry (entries_of xs)); rows = length xs }) none in
        let one : with_place r.place no_extent ≡ record { last = r.place; rows = 1 } = λ i. record { last = past-none r.place i; rows = 1 } in
        ap (λ (x : Extent). x ∷ []) (extent-here r.key refl ∙ ap (with_place r.place) own ∙ one)
    extents-new (g ∷ gs) h none =
        let other : bytes_eq r.key g.key ≡ false = not-first r.key g gs h in
        let here = extent-other g.key other in
        let rest = extents-new gs (not-later r.key g gs h) none in
        rw other (λ i. here i ∷ rest i)

    -- ---- where its group stands

    -- a group that was there keeps its key and where it stands
    key-stays : (gs : List Group) (i : ℕ) → i < length gs → (group_of (after gs) i).key ≡ (group_of gs i).key
    key-stays [] i lt = absurd (omega arith)
    key-stays (g ∷ gs) i lt = by (bytes_eq r.key g.key) refl i lt (key-stays gs) where
      by : (b : Bool) → bytes_eq r.key g.key ≡ b → (i : ℕ) → i < suc (length gs) → ((j : ℕ) → j < length gs → (group_of (after gs) j).key ≡ (group_of gs j).key)
          → (group_of (after (g ∷ gs)) i).key ≡ (group_of (g ∷ gs) i).key
      by true e zero lt next = rw e refl
      by true e (suc i) lt next = rw e refl
      by false e zero lt next = rw e refl
      by false e (suc i) lt next = rw e (next i (omega arith))

    -- a covered key makes none
    count-stays : (gs : List Group) → is_covered r.key gs ≡ true → length (after gs) ≡ length gs
    count-stays [] h = cc
    count-stays (g ∷ gs) h = by (bytes_eq r.key g.key) refl h (count-stays gs) where
      by : (b : Bool) → bytes_eq r.key g.key ≡ b → b || is_covered r.key gs ≡ true → (is_covered r.key gs ≡ true → length (after gs) ≡ length gs) → length (after (g ∷ gs)) ≡ suc (length gs)
      by true e h next = rw e refl
      by false e h next = rw e (ap suc (next h))

    -- a group that stands among those of before was there
    pub was-there : (gs : List Group) (i : ℕ) → i < length gs → (group_of (after gs) i).key ≡ r.key → (group_of gs i).key ≡ r.key
    was-there gs i lt e = sym (key-stays gs i lt) ∙ e

    -- one that stands behind them is new
    pub is-new : (gs : List Group) (i : ℕ) → length gs ≤ i → i < length (after gs) → is_covered r.key gs ≡ false
    is-new gs i le lt = by (is_covered r.key gs) refl where
      by : (b : Bool) → is_covered r.key gs ≡ b → b ≡ false
      by true e = absurd (let same = count-stays gs e in omega arith)
      by false e = refl

-- ---- counts

-- a key has no more rows than there are
pub extents-few : (rows : List SpillRow) (gs : List Group) (n : ℕ) → length rows < n → All (λ e. e.rows < n) (extents_of rows gs)
extents-few rows [] n h = All-nil (λ (e : Extent). e.rows < n)
extents-few rows (g ∷ gs) n h =
    let own : length (of_key g.key rows) < n = omega (arith, h, length-filter (λ (x : SpillRow). bytes_eq g.key x.key) rows, count_by-le-length (λ (x : SpillRow). bytes_eq g.key x.key) rows) in
    All-cons (λ (e : Extent). e.rows < n) (extent_of rows g.key) (extents_of rows gs) own (extents-few rows gs n h)
