-- The keys of groups that hold rows are those of the rows.
use Rattle.std.proofs.Common.{◌≡◌, ◌∙◌, inl, inr, ℕ, ◌≤◌, ◌^◌, Bool, true, false, cond, if◌then◌else◌, is_some, ◌||◌, List, [], ◌∷◌, length, map, Option, Some, None, refl, sym, ap, subst, arith}
use Rattle.std.specs.List.{AllByRecursion, IsDistinct, list_any}
use Rattle.std.specs.Str.{bytes_eq}
use Rattle.std.specs.Cmp.{nat_cmp_total}
use Rattle.std.specs.Cmp.Lexicographic.{lists_total}
use Rattle.std.specs.FinMap.{nat_cmp-IsAntisymmetric, slice_cmp-IsAntisymmetric}
use Rattle.std.proofs.lemmas.Bool.{or_right}
use Rattle.std.proofs.lemmas.Option.{same_Some}
use Rattle.std.proofs.lemmas.Cmp.{nat_list_eq_equiv}
use Rattle.std.proofs.lemmas.List.{length-map}
use Rattle.std.proofs.lemmas.Slice.Eq.{bytes_eq-Decides}
use Rattle.pipe_columns.specs.Groups.{IsExactOn, sorted_keys}
use Rattle.pipe_columns.proofs.AscendingFacts.{any_keys, AnyKey, exact_on, sorted-ascending, sorted-from, sorted-has_on, sorted_sole}
use Rattle.pipe_columns.proofs.ElementFacts.{Has, same_elements}
use Rattle.pipe_columns.specs.declared.place.Place.{Place}
use Rattle.pipe_running.specs.GroupStates.{GroupStands}
use Rattle.pipe_running.specs.declared.function.AggregateFunction.{AggregateFunction}
use Rattle.pipe_spill.specs.declared.spill_row.SpillRow.{SpillRow}
use Rattle.pipe_groups.specs.Given.{key_cmp}
use Rattle.pipe_groups.specs.Groups.{count_held, Group, has_rows, held_at, held_groups, is_held, group_keys}
use Rattle.pipe_groups.specs.Holds.{entries_of, FoundStands, HoldFewer, Holds, of_key}
use Rattle.pipe_groups.specs.Shape.{Shape}
use Rattle.pipe_groups.proofs.OnceFacts.{Once, sorted-few, sorted-length}
use Rattle.pipe_groups.proofs.GiveFacts.{first-there, stands-some}

-- the keys of rows
abbrev pub row_keys : List SpillRow → List (List ℕ)
row_keys rows = map (λ r. r.key) rows

-- the order of key bytes sets different keys apart
pub key_exact : IsExactOn AnyKey key_cmp
key_exact = exact_on key_cmp (lists_total nat_cmp_total) (slice_cmp-IsAntisymmetric nat_cmp-IsAntisymmetric)

-- ---- what is held

-- what is held of a key has that key, and rows, and stands among the groups that have some
pub record IsHeldAt (k : List ℕ) (gs : List Group) (g : Group) : Type 0 where
  pub key : g.key ≡ k
  pub rows : has_rows g ≡ true
  pub among : Has k (group_keys (held_groups gs))

pub found-is : (k : List ℕ) (gs : List Group) (g : Group) → held_at k gs ≡ Some g → IsHeldAt k gs g
found-is k [] g e = cc
found-is k (h ∷ hs) g e = by (bytes_eq k h.key) (has_rows h) refl refl e (found-is k hs g) where
  by : (b t : Bool) → bytes_eq k h.key ≡ b → has_rows h ≡ t → (if b then (if t then Some h else None) else held_at k hs) ≡ Some g → (held_at k hs ≡ Some g → IsHeldAt k hs g)
      → IsHeldAt k (h ∷ hs) g
  by true true f u e next =
      let own : k ≡ h.key = (bytes_eq-Decides k h.key).0 f in
      let same : g ≡ h = sym (same_Some h g e) in
      record { key = ap (λ (x : Group). x.key) same ∙ sym own; rows = ap (λ (x : Group). has_rows x) same ∙ u; among = rw u (inl own) }
  by true false f u e next = cc
  by false true f u e next = let rest = next e in record { key = rest.key; rows = rest.rows; among = rw u (inr rest.among) }
  by false false f u e next = let rest = next e in record { key = rest.key; rows = rest.rows; among = rw u rest.among }

-- a key of groups that hold rows is one of all groups
held-among : (k : List ℕ) (gs : List Group) → Has k (group_keys (held_groups gs)) → Has k (group_keys gs)
held-among k [] m = absurd m
held-among k (g ∷ gs) m = by (has_rows g) m (held-among k gs) where
  by : (b : Bool) → Has k (group_keys (cond b (g ∷ held_groups gs) (held_groups gs))) → (Has k (group_keys (held_groups gs)) → Has k (group_keys gs)) → Has k (group_keys (g ∷ gs))
  by true (inl e) next = inl e
  by true (inr n) next = inr (next n)
  by false n next = inr (next n)

-- a key that differs from others is none of them
differs-has : (x k : List ℕ) (ks : List (List ℕ)) → AllByRecursion (λ y. bytes_eq x y ≡ false) ks → Has k ks → bytes_eq x k ≡ false
differs-has x k [] d m = absurd m
differs-has x k (y ∷ ys) d (inl e) = ap (bytes_eq x) e ∙ d.0
differs-has x k (y ∷ ys) d (inr m) = differs-has x k ys d.1 m

-- where keys are apart, a key of the groups that hold rows is held
pub has-held : (k : List ℕ) (gs : List Group) → IsDistinct bytes_eq (group_keys gs) → Has k (group_keys (held_groups gs)) → is_held k gs ≡ true
unfolding IsDistinct
has-held k [] d m = absurd m
has-held k (g ∷ gs) d m = by (bytes_eq k g.key) (has_rows g) refl refl m (has-held k gs d.1) where
  by : (b t : Bool) → bytes_eq k g.key ≡ b → has_rows g ≡ t → Has k (group_keys (cond t (g ∷ held_groups gs) (held_groups gs))) → (Has k (group_keys (held_groups gs)) → is_held k gs ≡ true)
      → is_held k (g ∷ gs) ≡ true
  by true true f u m next = rw (f, u) refl
  by true false f u m next =
      let other : bytes_eq k g.key ≡ false = nat_list_eq_equiv.symm k g.key ∙ differs-has g.key k (group_keys gs) d.0 (held-among k gs m) in
      cc
  by false true f u (inl e) next = let own : bytes_eq k g.key ≡ true = (bytes_eq-Decides k g.key).1 e in cc
  by false true f u (inr n) next = rw f (next n)
  by false false f u m next = rw f (next m)

-- and stands once among them
pub held-once : (gs : List Group) → IsDistinct bytes_eq (group_keys gs) → Once (group_keys (held_groups gs))
unfolding IsDistinct
held-once [] d = tt
held-once (g ∷ gs) d = by (has_rows g) (held-once gs d.1) where
  by : (b : Bool) → Once (group_keys (held_groups gs)) → Once (group_keys (cond b (g ∷ held_groups gs) (held_groups gs)))
  by true rest = (
    λ m. let itself : bytes_eq g.key g.key ≡ true = nat_list_eq_equiv.refl g.key in let other : bytes_eq g.key g.key ≡ false = differs-has g.key g.key (group_keys gs) d.0 (held-among g.key gs m) in cc,
    rest,
  )
  by false rest = rest

-- what is held is among them
held-has : (k : List ℕ) (gs : List Group) → is_held k gs ≡ true → Has k (group_keys (held_groups gs))
held-has k gs e = by (held_at k gs) refl e where
  by : (o : Option Group) → held_at k gs ≡ o → is_some o ≡ true → Has k (group_keys (held_groups gs))
  by None f e = cc
  by (Some g) f e = (found-is k gs g f).among

-- ---- the keys of rows

-- whether a row has a key
abbrev pub any_of : List ℕ → List SpillRow → Bool
any_of k rows = list_any (λ r. bytes_eq k r.key) rows

-- none has where no row is of the key
none-of : (k : List ℕ) (rows : List SpillRow) → of_key k rows ≡ [] → any_of k rows ≡ false
none-of k [] e = refl
none-of k (r ∷ rows) e = by (bytes_eq k r.key) e (none-of k rows) where
  by : (b : Bool) → cond b (r ∷ of_key k rows) (of_key k rows) ≡ [] → (of_key k rows ≡ [] → any_of k rows ≡ false) → b || any_of k rows ≡ false
  by true e next = cc
  by false e next = next e

-- and else one has
some-of : (k : List ℕ) (rows : List SpillRow) → (of_key k rows ≡ [] → ⊥) → any_of k rows ≡ true
some-of k [] some = absurd (some refl)
some-of k (r ∷ rows) some = by (bytes_eq k r.key) some (some-of k rows) where
  by : (b : Bool) → (cond b (r ∷ of_key k rows) (of_key k rows) ≡ [] → ⊥) → ((of_key k rows ≡ [] → ⊥) → any_of k rows ≡ true) → b || any_of k rows ≡ true
  by true some next = refl
  by false some next = next some

-- a key that a row has is one of the rows' keys
any-has : (k : List ℕ) (rows : List SpillRow) → any_of k rows ≡ true → Has k (row_keys rows)
any-has k [] e = cc
any-has k (r ∷ rows) e = by (bytes_eq k r.key) refl e (any-has k rows) where
  by : (b : Bool) → bytes_eq k r.key ≡ b → b || any_of k rows ≡ true → (any_of k rows ≡ true → Has k (row_keys rows)) → Has k (row_keys (r ∷ rows))
  by true f e next = inl ((bytes_eq-Decides k r.key).0 f)
  by false f e next = inr (next e)

-- and the other way round
has-any : (k : List ℕ) (rows : List SpillRow) → Has k (row_keys rows) → any_of k rows ≡ true
has-any k [] m = absurd m
has-any k (r ∷ rows) (inl e) = ap (λ (b : Bool). b || any_of k rows) ((bytes_eq-Decides k r.key).1 e)
has-any k (r ∷ rows) (inr m) = or_right (bytes_eq k r.key) (any_of k rows) (has-any k rows m)

module _ (ps : List AggregateFunction) (gs : List Group) (rows : List SpillRow) (h : Holds ps gs rows) where
  -- a key is held exactly where a row has it
  pub held-rows : (k : List ℕ) → is_held k gs ≡ any_of k rows
  held-rows k = by (held_at k gs) refl (h.at k) where
    by : (o : Option Group) → held_at k gs ≡ o → FoundStands ps o (of_key k rows) → is_some o ≡ any_of k rows
    by None e s = sym (none-of k rows s)
    by (Some g) e s =
        let p = first-there g (found-is k gs g e).rows in
        sym (some-of k rows (stands-some ps p.0 g.states (of_key k rows) (subst (λ (first : Option Place). GroupStands ps first g.states (entries_of (of_key k rows))) p.1 s)))

  module _ (apart : IsDistinct bytes_eq (group_keys gs)) where
    -- so the keys of the groups that hold rows are the rows' keys, sorted
    pub sorted-held : sorted_keys key_cmp (group_keys (held_groups gs)) ≡ sorted_keys key_cmp (row_keys rows)
    sorted-held =
        let held : List (List ℕ) = group_keys (held_groups gs) in
        sorted_sole AnyKey key_cmp key_exact (row_keys rows) (sorted_keys key_cmp held) (any_keys (row_keys rows)) (record {
          ascending = sorted-ascending key_cmp (lists_total nat_cmp_total) held;
          same = same_elements (sorted_keys key_cmp held) (row_keys rows)
              (λ k m. any-has k rows (sym (held-rows k) ∙ has-held k gs apart (sorted-from key_cmp k held m)))
              (λ k m. sorted-has_on AnyKey key_cmp key_exact k held (any_keys held) (held-has k gs (held-rows k ∙ has-any k rows m)));
        })

    -- and as many as these
    pub held-counted : count_held gs ≡ length (sorted_keys key_cmp (row_keys rows))
    held-counted =
        sym (length-map (held_groups gs) (λ (g : Group). g.key))
        ∙ sym (sorted-length key_cmp key_exact (group_keys (held_groups gs)) (held-once gs apart))
        ∙ ap (λ (ks : List (List ℕ)). length ks) sorted-held

    -- and no more than rows
    pub held-few : count_held gs ≤ length rows
    held-few = omega (arith, held-counted, sorted-few key_cmp (row_keys rows), length-map rows (λ (r : SpillRow). r.key))

-- groups that hold fewer than 2^32 rows are not more
pub groups-few : (s : Shape) (gs : List Group) → IsDistinct bytes_eq (group_keys gs) → HoldFewer s gs 0 → count_held gs ≤ 2 ^ 32
groups-few s gs apart h = let few = h.few in omega (arith, few, held-few s.prototypes gs h.rows h.holds apart)
