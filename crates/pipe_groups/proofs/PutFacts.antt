-- A row that is put among groups goes to the group of its key, or to a new one.
use Rattle.std.proofs.Common.{◌≡◌, ◌∙◌, ℕ, zero, suc, ◌<◌, Bool, true, false, ◌||◌, if◌then◌else◌, is_some, Option, Some, None, List, [], ◌∷◌, ◌++◌, length, get_or, set, refl, sym, ap, arith}
use Rattle.std.proofs.lemmas.List.{get_or-map, length-map}
use Rattle.std.proofs.lemmas.Cmp.{nat_list_eq_equiv}
use Rattle.std.proofs.lemmas.Map.Keys.{apart_from_distinct, IsDistinct-tail}
use Rattle.std.specs.List.{IsDistinct}
use Rattle.std.specs.Str.{bytes_eq}
use Rattle.pipe_columns.specs.declared.any_value.AnyValue.{AnyValue}
use Rattle.pipe_columns.specs.declared.place.Place.{Place}
use Rattle.pipe_running.specs.declared.function.AggregateFunction.{AggregateFunction}
use Rattle.pipe_groups.specs.Groups.{cover, Group, group_of, has_rows, held_at, is_covered, is_held, group_keys, new_group, no_group, put, group_with_row}

-- the first key differs from that of a later group
pub later-differs : (g : Group) (gs : List Group) (i : ℕ) (k : List ℕ) → IsDistinct bytes_eq (group_keys (g ∷ gs)) → i < length gs → (group_of gs i).key ≡ k → bytes_eq k g.key ≡ false
later-differs g gs i k d lt e =
    let there : get_or (group_keys gs) i [] ≡ k = get_or-map (λ (x : Group). x.key) gs i no_group [] lt ∙ e in
    let apart : bytes_eq g.key (get_or (group_keys gs) i []) ≡ false = apart_from_distinct bytes_eq (group_keys (g ∷ gs)) 0 (suc i) [] d (omega arith) (omega (arith, lt, length-map gs (λ (x : Group). x.key))) in
    nat_list_eq_equiv.symm k g.key ∙ ap (bytes_eq g.key) (sym there) ∙ apart

-- a key is its own
pub same-key : (k x : List ℕ) → x ≡ k → bytes_eq k x ≡ true
same-key k x e = ap (bytes_eq k) e ∙ nat_list_eq_equiv.refl k

-- something under a test is there where the test holds
some-if : (b : Bool) (g : Group) → is_some (if b then Some g else None) ≡ b
some-if true g = refl
some-if false g = refl

module _ (k : List ℕ) where
  -- where a group has the key, what is held of the key is that group, if it has rows
  pub held_at-at : (gs : List Group) (i : ℕ) → IsDistinct bytes_eq (group_keys gs) → i < length gs → (group_of gs i).key ≡ k
      → held_at k gs ≡ (if has_rows (group_of gs i) then Some (group_of gs i) else None)
  held_at-at [] i d lt e = absurd (omega arith)
  held_at-at (g ∷ gs) zero d lt e = rw (same-key k g.key e) refl
  held_at-at (g ∷ gs) (suc i) d lt e = rw (later-differs g gs i k d (omega arith) e) (held_at-at gs i (IsDistinct-tail bytes_eq g.key (group_keys gs) d) (omega arith) e)

  pub is_held-at : (gs : List Group) (i : ℕ) → IsDistinct bytes_eq (group_keys gs) → i < length gs → (group_of gs i).key ≡ k → is_held k gs ≡ has_rows (group_of gs i)
  is_held-at gs i d lt e = ap (λ (o : Option Group). is_some o) (held_at-at gs i d lt e) ∙ some-if (has_rows (group_of gs i)) (group_of gs i)

  -- such a key is covered
  pub is_covered-at : (gs : List Group) (i : ℕ) → i < length gs → (group_of gs i).key ≡ k → is_covered k gs ≡ true
  is_covered-at [] i lt e = absurd (omega arith)
  is_covered-at (g ∷ gs) zero lt e = rw (same-key k g.key e) refl
  is_covered-at (g ∷ gs) (suc i) lt e = rw (is_covered-at gs i (omega arith) e) (by (bytes_eq k g.key)) where
    by : (b : Bool) → b || true ≡ true
    by true = refl
    by false = refl

  -- a key that isn't covered is not that of the first group, and not covered by the others
  pub not-first : (g : Group) (gs : List Group) → is_covered k (g ∷ gs) ≡ false → bytes_eq k g.key ≡ false
  not-first g gs h = by (bytes_eq k g.key) h where
    by : (b : Bool) → b || is_covered k gs ≡ false → b ≡ false
    by true h = cc
    by false h = refl

  pub not-later : (g : Group) (gs : List Group) → is_covered k (g ∷ gs) ≡ false → is_covered k gs ≡ false
  not-later g gs h = by (bytes_eq k g.key) h where
    by : (b : Bool) → b || is_covered k gs ≡ false → is_covered k gs ≡ false
    by true h = cc
    by false h = h

  -- of a key that isn't covered nothing is held
  pub held_at-new : (gs : List Group) → is_covered k gs ≡ false → held_at k gs ≡ None
  held_at-new [] h = refl
  held_at-new (g ∷ gs) h = rw (not-first g gs h) (held_at-new gs (not-later g gs h))

  pub is_held-new : (gs : List Group) → is_covered k gs ≡ false → is_held k gs ≡ false
  is_held-new gs h = ap (λ (o : Option Group). is_some o) (held_at-new gs h)

  module _ (prototypes : List AggregateFunction) where
    -- a covered key needs no group
    pub cover-there : (gs : List Group) → is_covered k gs ≡ true → cover prototypes k gs ≡ gs
    cover-there gs h = rw h refl

    -- another one is given one
    pub cover-new : (gs : List Group) → is_covered k gs ≡ false → cover prototypes k gs ≡ gs ++ new_group prototypes k ∷ []
    cover-new gs h = rw h refl

    module _ (p : Place) (inputs : List AnyValue) where
      -- a row whose key a group has is put into that group
      pub put-at : (gs : List Group) (i : ℕ) → IsDistinct bytes_eq (group_keys gs) → i < length gs → (group_of gs i).key ≡ k
          → set gs i (group_with_row p inputs (group_of gs i)) ≡ put prototypes k p inputs gs
      put-at [] i d lt e = absurd (omega arith)
      put-at (g ∷ gs) zero d lt e = rw (same-key k g.key e) refl
      put-at (g ∷ gs) (suc i) d lt e =
          rw (later-differs g gs i k d (omega arith) e)
          (ap (λ (rest : List Group). g ∷ rest) (put-at gs i (IsDistinct-tail bytes_eq g.key (group_keys gs) d) (omega arith) e))

      -- where none has it, into a new one
      pub put-new : (gs : List Group) → is_covered k gs ≡ false → put prototypes k p inputs gs ≡ gs ++ group_with_row p inputs (new_group prototypes k) ∷ []
      put-new [] h = refl
      put-new (g ∷ gs) h = rw (not-first g gs h) (ap (λ (rest : List Group). g ∷ rest) (put-new gs (not-later g gs h)))

      -- which is pushed first, and then fed
      pub put-pushed : (gs : List Group) → is_covered k gs ≡ false
          → set (gs ++ new_group prototypes k ∷ []) (length gs) (group_with_row p inputs (group_of (gs ++ new_group prototypes k ∷ []) (length gs))) ≡ put prototypes k p inputs gs
      put-pushed [] h = refl
      put-pushed (g ∷ gs) h = rw (not-first g gs h) (ap (λ (rest : List Group). g ∷ rest) (put-pushed gs (not-later g gs h)))
