-- All groups of others are taken in, one by one.
use Rattle.std.proofs.Common.{◌≡◌, ◌∙◌, ℕ, ◌+◌, ◌<◌, ◌≤◌, Bool, true, false, List, [], ◌∷◌, length, set, refl, sym, ap, subst, arith, ◌⊎◌, inl, inr, ◌≢◌}
use Rattle.std.proofs.lemmas.Bool.{cases_eq}
use Rattle.std.proofs.lemmas.List.{get_or-set_other, get_or-set_same, length-map}
use Rattle.pipe_groups.specs.Groups.{AreJoined, count_held, Covers, Group, group_of, has_rows, HasGroups, held_bytes, group_keys, new_group, no_group, Seen}
use Rattle.pipe_keyed.specs.Merges.{IsTakenInto, MayMerge, MayTake}
use Rattle.pipe_keyed.proofs.MergeFacts.{HasRoom, may-take, merged-joined, Merging, merging-next, merging-start, part, room-next, room-one}

-- every key passes
abbrev pub any : List ℕ → Bool
any k = true

all-pass : (gs : List Group) → part any gs ≡ gs
all-pass [] = refl
all-pass (g ∷ gs) = ap (λ (xs : List Group). g ∷ xs) (all-pass gs)

-- the groups before a number were taken, and there is room for the rest
pub record TakesAll (own0 other0 own other : Seen) (n : ℕ) : Type 0 where
  pub merging : Merging any own0 other0 own other
  pub room : HasRoom any own other
  pub done : (j : ℕ) → j < n → has_rows (group_of other.groups j) ≡ false

-- a group in whose place one without rows is put leaves those that had none
pub rowless-set : (gs : List Group) (i j : ℕ) (u : Group) → has_rows u ≡ false → i < length gs → (j ≢ i → has_rows (group_of gs j) ≡ false) → has_rows (group_of (set gs i u) j) ≡ false
rowless-set gs i j u r lt h = by (cases_eq j i) where
  by : (j ≡ i) ⊎ (j ≢ i) → has_rows (group_of (set gs i u) j) ≡ false
  by (inl e) = rw (e, get_or-set_same gs i u no_group lt) r
  by (inr ne) = rw (get_or-set_other gs i j u no_group ne) (h ne)

-- the number of groups stays
pub same-length : (other0 other : Seen) → group_keys other.groups ≡ group_keys other0.groups → length other.groups ≡ length other0.groups
same-length other0 other e = sym (length-map other.groups (λ (g : Group). g.key)) ∙ ap length e ∙ length-map other0.groups (λ (g : Group). g.key)

module _ (own0 other0 : Seen) (may : MayMerge own0 other0) where
  pub takes-start : Covers own0 (count_held other0.groups) (held_bytes other0.groups) → TakesAll own0 other0 own0 other0 0
  takes-start room = record {
    merging = merging-start any own0 other0 may;
    room = rw all-pass room;
    done = λ j l. absurd (omega arith);
  }

  module _ (own other : Seen) (n : ℕ) (t : TakesAll own0 other0 own other n) where
    pub takes-within : n < length other0.groups → n < length other.groups
    takes-within l = omega (arith, l, same-length other0 other t.merging.keys)

    module _ (lt : n < length other0.groups) (rows : has_rows (group_of other.groups n) ≡ true) where
      pub takes-may : MayTake own.shape.prototypes own.groups (group_of other.groups n)
      takes-may = may-take any own0 other0 may own other t.merging n (takes-within lt) rows

      pub takes-room : Covers own 1 (length (group_of other.groups n).key)
      takes-room = room-one any own other n (takes-within lt) refl rows t.room

      pub takes-next : (own' other' : Seen) → IsTakenInto own.shape.prototypes own.groups (group_of other.groups n) own'.groups → own'.shape ≡ own.shape
          → HasGroups other other' (set other.groups n (new_group other.shape.prototypes (group_of other.groups n).key))
          → ((g b : ℕ) → Covers own (g + 1) (b + length (group_of other.groups n).key) → Covers own' g b) → TakesAll own0 other0 own' other' (n + 1)
      takes-next own' other' into shape left keeps = record {
        merging = merging-next any own0 other0 may own other t.merging n (takes-within lt) rows refl own' other' into shape left;
        room = room-next any own other n (takes-within lt) refl rows t.room own' other' left keeps;
        done = λ j l. rw left.0 (rowless-set other.groups n j (new_group other.shape.prototypes (group_of other.groups n).key) refl (takes-within lt) (λ ne. t.done j (omega (arith, l, ne))));
      }

    -- a group without rows has none to take
    pub takes-none : has_rows (group_of other.groups n) ≡ false → TakesAll own0 other0 own other (n + 1)
    takes-none rowless = record {
      merging = t.merging;
      room = t.room;
      done = λ j l. by j l (cases_eq j n);
    } where
      by : (j : ℕ) → j < n + 1 → (j ≡ n) ⊎ (j ≢ n) → has_rows (group_of other.groups j) ≡ false
      by j l (inl e) = rw e rowless
      by j l (inr ne) = t.done j (omega (arith, l, ne))

    pub takes-end : length other0.groups ≤ n → AreJoined own0.shape.prototypes own0.groups other0.groups own.groups
    takes-end le =
        subst (λ (gs : List Group). AreJoined own0.shape.prototypes own0.groups gs own.groups) (all-pass other0.groups)
        (merged-joined any own0 other0 may own other t.merging (λ j l p. t.done j (omega (arith, l, le, same-length other0 other t.merging.keys))))
