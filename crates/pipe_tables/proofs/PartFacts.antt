-- The groups of a partition are taken in, along their chain.
use Rattle.std.proofs.Common.{◌≡◌, ◌∙◌, ℕ, suc, ◌+◌, ◌<◌, ◌%◌, true, false, if◌then◌else◌, List, [], length, take, set, get_or, Option, Some, None, refl, sym, ap, arith, eq-eqb, eqb-true}
use Rattle.std.proofs.lemmas.List.{get_or-map, length-map}
use Rattle.pipe_columns.specs.Key.{fold_bytes}
use Rattle.pipe_chains.specs.Chains.{last_of}
use Rattle.pipe_chains.proofs.Walks.{left-falls, left_of, OnChain, Walking, walking-end, walking-lead, walking-next, walking-start, walking-within}
use Rattle.pipe_groups.specs.Groups.{AreJoined, Covers, Group, group_of, has_rows, HasGroups, held_at, group_keys, new_group, no_group, Seen}
use Rattle.pipe_keyed.specs.Merges.{IsTakenInto, MayMerge, MayTake}
use Rattle.pipe_tables.specs.Parts.{marks_in}
use Rattle.pipe_tables.specs.Tables.{groups_in, lies_in}
use Rattle.pipe_keyed.proofs.AllFacts.{rowless-set}
use Rattle.pipe_keyed.proofs.MergeFacts.{HasRoom, may-take, merged-joined, merged-rest, Merging, merging-next, merging-start, room-next, room-one}

-- a group holds no row
abbrev pub IsEmptied : List Group → ℕ → Type 0
IsEmptied gs j = has_rows (group_of gs j) ≡ false

-- the groups of a partition from one on were taken, and there is room for the rest
pub record TakesPart (partitions p : ℕ) (marks : List ℕ) (own0 other0 own other : Seen) (at : Option ℕ) : Type 0 where
  pub merging : Merging (lies_in partitions p) own0 other0 own other
  pub room : HasRoom (lies_in partitions p) own other
  pub on : OnChain (IsEmptied other.groups) p marks at

module _ (partitions p : ℕ) (gs : List Group) (marks : List ℕ) (marked : marks ≡ marks_in partitions (group_keys gs)) where
  part-length : length marks ≡ length gs
  part-length = ap length marked ∙ length-map (group_keys gs) (λ (k : List ℕ). fold_bytes k % partitions) ∙ length-map gs (λ (g : Group). g.key)

  part-mark : (i : ℕ) → i < length gs → get_or marks i 0 ≡ fold_bytes (group_of gs i).key % partitions
  part-mark i l =
      ap (λ (ms : List ℕ). get_or ms i 0) marked
      ∙ get_or-map (λ (k : List ℕ). fold_bytes k % partitions) (group_keys gs) i [] 0 (omega (arith, l, length-map gs (λ (g : Group). g.key)))
      ∙ ap (λ (k : List ℕ). fold_bytes k % partitions) (get_or-map (λ (g : Group). g.key) gs i no_group [] l)

  -- a group lies in the partition that is its mark
  part-passes : (i : ℕ) → i < length gs → get_or marks i 0 ≡ p → lies_in partitions p (group_of gs i).key ≡ true
  part-passes i l e = eq-eqb (fold_bytes (group_of gs i).key % partitions) p (sym (part-mark i l) ∙ e)

  part-back : (i : ℕ) → i < length gs → lies_in partitions p (group_of gs i).key ≡ true → get_or marks i 0 ≡ p
  part-back i l t = part-mark i l ∙ eqb-true (fold_bytes (group_of gs i).key % partitions) p t

module _ (partitions p : ℕ) (marks : List ℕ) (own0 other0 : Seen) (may : MayMerge own0 other0) (marked : marks ≡ marks_in partitions (group_keys other0.groups)) where
  pub part-start : (at : Option ℕ) → at ≡ last_of p marks → HasRoom (lies_in partitions p) own0 other0 → TakesPart partitions p marks own0 other0 own0 other0 at
  part-start at e room = record {
    merging = merging-start (lies_in partitions p) own0 other0 may;
    room = room;
    on = record { below = length marks; walk = walking-start (IsEmptied other0.groups) p marks at e };
  }

  module _ (own other : Seen) where
    module _ (i : ℕ) (t : TakesPart partitions p marks own0 other0 own other (Some i)) where
      still : marks ≡ marks_in partitions (group_keys other.groups)
      still = marked ∙ ap (marks_in partitions) (sym t.merging.keys)

      pub part-link : i < length marks
      part-link = walking-within (IsEmptied other.groups) p marks t.on.below i t.on.walk

      pub part-within : i < length other.groups
      part-within = omega (arith, part-link, part-length partitions p other.groups marks still)

      passes : lies_in partitions p (group_of other.groups i).key ≡ true
      passes = part-passes partitions p other.groups marks still i part-within (walking-lead (IsEmptied other.groups) p marks t.on.below i t.on.walk)

      part-walk : (next : Option ℕ) (gs : List Group) → ((j : ℕ) → i < j → IsEmptied other.groups j → IsEmptied gs j) → IsEmptied gs i
          → next ≡ last_of (get_or marks i 0) (take i marks) → Walking (IsEmptied gs) p marks i next
      part-walk next gs keeps here e = walking-next (IsEmptied other.groups) p marks (IsEmptied gs) t.on.below i next t.on.walk keeps here e

      module _ (rows : has_rows (group_of other.groups i) ≡ true) where
        pub part-may : MayTake own.shape.prototypes own.groups (group_of other.groups i)
        part-may = may-take (lies_in partitions p) own0 other0 may own other t.merging i part-within rows

        pub part-room : Covers own 1 (length (group_of other.groups i).key)
        part-room = room-one (lies_in partitions p) own other i part-within passes rows t.room

        pub part-next : (own' other' : Seen) (next : Option ℕ) → IsTakenInto own.shape.prototypes own.groups (group_of other.groups i) own'.groups → own'.shape ≡ own.shape
            → HasGroups other other' (set other.groups i (new_group other.shape.prototypes (group_of other.groups i).key))
            → ((g b : ℕ) → Covers own (g + 1) (b + length (group_of other.groups i).key) → Covers own' g b)
            → next ≡ last_of (get_or marks i 0) (take i marks) → TakesPart partitions p marks own0 other0 own' other' next
        part-next own' other' next into shape left keeps e =
            let u : Group = new_group other.shape.prototypes (group_of other.groups i).key in
            record {
              merging = merging-next (lies_in partitions p) own0 other0 may own other t.merging i part-within rows passes own' other' into shape left;
              room = room-next (lies_in partitions p) own other i part-within passes rows t.room own' other' left keeps;
              on = record {
                below = i;
                walk = part-walk next other'.groups (λ j l h. rw left.0 (rowless-set other.groups i j u refl part-within (λ ne. h)))
                    (rw left.0 (rowless-set other.groups i i u refl part-within (λ ne. absurd (ne refl)))) e;
              };
            }

      -- a group without rows has none to take
      pub part-none : (next : Option ℕ) → has_rows (group_of other.groups i) ≡ false → next ≡ last_of (get_or marks i 0) (take i marks)
          → TakesPart partitions p marks own0 other0 own other next
      part-none next rowless e = record {
        merging = t.merging;
        room = t.room;
        on = record { below = i; walk = part-walk next other.groups (λ j l h. h) rowless e };
      }

      -- the walk goes down
      pub part-falls : (next : Option ℕ) → next ≡ last_of (get_or marks i 0) (take i marks) → left_of next < suc i
      part-falls next e =
          let Q : ℕ → Type 0 = λ j. ℕ in
          left-falls Q p marks i next (walking-next (IsEmptied other.groups) p marks Q t.on.below i next t.on.walk (λ j l h. 0) 0 e)

    module _ (t : TakesPart partitions p marks own0 other0 own other None) where
      ended : (j : ℕ) → j < length other.groups → lies_in partitions p (group_of other.groups j).key ≡ true → IsEmptied other.groups j
      ended j l h =
          let still = marked ∙ ap (marks_in partitions) (sym t.merging.keys) in
          walking-end (IsEmptied other.groups) p marks t.on.below t.on.walk j (omega (arith, l, part-length partitions p other.groups marks still))
          (part-back partitions p other.groups marks still j l h)

      pub part-joined : AreJoined own0.shape.prototypes own0.groups (groups_in partitions p other0.groups) own.groups
      part-joined = merged-joined (lies_in partitions p) own0 other0 may own other t.merging ended

      pub part-rest : (k : List ℕ) → held_at k other.groups ≡ (if lies_in partitions p k then None else held_at k other0.groups)
      part-rest = merged-rest (lies_in partitions p) own0 other0 may own other t.merging ended
