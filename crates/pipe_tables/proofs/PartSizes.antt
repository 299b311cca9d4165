-- The size of a partition, along its chain.
use Rattle.std.proofs.Common.{◌≡◌, ◌∙◌, ℕ, suc, ◌+◌, ◌<◌, ◌%◌, ◌==◌, true, false, List, [], ◌∷◌, ◌++◌, length, take, get_or, Option, Some, None, refl, sym, ap, arith}
use Rattle.std.specs.List.{sum_by}
use Rattle.std.proofs.lemmas.List.{append-nil, get_or-take, length-append, length-map, take_all, take-map, take-take}
use Rattle.std.proofs.lemmas.List.Elements.{filter-append}
use Rattle.std.proofs.lemmas.List.Sums.{sum_by-append}
use Rattle.pipe_columns.specs.Key.{fold_bytes}
use Rattle.pipe_chains.specs.Chains.{last_index, last_of}
use Rattle.pipe_chains.proofs.Walks.{left-falls, left_of, Walking, walking-below, walking-next, walking-start, walking-within}
use Rattle.pipe_groups.specs.Groups.{count_held, Group, group_of, has_rows, held_bytes, held_groups, group_keys, no_group}
use Rattle.pipe_tables.specs.declared.part_size.PartSize.{PartSize}
use Rattle.pipe_tables.specs.Parts.{marks_in}
use Rattle.pipe_tables.specs.Tables.{groups_in, lies_in}
use Rattle.pipe_tables.proofs.SizeFacts.{last-kept, last-map, none-kept}

-- a walk of which nothing is to be known but where it is
abbrev Anywhere : ℕ → Type 0
Anywhere j = ℕ

-- ---- one group more at the end

-- a group with rows is counted, and its key
counted : (gs : List Group) (g : Group) → has_rows g ≡ true → (count_held (gs ++ g ∷ []) ≡ count_held gs + 1) × (held_bytes (gs ++ g ∷ []) ≡ held_bytes gs + length g.key)
counted gs g rows =
    let held : held_groups (gs ++ g ∷ []) ≡ held_groups gs ++ g ∷ [] = filter-append has_rows gs (g ∷ []) ∙ rw rows refl in (
      ap length held ∙ length-append (held_groups gs) (g ∷ []),
      ap (λ (l : List Group). sum_by (λ g. length g.key) l) held ∙ sum_by-append (λ (g : Group). length g.key) (held_groups gs) (g ∷ []) ∙ omega arith,
    )

-- and one without is not
uncounted : (gs : List Group) (g : Group) → has_rows g ≡ false → held_groups (gs ++ g ∷ []) ≡ held_groups gs
uncounted gs g rows = filter-append has_rows gs (g ∷ []) ∙ rw rows (append-nil (held_groups gs))

-- ---- the walk

-- the groups of the partition from some place on are counted
pub record Sizes (partitions p : ℕ) (gs : List Group) (marks : List ℕ) (size : PartSize) (at : Option ℕ) : Type 0 where
  pub below : ℕ
  pub walk : Walking Anywhere p marks below at
  pub groups : size.groups + count_held (groups_in partitions p (take below gs)) ≡ count_held (groups_in partitions p gs)
  pub key_bytes : size.key_bytes + held_bytes (groups_in partitions p (take below gs)) ≡ held_bytes (groups_in partitions p gs)

module _ (partitions p : ℕ) (gs : List Group) (marks : List ℕ) (marked : marks ≡ marks_in partitions (group_keys gs)) where
  marks-length : length marks ≡ length gs
  marks-length = ap length marked ∙ length-map (group_keys gs) (λ (k : List ℕ). fold_bytes k % partitions) ∙ length-map gs (λ (g : Group). g.key)

  -- the last entry is the last group that lies in the partition
  last-lies : (below : ℕ) → last_of p (take below marks) ≡ last_index (λ (g : Group). lies_in partitions p g.key) (take below gs)
  last-lies below =
      ap (λ (ms : List ℕ). last_of p (take below ms)) marked
      ∙ ap (last_of p) (take-map (λ (k : List ℕ). fold_bytes k % partitions) below (group_keys gs))
      ∙ last-map (λ (k : List ℕ). fold_bytes k % partitions) (λ m. m == p) (take below (group_keys gs))
      ∙ ap (last_index (lies_in partitions p)) (take-map (λ (g : Group). g.key) below gs)
      ∙ last-map (λ (g : Group). g.key) (lies_in partitions p) (take below gs)

  -- at first none is
  pub sizes-start : (size : PartSize) (at : Option ℕ) → size.groups ≡ 0 → size.key_bytes ≡ 0 → at ≡ last_of p marks → Sizes partitions p gs marks size at
  sizes-start size at e f l =
      let all : take (length marks) gs ≡ gs = take_all (length marks) gs (omega (arith, marks-length)) in
      record {
        below = length marks;
        walk = walking-start Anywhere p marks at l;
        groups = rw all (omega (arith, e));
        key_bytes = rw all (omega (arith, f));
      }

  module _ (size : PartSize) (i : ℕ) (s : Sizes partitions p gs marks size (Some i)) where
    pub sizes-link : i < length marks
    sizes-link = walking-within Anywhere p marks s.below i s.walk

    pub sizes-within : i < length gs
    sizes-within = omega (arith, sizes-link, marks-length)

    lower : i < s.below
    lower = walking-below Anywhere p marks s.below i s.walk

    -- the group at hand comes last
    here : groups_in partitions p (take s.below gs) ≡ groups_in partitions p (take i gs) ++ group_of gs i ∷ []
    here =
        last-kept (λ (g : Group). lies_in partitions p g.key) (take s.below gs) i no_group (sym (last-lies s.below) ∙ sym s.walk.last)
        ∙ rw (take-take i s.below gs (omega (arith, lower)), get_or-take s.below gs i no_group lower) refl

    module _ (next : Option ℕ) (e : next ≡ last_of (get_or marks i 0) (take i marks)) where
      on : Walking Anywhere p marks i next
      on = walking-next Anywhere p marks Anywhere s.below i next s.walk (λ j l h. 0) 0 e

      -- the walk goes down
      pub sizes-fall : left_of next < suc i
      sizes-fall = left-falls Anywhere p marks i next on

      -- with rows it is counted
      pub sizes-more : (new : PartSize) → has_rows (group_of gs i) ≡ true → new.groups ≡ size.groups + 1 → new.key_bytes ≡ size.key_bytes + length (group_of gs i).key
          → Sizes partitions p gs marks new next
      sizes-more new rows more bytes =
          let c = counted (groups_in partitions p (take i gs)) (group_of gs i) rows in
          record {
            below = i;
            walk = on;
            groups = omega (arith, more, c.0, ap count_held here, s.groups);
            key_bytes = omega (arith, bytes, c.1, ap held_bytes here, s.key_bytes);
          }

      -- and without it is not
      pub sizes-same : has_rows (group_of gs i) ≡ false → Sizes partitions p gs marks size next
      sizes-same rowless =
          let u = uncounted (groups_in partitions p (take i gs)) (group_of gs i) rowless in
          record {
            below = i;
            walk = on;
            groups = omega (arith, ap length u, ap count_held here, s.groups);
            key_bytes = omega (arith, ap (λ (l : List Group). sum_by (λ g. length g.key) l) u, ap held_bytes here, s.key_bytes);
          }

  -- in the end all are
  module _ (size : PartSize) (s : Sizes partitions p gs marks size None) where
    none-left : groups_in partitions p (take s.below gs) ≡ []
    none-left = none-kept (λ (g : Group). lies_in partitions p g.key) (take s.below gs) (sym (last-lies s.below) ∙ sym s.walk.last)

    pub sizes-groups : size.groups ≡ count_held (groups_in partitions p gs)
    sizes-groups = omega (arith, ap count_held none-left, s.groups)

    pub sizes-bytes : size.key_bytes ≡ held_bytes (groups_in partitions p gs)
    sizes-bytes = omega (arith, ap held_bytes none-left, s.key_bytes)
