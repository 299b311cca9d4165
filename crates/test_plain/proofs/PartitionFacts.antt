-- The groups of a table by the partitions of their keys.
use Rattle.std.proofs.Common.{◌≡◌, ◌∙◌, ℕ, zero, suc, ◌+◌, ◌<◌, Bool, true, false, cond, List, [], ◌∷◌, length, map, get_or, refl, sym, ap, arith}
use Rattle.std.specs.List.{All, filter}
use Rattle.std.specs.List.Sorted.{ties}
use Rattle.std.specs.Ordering.{is_lt, nat_cmp}
use Rattle.std.proofs.lemmas.List.{length-map}
use Rattle.std.proofs.lemmas.List.Elements.{All-head, All-tail}
use Rattle.std.proofs.lemmas.List.Sorted.{All-permutation, IsPermutation-map}
use Rattle.test_plain.specs.declared.groups.Group.{Group}
use Rattle.test_plain.specs.declared.order.Placed.{Placed}
use Rattle.pipe_columns.specs.StableSort.{IsSortedStably}

abbrev group_of : Placed → Group
group_of p = p.group

at_mapped : (ys : List Placed) (k : ℕ) (d : Group) (e : Placed) → k < length ys → get_or (map group_of ys) k d ≡ group_of (get_or ys k e)
at_mapped [] k d e h = absurd (omega arith)
at_mapped (y ∷ ys) zero d e h = refl
at_mapped (y ∷ ys) (suc k) d e h = at_mapped ys k d e (omega arith)

module _ (part : Group → ℕ) where
  abbrev IsPart : Placed → Type 0
  IsPart p = p.partition ≡ part (group_of p)

  abbrev lower : Placed → Placed → Bool
  lower p q = is_lt (nat_cmp p.partition q.partition)

  abbrev lower_group : Group → Group → Bool
  lower_group g h = is_lt (nat_cmp (part g) (part h))

  filtered : (g : Group) (ys : List Placed) → All IsPart ys → filter (ties lower_group g) (map group_of ys) ≡ map group_of (filter (ties lower (record { partition = part g; group = g })) ys)
  filtered g [] h = refl
  filtered g (y ∷ ys) h =
      let d : Placed = record { partition = part g; group = g } in
      let same : ties lower d y ≡ ties lower_group g (group_of y) = ap (λ (n : ℕ). ties (λ (a b : ℕ). is_lt (nat_cmp a b)) (part g) n) (All-head IsPart y ys h) in
      rw same (by_test (ties lower_group g (group_of y)) (filtered g ys (All-tail IsPart y ys h))) where
        by_test : (b : Bool) → filter (ties lower_group g) (map group_of ys) ≡ map group_of (filter (ties lower (record { partition = part g; group = g })) ys)
            → cond b (group_of y ∷ filter (ties lower_group g) (map group_of ys)) (filter (ties lower_group g) (map group_of ys))
            ≡ map group_of (cond b (y ∷ filter (ties lower (record { partition = part g; group = g })) ys) (filter (ties lower (record { partition = part g; group = g })) ys))
        by_test true e = ap (λ (t : List Group). group_of y ∷ t) e
        by_test false e = e

  -- what a sort by the partitions at hand makes of the groups
  pub sorted_groups : (before after : List Placed) → All IsPart before → IsSortedStably (λ p. p.partition) nat_cmp before after → IsSortedStably part nat_cmp (map group_of before) (map group_of after)
  sorted_groups before after h s =
      let parts : All IsPart after = All-permutation IsPart before after s.moved h in
      record {
        moved = IsPermutation-map group_of before after s.moved;
        sorted = λ k d low high.
            let e : Placed = record { partition = 0; group = d } in
            let within : k + 1 < length after = omega (arith, high, length-map after group_of) in
            rw (at_mapped after (k + 1) d e within, at_mapped after k d e (omega arith), sym (parts (k + 1) e within), sym (parts k e (omega arith))) (s.sorted k e low within);
        stable = λ g. filtered g after parts ∙ ap (map group_of) (s.stable (record { partition = part g; group = g })) ∙ sym (filtered g before h);
      }
