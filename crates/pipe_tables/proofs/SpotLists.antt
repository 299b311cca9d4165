-- Where the groups of rows are, row by row.
use Rattle.std.proofs.Common.{◌≡◌, ◌∙◌, ◌<◌, ℕ, zero, suc, Bool, true, false, List, [], ◌∷◌, ◌++◌, length, take, drop, refl, sym, ap, arith, length-append}
use Rattle.std.proofs.lemmas.List.{get_or-map, get_or_append_left, length-map, map-append}
use Rattle.pipe_running.specs.declared.function.AggregateFunction.{AggregateFunction}
use Rattle.pipe_spill.specs.declared.spill_row.SpillRow.{SpillRow}
use Rattle.pipe_groups.specs.Groups.{cover, Group, group_keys, is_covered, new_group, no_group}
use Rattle.pipe_groups.proofs.PutFacts.{cover-new, cover-there}
use Rattle.pipe_keyed.specs.Keyed.{IsAt}
use Rattle.pipe_tables.specs.Waits.{AreAt}

-- ---- one row

-- the index of the group of its key is its spot
pub at-one : (gs : List Group) (r : SpillRow) (i : ℕ) → IsAt gs r.key i → AreAt (group_keys gs) (r ∷ []) (i ∷ [])
at-one gs r i at = (omega (arith, at.0, length-map gs (λ (g : Group). g.key)), get_or-map (λ (g : Group). g.key) gs i no_group [] at.0 ∙ at.1, tt)

-- and the other way round
pub at-first : (gs : List Group) (r : SpillRow) (rows : List SpillRow) (i : ℕ) (spots : List ℕ) → AreAt (group_keys gs) (r ∷ rows) (i ∷ spots) → IsAt gs r.key i
at-first gs r rows i spots h =
    let lt : i < length gs = omega (arith, h.0, length-map gs (λ (g : Group). g.key)) in
    (lt, sym (get_or-map (λ (g : Group). g.key) gs i no_group [] lt) ∙ h.1)

module _ (keys : List (List ℕ)) where
  -- where there is a row there is a spot
  pub at-some : (r : SpillRow) (rows : List SpillRow) (spots : List ℕ) → AreAt keys (r ∷ rows) spots → 0 < length spots
  at-some r rows [] h = absurd h
  at-some r rows (i ∷ spots) h = omega arith

  -- ---- many

  -- rows and their spots behind others
  pub at-behind : (xs ys : List SpillRow) (is js : List ℕ) → AreAt keys xs is → AreAt keys ys js → AreAt keys (xs ++ ys) (is ++ js)
  at-behind [] ys [] js h more = more
  at-behind [] ys (i ∷ is) js h more = absurd h
  at-behind (x ∷ xs) ys [] js h more = absurd h
  at-behind (x ∷ xs) ys (i ∷ is) js h more = (h.0, h.1, at-behind xs ys is js h.2 more)

  -- other keys behind these leave them
  pub at-longer : (more : List (List ℕ)) (rows : List SpillRow) (spots : List ℕ) → AreAt keys rows spots → AreAt (keys ++ more) rows spots
  at-longer more [] [] h = tt
  at-longer more [] (i ∷ is) h = absurd h
  at-longer more (x ∷ xs) [] h = absurd h
  at-longer more (x ∷ xs) (i ∷ is) h = (omega (arith, h.0, length-append keys more), get_or_append_left keys more [] i h.0 ∙ h.1, at-longer more xs is h.2)

  -- there are as many spots as rows
  pub at-count : (rows : List SpillRow) (spots : List ℕ) → AreAt keys rows spots → length spots ≡ length rows
  at-count [] [] h = refl
  at-count [] (i ∷ is) h = absurd h
  at-count (x ∷ xs) [] h = absurd h
  at-count (x ∷ xs) (i ∷ is) h = ap suc (at-count xs is h.2)

  -- those of the first rows, and of the others
  pub at-parts : (xs ys : List SpillRow) (spots : List ℕ) (n : ℕ) → length xs ≡ n → AreAt keys (xs ++ ys) spots → AreAt keys xs (take n spots) × AreAt keys ys (drop n spots)
  at-parts [] ys spots zero e h = (tt, h)
  at-parts [] ys spots (suc n) e h = absurd (omega (arith, e))
  at-parts (x ∷ xs) ys spots zero e h = absurd (omega (arith, e))
  at-parts (x ∷ xs) ys [] (suc n) e h = absurd h
  at-parts (x ∷ xs) ys (i ∷ is) (suc n) e h =
      let rest = at-parts xs ys is n (omega (arith, e)) h.2 in
      ((h.0, h.1, rest.0), rest.1)

-- room for a key leaves the spots
pub at-covered : (ps : List AggregateFunction) (k : List ℕ) (gs : List Group) (rows : List SpillRow) (spots : List ℕ) → AreAt (group_keys gs) rows spots → AreAt (group_keys (cover ps k gs)) rows spots
at-covered ps k gs rows spots h = by (is_covered k gs) refl where
  by : (b : Bool) → is_covered k gs ≡ b → AreAt (group_keys (cover ps k gs)) rows spots
  by true e = rw (cover-there k ps gs e) h
  by false e = rw (cover-new k ps gs e, map-append (λ (g : Group). g.key) gs (new_group ps k ∷ [])) (at-longer (group_keys gs) (k ∷ []) rows spots h)
