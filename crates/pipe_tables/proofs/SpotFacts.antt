-- What a limit refuses.
use Rattle.std.proofs.Common.{◌≡◌, ℕ, ◌&&◌, not, Bool, true, false, List, Option, refl, sym, ap, ◌∙◌}
use Rattle.std.specs.List.{IsDistinct}
use Rattle.std.specs.Str.{bytes_eq}
use Rattle.pipe_groups.specs.Groups.{count_held, Group, group_of, has_rows, is_covered, is_held, group_keys}
use Rattle.pipe_groups.proofs.PutFacts.{is_held-at, is_held-new}
use Rattle.pipe_keyed.specs.Keyed.{IsAt}
use Rattle.pipe_tables.specs.Spots.{refuses}
use Rattle.pipe_tables.specs.Tables.{passes}

-- a test and one that holds, or fails
and-true : (b : Bool) → b && true ≡ b
and-true true = refl
and-true false = refl

and-false : (b : Bool) → b && false ≡ false
and-false true = refl
and-false false = refl

module _ (limit : Option ℕ) (gs : List Group) (key : List ℕ) (held : ℕ) (count : held ≡ count_held gs) (full : Bool) (is : full ≡ passes held limit) where
  is-full : full ≡ passes (count_held gs) limit
  is-full = is ∙ ap (λ (n : ℕ). passes n limit) count

  module _ (i : ℕ) (apart : IsDistinct bytes_eq (group_keys gs)) (at : IsAt gs key i) (rows : Bool) (e : rows ≡ has_rows (group_of gs i)) where
    -- where the key has a group, it is refused if the limit is passed and that group has no rows
    refuses-at : refuses limit gs key ≡ full && not rows
    refuses-at = rw (is-full, e) (ap (λ (b : Bool). passes (count_held gs) limit && not b) (is_held-at key gs i apart at.0 at.1))

    pub refused-at : full ≡ true → rows ≡ false → refuses limit gs key ≡ true
    refused-at f r = refuses-at ∙ rw (f, r) refl

    pub taken-with-rows : rows ≡ true → refuses limit gs key ≡ false
    taken-with-rows r = refuses-at ∙ rw (r, and-false full) refl

  -- where no limit is passed, nothing is refused
  pub taken : full ≡ false → refuses limit gs key ≡ false
  taken f = ap (λ (b : Bool). b && not (is_held key gs)) (sym is-full ∙ f)

  -- where it is, a key without a group is
  pub refused-new : is_covered key gs ≡ false → full ≡ true → refuses limit gs key ≡ true
  refused-new h f =
      ap (λ (b : Bool). passes (count_held gs) limit && not b) (is_held-new key gs h) ∙ and-true (passes (count_held gs) limit)
      ∙ (sym is-full ∙ f)
