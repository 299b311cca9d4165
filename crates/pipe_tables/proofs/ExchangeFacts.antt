-- Whether all keys that are held lie in one partition.
use Rattle.std.proofs.Common.{◌≡◌, ◌∙◌, ◌%◌, ◌<◌, ◌&&◌, ℕ, Bool, true, List, [], ◌∷◌, refl, sym, ap, arith}
use Rattle.std.specs.List.{list_all}
use Rattle.std.proofs.lemmas.Bool.{eq-eqb}
use Rattle.pipe_columns.specs.Key.{fold_bytes}
use Rattle.pipe_groups.specs.Groups.{Group, held_groups}
use Rattle.pipe_tables.specs.Tables.{do_all_lie, lies_in}

-- of one partition they do
pub one-part : (p : ℕ) (gs : List Group) → p < 1 → true ≡ do_all_lie 1 p gs
one-part p gs first = all-of (held_groups gs) where
  all-of : (held : List Group) → true ≡ list_all (λ g. lies_in 1 p g.key) held
  all-of [] = refl
  all-of (g ∷ held) = all-of held ∙ ap (λ (b : Bool). b && list_all (λ g. lies_in 1 p g.key) held) (sym (eq-eqb (fold_bytes g.key % 1) p (omega (arith, first))))
