use Rattle.std.proofs.Common.{◌∙◌, [], ◌∷◌, ℕ, refl, subst, sym}
use Rattle.std.specs.List.{IsDistinct}
use Rattle.std.specs.Ordering.{eq_by_cmp}
use Rattle.pipe_columns.specs.Place.{place_cmp}
use Rattle.pipe_columns.specs.declared.place.Place.{Place}
use Rattle.test_tables.proofs.tables.placed.ordered.Goals as goal

abbrev at : ℕ → ℕ → Place
at chunk row = record { chunk = chunk; row = row }

-- the first places are apart
apart : IsDistinct (eq_by_cmp place_cmp) (at 0 1 ∷ at 0 4 ∷ at 0 2 ∷ at 0 0 ∷ [])
unfolding IsDistinct
apart = ((refl, (refl, (refl, tt))), ((refl, (refl, tt)), ((refl, tt), (tt, tt))))

pub in_order-ordered-requires-clause-distinct : goal.in_order-ordered-requires-clause-distinct
in_order-ordered-requires-clause-distinct c = subst (IsDistinct (eq_by_cmp place_cmp)) (sym (c.new-firsts.ensures ∙ c.in_ok-from_array.ensures.items)) apart
