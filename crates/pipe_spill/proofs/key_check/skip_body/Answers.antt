-- The value that was passed over.
use Rattle.std.proofs.Common.{◌≡◌, ◌∷◌, true, List, ℕ, refl, ap, sym, subst}
use Rattle.pipe_columns.specs.declared.any_value.AnyValue.TheVariants as av
use Rattle.pipe_columns.specs.AnyValue.{fits}
use Rattle.pipe_spill.proofs.key_check.skip_body.Goals as goal

pub returns-in-Some-clause-some : goal.returns-in-Some-clause-some
returns-in-Some-clause-some c = record {
  value = av.Boolean c.in-Some.field-0-0;
  is_value = record { fits = subst (λ t. fits (av.Boolean c.in-Some.field-0-0) t ≡ true) (sym c.in-Boolean.is) refl; utf8 = tt };
  front = ap (λ (l : List ℕ). 1 ∷ l) c.in-Some.ensures.code;
}

pub returns-in-Some-read_number-clause-some : goal.returns-in-Some-read_number-clause-some
returns-in-Some-read_number-clause-some c = record {
  value = av.Int c.in-Some-read_number.field-0-0;
  is_value = record { fits = c.in-Some-read_number.ensures.fits; utf8 = tt };
  front = ap (λ (l : List ℕ). 1 ∷ l) c.in-Some-read_number.ensures.code;
}
