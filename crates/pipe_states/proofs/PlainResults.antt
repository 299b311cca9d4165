-- Where as many values were saved as there are running aggregates, none is a mean, and they are the results.
use Rattle.std.proofs.Common.{◌≡◌, ◌∙◌, ◌≤◌, Bool, true, false, List, [], ◌∷◌, ◌++◌, length, drop, length-append, append_assoc, refl, sym, ap, arith}
use Rattle.std.specs.Prelude.{Some}
use Rattle.std.specs.Option.{option_and_then}
use Rattle.std.proofs.lemmas.List.{append-nil}
use Rattle.pipe_columns.specs.declared.any_value.AnyValue.{AnyValue}
use Rattle.pipe_columns.specs.declared.data_type.DataType.{DataType}
use Rattle.pipe_running.specs.States.{first_type}
use Rattle.pipe_running.specs.declared.function.AggregateFunction.{AggregateFunction}
use Rattle.pipe_spill.specs.KeyTypes.{AreOfTypes}
use Rattle.pipe_states.specs.Forms.{all_saved_types, is_mean, restored_behind, saved_types_of}
use Rattle.pipe_states.proofs.GivenRows.{typed-length}
use Rattle.pipe_states.proofs.Saved.{back, st, sw}

-- a running aggregate is saved as one value at least
one_least : (b : Bool) (t : DataType) → 1 ≤ length (st b t)
one_least true t = omega arith
one_least false t = omega arith

-- so there are as many types as running aggregates at least
as_many : (fs : List AggregateFunction) → length fs ≤ length (all_saved_types fs)
as_many [] = omega arith
as_many (f ∷ fs) =
    omega (arith, as_many fs, one_least (is_mean f) (first_type f), length-append (saved_types_of f) (all_saved_types fs))

-- of as many as there are, the first is of no mean
no_mean : (f : AggregateFunction) (fs : List AggregateFunction) → length (all_saved_types (f ∷ fs)) ≡ length (f ∷ fs) → is_mean f ≡ false
no_mean f fs e = by (is_mean f) refl where
  by : (b : Bool) → is_mean f ≡ b → is_mean f ≡ false
  by false is = is
  by true is = absurd (omega (arith, e, as_many fs, length-append (saved_types_of f) (all_saved_types fs), ap (λ (b : Bool). length (st b (first_type f))) is))

-- the values are the results, behind those at hand
plain_behind : (done : List AnyValue) (fs : List AggregateFunction) (vs : List AnyValue) → AreOfTypes (all_saved_types fs) vs
    → length (all_saved_types fs) ≡ length fs → restored_behind done fs vs ≡ Some (done ++ vs)
plain_behind done [] [] h e = ap Some (sym (append-nil done))
plain_behind done [] (v ∷ vs) h e = absurd h
plain_behind done (f ∷ fs) vs h e = by (is_mean f) refl vs h (λ d v k l. plain_behind d fs v k l) where
  by : (b : Bool) → is_mean f ≡ b → (vs : List AnyValue) → AreOfTypes (st b (first_type f) ++ all_saved_types fs) vs
      → ((d v : List AnyValue) → AreOfTypes (all_saved_types fs) v → length (all_saved_types fs) ≡ length fs → restored_behind d fs v ≡ Some (d ++ v))
      → option_and_then (λ (more : List AnyValue). restored_behind (done ++ more) fs (drop (sw b) vs)) (back b vs) ≡ Some (done ++ vs)
  by true is vs k next = absurd (Rattle.std.proofs.lemmas.Bool.false≢true (sym (no_mean f fs e) ∙ is))
  by false is [] k next = absurd k
  by false is (v ∷ vs) k next =
      let rest : length (all_saved_types fs) ≡ length fs =
      omega (arith, e, length-append (saved_types_of f) (all_saved_types fs), ap (λ (b : Bool). length (st b (first_type f))) is) in
      next (done ++ v ∷ []) vs k.1 rest ∙ ap Some (append_assoc done (v ∷ []) vs)

pub plain_back : (fs : List AggregateFunction) (vs : List AnyValue) → AreOfTypes (all_saved_types fs) vs → length vs ≡ length fs → restored_behind [] fs vs ≡ Some vs
plain_back fs vs h e = plain_behind [] fs vs h (sym (typed-length (all_saved_types fs) vs h) ∙ e)
