-- The results of running aggregates that bytes begin with.
use Rattle.std.proofs.Common.{◌≡◌, ◌∙◌, List, [], ◌++◌, ℕ, sym, ap, subst}
use Rattle.std.specs.Prelude.{All, Some, None}
use Rattle.pipe_columns.specs.declared.any_value.AnyValue.{AnyValue}
use Rattle.pipe_columns.specs.AnyValue.{HasUtf8}
use Rattle.pipe_columns.specs.Key.{code}
use Rattle.pipe_running.specs.declared.function.AggregateFunction.{AggregateFunction}
use Rattle.pipe_spill.specs.KeyTypes.{AreOfTypes, IsTuple}
use Rattle.pipe_spill.specs.Reading.{BeginsNoTuple}
use Rattle.pipe_spill.proofs.CodeOrder.{tuple_once}
use Rattle.pipe_states.specs.Forms.{all_result_types, all_saved, all_saved_types, restored_behind}
use Rattle.pipe_states.specs.Reading.{AreResults, BeginsNoResults, results_bytes}
use Rattle.pipe_states.proofs.Saved.{all_back, saved_again}

-- no values begin
pub no_values : (fs : List AggregateFunction) (bytes : List ℕ) → BeginsNoTuple (all_saved_types fs) bytes → BeginsNoResults fs bytes
no_values fs bytes none rs more is e = none (all_saved fs rs) more is.saved e

-- results that were read of values
pub record WereRead (fs : List AggregateFunction) (rs : List AnyValue) (rest bytes : List ℕ) : Type 0 where
  pub are : AreResults fs rs
  pub utf8 : All HasUtf8 rs
  pub front : results_bytes fs rs ++ rest ≡ bytes

-- values begin
module _ (fs : List AggregateFunction) (vs : List AnyValue) (rest bytes : List ℕ) (tuple : IsTuple (all_saved_types fs) vs)
    (read : code (all_saved_types fs) vs ++ rest ≡ bytes) where
  -- which no results were saved as
  pub no_results : restored_behind [] fs vs ≡ None → BeginsNoResults fs bytes
  no_results none rs more is e =
      let same = tuple_once (all_saved_types fs) (all_saved fs rs) vs more rest is.saved.of_types tuple.of_types (e ∙ sym read) in
      let some : restored_behind [] fs vs ≡ Some ([] ++ rs) = ap (restored_behind [] fs) (sym same.0) ∙ saved_again fs [] rs is.typed in
      cc

  -- which results were saved as
  pub results_read : (rs : List AnyValue) → restored_behind [] fs vs ≡ Some rs → WereRead fs rs rest bytes
  results_read rs some =
      let back = all_back fs [] vs rs tuple.of_types some in
      let own : all_saved fs rs ≡ vs = ap (all_saved fs) back.is ∙ back.saved in
      record {
        are = record {
          typed = subst (λ (l : List AnyValue). AreOfTypes (all_result_types fs) l) (sym back.is) back.typed;
          saved = subst (IsTuple (all_saved_types fs)) (sym own) tuple;
        };
        utf8 = subst (All HasUtf8) (sym back.is) (back.utf8 tuple.utf8);
        front = ap (λ (l : List AnyValue). code (all_saved_types fs) l ++ rest) own ∙ read;
      }
