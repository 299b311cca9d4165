-- What the running aggregate of a kind gives of entries that it took one by one.
use Rattle.std.proofs.Common.{◌≡◌, ◌∙◌, ℕ, ◌<◌, ◌^◌, Bool, true, List, [], ◌∷◌, length, map, refl, sym, subst}
use Rattle.std.specs.Cmp.Derive as derive
use Rattle.std.specs.List.{list_all}
use Rattle.std.proofs.lemmas.Bool.{and_parts}
use Rattle.pipe_columns.specs.declared.any_value.AnyValue.{AnyValue}
use Rattle.pipe_columns.specs.declared.data_type.DataType.{DataType}
use Rattle.pipe_columns.specs.declared.place.Place.{Place}
use Rattle.pipe_columns.specs.declared.schema.Field.{Field}
use Rattle.pipe_columns.specs.AnyValue.{fits}
use Rattle.pipe_running.specs.declared.function.AggregateFunction.{AggregateFunction}
use Rattle.pipe_model.specs.Aggregate.{agg, values_in}
use Rattle.pipe_model.specs.Kind.{Kind}
use Rattle.pipe_columns.specs.Place.{DistinctPlaces}
use Rattle.pipe_running.specs.Stands.{FitTypes, given_types}
use Rattle.pipe_running.specs.States.{after_entries, fresh, given, output_values}
use Rattle.pipe_running.proofs.EntryFacts.{all_taken, fits-given, given-after_entries}
use Rattle.pipe_aggs.specs.HashAggs.{function_for}
use Rattle.pipe_model.specs.Groupable.{suited}
use Rattle.pipe_model.specs.Output.{agg_fields}
use Rattle.pipe_aggs.proofs.HashAggFacts.{agg-for, suits-for, takes-for, types-for}
use Rattle.test_plain.specs.Fits.{RowFits}

-- whether the values of entries fit a type
abbrev pub all_of_type : DataType → List (Place × AnyValue) → Bool
all_of_type t entries = list_all (λ v. fits v t) (values_in entries)

taken : (k : Kind) (t : DataType) (entries : List (Place × AnyValue)) → all_of_type t entries ≡ true → all_taken (function_for k t) entries ≡ true
taken k t [] h = refl
taken k t (e ∷ es) h =
    let parts = and_parts (fits e.1 t) (all_of_type t es) h in
    derive.both_true (takes-for k t e.1 parts.0) (taken k t es parts.1)

-- it gives the aggregate of the entries
pub built-gives : (k : Kind) (t : DataType) (entries : List (Place × AnyValue)) → suited k t ≡ true → all_of_type t entries ≡ true → DistinctPlaces entries
    → output_values (given (after_entries entries (fresh (function_for k t)))) ≡ agg k t entries
built-gives k t entries s h d =
    given-after_entries (function_for k t) t entries (suits-for k t s) (taken k t entries h) (λ l. d) ∙ agg-for k t entries s

types-fit : (fs : List Field) (vs : List AnyValue) → FitTypes vs (map (λ f. f.dtype) fs) → RowFits fs vs
types-fit [] [] h = tt
types-fit [] (v ∷ vs) h = absurd h
types-fit (f ∷ fs) [] h = absurd h
types-fit (f ∷ fs) (v ∷ vs) h = (h.0, types-fit fs vs h.1)

-- and that fits its columns, of fewer than 2^32 entries
pub built-fits : (name : List ℕ) (k : Kind) (t : DataType) (entries : List (Place × AnyValue)) → suited k t ≡ true → all_of_type t entries ≡ true → DistinctPlaces entries
    → length entries < 2 ^ 32 → RowFits (agg_fields name k t) (agg k t entries)
built-fits name k t entries s h d few =
    let f : AggregateFunction = function_for k t in
    let outputs : List AnyValue = output_values (given (after_entries entries (fresh f))) in
    let fit : FitTypes outputs (given_types f) = fits-given f t entries (suits-for k t s) (taken k t entries h) h few in
    let V : List AnyValue → Type 0 = λ vs. FitTypes vs (given_types f) in
    let T : List DataType → Type 0 = λ ts. FitTypes (agg k t entries) ts in
    types-fit (agg_fields name k t) (agg k t entries) (subst T (sym (types-for name k t s)) (subst V (built-gives k t entries s h d) fit))
