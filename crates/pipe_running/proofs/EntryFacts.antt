-- Entries that a fresh running aggregate takes one by one.
use Rattle.std.proofs.Common.{◌≡◌, ◌∙◌, ◌<◌, ◌^◌, Bool, true, List, [], ◌∷◌, ◌++◌, length, sym, ap, subst, append_assoc, arith}
use Rattle.std.specs.List.{list_all}
use Rattle.std.proofs.lemmas.List.{append-nil}
use Rattle.pipe_columns.specs.declared.any_value.AnyValue.{AnyValue}
use Rattle.pipe_columns.specs.declared.data_type.DataType.{DataType}
use Rattle.pipe_columns.specs.declared.place.Place.{Place}
use Rattle.pipe_columns.specs.AnyValue.{fits}
use Rattle.pipe_running.specs.declared.function.AggregateFunction.{AggregateFunction}
use Rattle.pipe_model.specs.Aggregate.{agg, reads_places, values_in}
use Rattle.pipe_columns.specs.Place.{DistinctPlaces}
use Rattle.pipe_running.specs.Stands.{FitTypes, given_types, Stands, Suits}
use Rattle.pipe_running.specs.SameKind.{SameKind}
use Rattle.pipe_running.specs.StateLaws.{function_takes_alike}
use Rattle.pipe_running.specs.States.{after_entries, after_value, fresh, given, kind_of, output_values, takes}
use Rattle.pipe_running.proofs.FitFacts.{given-fits}
use Rattle.pipe_running.proofs.KindStays.{same-after, same-fresh, same-then}
use Rattle.pipe_running.proofs.StandFacts.{stands-after, stands-fresh, stands-gives}

-- whether each entry's value is taken
abbrev pub all_taken : AggregateFunction → List (Place × AnyValue) → Bool
all_taken f entries = list_all (λ e. takes f e.1) entries

-- with entries one by one it stands for them too
stands-entries : (f : AggregateFunction) (xs entries : List (Place × AnyValue)) → all_taken f entries ≡ true → Stands f xs → Stands (after_entries entries f) (xs ++ entries)
stands-entries f xs [] e h = subst (Stands f) (sym (append-nil xs)) h
stands-entries f xs (x ∷ es) e h =
    let first : takes f x.1 ≡ true = grind arith in
    let rest : all_taken f es ≡ true = grind arith in
    subst (Stands (after_entries (x ∷ es) f)) (append_assoc xs (x ∷ []) es)
    (stands-entries (after_value x.0 x.1 f) (xs ++ x ∷ []) es
    (ap (λ (t : AnyValue → Bool). list_all (λ e. t e.1) es) (λ i w. function_takes_alike x.0 x.1 w f i) ∙ rest)
    (stands-after f xs x.0 x.1 first h))

-- and is of its kind
same-entries : (f g : AggregateFunction) (entries : List (Place × AnyValue)) → SameKind f g → SameKind f (after_entries entries g)
same-entries f g [] a = a
same-entries f g (x ∷ es) a = same-entries f (after_value x.0 x.1 g) es (same-then f g (after_value x.0 x.1 g) a (same-after x.0 x.1 g))

-- a fresh one stands for them
pub entries-stand : (f : AggregateFunction) (entries : List (Place × AnyValue)) → all_taken f entries ≡ true → Stands (after_entries entries (fresh f)) entries
entries-stand f entries e =
    stands-entries (fresh f) [] entries (ap (λ (t : AnyValue → Bool). list_all (λ x. t x.1) entries) (λ i w. (same-fresh f).takes w i) ∙ e) (stands-fresh f)

-- they give the aggregate of the entries
pub given-after_entries : (f : AggregateFunction) (t : DataType) (entries : List (Place × AnyValue)) → Suits f t → all_taken f entries ≡ true
    → (reads_places (kind_of f) ≡ true → DistinctPlaces entries) → output_values (given (after_entries entries (fresh f))) ≡ agg (kind_of f) t entries
given-after_entries f t entries s e d =
    let same = same-entries f (fresh f) entries (same-fresh f) in
    let last = after_entries entries (fresh f) in
    stands-gives last t entries (same.suits t s) (entries-stand f entries e) (λ l. d (sym (ap reads_places same.kind) ∙ l))
    ∙ ap (λ k. agg k t entries) same.kind

-- and values that fit the output columns
pub fits-given : (f : AggregateFunction) (t : DataType) (entries : List (Place × AnyValue)) → Suits f t → all_taken f entries ≡ true
    → list_all (λ v. fits v t) (values_in entries) ≡ true → length entries < 2 ^ 32 → FitTypes (output_values (given (after_entries entries (fresh f)))) (given_types f)
fits-given f t entries s e v n =
    let same = same-entries f (fresh f) entries (same-fresh f) in
    subst (FitTypes (output_values (given (after_entries entries (fresh f))))) same.types
    (given-fits (after_entries entries (fresh f)) t entries (same.suits t s) (entries-stand f entries e) v n)
