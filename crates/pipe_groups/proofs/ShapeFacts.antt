-- What a shape's running aggregates are for: they take the inputs of its rows.
use Rattle.std.proofs.Common.{◌≡◌, ℕ, true, List, [], ◌∷◌, ◌++◌, length, map, refl, sym, subst}
use Rattle.std.specs.List.{list_all}
use Rattle.std.proofs.lemmas.Bool.{and_parts}
use Rattle.std.proofs.lemmas.List.{append_assoc, length_push}
use Rattle.pipe_columns.specs.declared.any_value.AnyValue.{AnyValue}
use Rattle.pipe_columns.specs.declared.schema.Field.{Field}
use Rattle.pipe_columns.specs.AnyValue.{fits}
use Rattle.pipe_columns.specs.Frame.{value_at}
use Rattle.pipe_aggs.specs.HashAggs.{function_for}
use Rattle.pipe_aggs.proofs.HashAggFacts.{agg-for, suits-for, takes-for}
use Rattle.pipe_model.specs.Groupable.{is_suited}
use Rattle.pipe_model.specs.Output.{input_type}
use Rattle.pipe_model.specs.Query.{AggTree}
use Rattle.pipe_running.specs.GroupStates.{FitsFrom, ServeAll, TakesFrom}
use Rattle.pipe_running.proofs.GroupStateFacts.{serve-take}
use Rattle.pipe_spill.specs.KeyTypes.{AreOfTypes}
use Rattle.pipe_groups.specs.Shape.{IsShape, Shape, shape_of}

-- the running aggregates of suited aggregates serve them
pub aggs-served : (schema : List Field) (aggs : List AggTree) → list_all (is_suited schema) aggs ≡ true → ServeAll schema aggs (map (λ a. function_for a.kind (input_type schema a.input)) aggs)
aggs-served schema [] s = tt
aggs-served schema (a ∷ others) s =
    let parts = and_parts (is_suited schema a) (list_all (is_suited schema) others) s in
    let t = input_type schema a.input in (
      record { suits = suits-for a.kind t parts.0; takes = takes-for a.kind t; gives = λ entries. agg-for a.kind t entries parts.0 },
      aggs-served schema others parts.1,
    )

-- a value behind others
pub value-behind : (front : List AnyValue) (v : AnyValue) (vs : List AnyValue) → value_at (front ++ v ∷ vs) (length front) ≡ v
value-behind [] v vs = refl
value-behind (x ∷ xs) v vs = value-behind xs v vs

-- values of the types of inputs fit them, also behind others
fit-behind : (schema : List Field) (aggs : List AggTree) (front values : List AnyValue) → AreOfTypes (map (λ a. input_type schema a.input) aggs) values
    → FitsFrom (length front) schema aggs (front ++ values)
fit-behind schema [] front values h = tt
fit-behind schema (a ∷ others) front [] h = absurd h
fit-behind schema (a ∷ others) front (v ∷ vs) h =
    let rest : FitsFrom (length (front ++ v ∷ [])) schema others (front ++ v ∷ vs) =
    subst (λ (inputs : List AnyValue). FitsFrom (length (front ++ v ∷ [])) schema others inputs) (append_assoc front (v ∷ []) vs) (fit-behind schema others (front ++ v ∷ []) vs h.1) in (
      subst (λ (w : AnyValue). fits w (input_type schema a.input) ≡ true) (sym (value-behind front v vs)) h.0,
      subst (λ (j : ℕ). FitsFrom j schema others (front ++ v ∷ vs)) (length_push front v) rest,
    )

pub inputs-fit : (schema : List Field) (aggs : List AggTree) (values : List AnyValue) → AreOfTypes (map (λ a. input_type schema a.input) aggs) values → FitsFrom 0 schema aggs values
inputs-fit schema aggs values h = fit-behind schema aggs [] values h

-- so the running aggregates of a shape take values of its input types
pub shape-takes : (s : Shape) (values : List AnyValue) → IsShape s → AreOfTypes s.input_types values → TakesFrom 0 s.prototypes values
shape-takes s values shape h =
    let q = shape.query in
    let P : Shape → Type 0 = λ x. AreOfTypes x.input_types values → TakesFrom 0 x.prototypes values in
    subst P (sym shape.of_query)
    (λ f. serve-take 0 q.schema q.aggs (shape_of q).prototypes values (aggs-served q.schema q.aggs shape.groupable.aggs) (inputs-fit q.schema q.aggs values f))
    h
