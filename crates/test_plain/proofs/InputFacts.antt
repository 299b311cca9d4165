-- What the aggregates of a query are fed fits the types of their inputs.
use Rattle.std.proofs.Common.{◌≡◌, ℕ, ◌+◌, true, List, [], ◌∷◌, ◌++◌, length, map, Option, Some, None, unwrap_or, refl, sym, subst, arith}
use Rattle.std.specs.Prelude.{is_some}
use Rattle.std.specs.List.{All, list_all, range_with_len}
use Rattle.std.proofs.lemmas.List.{append_assoc}
use Rattle.std.proofs.lemmas.List.Elements.{All-append, All-cons, All-head, All-nil, All-tail}
use Rattle.std.proofs.lemmas.Bool.{and_parts}
use Rattle.pipe_columns.specs.declared.any_value.AnyValue.{AnyValue}
use Rattle.pipe_columns.specs.declared.data_chunk.DataChunk.{DataChunk}
use Rattle.pipe_columns.specs.declared.data_type.DataType.{DataType}
use Rattle.pipe_columns.specs.declared.data_type.DataType.TheVariants as dt
use Rattle.pipe_columns.specs.declared.schema.Field.{Field}
use Rattle.pipe_columns.specs.AnyValue.{fits}
use Rattle.pipe_columns.specs.Frame.{FitsSchema, FrameData, value_at, HoldsTypes}
use Rattle.pipe_columns.specs.Row.{Row}
use Rattle.pipe_model.specs.Expr.{Expr}
use Rattle.pipe_model.specs.Groupable.{is_fed, IsGroupable, is_valued}
use Rattle.pipe_aggs.specs.HashAggs.{function_for, prototypes}
use Rattle.pipe_model.specs.Output.{input_type}
use Rattle.pipe_model.specs.Query.{AggTree, each, Input, QueryTree, rows_alone}
use Rattle.pipe_model.specs.Typing.{is_row_wise, known_type, type_of}
use Rattle.pipe_model.specs.Value.{value}
use Rattle.pipe_aggs.proofs.HashAggFacts.{takes-for}
use Rattle.pipe_model.specs.Rows.{chunk_rows, input_value, row_of, rows_from}
use Rattle.pipe_inputs.proofs.TypeFacts.{fed-fits}
use Rattle.pipe_running.specs.GroupStates.{TakesFrom}

-- ---- the inputs of a row

-- each input fits its type, from the input at place j on
abbrev pub FitsFrom : ℕ → List Field → List AggTree → List AnyValue → Type 0
FitsFrom j schema [] inputs = Unit {0}
FitsFrom j schema (a ∷ others) inputs = (fits (value_at inputs j) (input_type schema a.input) ≡ true) × FitsFrom (j + 1) schema others inputs

value_after : (front : List AnyValue) (v : AnyValue) (vs : List AnyValue) → value_at (front ++ v ∷ vs) (length front) ≡ v
value_after [] v vs = refl
value_after (x ∷ xs) v vs = value_after xs v vs

fits-after : (schema : List Field) (frame : FrameData) (n : ℕ) (aggs : List AggTree) (front : List AnyValue) → FitsSchema schema frame → HoldsTypes frame
    → list_all (λ a. is_fed schema a.input) aggs ≡ true → FitsFrom (length front) schema aggs (front ++ map (λ a. input_value a.input frame n) aggs)
fits-after schema frame n [] front are hold f = tt
fits-after schema frame n (a ∷ others) front are hold f =
    let parts = and_parts (is_fed schema a.input) (list_all (λ b. is_fed schema b.input) others) f in
    let v : AnyValue = input_value a.input frame n in
    let vs : List AnyValue = map (λ b. input_value b.input frame n) others in
    let V : AnyValue → Type 0 = λ w. fits w (input_type schema a.input) ≡ true in
    let here : fits (value_at (front ++ v ∷ vs) (length front)) (input_type schema a.input) ≡ true =
    subst V (sym (value_after front v vs)) (fed-fits schema a.input frame n are hold parts.0) in
    let R : List AnyValue → Type 0 = λ inputs. FitsFrom (length (front ++ v ∷ [])) schema others inputs in
    let N : ℕ → Type 0 = λ j. FitsFrom j schema others (front ++ v ∷ vs) in
    (here, subst N (length-push front v) (subst R (append_assoc front (v ∷ []) vs) (fits-after schema frame n others (front ++ v ∷ []) are hold parts.1)))
  where
    length-push : (xs : List AnyValue) (x : AnyValue) → length (xs ++ x ∷ []) ≡ length xs + 1
    length-push [] x = refl
    length-push (y ∷ ys) x = omega (arith, length-push ys x)

abbrev pub InputsFit : QueryTree → Row → Type 0
InputsFit q r = FitsFrom 0 q.schema q.aggs r.inputs

pub row-fits : (q : QueryTree) (i : ℕ) (frame : FrameData) (n : ℕ) → IsGroupable q → FitsSchema q.schema frame → HoldsTypes frame → InputsFit q (row_of q i frame n)
row-fits q i frame n g are hold = fits-after q.schema frame n q.aggs [] are hold g.inputs

rows-of-chunk-fit : (q : QueryTree) (i : ℕ) (frame : FrameData) (ns : List ℕ) → IsGroupable q → FitsSchema q.schema frame → HoldsTypes frame
    → All (InputsFit q) (map (λ n. row_of q i frame n) ns)
rows-of-chunk-fit q i frame [] g are hold = All-nil (InputsFit q)
rows-of-chunk-fit q i frame (n ∷ ns) g are hold =
    All-cons (InputsFit q) (row_of q i frame n) (map (λ m. row_of q i frame m) ns) (row-fits q i frame n g are hold) (rows-of-chunk-fit q i frame ns g are hold)

-- so do those of the rows of chunks
pub rows-fit : (q : QueryTree) (i : ℕ) (chunks : List DataChunk) → IsGroupable q → All (λ c. FitsSchema q.schema c.frame) chunks → All (λ c. HoldsTypes c.frame) chunks
    → All (InputsFit q) (rows_from q i chunks)
rows-fit q i [] g are hold = All-nil (InputsFit q)
rows-fit q i (c ∷ cs) g are hold =
    let S : DataChunk → Type 0 = λ x. FitsSchema q.schema x.frame in
    let H : DataChunk → Type 0 = λ x. HoldsTypes x.frame in
    All-append (InputsFit q) (chunk_rows q i c.frame) (rows_from q (i + 1) cs)
    (rows-of-chunk-fit q i c.frame (range_with_len 0 c.frame.height) g (All-head S c cs are) (All-head H c cs hold))
    (rows-fit q (i + 1) cs g (All-tail S c cs are) (All-tail H c cs hold))

-- ---- what is taken

fits-taken : (j : ℕ) (schema : List Field) (aggs : List AggTree) (inputs : List AnyValue) → FitsFrom j schema aggs inputs
    → TakesFrom j (map (λ a. function_for a.kind (input_type schema a.input)) aggs) inputs
fits-taken j schema [] inputs h = tt
fits-taken j schema (a ∷ others) inputs h =
    (takes-for a.kind (input_type schema a.input) (value_at inputs j) h.0, fits-taken (j + 1) schema others inputs h.1)

-- the running aggregates of a query take the inputs of its rows
pub row-taken : (q : QueryTree) (i : ℕ) (frame : FrameData) (n : ℕ) → IsGroupable q → FitsSchema q.schema frame → HoldsTypes frame
    → TakesFrom 0 (prototypes q) (row_of q i frame n).inputs
row-taken q i frame n g are hold = fits-taken 0 q.schema q.aggs (row_of q i frame n).inputs (row-fits q i frame n g are hold)
