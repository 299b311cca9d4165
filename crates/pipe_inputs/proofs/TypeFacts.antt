-- The keys and inputs of a query's rows are of its types.
use Rattle.std.proofs.Common.{◌≡◌, ℕ, ◌+◌, true, List, [], ◌∷◌, ◌++◌, map, get_or, Option, Some, None, unwrap_or, refl}
use Rattle.std.proofs.lemmas.Bool.{and_parts}
use Rattle.std.specs.Prelude.{All, is_some, ⊤}
use Rattle.std.specs.List.{AllZip, list_all, range_with_len}
use Rattle.std.proofs.lemmas.List.Elements.{All-append, All-cons, All-head, All-map, All-nil, All-tail}
use Rattle.pipe_columns.specs.declared.any_value.AnyValue.{AnyValue}
use Rattle.pipe_columns.specs.declared.data_chunk.DataChunk.{DataChunk}
use Rattle.pipe_columns.specs.declared.data_type.DataType.{DataType}
use Rattle.pipe_columns.specs.declared.data_type.DataType.TheVariants as dt
use Rattle.pipe_columns.specs.declared.schema.Field.{Field}
use Rattle.pipe_columns.specs.AnyValue.{fits, HasUtf8}
use Rattle.pipe_columns.specs.Frame.{ColumnsHaveUtf8, FitsSchema, FrameData, HoldsTypes}
use Rattle.pipe_exprs.specs.Literals.{HasUtf8Literals}
use Rattle.pipe_exprs.proofs.FitFacts.{value-fits}
use Rattle.pipe_exprs.proofs.TextFacts.{value-utf8}
use Rattle.pipe_model.specs.Convertible.{unaliased}
use Rattle.pipe_model.specs.Expr.{Expr, name_of}
use Rattle.pipe_model.specs.Expr as expr
use Rattle.pipe_model.specs.Groupable.{is_fed, IsGroupable, is_valued}
use Rattle.pipe_model.specs.Output.{input_type}
use Rattle.pipe_model.specs.Query.{AggTree, each, Input, rows_alone}
use Rattle.pipe_model.specs.Rows.{chunk_rows, input_value, row_of, rows_from}
use Rattle.pipe_model.specs.Typing.{is_row_wise, known_type, type_of}
use Rattle.pipe_model.specs.Value.{value}
use Rattle.pipe_model.specs.WrittenTree.{agg_named, agg_tree}
use Rattle.pipe_aggs.specs.CheckedQuery.{IsSound}
use Rattle.pipe_aggs.specs.HashAggs.{function_for}
use Rattle.pipe_aggs.specs.QueryTrees.{agg_exprs, key_exprs, query_tree}
use Rattle.pipe_aggs.specs.declared.query.Query.{Query}
use Rattle.pipe_aggs.proofs.GroupableFacts.{groupable_of}
use Rattle.pipe_aggs.proofs.HashAggFacts.{takes-for}
use Rattle.pipe_inputs.specs.RowTypes.{AreTaken, IsRowOf}

-- ---- one value

some_known : (o : Option DataType) → is_some o ≡ true → o ≡ Some (unwrap_or o dt.UInt32)
some_known None h = cc h
some_known (Some t) h = refl

-- an expression that has a value in each row
pub valued-fits : (schema : List Field) (e : Expr) (frame : FrameData) (n : ℕ) → FitsSchema schema frame → HoldsTypes frame → is_valued schema e ≡ true
    → fits (value e frame n) (known_type e schema) ≡ true
valued-fits schema e frame n are hold v =
    let typed : type_of e schema ≡ Some (known_type e schema) = some_known (type_of e schema) (and_parts (is_row_wise e) (is_some (type_of e schema)) v).1 in
    value-fits e frame n (known_type e schema) hold.fit (rw are typed)

-- what an aggregate is fed
pub fed-fits : (schema : List Field) (input : Input) (frame : FrameData) (n : ℕ) → FitsSchema schema frame → HoldsTypes frame → is_fed schema input ≡ true
    → fits (input_value input frame n) (input_type schema input) ≡ true
fed-fits schema (each e) frame n are hold v = valued-fits schema e frame n are hold v
fed-fits schema rows_alone frame n are hold v = refl

-- ---- the values of a row fit

keys-fit : (schema : List Field) (keys : List Expr) (frame : FrameData) (n : ℕ) → FitsSchema schema frame → HoldsTypes frame → list_all (is_valued schema) keys ≡ true
    → AllZip (λ t v. fits v t ≡ true) (map (λ e. known_type e schema) keys) (map (λ e. value e frame n) keys)
keys-fit schema [] frame n are hold v = tt
keys-fit schema (e ∷ es) frame n are hold v =
    let parts = and_parts (is_valued schema e) (list_all (is_valued schema) es) v in
    (valued-fits schema e frame n are hold parts.0, keys-fit schema es frame n are hold parts.1)

inputs-fit : (schema : List Field) (aggs : List AggTree) (frame : FrameData) (n : ℕ) → FitsSchema schema frame → HoldsTypes frame → list_all (λ a. is_fed schema a.input) aggs ≡ true
    → AllZip (λ t v. fits v t ≡ true) (map (λ a. input_type schema a.input) aggs) (map (λ a. input_value a.input frame n) aggs)
inputs-fit schema [] frame n are hold v = tt
inputs-fit schema (a ∷ others) frame n are hold v =
    let parts = and_parts (is_fed schema a.input) (list_all (λ b. is_fed schema b.input) others) v in
    (fed-fits schema a.input frame n are hold parts.0, inputs-fit schema others frame n are hold parts.1)

-- ---- they are in UTF-8

all-front : {X : Type 0} (P : X → Type 0) (xs ys : List X) → All P (xs ++ ys) → All P xs
all-front P [] ys h = All-nil P
all-front P (x ∷ xs) ys h = All-cons P x xs (All-head P x (xs ++ ys) h) (all-front P xs ys (All-tail P x (xs ++ ys) h))

all-back : {X : Type 0} (P : X → Type 0) (xs ys : List X) → All P (xs ++ ys) → All P ys
all-back P [] ys h = h
all-back P (x ∷ xs) ys h = all-back P xs ys (All-tail P x (xs ++ ys) h)

-- the literals in what an aggregate is fed are in UTF-8
abbrev InputUtf8 : Input → Type 0
InputUtf8 (each e) = HasUtf8Literals e
InputUtf8 rows_alone = ⊤

named-utf8 : (name : List ℕ) (e : Expr) → HasUtf8Literals e → InputUtf8 (agg_named name e).input
named-utf8 name (expr.column n) h = tt
named-utf8 name (expr.literal t v) h = tt
named-utf8 name (expr.cast e t) h = tt
named-utf8 name (expr.binary l o r) h = tt
named-utf8 name (expr.ternary p a b) h = tt
named-utf8 name (expr.alias e n) h = tt
named-utf8 name (expr.aggregate a e) h = h
named-utf8 name expr.len h = tt
named-utf8 name (expr.filter e by) h = tt
named-utf8 name (expr.sort e) h = tt

unaliased-utf8 : (e : Expr) → HasUtf8Literals e → HasUtf8Literals (unaliased e)
unaliased-utf8 (expr.column n) h = h
unaliased-utf8 (expr.literal t v) h = h
unaliased-utf8 (expr.cast e t) h = h
unaliased-utf8 (expr.binary l o r) h = h
unaliased-utf8 (expr.ternary p a b) h = h
unaliased-utf8 (expr.alias e n) h = h
unaliased-utf8 (expr.aggregate a e) h = h
unaliased-utf8 expr.len h = h
unaliased-utf8 (expr.filter e by) h = h
unaliased-utf8 (expr.sort e) h = h

input-utf8 : (input : Input) (frame : FrameData) (n : ℕ) → ColumnsHaveUtf8 frame.columns → InputUtf8 input → HasUtf8 (input_value input frame n)
input-utf8 (each e) frame n h l = value-utf8 e frame n h l
input-utf8 rows_alone frame n h l = tt

keys-utf8 : (keys : List Expr) (frame : FrameData) (n : ℕ) → ColumnsHaveUtf8 frame.columns → All HasUtf8Literals keys → All HasUtf8 (map (λ e. value e frame n) keys)
keys-utf8 [] frame n h l = All-nil HasUtf8
keys-utf8 (e ∷ es) frame n h l =
    All-cons HasUtf8 (value e frame n) (map (λ x. value x frame n) es) (value-utf8 e frame n h (All-head HasUtf8Literals e es l)) (keys-utf8 es frame n h (All-tail HasUtf8Literals e es l))

inputs-utf8 : (aggs : List Expr) (frame : FrameData) (n : ℕ) → ColumnsHaveUtf8 frame.columns → All HasUtf8Literals aggs
    → All HasUtf8 (map (λ a. input_value a.input frame n) (map agg_tree aggs))
inputs-utf8 [] frame n h l = All-nil HasUtf8
inputs-utf8 (e ∷ es) frame n h l =
    let literals : InputUtf8 (agg_tree e).input = named-utf8 (name_of e) (unaliased e) (unaliased-utf8 e (All-head HasUtf8Literals e es l)) in
    All-cons HasUtf8 (input_value (agg_tree e).input frame n) (map (λ a. input_value a.input frame n) (map agg_tree es))
    (input-utf8 (agg_tree e).input frame n h literals) (inputs-utf8 es frame n h (All-tail HasUtf8Literals e es l))

-- ---- rows

row-typed : (q : Query) (i : ℕ) (frame : FrameData) (n : ℕ) → IsSound q → FitsSchema q.schema frame → HoldsTypes frame → IsRowOf (query_tree q) (row_of (query_tree q) i frame n)
row-typed q i frame n sound are hold =
    let groupable : IsGroupable (query_tree q) = groupable_of q sound in
    record {
      key = record {
        fit = keys-fit q.schema (key_exprs q) frame n are hold groupable.keys;
        utf8 = keys-utf8 (key_exprs q) frame n hold.utf8 (all-front HasUtf8Literals (key_exprs q) (agg_exprs q) sound.texts);
      };
      inputs = record {
        fit = inputs-fit q.schema (query_tree q).aggs frame n are hold groupable.inputs;
        utf8 = inputs-utf8 (agg_exprs q) frame n hold.utf8 (all-back HasUtf8Literals (key_exprs q) (agg_exprs q) sound.texts);
      };
    }

-- those of a chunk
pub chunk-typed : (q : Query) (i : ℕ) (frame : FrameData) → IsSound q → FitsSchema q.schema frame → HoldsTypes frame → All (IsRowOf (query_tree q)) (chunk_rows (query_tree q) i frame)
chunk-typed q i frame sound are hold =
    All-map (IsRowOf (query_tree q)) (λ (n : ℕ). row_of (query_tree q) i frame n) (range_with_len 0 frame.height)
    (λ k d l. row-typed q i frame (get_or (range_with_len 0 frame.height) k d) sound are hold)

-- those of chunks
pub rows-typed : (q : Query) (i : ℕ) (chunks : List DataChunk) → IsSound q → All (λ c. FitsSchema q.schema c.frame) chunks → All (λ c. HoldsTypes c.frame) chunks
    → All (IsRowOf (query_tree q)) (rows_from (query_tree q) i chunks)
rows-typed q i [] sound are hold = All-nil (IsRowOf (query_tree q))
rows-typed q i (c ∷ cs) sound are hold =
    All-append (IsRowOf (query_tree q)) (chunk_rows (query_tree q) i c.frame) (rows_from (query_tree q) (i + 1) cs)
    (chunk-typed q i c.frame sound (All-head (λ x. FitsSchema q.schema x.frame) c cs are) (All-head (λ x. HoldsTypes x.frame) c cs hold))
    (rows-typed q (i + 1) cs sound (All-tail (λ x. FitsSchema q.schema x.frame) c cs are) (All-tail (λ x. HoldsTypes x.frame) c cs hold))

-- ---- running aggregates take them

pub taken : (schema : List Field) (aggs : List AggTree) (values : List AnyValue) → AllZip (λ t v. fits v t ≡ true) (map (λ a. input_type schema a.input) aggs) values
    → AreTaken (map (λ a. function_for a.kind (input_type schema a.input)) aggs) values
taken schema [] [] h = tt
taken schema [] (v ∷ vs) h = absurd h
taken schema (a ∷ others) [] h = absurd h
taken schema (a ∷ others) (v ∷ vs) h = (takes-for a.kind (input_type schema a.input) v h.0, taken schema others vs h.1)
