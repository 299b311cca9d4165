-- A query without fault has none over the columns that it names.
use Rattle.std.proofs.Common.{◌≡◌, ◌∙◌, ◌&&◌, ◌||◌, ◌++◌, ℕ, Bool, true, false, List, [], ◌∷◌, refl, sym, ap, None}
use Rattle.std.specs.Prelude.{is_some}
use Rattle.std.specs.List.{list_all, list_any}
use Rattle.std.specs.Str.{bytes_eq}
use Rattle.std.proofs.lemmas.Bool.{and_from, and_parts, or_parts}
use Rattle.std.proofs.lemmas.List.Folds.{list_all-append}
use Rattle.std.proofs.lemmas.Option.{none-some}
use Rattle.pipe_columns.specs.declared.schema.Field.{Field}
use Rattle.pipe_columns.specs.DataType.{is_date, is_input}
use Rattle.pipe_aggs.specs.declared.query.Query.{Query}
use Rattle.pipe_aggs.specs.CheckedQuery.{HasShape, IsSound}
use Rattle.pipe_aggs.specs.Faults.{adds, adds_dates, field_names, first_fault, has_double, is_negative_slice, is_typed}
use Rattle.pipe_aggs.specs.QueryTrees.{agg_exprs, key_exprs, query_tree}
use Rattle.pipe_aggs.proofs.CheckedFacts.{shape_of, sound_of}
use Rattle.pipe_aggs.proofs.FaultFacts.{double_output, negative_slice, no_fault}
use Rattle.pipe_exprs.specs.Literals.{HaveUtf8Literals}
use Rattle.pipe_model.specs.Convertible.{convertible, is_kept, keeps, unaliased}
use Rattle.pipe_model.specs.Expr.{Expr}
use Rattle.pipe_model.specs.Expr as expr
use Rattle.pipe_model.specs.Output.{output_schema}
use Rattle.pipe_model.specs.Typing.{is_row_wise, knows_columns, type_of}
use Rattle.narrow_columns.specs.Wanted.{chosen}
use Rattle.narrow_query.specs.Names.{has_named, named_fields}
use Rattle.narrow_query.specs.Narrowed.{narrowed_query}
use Rattle.narrow_query.proofs.AnswerFacts.{output-same}
use Rattle.narrow_query.proofs.ExprFacts.{known-same, knows-same, type-same}
use Rattle.narrow_query.proofs.TreeNames.{arena-covers, trees-named, unaliased-named}

-- a test that none of a list meets, none of the wanted ones meets
none-chosen : (test : List ℕ → Bool) (ws : List Bool) (fs : List Field) → list_any test (field_names fs) ≡ false → list_any test (field_names (chosen ws fs)) ≡ false
none-chosen test [] fs h = h
none-chosen test (w ∷ ws) [] h = h
none-chosen test (true ∷ ws) (f ∷ fs) h =
    let both = or_parts (test f.name) (list_any test (field_names fs)) h in
    rw (both.0) (none-chosen test ws fs both.1)
none-chosen test (false ∷ ws) (f ∷ fs) h = none-chosen test ws fs (or_parts (test f.name) (list_any test (field_names fs)) h).1

-- the wanted ones of distinct names have distinct names
pub distinct-chosen : (ws : List Bool) (fs : List Field) → has_double (field_names fs) ≡ false → has_double (field_names (chosen ws fs)) ≡ false
distinct-chosen [] fs h = h
distinct-chosen (w ∷ ws) [] h = h
distinct-chosen (true ∷ ws) (f ∷ fs) h =
    let both = or_parts (list_any (λ m. bytes_eq m f.name) (field_names fs)) (has_double (field_names fs)) h in
    let here = none-chosen (λ m. bytes_eq m f.name) ws fs both.0 in
    rw here (distinct-chosen ws fs both.1)
distinct-chosen (false ∷ ws) (f ∷ fs) h = distinct-chosen ws fs (or_parts (list_any (λ m. bytes_eq m f.name) (field_names fs)) (has_double (field_names fs)) h).1

-- what holds of all holds of the wanted ones
all-chosen : (test : Field → Bool) (ws : List Bool) (fs : List Field) → list_all test fs ≡ true → list_all test (chosen ws fs) ≡ true
all-chosen test [] fs h = h
all-chosen test (w ∷ ws) [] h = h
all-chosen test (true ∷ ws) (f ∷ fs) h =
    let both = and_parts (test f) (list_all test fs) h in
    and_from (test f) (list_all test (chosen ws fs)) both.0 (all-chosen test ws fs both.1)
all-chosen test (false ∷ ws) (f ∷ fs) h = all-chosen test ws fs (and_parts (test f) (list_all test fs) h).1

-- tests that agree where another holds
all-where : {X : Type 0} (test f g : X → Bool) → ((x : X) → test x ≡ true → f x ≡ g x) → (xs : List X) → list_all test xs ≡ true → list_all f xs ≡ list_all g xs
all-where test f g same [] h = refl
all-where test f g same (x ∷ xs) h =
    let both = and_parts (test x) (list_all test xs) h in
    let one = same x both.0 in
    let rest = all-where test f g same xs both.1 in
    λ i. one i && rest i

any-where : {X : Type 0} (test f g : X → Bool) → ((x : X) → test x ≡ true → f x ≡ g x) → (xs : List X) → list_all test xs ≡ true → list_any f xs ≡ list_any g xs
any-where test f g same [] h = refl
any-where test f g same (x ∷ xs) h =
    let both = and_parts (test x) (list_all test xs) h in
    let one = same x both.0 in
    let rest = any-where test f g same xs both.1 in
    λ i. one i || rest i

-- an expression without alias is convertible over both
kept-same : (ws : List Bool) (schema : List Field) (e : Expr) → has_named ws schema e ≡ true → is_kept e (chosen ws schema) ≡ is_kept e schema
kept-same ws schema (expr.column n) h = refl
kept-same ws schema (expr.literal t v) h = refl
kept-same ws schema (expr.cast e t) h = refl
kept-same ws schema (expr.binary l o r) h = refl
kept-same ws schema (expr.ternary p t f) h = refl
kept-same ws schema (expr.alias e n) h = refl
kept-same ws schema (expr.aggregate a e) h = ap (λ t. is_row_wise e && keeps a t) (type-same ws schema e h)
kept-same ws schema expr.len h = refl
kept-same ws schema (expr.filter e by) h = refl
kept-same ws schema (expr.sort e) h = refl

-- it adds dates up over both
dates-same : (ws : List Bool) (schema : List Field) (e : Expr) → has_named ws schema e ≡ true → adds_dates (chosen ws schema) e ≡ adds_dates schema e
dates-same ws schema (expr.column n) h = refl
dates-same ws schema (expr.literal t v) h = refl
dates-same ws schema (expr.cast e t) h = refl
dates-same ws schema (expr.binary l o r) h = refl
dates-same ws schema (expr.ternary p t f) h = refl
dates-same ws schema (expr.alias e n) h = refl
dates-same ws schema (expr.aggregate a e) h = ap (λ t. adds a && is_date t) (known-same ws schema e h)
dates-same ws schema expr.len h = refl
dates-same ws schema (expr.filter e by) h = refl
dates-same ws schema (expr.sort e) h = refl

-- the fields that a query's arena names
abbrev wanted : Query → List Bool
wanted q = named_fields q.arena q.schema

-- its keys and aggregates name no others
keys-named : (q : Query) → list_all (has_named (wanted q) q.schema) (key_exprs q) ≡ true
keys-named q = trees-named q.arena q.keys.items q.schema q.schema refl

aggs-named : (q : Query) → list_all (has_named (wanted q) q.schema) (agg_exprs q) ≡ true
aggs-named q = trees-named q.arena q.aggs.items q.schema q.schema refl

all-named : (q : Query) → list_all (has_named (wanted q) q.schema) (key_exprs q ++ agg_exprs q) ≡ true
all-named q = list_all-append (has_named (wanted q) q.schema) (key_exprs q) (agg_exprs q) ∙ rw (keys-named q, aggs-named q) refl

-- the narrowed query has names, keys and nodes
narrowed-shape : (q : Query) → HasShape q → HasShape (narrowed_query (wanted q) q)
narrowed-shape q s = record { distinct = distinct-chosen (wanted q) q.schema s.distinct; keyed = s.keyed; there = s.there }

-- it has types
narrowed-typed : (q : Query) → is_typed q ≡ true → is_typed (narrowed_query (wanted q) q) ≡ true
narrowed-typed q h =
    let es : List Expr = key_exprs q ++ agg_exprs q in
    let both = and_parts (list_all (λ f. is_input f.dtype) q.schema) (list_all (λ e. is_some (type_of e q.schema)) es) h in
    and_from (list_all (λ f. is_input f.dtype) (chosen (wanted q) q.schema)) (list_all (λ e. is_some (type_of e (chosen (wanted q) q.schema))) es)
    (all-chosen (λ f. is_input f.dtype) (wanted q) q.schema both.0)
    (all-where (has_named (wanted q) q.schema) (λ e. is_some (type_of e (chosen (wanted q) q.schema))) (λ e. is_some (type_of e q.schema)) (λ e k. ap (λ t. is_some t) (type-same (wanted q) q.schema e k)) es (all-named q) ∙ both.1)

-- its expressions are sound
narrowed-sound : (q : Query) → IsSound q → IsSound (narrowed_query (wanted q) q)
narrowed-sound q s = record {
  known = all-where (has_named (wanted q) q.schema) (λ e. knows_columns e (chosen (wanted q) q.schema)) (λ e. knows_columns e q.schema) (knows-same (wanted q) q.schema) (key_exprs q ++ agg_exprs q) (all-named q) ∙ s.known;
  typed = narrowed-typed q s.typed;
  row_wise = s.row_wise;
  kept = all-where (has_named (wanted q) q.schema) (λ e. convertible e (chosen (wanted q) q.schema)) (λ e. convertible e q.schema) (λ e k. kept-same (wanted q) q.schema (unaliased e) (unaliased-named (wanted q) q.schema e k)) (agg_exprs q) (aggs-named q) ∙ s.kept;
  dateless = any-where (has_named (wanted q) q.schema) (λ e. adds_dates (chosen (wanted q) q.schema) (unaliased e)) (λ e. adds_dates q.schema (unaliased e)) (λ e k. dates-same (wanted q) q.schema (unaliased e) (unaliased-named (wanted q) q.schema e k)) (agg_exprs q) (aggs-named q) ∙ s.dateless;
  texts = s.texts;
}

not_true : (b : Bool) → (b ≡ true → ⊥) → b ≡ false
not_true true h = absurd (h refl)
not_true false h = refl

-- a query without fault has none over the columns that it names
pub narrowed-faultless : (q : Query) → HaveUtf8Literals q.arena → first_fault q ≡ None → first_fault (narrowed_query (wanted q) q) ≡ None
narrowed-faultless q u h =
    let shape = shape_of q h in
    let sound = sound_of q u h in
    let output : has_double (field_names (output_schema (query_tree q))) ≡ false = not_true (has_double (field_names (output_schema (query_tree q)))) (λ t. none-some _ (sym h ∙ double_output q shape sound t)) in
    let slice : is_negative_slice q.slice ≡ false = not_true (is_negative_slice q.slice) (λ t. none-some _ (sym h ∙ negative_slice q shape sound output t)) in
    no_fault (narrowed_query (wanted q) q) (narrowed-shape q shape) (narrowed-sound q sound)
    (ap (λ fs. has_double (field_names fs)) (output-same (wanted q) (query_tree q) (arena-covers q)) ∙ output) slice
