-- What holds of the keys and inputs of a query holds of each as it comes.
use Rattle.std.proofs.Common.{◌≡◌, ◌∙◌, ℕ, ◌<◌, zero, suc, Bool, true, List, [], ◌∷◌, length, map, get_or, refl, sym, ap, arith}
use Rattle.std.proofs.lemmas.Bool.{and_parts}
use Rattle.std.proofs.lemmas.Simd.{map-map}
use Rattle.std.specs.List.{list_all}
use Rattle.pipe_columns.specs.declared.schema.Field.{Field}
use Rattle.pipe_columns.specs.Frame.{FrameData}
use Rattle.pipe_exprs.specs.declared.expression.AExpr.{AExpr}
use Rattle.pipe_exprs.specs.declared.expression.Node.{Node}
use Rattle.pipe_exprs.specs.Evaluated.{row_values}
use Rattle.pipe_exprs.specs.Trees.{tree}
use Rattle.pipe_aggs.specs.declared.hash_agg.AggInput.{AggInput}
use Rattle.pipe_aggs.specs.declared.query.Query.{Query}
use Rattle.pipe_model.specs.Groupable.{is_fed, IsGroupable, is_valued}
use Rattle.pipe_aggs.specs.HashAggs.{input_of}
use Rattle.pipe_model.specs.Query.{AggTree}
use Rattle.pipe_aggs.specs.QueryTrees.{query_tree}
use Rattle.pipe_inputs.specs.Cells.{input_values}

-- a test that each element passes
passes_at : {X : Type 0} (test : X → Bool) (xs : List X) (i : ℕ) (d : X) → list_all test xs ≡ true → i < length xs → test (get_or xs i d) ≡ true
passes_at test [] i d h lt = absurd (omega arith)
passes_at test (y ∷ ys) zero d h lt = (and_parts (test y) (list_all test ys) h).0
passes_at test (y ∷ ys) (suc i) d h lt = passes_at test ys i d (and_parts (test y) (list_all test ys) h).1 (omega arith)

-- a test of what a list is mapped to
passes-map : {X Y : Type 0} (test : Y → Bool) (f : X → Y) (xs : List X) → list_all test (map f xs) ≡ list_all (λ x. test (f x)) xs
passes-map test f [] = refl
passes-map test f (x ∷ xs) = rw (passes-map test f xs) refl

-- each key has a value in each row
pub key-valued : (q : Query) (i : ℕ) (d : Node) → IsGroupable (query_tree q) → i < length q.keys.items → is_valued q.schema (tree q.arena (get_or q.keys.items i d)) ≡ true
key-valued q i d g h =
    passes_at (λ n. is_valued q.schema (tree q.arena n)) q.keys.items i d (sym (passes-map (is_valued q.schema) (tree q.arena) q.keys.items) ∙ g.keys) h

-- what each aggregate is fed has values in each row
pub input-fed : (schema : List Field) (exprs : List AExpr) (aggs : List AggTree) (inputs : List AggInput) (i : ℕ) (d : AggInput) → map (input_of exprs) inputs ≡ map (λ a. a.input) aggs
    → list_all (λ a. is_fed schema a.input) aggs ≡ true → i < length inputs → is_fed schema (input_of exprs (get_or inputs i d)) ≡ true
input-fed schema exprs aggs inputs i d e h lt =
    passes_at (λ n. is_fed schema (input_of exprs n)) inputs i d
    (sym (passes-map (is_fed schema) (input_of exprs) inputs) ∙ ap (list_all (is_fed schema)) e ∙ passes-map (is_fed schema) (λ a. a.input) aggs ∙ h) lt

-- the values of what the aggregates are fed
pub inputs_are : (exprs : List AExpr) (frame : FrameData) (aggs : List AggTree) (inputs : List AggInput) → map (input_of exprs) inputs ≡ map (λ a. a.input) aggs
    → map (λ i. input_values (input_of exprs i) frame) inputs ≡ map (λ a. input_values a.input frame) aggs
inputs_are exprs frame aggs inputs e =
    sym (map-map (λ i. input_values i frame) (input_of exprs) inputs) ∙ ap (map (λ i. input_values i frame)) e ∙ map-map (λ i. input_values i frame) (λ a. a.input) aggs

-- the values of the keys
pub keys_are : (q : Query) (frame : FrameData) → map (λ n. row_values (tree q.arena n) frame) q.keys.items ≡ map (λ e. row_values e frame) (query_tree q).keys
keys_are q frame = sym (map-map (λ e. row_values e frame) (tree q.arena) q.keys.items)
