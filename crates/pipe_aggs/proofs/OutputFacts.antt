-- The output columns, put together from those of each key and each aggregate.
use Rattle.std.proofs.Common.{◌≡◌, ◌++◌, ◌∙◌, List, [], ◌∷◌, ℕ, refl, ap, sym}
use Rattle.std.specs.Prelude.{Option, map}
use Rattle.std.specs.List.{flat_map}
use Rattle.pipe_columns.specs.declared.data_type.DataType.{DataType}
use Rattle.pipe_columns.specs.declared.schema.Field.{Field}
use Rattle.pipe_exprs.specs.declared.expression.AExpr.{AExpr}
use Rattle.pipe_aggs.specs.declared.query.Query.{Query}
use Rattle.pipe_model.specs.Convertible.{unaliased}
use Rattle.pipe_model.specs.Expr.{Expr, name_of}
use Rattle.pipe_aggs.specs.KnownArena.{agg_columns, key_field, kind_by, KnownArena}
use Rattle.pipe_exprs.specs.Nodes.{tree_if}
use Rattle.pipe_model.specs.Output.{agg_fields, input_type, output_schema}
use Rattle.pipe_model.specs.WrittenTree.{agg_named, agg_tree}
use Rattle.pipe_aggs.specs.QueryTrees.{query_tree}
use Rattle.pipe_exprs.specs.Trees.{tree}
use Rattle.pipe_aggs.proofs.KnownFacts.{agg_named_so, kind_is}

-- the columns of an aggregate, by its name, its expression and the type of what it is fed
pub columns_are : (schema : List Field) (ts : List Expr) (t : Expr) (o : Option AExpr) (name : List ℕ) (fed : DataType)
    → tree_if ts o ≡ unaliased t → name ≡ name_of t → fed ≡ input_type schema (agg_tree t).input
    → agg_fields name (kind_by o) fed ≡ agg_columns schema t
columns_are schema ts t o name fed here named is =
    let same : name ≡ (agg_tree t).name =
    named ∙ sym (agg_named_so ts (name_of t) o) ∙ ap (λ e. (agg_named (name_of t) e).name) here in
    let kind : kind_by o ≡ (agg_tree t).kind = kind_is ts (name_of t) o ∙ ap (λ e. (agg_named (name_of t) e).kind) here in
    ap (λ n. agg_fields n (kind_by o) fed) same
    ∙ ap (λ k. agg_fields (agg_tree t).name k fed) kind
    ∙ ap (λ d. agg_fields (agg_tree t).name (agg_tree t).kind d) is

pub map-map : {X Y Z : Type 0} (f : Y → Z) (g : X → Y) (xs : List X) → map f (map g xs) ≡ map (λ x. f (g x)) xs
map-map f g [] = refl
map-map f g (x ∷ xs) = ap (λ zs. f (g x) ∷ zs) (map-map f g xs)

flat_map-map : {X Y Z : Type 0} (f : Y → List Z) (g : X → Y) (xs : List X) → flat_map f (map g xs) ≡ flat_map (λ x. f (g x)) xs
flat_map-map f g [] = refl
flat_map-map f g (x ∷ xs) = ap (λ zs. f (g x) ++ zs) (flat_map-map f g xs)

-- the columns of each key and each aggregate are the output schema
pub output_is : (q : Query) (k : KnownArena) → k ≡ record { exprs = q.arena; fields = q.schema }
    → map (λ n. key_field k.fields (tree k.exprs n)) q.keys.items ++ flat_map (λ n. agg_columns k.fields (tree k.exprs n)) q.aggs.items
    ≡ output_schema (query_tree q)
output_is q k same =
    let keys = map-map (key_field q.schema) (tree q.arena) q.keys.items in
    let trees = flat_map-map (agg_columns q.schema) (tree q.arena) q.aggs.items in
    let aggs = flat_map-map (λ a. agg_fields a.name a.kind (input_type q.schema a.input)) agg_tree (map (tree q.arena) q.aggs.items) in
    rw same (ap (λ ks. ks ++ flat_map (λ n. agg_columns q.schema (tree q.arena n)) q.aggs.items) (sym keys)
    ∙ ap (λ cs. map (key_field q.schema) (map (tree q.arena) q.keys.items) ++ cs) (sym (aggs ∙ trees)))
