-- What holds of a query's expressions, node by node.
use Rattle.std.proofs.Common.{◌≡◌, ◌&&◌, ◌||◌, ◌∙◌, Bool, List, [], ◌∷◌, length, map, refl, ap, sym}
use Rattle.std.specs.Prelude.{nat_lt}
use Rattle.std.specs.List.{list_all, list_any}
use Rattle.std.specs.Str.{bytes_eq}
use Rattle.std.proofs.lemmas.List.Folds.{list_all-append, list_all-map}
use Rattle.pipe_columns.specs.declared.schema.Field.{Field}
use Rattle.pipe_aggs.specs.declared.query.Query.{Query}
use Rattle.pipe_aggs.specs.CheckedQuery.{input_types}
use Rattle.pipe_model.specs.Expr.{Expr}
use Rattle.pipe_aggs.specs.Faults.{all_exprs, field_names, has_double, has_nodes}
use Rattle.pipe_aggs.specs.KnownArena.{KnownArena}
use Rattle.pipe_model.specs.Output.{input_type, key_types}
use Rattle.pipe_aggs.specs.QueryTrees.{agg_exprs, key_exprs, query_tree}
use Rattle.pipe_model.specs.WrittenTree.{agg_tree}
use Rattle.pipe_exprs.specs.Trees.{tree}
use Rattle.pipe_model.specs.Typing.{known_type}
use Rattle.pipe_aggs.proofs.OutputFacts.{map-map}

-- a test of all keys and aggregates, node by node
pub all_exprs_are : (q : Query) (test : Expr → Bool) → all_exprs test q
    ≡ (list_all (λ n. test (tree q.arena n)) q.keys.items && list_all (λ n. test (tree q.arena n)) q.aggs.items)
all_exprs_are q test = list_all-append test (key_exprs q) (agg_exprs q)
    ∙ ap (λ b. b && list_all test (agg_exprs q)) (list_all-map test (tree q.arena) q.keys.items)
    ∙ ap (λ b. list_all (λ n. test (tree q.arena n)) q.keys.items && b) (list_all-map test (tree q.arena) q.aggs.items)

-- a test of the keys, and then of the aggregates
pub both_hold : (q : Query) (test : Expr → Bool) (a b : Bool) → a ≡ list_all (λ n. test (tree q.arena n)) q.keys.items
    → b ≡ list_all (λ n. test (tree q.arena n)) q.aggs.items → (a && b) ≡ all_exprs test q
both_hold q test a b keys aggs = rw (keys, aggs) (sym (all_exprs_are q test))

pub key_exprs_are : (q : Query) (test : Expr → Bool) → list_all test (key_exprs q) ≡ list_all (λ n. test (tree q.arena n)) q.keys.items
key_exprs_are q test = list_all-map test (tree q.arena) q.keys.items

pub agg_exprs_are : (q : Query) (test : Expr → Bool) → list_all test (agg_exprs q) ≡ list_all (λ n. test (tree q.arena n)) q.aggs.items
agg_exprs_are q test = list_all-map test (tree q.arena) q.aggs.items

list_any-map : {X Y : Type 0} (p : Y → Bool) (g : X → Y) (xs : List X) → list_any p (map g xs) ≡ list_any (λ x. p (g x)) xs
list_any-map p g [] = refl
list_any-map p g (x ∷ xs) = ap (λ b. p (g x) || b) (list_any-map p g xs)

pub any_agg_is : (q : Query) (test : Expr → Bool) → list_any test (agg_exprs q) ≡ list_any (λ n. test (tree q.arena n)) q.aggs.items
any_agg_is q test = list_any-map test (tree q.arena) q.aggs.items

pub nodes_are : (q : Query) → has_nodes q
    ≡ (list_all (λ n. nat_lt n.0 (length q.arena)) q.keys.items && list_all (λ n. nat_lt n.0 (length q.arena)) q.aggs.items)
nodes_are q = list_all-append (λ n. nat_lt n.0 (length q.arena)) q.keys.items q.aggs.items

-- the types of the keys, and of what the aggregates are fed
pub key_types_are : (q : Query) (k : KnownArena) → k ≡ record { exprs = q.arena; fields = q.schema }
    → map (λ n. known_type (tree k.exprs n) k.fields) q.keys.items ≡ key_types (query_tree q)
key_types_are q k same = rw same (sym (map-map (λ e. known_type e q.schema) (tree q.arena) q.keys.items))

pub input_types_are : (q : Query) (k : KnownArena) → k ≡ record { exprs = q.arena; fields = q.schema }
    → map (λ n. input_type k.fields (agg_tree (tree k.exprs n)).input) q.aggs.items ≡ input_types (query_tree q)
input_types_are q k same =
    let inner = map-map agg_tree (tree q.arena) q.aggs.items in
    let outer = map-map (λ a. input_type q.schema a.input) (λ n. agg_tree (tree q.arena n)) q.aggs.items in
    rw same (sym (ap (λ aggs. map (λ a. input_type q.schema a.input) aggs) inner ∙ outer))

-- a field and the later ones: a name stands twice where a later field has it, or two of those share one
pub doubled_first : (f : Field) (fs : List Field) → has_double (field_names (f ∷ fs))
    ≡ (list_any (λ g. bytes_eq g.name f.name) fs || has_double (field_names fs))
doubled_first f fs = ap (λ b. b || has_double (field_names fs)) (list_any-map (λ m. bytes_eq m f.name) (λ g. g.name) fs)
