use Rattle.std.proofs.Common.{◌≡◌, ◌++◌, [], ◌∷◌, Bool, List, Some, map, rules, true}
use Rattle.std.proofs.lemmas.Bool.{and_parts}
use Rattle.std.proofs.lemmas.List.Folds.{list_all-append}
use Rattle.std.proofs.lemmas.Option.{same_Some}
use Rattle.std.specs.Prelude.{is_some, slice_get}
use Rattle.std.specs.List.{list_all}
use Rattle.pipe_aggs.specs.CheckedQuery.{IsSound}
use Rattle.pipe_aggs.specs.declared.query.Query.{Query}
use Rattle.pipe_aggs.specs.QueryTrees.{agg_exprs, key_exprs}
use Rattle.pipe_columns.specs.declared.schema.Field.{Field}
use Rattle.pipe_exprs.specs.Trees.{tree}
use Rattle.pipe_model.specs.Expr.{Expr}
use Rattle.pipe_model.specs.Typing.{type_of}
use Rattle.pipe_columns.specs.DataType.{is_input}
use Rattle.test_queries.proofs.memory_tests.converted.Goals as goal

-- what holds of all that is made of a list holds of what is made of its first
first_holds : {X Y : Type 0} (test : Y → Bool) (f : X → Y) (xs : List X) (x : X) → slice_get xs 0 ≡ Some x → list_all test (map f xs) ≡ true → test (f x) ≡ true
first_holds test f [] x at h = cc at
first_holds test f (y ∷ xs) x at h =
    let same : y ≡ x = same_Some y x at in
    rw (← same) (and_parts (test (f y)) (list_all test (map f xs)) h).0

pub convert_to_hash_agg-requires-clause-typed : goal.convert_to_hash_agg-requires-clause-typed
convert_to_hash_agg-requires-clause-typed c =
    let q : Query = c.query-query.result.now in
    let has_type : Expr → Bool = λ e. is_some (type_of e q.schema) in
    let sound : IsSound q = rw c.query-query.ensures.query c.query-query.ensures.sound in
    let every : list_all has_type (key_exprs q ++ agg_exprs q) ≡ true = (and_parts (list_all (λ (f : Field). is_input f.dtype) q.schema) (list_all has_type (key_exprs q ++ agg_exprs q)) sound.typed).1 in
    let typed : list_all has_type (agg_exprs q) ≡ true = (and_parts (list_all has_type (key_exprs q)) (list_all has_type (agg_exprs q)) (rw (list_all-append has_type (key_exprs q) (agg_exprs q)) at every)).1 in
    let at : slice_get q.aggs.items 0 ≡ Some c.in-Some.node.now = search rules in
    first_holds has_type (tree q.arena) q.aggs.items c.in-Some.node.now at typed
