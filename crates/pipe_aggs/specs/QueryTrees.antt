-- The query whose expressions are the trees of an arena's nodes.
use Rattle.std.specs.Prelude.{List, map}
use Rattle.pipe_aggs.specs.declared.query.Query.{Query}
use Rattle.pipe_exprs.specs.Trees.{tree}
use Rattle.pipe_model.specs.Expr.{Expr}
use Rattle.pipe_model.specs.Query.{QueryTree, WrittenQuery}
use Rattle.pipe_model.specs.WrittenTree.{written_tree}

-- the trees of a query's keys
abbrev pub key_exprs : Query → List Expr
key_exprs q = map (tree q.arena) q.keys.items

-- the trees of its aggregates
abbrev pub agg_exprs : Query → List Expr
agg_exprs q = map (tree q.arena) q.aggs.items

-- a query as it is written
abbrev pub written : Query → WrittenQuery
written q = record {
  schema = q.schema;
  keys = key_exprs q;
  aggs = agg_exprs q;
  slice = q.slice;
  keeps_order = q.maintain_order;
}

-- the query with its expressions as trees, and its aggregates by name, kind and input
abbrev pub query_tree : Query → QueryTree
query_tree q = written_tree (written q)
