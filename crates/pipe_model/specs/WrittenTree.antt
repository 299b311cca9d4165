-- The query that a written one is.
use Rattle.std.specs.Prelude.{ℕ, ℤ, pos, negsuc, List, map, option_map}
use Rattle.pipe_model.specs.Kind.{Kind}
use Rattle.pipe_model.specs.Kind as kind
use Rattle.pipe_model.specs.Expr.{Aggregation, Expr, name_of}
use Rattle.pipe_model.specs.Expr as expr
use Rattle.pipe_model.specs.Convertible.{unaliased}
use Rattle.pipe_model.specs.Query.{AggTree, each, QueryTree, rows_alone, WrittenQuery}

-- the kind that an aggregation becomes: `len` where it isn't convertible
abbrev pub kept_kind : Aggregation → Kind
kept_kind expr.sum = kind.sum
kept_kind expr.first = kind.first
kept_kind expr.last = kind.last
kept_kind expr.mean = kind.mean
kept_kind (expr.count include_nulls) = kind.count
kept_kind (expr.min propagate_nans) = kind.min
kept_kind (expr.max propagate_nans) = kind.max
kept_kind expr.median = kind.len
kept_kind expr.n_unique = kind.len

-- the aggregate of a name that an expression without alias is: what is none counts rows
abbrev pub agg_named : List ℕ → Expr → AggTree
agg_named name (expr.aggregate a e) = record { name = name; kind = kept_kind a; input = each e }
agg_named name e = record { name = name; kind = kind.len; input = rows_alone }

-- the aggregate that an expression is
abbrev pub agg_tree : Expr → AggTree
agg_tree e = agg_named (name_of e) (unaliased e)

-- how many groups a slice drops; a negative number drops none
abbrev pub dropped : ℤ → ℕ
dropped (pos n) = n
dropped (negsuc n) = 0

-- the query that a written one is
abbrev pub written_tree : WrittenQuery → QueryTree
written_tree w = record {
  schema = w.schema;
  keys = w.keys;
  aggs = map agg_tree w.aggs;
  slice = option_map (λ s. (dropped s.0, s.1)) w.slice;
  keeps_order = w.keeps_order;
}
