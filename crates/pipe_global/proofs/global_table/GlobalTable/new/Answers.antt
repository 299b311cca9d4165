use Rattle.std.proofs.Common.{◌∙◌, ◌≤◌, sym, subst, vec_capacity}
use Rattle.std.specs.List.{All}
use Rattle.pipe_aggs.specs.QueryTrees.{query_tree}
use Rattle.pipe_model.specs.Query.{QueryTree}
use Rattle.pipe_global.specs.Opening.{AreUnused, IsEmptyPlace}
use Rattle.pipe_global.proofs.global_table.GlobalTable.new.Goals as goal

pub locks_of-partitions-requires-clause-each : goal.locks_of-partitions-requires-clause-each
locks_of-partitions-requires-clause-each g c =
    subst (λ (q : QueryTree). All (IsEmptyPlace q g.R.Naming.run.limits.workers) c.in-Ok-places_of.places.items) (sym c.requires.query)
    (subst (λ n. All (IsEmptyPlace (query_tree c.args.query.now) n) c.in-Ok-places_of.places.items) (sym c.requires.numbers.0) c.in-Ok-places_of.ensures.places)

pub invariant_of-table : goal.invariant_of-table
invariant_of-table g c = (c.locks_of-partitions.ensures ∙ c.requires.count, c.requires.run.limits.partitions)

pub returns-clause-unused : goal.returns-clause-unused
returns-clause-unused g c = subst (λ n. AreUnused n c.in-Ok-shares_of.shares.items) (c.len-partitions.ensures ∙ c.requires.count) c.in-Ok-shares_of.ensures.unused

pub locks_of-partitions-requires-clause-places : goal.locks_of-partitions-requires-clause-places
locks_of-partitions-requires-clause-places g c = c.in-Ok-places_of.ensures.len ∙ c.len-partitions.ensures

pub locks_of-partitions-requires-clause-room : goal.locks_of-partitions-requires-clause-room
locks_of-partitions-requires-clause-room g c =
    (c.in-Ok-room_for.ensures.none, subst (λ n. n ≤ vec_capacity c.in-Ok-room_for.locks) c.len-partitions.ensures c.in-Ok-room_for.ensures.room)

pub returns-clause-len : goal.returns-clause-len
returns-clause-len g c = c.in-Ok-shares_of.ensures.len ∙ sym c.requires.numbers.0
