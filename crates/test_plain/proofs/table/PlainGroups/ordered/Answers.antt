use Rattle.std.proofs.Common.{◌≡◌, ◌∙◌, Bool, true, false, List, map, sym, ap, subst}
use Rattle.std.specs.List.{All}
use Rattle.std.specs.Ordering.{nat_cmp}
use Rattle.std.proofs.lemmas.Result.{IfOk-weaker}
use Rattle.pipe_columns.specs.Key.{partition}
use Rattle.pipe_columns.specs.declared.data_type.DataType.{DataType}
use Rattle.pipe_spill.specs.KeyTypes.{AreOfTypes}
use Rattle.pipe_aggs.specs.declared.query.Query.{Query}
use Rattle.pipe_model.specs.Output.{key_types}
use Rattle.pipe_model.specs.Query.{QueryTree}
use Rattle.pipe_aggs.specs.QueryTrees.{query_tree}
use Rattle.test_plain.specs.declared.groups.Group.{Group}
use Rattle.pipe_columns.specs.StableSort.{IsSortedStably}
use Rattle.test_plain.specs.Running.{group_seen}
use Rattle.test_plain.specs.Taken.{PlainRun}
use Rattle.test_plain.proofs.AnswerFacts.{table_by_key, table_by_place, table_by_partition}
use Rattle.test_plain.proofs.FitFacts.{table-typed}
use Rattle.test_plain.proofs.TakenFacts.{taken_as}
use Rattle.test_plain.proofs.table.PlainGroups.ordered.Goals as goal

-- whether the query that is lent keeps order
kept_as : (q lent : Query) (b : Bool) → lent ≡ q → lent.maintain_order ≡ b → (query_tree q).keeps_order ≡ b
kept_as q lent b same e = sym (ap (λ (x : Query). x.maintain_order) same) ∙ e

pub returns-then-query : goal.returns-then-query
returns-then-query c =
    let run : PlainRun = c.args.self in
    let before : List Group = c.self.inside.groups.items in
    let asked : c.self.inside.query.now ≡ run.query = ap (λ (r : PlainRun). r.query) c.self.view_is in
    let has = taken_as _ run (map group_seen before) c.self.view_is c.self.invariant in
    IfOk-weaker c.by_first_row.result _ _
    (λ after s. table_by_place (query_tree run.query) run.taken c.args.partitions before after.items (kept_as run.query c.query.result.now true (c.query.ensures.query ∙ asked) c.if-query.true) has.rows s) c.by_first_row.ensures

pub returns-then-partitions-eq1 : goal.returns-then-partitions-eq1
returns-then-partitions-eq1 c =
    let run : PlainRun = c.args.self in
    let before : List Group = c.self.inside.groups.items in
    let asked : c.self.inside.query.now ≡ run.query = ap (λ (r : PlainRun). r.query) c.self.view_is in
    let has = taken_as _ run (map group_seen before) c.self.view_is c.self.invariant in
    rw c.if-partitions-eq1.true (table_by_key (query_tree run.query) run.taken before (kept_as run.query c.query.result.now false (c.query.ensures.query ∙ asked) c.if-query.false) has.rows)

pub by_partition-requires-clause-typed : goal.by_partition-requires-clause-typed
by_partition-requires-clause-typed c =
    let q : QueryTree = query_tree c.self.inside.query.now in
    let T : List DataType → Type 0 = λ ts. All (λ g. AreOfTypes ts g.key.items) c.self.inside.groups.items in
    subst T (sym c.key_types.ensures) (table-typed q (map (λ s. s.value) c.self.inside.taken.items) c.self.inside.groups.items c.query.ensures.groupable c.self.invariant.chunks c.self.invariant.chunks.typed c.self.invariant.rows)

pub returns : goal.returns
returns c =
    let run : PlainRun = c.args.self in
    let before : List Group = c.self.inside.groups.items in
    let asked : c.self.inside.query.now ≡ run.query = ap (λ (r : PlainRun). r.query) c.self.view_is in
    let has = taken_as _ run (map group_seen before) c.self.view_is c.self.invariant in
    let types : c.key_types.result.now ≡ key_types (query_tree run.query) = c.key_types.ensures ∙ ap (λ (x : Query). key_types (query_tree x)) asked in
    IfOk-weaker c.by_partition.result _ _
    (λ after s. table_by_partition (query_tree run.query) run.taken c.args.partitions before after.items (kept_as run.query c.query.result.now false (c.query.ensures.query ∙ asked) c.if-query.false) has.rows
    (subst (λ (ts : List DataType). IsSortedStably (λ (g : Group). partition c.args.partitions ts g.key.items) nat_cmp before after.items) types s)) c.by_partition.ensures
