use Rattle.std.proofs.Common.{◌≡◌, ◌∙◌, ◌+◌, ℕ, ap, arith, length, subst, sym}
use Rattle.pipe_aggs.specs.QueryTrees.{query_tree}
use Rattle.pipe_groups.specs.Shape.{Shape, shape_of}
use Rattle.pipe_keyed.specs.Tables.{Table}
use Rattle.pipe_spill.specs.SpillRow.{AreRows}
use Rattle.pipe_tables.proofs.FewerFacts.{fewer}
use Rattle.pipe_waiting.specs.Waiting.{AreWaiting, HaveNoTexts, waiting_rows}
use Rattle.merge_times.proofs.rounds.both_times.Goals as goal

pub put_all_lent-requires-clause-few : goal.put_all_lent-requires-clause-few
put_all_lent-requires-clause-few g c =
    let old : Table = c.args.table.now in
    let n : ℕ = length c.args.rows.now in
    fewer old.shape old.groups (n + n + n) n (omega arith) c.requires.few

pub lent_time-requires-clause-few : goal.lent_time-requires-clause-few
lent_time-requires-clause-few g c =
    let old : Table = c.args.table.now in
    let n : ℕ = length c.args.rows.now in
    c.in_ok-put_all_lent.ensures.few n (fewer old.shape old.groups (n + n + n) (n + n) (omega arith) c.requires.few)

pub waiting_time-requires-clause-held : goal.waiting_time-requires-clause-held
waiting_time-requires-clause-held g c =
    let shape : c.lent_time.new.table.shape ≡ shape_of (query_tree c.args.query.now) = c.in_ok-lent.ensures.shape ∙ c.in_ok-put_all_lent.ensures.shape ∙ c.requires.shape in
    subst (λ (s : Shape). AreWaiting s.input_types c.args.waiting.now) (sym shape) c.requires.held

pub waiting_time-requires-clause-plain : goal.waiting_time-requires-clause-plain
waiting_time-requires-clause-plain g c =
    let shape : c.lent_time.new.table.shape ≡ shape_of (query_tree c.args.query.now) = c.in_ok-lent.ensures.shape ∙ c.in_ok-put_all_lent.ensures.shape ∙ c.requires.shape in
    subst (λ (s : Shape). HaveNoTexts s.input_types) (sym shape) c.requires.plain

pub waiting_time-requires-clause-fit : goal.waiting_time-requires-clause-fit
waiting_time-requires-clause-fit g c =
    let shape : c.lent_time.new.table.shape ≡ shape_of (query_tree c.args.query.now) = c.in_ok-lent.ensures.shape ∙ c.in_ok-put_all_lent.ensures.shape ∙ c.requires.shape in
    c.requires.fit ∙ ap (λ (s : Shape). length s.input_types) (sym shape)

pub waiting_time-requires-clause-typed : goal.waiting_time-requires-clause-typed
waiting_time-requires-clause-typed g c =
    let shape : c.lent_time.new.table.shape ≡ shape_of (query_tree c.args.query.now) = c.in_ok-lent.ensures.shape ∙ c.in_ok-put_all_lent.ensures.shape ∙ c.requires.shape in
    subst (λ (s : Shape). AreRows s.key_types s.input_types (waiting_rows s.input_types c.args.waiting.now)) (sym shape) c.requires.wait

pub waiting_time-requires-clause-few : goal.waiting_time-requires-clause-few
waiting_time-requires-clause-few g c =
    let n : ℕ = length c.args.rows.now in
    rw c.requires.count (c.in_ok-lent.ensures.few n (c.in_ok-put_all_lent.ensures.few (n + n) c.requires.few))
