-- Where workers stand: what their run gives, and that the events made are fronts of their plans.
use Rattle.std.proofs.Common.{◌≡◌, ◌∙◌, ◌+◌, ◌≤◌, ◌<◌, ℕ, true, List, ◌++◌, length, drop, refl, sym, ap, arith, length-append, append_assoc}
use Rattle.std.specs.List.{All}
use Rattle.std.proofs.lemmas.List.{take-append-drop}
use Rattle.std.proofs.lemmas.List.Elements.{All-filter, filter-append}
use Rattle.std.proofs.lemmas.Option.{slice_get_within}
use Rattle.pipe_columns.specs.Row.{Row}
use Rattle.pipe_aggs.specs.CheckedQuery.{input_types}
use Rattle.pipe_model.specs.Output.{key_types}
use Rattle.pipe_plan.specs.declared.event.PartitionEvent.{PartitionEvent}
use Rattle.pipe_plan.specs.Plan.{events_before, plan}
use Rattle.pipe_plan.specs.Progress.{events_made, rows_before, sent_of}
use Rattle.pipe_plan.specs.Overflow.{overflows}
use Rattle.pipe_plan.specs.Rounds.{GoesOn, IsFront, run_until}
use Rattle.pipe_plan.specs.Run.{all_rows, is_generic, is_turn_of, of_worker, Run, Spills}
use Rattle.pipe_plan.proofs.AtEnd.{made-turn}
use Rattle.pipe_plan.proofs.Cutting.{div-mono}
use Rattle.pipe_plan.proofs.Fronts.{plan-on, plan-until}
use Rattle.pipe_plan.proofs.Reaching.{worker-yes}
use Rattle.pipe_spill.specs.SpillRow.{HasValues}
use Rattle.pipe_groups.specs.Shape.{IsShape, shape_of}
use Rattle.pipe_global.specs.Shares.{share_of, SharesSeen}
use Rattle.pipe_workers.specs.Steps.{AreRowsOfTurn}
use Rattle.pipe_workers.specs.Turns.{AreFronts, AreSharesBefore}
use Rattle.pipe_workers.specs.Workers.{TakesTurns}

-- ---- the run

-- its workers send what they don't keep
pub spills : (r : Run) → TakesTurns r → Spills r
spills r takes = record { limits = takes.runnable.limits; generic = takes.generic }

-- its tables have the shape of its query
pub has-shape : (r : Run) → TakesTurns r → IsShape (shape_of r.query)
has-shape r takes = record { query = r.query; of_query = refl; groupable = takes.runnable.query }

-- a worker's rows are of its types
pub worker-typed : (r : Run) (w : ℕ) → TakesTurns r → All (HasValues (key_types r.query) (input_types r.query)) (of_worker r w)
worker-typed r w takes =
    All-filter (λ x. is_turn_of r w x.place.chunk) (HasValues (key_types r.query) (input_types r.query)) (all_rows r) takes.runnable.typed

-- ---- fronts

-- a run goes on from its first chunks
pub until-goes : (r : Run) (n : ℕ) → GoesOn (run_until r n) r
until-goes r n = record { more = drop n r.chunks; chunks = sym (take-append-drop n r.chunks); query = refl; limits = refl; actions = refl; rules = refl }

-- the events of turns are no more than the plan's
pub events-few : (r : Run) (w p n : ℕ) → is_generic r.limits.sink ≡ true → n ≤ length r.chunks → length (events_before r w p n) ≤ length (plan r w p)
events-few r w p n generic le =
    let front : IsFront (plan (run_until r n) w p) (plan r w p) = plan-on (run_until r n) r (until-goes r n) w p refl in
    let own : length (plan (run_until r n) w p) ≡ length (events_before r w p n) = ap (λ (l : List PartitionEvent). length l) (plan-until r w p n generic le) in
    let all : length (plan r w p) ≡ length (plan (run_until r n) w p ++ front.rest) = ap (λ (l : List PartitionEvent). length l) front.is in
    omega (arith, own, all, length-append (plan (run_until r n) w p) front.rest)

-- with more rows no fewer events are made
made-grows : (r : Run) (w p i : ℕ) (taken back : List Row) → 0 < r.limits.buffer_size → events_made r w p i taken ≤ events_made r w p i (taken ++ back)
made-grows r w p i taken back some =
    let both : length (sent_of r w p (taken ++ back)) ≡ length (sent_of r w p taken) + length (sent_of r w p back) =
    ap (λ (l : List Row). length l) (filter-append (overflows r w p) taken back) ∙ length-append (sent_of r w p taken) (sent_of r w p back) in
    omega (arith, div-mono (length (sent_of r w p taken)) (length (sent_of r w p (taken ++ back))) r.limits.buffer_size some (omega (arith, both)))

-- the events made within a turn are no more than the plan's
pub made-few : (r : Run) (w p i : ℕ) (taken back : List Row) → TakesTurns r → i < length r.chunks → is_turn_of r w i ≡ true → rows_before r w (i + 1) ≡ taken ++ back
    → events_made r w p i taken ≤ length (plan r w p)
made-few r w p i taken back takes lt turn is =
    let grows = made-grows r w p i taken back takes.runnable.limits.buffer in
    let whole : events_made r w p i (taken ++ back) ≡ events_made r w p i (rows_before r w (i + 1)) = ap (λ (l : List Row). events_made r w p i l) (sym is) in
    omega (arith, grows, whole, made-turn r w p i lt turn, events-few r w p (i + 1) takes.generic (omega arith))

-- shares before a position count fronts
pub before-fronts : (r : Run) (w n : ℕ) (s : SharesSeen) → TakesTurns r → n ≤ length r.chunks → AreSharesBefore r w n s → AreFronts r w s
before-fronts r w n s takes le at = record {
  worker = at.worker;
  events = λ p lt. omega (arith, at.events p lt, events-few r w p n takes.generic le);
}

-- ---- a turn

-- it has a position
pub turn-within : (r : Run) (w i : ℕ) (rows : List Row) → AreRowsOfTurn r w i rows → i < length r.chunks
turn-within r w i rows turn = slice_get_within r.chunks i turn.chunk turn.at

-- with all its rows the worker has taken those before the next position
pub turn-rows : (r : Run) (w i : ℕ) (rows : List Row) → AreRowsOfTurn r w i rows → rows_before r w (i + 1) ≡ rows_before r w i ++ rows
turn-rows r w i rows turn = worker-yes r w i turn.chunk turn.at turn.turn ∙ ap (λ (l : List Row). rows_before r w i ++ l) (sym turn.rows_are)

-- within a turn the shares count fronts
pub turn-fronts : (r : Run) (w i : ℕ) (rows front back : List Row) (s : SharesSeen) → TakesTurns r → AreRowsOfTurn r w i rows → rows ≡ front ++ back
    → s.worker ≡ w → ((p : ℕ) → p < r.limits.partitions → share_of s p ≡ events_made r w p i (rows_before r w i ++ front)) → AreFronts r w s
turn-fronts r w i rows front back s takes turn is worker events = record {
  worker = worker;
  events = λ p lt.
      let all : rows_before r w (i + 1) ≡ (rows_before r w i ++ front) ++ back =
      turn-rows r w i rows turn ∙ ap (λ (l : List Row). rows_before r w i ++ l) is ∙ sym (append_assoc (rows_before r w i) front back) in
      omega (arith, events p lt, made-few r w p i (rows_before r w i ++ front) back takes (turn-within r w i rows turn) turn.turn all);
}
