-- A run when its first chunks were fed: what its workers took and sent by then.
use Rattle.std.proofs.Common.{◌≡◌, ℕ, ◌+◌, ◌≤◌, true, false, List, [], ◌∷◌, ◌++◌, length, take, drop, Some, slice_get, ap, sym, ◌∙◌, arith}
use Rattle.std.specs.List.{filter}
use Rattle.std.proofs.lemmas.List.{append-nil, length-take-le, take-append-drop, take_all, take_more}
use Rattle.std.proofs.lemmas.Option.{get_or_from_slice_get, slice_get_within}
use Rattle.pipe_columns.specs.declared.data_chunk.DataChunk.{DataChunk}
use Rattle.pipe_columns.specs.Row.{Row}
use Rattle.pipe_model.specs.Rows.{chunk_rows, rows_from}
use Rattle.pipe_plan.specs.Rounds.{run_until}
use Rattle.pipe_plan.specs.Kept.{is_kept}
use Rattle.pipe_plan.specs.Whole.{kept_rows}
use Rattle.pipe_plan.specs.Overflow.{overflow, overflows}
use Rattle.pipe_plan.specs.Plan.{events_before, picks_before, sent_before}
use Rattle.pipe_plan.specs.Run.{is_turn_of, of_worker, Run}
use Rattle.pipe_plan.proofs.ChunkRows.{chunk_rows-at, each-at}
use Rattle.pipe_plan.proofs.Filtering.{filter-all, filter-none}
use Rattle.pipe_plan.proofs.Longer.{kept-same, longer_run, more_rows, overflow-same, worker-later}
use Rattle.pipe_plan.proofs.Turning.{events-later, picks-later, sent-all, sent-later}

-- a run goes on from what it was before a position
pub until-on : (r : Run) (n : ℕ) → longer_run (run_until r n) r.is_open (drop n r.chunks) r.stores ≡ r
until-on r n = ap (λ (cs : List DataChunk). record r { chunks = cs }) (take-append-drop n r.chunks)

-- it has so many chunks
until-length : (r : Run) (n : ℕ) → n ≤ length r.chunks → length (run_until r n).chunks ≡ n
until-length r n le = length-take-le n r.chunks le

-- the rows that overflow by a position are those that overflow in the whole run
pub overflow-until : (r : Run) (n w p : ℕ) → overflow (run_until r n) w p ≡ filter (overflows r w p) (of_worker (run_until r n) w)
overflow-until r n w p =
    sym (overflow-same (run_until r n) r.is_open (drop n r.chunks) r.stores w p)
    ∙ ap (λ (s : Run). filter (overflows s w p) (of_worker (run_until r n) w)) (until-on r n)

-- and so are those that are kept
pub kept-until : (r : Run) (n w : ℕ) → kept_rows (run_until r n) w ≡ filter (is_kept r w) (of_worker (run_until r n) w)
kept-until r n w =
    sym (kept-same (run_until r n) r.is_open (drop n r.chunks) r.stores w)
    ∙ ap (λ (s : Run). filter (is_kept s w) (of_worker (run_until r n) w)) (until-on r n)

-- and those that overflow are counted by position
pub sent-until : (r : Run) (n w p : ℕ) → n ≤ length r.chunks → sent_before r w p n ≡ length (overflow (run_until r n) w p)
sent-until r n w p le =
    let size = until-length r n le in
    ap (λ (s : Run). sent_before s w p n) (sym (until-on r n))
    ∙ sent-later (run_until r n) r.is_open (drop n r.chunks) r.stores w p n (omega (arith, size))
    ∙ ap (λ k. sent_before (run_until r n) w p k) (sym size)
    ∙ sent-all (run_until r n) w p

-- the events of the turns by then are those in the whole run
pub events-until : (r : Run) (n w p : ℕ) → n ≤ length r.chunks → events_before (run_until r n) w p n ≡ events_before r w p n
events-until r n w p le =
    sym (events-later (run_until r n) r.is_open (drop n r.chunks) r.stores w p n (omega (arith, until-length r n le)))
    ∙ ap (λ (s : Run). events_before s w p n) (until-on r n)

-- and so are the picks
pub picks-until : (r : Run) (n w : ℕ) → n ≤ length r.chunks → picks_before (run_until r n) w n ≡ picks_before r w n
picks-until r n w le =
    sym (picks-later (run_until r n) r.is_open (drop n r.chunks) r.stores w n (omega (arith, until-length r n le)))
    ∙ ap (λ (s : Run). picks_before s w n) (until-on r n)

-- ---- one chunk more

-- the first elements with the one behind them
pub take-next : {A : Type 0} (xs : List A) (i : ℕ) (x : A) → slice_get xs i ≡ Some x → take (i + 1) xs ≡ take i xs ++ x ∷ []
take-next xs i x at = take_more xs i x (slice_get_within xs i x at) ∙ ap (λ y. take i xs ++ y ∷ []) (get_or_from_slice_get xs i x x at)

-- the rows of the chunk at a position
worker-next : (r : Run) (w i : ℕ) (c : DataChunk) → slice_get r.chunks i ≡ Some c
    → of_worker (run_until r (i + 1)) w ≡ of_worker (run_until r i) w ++ filter (λ x. is_turn_of r w x.place.chunk) (chunk_rows r.query i c.frame)
worker-next r w i c at =
    let mine : List Row → List Row = λ l. filter (λ x. is_turn_of r w x.place.chunk) l in
    ap (λ (cs : List DataChunk). of_worker (record r { chunks = cs; is_open = true }) w) (take-next r.chunks i c at)
    ∙ worker-later (run_until r i) true (c ∷ []) r.stores w
    ∙ ap (λ k. of_worker (run_until r i) w ++ mine (rows_from r.query k (c ∷ []))) {x = 0 + length (take i r.chunks)} {y = i} (omega (arith, until-length r i (omega (arith, slice_get_within r.chunks i c at))))
    ∙ ap (λ (l : List Row). of_worker (run_until r i) w ++ mine l) (append-nil (chunk_rows r.query i c.frame))

-- in a worker's turn it takes them
pub worker-yes : (r : Run) (w i : ℕ) (c : DataChunk) → slice_get r.chunks i ≡ Some c → is_turn_of r w i ≡ true
    → of_worker (run_until r (i + 1)) w ≡ of_worker (run_until r i) w ++ chunk_rows r.query i c.frame
worker-yes r w i c at turn =
    worker-next r w i c at
    ∙ ap (λ (l : List Row). of_worker (run_until r i) w ++ l) (filter-all (λ x. is_turn_of r w x.place.chunk) (chunk_rows r.query i c.frame)
    (λ front back x is. ap (is_turn_of r w) (each-at (λ (x : Row). x.place.chunk ≡ i) (chunk_rows r.query i c.frame) front back x (chunk_rows-at r.query i c.frame) is) ∙ turn))

-- and else none
pub worker-no : (r : Run) (w i : ℕ) (c : DataChunk) → slice_get r.chunks i ≡ Some c → is_turn_of r w i ≡ false
    → of_worker (run_until r (i + 1)) w ≡ of_worker (run_until r i) w
worker-no r w i c at not_turn =
    worker-next r w i c at
    ∙ ap (λ (l : List Row). of_worker (run_until r i) w ++ l) (filter-none (λ x. is_turn_of r w x.place.chunk) (chunk_rows r.query i c.frame)
    (λ front back x is. ap (is_turn_of r w) (each-at (λ (x : Row). x.place.chunk ≡ i) (chunk_rows r.query i c.frame) front back x (chunk_rows-at r.query i c.frame) is) ∙ not_turn))
    ∙ append-nil (of_worker (run_until r i) w)

-- behind the last chunk it is the whole run
pub worker-all : (r : Run) (w n : ℕ) → length r.chunks ≤ n → of_worker (run_until r n) w ≡ of_worker r w
worker-all r w n le = ap (λ (cs : List DataChunk). of_worker (record r { chunks = cs }) w) (take_all n r.chunks le)

-- and what a worker took before a position is the front of its rows
pub worker-front : (r : Run) (w n : ℕ) → of_worker r w ≡ of_worker (run_until r n) w ++ more_rows (run_until r n) w (drop n r.chunks)
worker-front r w n = ap (λ (s : Run). of_worker s w) (sym (until-on r n)) ∙ worker-later (run_until r n) r.is_open (drop n r.chunks) r.stores w
