-- A run over other chunks by another query, which has the same rows, heights, types and answer.
use Rattle.std.proofs.Common.{◌≡◌, ◌∙◌, ◌+◌, ◌-◌, ◌/◌, ◌%◌, ◌==◌, ◌<◌, ℕ, not, ◌&&◌, ◌||◌, List, [], ◌∷◌, ◌++◌, length, map, refl, sym, ap, subst, if◌then◌else◌}
use Rattle.std.specs.Prelude.{count_by, nat_lt, replicate}
use Rattle.std.specs.List.{All, filter, flat_map, range_with_len, slice_index_or, sum_by}
use Rattle.std.specs.Set.{is_member}
use Rattle.std.proofs.lemmas.List.{length-map}
use Rattle.pipe_columns.specs.declared.data_chunk.DataChunk.{DataChunk}
use Rattle.pipe_columns.specs.Key.{partition}
use Rattle.pipe_columns.specs.Pieces.{pieces}
use Rattle.pipe_columns.specs.Row.{Row}
use Rattle.pipe_aggs.specs.CheckedQuery.{input_types}
use Rattle.pipe_model.specs.Answer.{answer}
use Rattle.pipe_model.specs.Output.{key_types}
use Rattle.pipe_model.specs.Query.{QueryTree}
use Rattle.pipe_model.specs.Rows.{rows}
use Rattle.pipe_plan.specs.declared.event.PartitionEvent.{PartitionEvent}
use Rattle.pipe_plan.specs.declared.event.PartitionEvent.TheVariants as event
use Rattle.pipe_plan.specs.Frames.{AreOfPieces, PieceName}
use Rattle.pipe_plan.specs.Journals.{AreWhole, journal_of}
use Rattle.pipe_plan.specs.Kept.{kept, kept_keys, same_key}
use Rattle.pipe_plan.specs.Overflow.{overflow, overflow_count}
use Rattle.pipe_plan.specs.Payloads.{full_pieces, payloads}
use Rattle.pipe_plan.specs.Plan.{action_at, asks, events_of, is_pick, picks_before, plan, turn_events, turns_before}
use Rattle.pipe_plan.specs.Replay.{after_arrival, after_event, arrivals, events_by, joined_lists, next_piece, replay, Replayed, replay_from}
use Rattle.pipe_plan.specs.Run.{is_generic, is_turn_of, of_worker, Run, StoreSeen}
use Rattle.pipe_global.specs.Partition.{frame_bytes_of, no_store, store_of, with_frames}
use Rattle.pipe_run.specs.Answered.{HasFrames, HaveReplayedFrames, HaveWholeFrames, IsAnswered}
use Rattle.pipe_run.specs.declared.output.GroupByOutput.{GroupByOutput}
use Rattle.pipe_spill.specs.FrameBytes.{frame_bytes}
use Rattle.pipe_spill.specs.SpillRow.{spilled}

-- the heights of chunks
abbrev pub heights : List DataChunk → List ℕ
heights chunks = map (λ c. c.frame.height) chunks

-- chunks and a query that make what a run's chunks and query make
pub record AreAlike (r : Run) (chunks : List DataChunk) (query : QueryTree) : Type 0 where
  pub rows : rows chunks query ≡ rows r.chunks r.query
  pub heights : heights chunks ≡ heights r.chunks
  pub keys : key_types query ≡ key_types r.query
  pub inputs : input_types query ≡ input_types r.query
  pub answer : answer chunks query r.limits.partitions ≡ answer r.chunks r.query r.limits.partitions

module _ (r : Run) (chunks : List DataChunk) (query : QueryTree) (alike : AreAlike r chunks query) where
  -- the run over them
  abbrev other : Run
  other = record r { chunks = chunks; query = query }

  -- a worker's rows
  worker-alike : (w : ℕ) → of_worker other w ≡ of_worker r w
  worker-alike w = ap (filter (λ x. is_turn_of r w x.place.chunk)) alike.rows

  -- the keys that it keeps
  kept-alike : (w : ℕ) → kept other w ≡ kept r w
  kept-alike w = ap (kept_keys r.limits) (worker-alike w)

  -- what it sends
  overflow-alike : (w p : ℕ) → overflow other w p ≡ overflow r w p
  overflow-alike w p = λ i.
      filter (λ x. (partition r.limits.partitions (alike.keys i) x.key == p) && not (is_member same_key (kept-alike w i) x.key)) (worker-alike w i)

  -- how many rows all send
  count-alike : overflow_count other ≡ overflow_count r
  count-alike = λ i. sum_by (λ w. sum_by (λ p. length (overflow-alike w p i)) (range_with_len 0 r.limits.partitions)) (range_with_len 0 r.limits.workers)

  -- the pieces of what it sends
  pub payloads-alike : (w p : ℕ) → payloads other w p ≡ payloads r w p
  payloads-alike w p = λ i. if r.is_open then full_pieces r.limits.buffer_size (overflow-alike w p i) else pieces r.limits.buffer_size (overflow-alike w p i)

  -- ---- plans

  -- how many chunks there are
  length-alike : length chunks ≡ length r.chunks
  length-alike = sym (length-map chunks (λ c. c.frame.height)) ∙ ap (λ (hs : List ℕ). length hs) alike.heights ∙ length-map r.chunks (λ c. c.frame.height)

  -- whether a turn is a pick
  pick-alike : (n : ℕ) → is_pick other n ≡ is_pick r n
  pick-alike n = λ i. nat_lt 0 (slice_index_or (alike.heights i) n 0) && asks (action_at r n)

  -- how many picks come before
  picks-alike : (w n : ℕ) → picks_before other w n ≡ picks_before r w n
  picks-alike w n = λ i. count_by (λ k. pick-alike k i) (turns_before r w n)

  -- the events of a turn
  turn-alike : (w p n : ℕ) → turn_events other w p n ≡ turn_events r w p n
  turn-alike w p n = λ i.
      replicate
      (count_by (λ x. nat_lt x.place.chunk (n + 1)) (overflow-alike w p i) / r.limits.buffer_size
      - count_by (λ x. nat_lt x.place.chunk n) (overflow-alike w p i) / r.limits.buffer_size)
      (event.Arrive w)
      ++ (if pick-alike n i && ((w + picks-alike w n i) % r.limits.partitions == p) then events_of w (action_at r n) else [])

  -- all events of a worker
  pub plan-alike : (w p : ℕ) → plan other w p ≡ plan r w p
  plan-alike w p = λ i.
      if is_generic r.limits.sink
      then flat_map (λ n. turn-alike w p n i) (turns_before r w (length-alike i))
      ++ (if r.is_open || (length (overflow-alike w p i) % r.limits.buffer_size == 0) then [] else event.Arrive w ∷ [])
      else []

  -- ---- frames

  -- what further events make of a partition
  replay-on : (p : ℕ) (before : List PartitionEvent) (s : Replayed) (events : List PartitionEvent) → replay_from other p before s events ≡ replay_from r p before s events
  replay-on p before s [] = refl
  replay-on p before s (event.Arrive w ∷ events) =
      let next : next_piece other w p (events_by w before) ≡ next_piece r w p (events_by w before) = ap (λ (ps : List (List Row)). slice_index_or ps (arrivals (events_by w before)) []) (payloads-alike w p) in
      ap (λ (piece : List Row). replay_from other p (before ++ event.Arrive w ∷ []) (after_arrival piece s) events) next
      ∙ replay-on p (before ++ event.Arrive w ∷ []) (after_event r p before s (event.Arrive w)) events
  replay-on p before s (event.Merge w ∷ events) = replay-on p (before ++ event.Merge w ∷ []) (after_event r p before s (event.Merge w)) events
  replay-on p before s (event.Dump w ∷ events) = replay-on p (before ++ event.Dump w ∷ []) (after_event r p before s (event.Dump w)) events

  -- what a journal makes of it
  replay-alike : (p : ℕ) (journal : List PartitionEvent) → replay other p journal ≡ replay r p journal
  replay-alike p journal = replay-on p [] _ journal

  -- the bytes of frames
  bytes-alike : (frames : List (List Row)) → map (frame_bytes_of query) frames ≡ map (frame_bytes_of r.query) frames
  bytes-alike frames = λ i. map (λ rows. frame_bytes (alike.inputs i) (map (spilled (alike.keys i)) rows)) frames

  -- a store's frames
  store-alike : (before s : StoreSeen) (frames : List (List Row)) → HasFrames before other frames s → HasFrames before r frames s
  store-alike before s frames has = record {
    told = has.told ∙ ap (λ (more : List (List ℕ)). with_frames before.told more) (bytes-alike frames);
    held = has.held;
    sure = has.sure;
    path = has.path;
  }

  -- frames of pieces
  pieces-alike : (p : ℕ) (frames : List (List Row)) → AreOfPieces other p frames → AreOfPieces r p frames
  pieces-alike p frames are =
      let sent : (λ w. payloads other w p) ≡ (λ w. payloads r w p) = λ i w. payloads-alike w p i in
      record {
        names = are.names;
        some = are.some;
        rows = are.rows ∙ ap (λ (f : ℕ → List (List Row)). map (λ part. flat_map (λ (n : PieceName). slice_index_or (f n.worker) n.number []) part) are.names) sent;
        apart = are.apart;
        pieces = subst (λ (f : ℕ → List (List Row)). All (λ (n : PieceName). (n.worker < r.limits.workers) × (n.number < length (f n.worker))) (joined_lists are.names)) sent are.pieces;
      }

  -- what a run leaves of its stores
  pub left-alike : (stores : List StoreSeen) → HaveWholeFrames other stores → HaveWholeFrames r stores
  left-alike stores all = record {
    count = all.count;
    each = λ p within.
        let one = all.each p within in
        record {
          frames = one.frames;
          pieces = pieces-alike p one.frames one.pieces;
          has = store-alike (store_of r p) (slice_index_or stores p no_store) one.frames one.has;
        };
  }

  -- ---- the answer

  -- journals that hold all plans
  whole-alike : (journals : List (List PartitionEvent)) → AreWhole other journals → AreWhole r journals
  whole-alike journals whole = λ p within.
      let one = whole p within in
      record { workers = one.workers; plans = λ w worker. one.plans w worker ∙ plan-alike w p }

  -- the frames of what they made
  replayed-alike : (journals : List (List PartitionEvent)) (stores : List StoreSeen) → HaveReplayedFrames other journals stores → HaveReplayedFrames r journals stores
  replayed-alike journals stores all = record {
    count = all.count;
    each = λ p within.
        subst (λ (made : Replayed). HasFrames (store_of r p) r made.frames (slice_index_or stores p no_store)) (replay-alike p (journal_of journals p))
        (store-alike (store_of r p) (slice_index_or stores p no_store) (replay other p (journal_of journals p)).frames (all.each p within));
  }

  -- a run that was answered
  pub answered-alike : (out : GroupByOutput) (stores : List StoreSeen) → IsAnswered other out stores → IsAnswered r out stores
  answered-alike out stores is = record {
    plans = whole-alike out.journals is.plans;
    count = is.count;
    frames = replayed-alike out.journals stores is.frames;
    overflow = is.overflow ∙ count-alike;
    answer = λ tell. is.answer tell ∙ alike.answer;
  }
