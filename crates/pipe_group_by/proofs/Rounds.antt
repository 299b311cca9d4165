-- Sinks of a round as jobs, and at rest again.
use Rattle.std.proofs.Common.{◌≡◌, ◌∙◌, ◌<◌, ℕ, false, List, [], ◌∷◌, ◌++◌, length, map, Result, Ok, Err, Vec, sym, ap, subst, arith, append_assoc}
use Rattle.std.specs.Prelude.{IfOk, OnOk}
use Rattle.std.specs.List.{All, slice_index_or}
use Rattle.std.specs.declared.alloc.AllocError.{AllocError}
use Rattle.std.proofs.lemmas.List.{get_or-map, length-map}
use Rattle.pipe_columns.specs.declared.data_chunk.DataChunk.{DataChunk}
use Rattle.pipe_aggs.specs.declared.query.Query.{Query}
use Rattle.pipe_aggs.specs.QueryTrees.{query_tree}
use Rattle.pipe_model.specs.Rows.{AreChunksOf}
use Rattle.pipe_sinks.specs.Runs.{Run, with_taken}
use Rattle.pipe_group_by.specs.Jobs.{sink_job, SinkJobSeen, MayWork}
use Rattle.pipe_group_by.specs.Positions.{numbered, turns_of}
use Rattle.pipe_group_by.specs.Taken.{HaveTaken, sink_after}

-- one more is made of those that are left
pub made-more : {A B : Type 0} (f : A → B) (done now : List B) (x : A) (y : B) (old new : List A) (all : List B) → old ≡ x ∷ new → now ≡ done ++ y ∷ [] → y ≡ f x → done ++ map f old ≡ all → now ++ map f new ≡ all
made-more {A = A} {B = B} f done now x y old new all items pushed is whole =
    ap (λ (l : List B). l ++ map f new) pushed
    ∙ append_assoc done (y ∷ []) (map f new)
    ∙ ap (λ (z : B). done ++ z ∷ map f new) is
    ∙ ap (λ (l : List A). done ++ map f l) (sym items)
    ∙ whole

-- sinks that have taken their turns are of the query
pub sinks-of : (q : Query) (partitions workers : ℕ) (chunks : List DataChunk) (sinks : List Run) → HaveTaken q partitions workers chunks sinks → All (λ s. q ≡ s.query) sinks
sinks-of q partitions workers chunks sinks taken k d lt = ap (λ (r : Run). r.query) (sym (taken.each k d lt))

module _ (q : Query) (partitions : ℕ) (before chunks : List DataChunk) (sinks : List Run) (jobs : List SinkJobSeen) (are : jobs ≡ map sink_job sinks) where
  long : length jobs ≡ length sinks
  long = ap (λ (l : List SinkJobSeen). length l) are ∙ length-map sinks sink_job

  module _ (taken : HaveTaken q partitions (length sinks) before sinks) where
    job-at : (k : ℕ) (d : SinkJobSeen) → k < length jobs → slice_index_or jobs k d ≡ sink_job (sink_after q partitions (length sinks) before k)
    job-at k d lt =
        ap (λ (l : List SinkJobSeen). slice_index_or l k d) are
        ∙ get_or-map sink_job sinks k (sink_after q partitions (length sinks) before k) d (omega (arith, lt, long))
        ∙ ap sink_job (taken.each k (sink_after q partitions (length sinks) before k) (omega (arith, lt, long)))

    -- so the jobs that are made of them may work
    pub jobs-may : numbered (length before) chunks ≡ chunks → AreChunksOf (query_tree q) (before ++ chunks) → (k : ℕ) (d : SinkJobSeen) → k < length jobs
        → MayWork (length jobs) k before chunks (slice_index_or jobs k d).sink
    jobs-may positions asked k d lt = record {
      some = omega (arith, lt);
      positions = positions;
      asked = subst (λ (j : SinkJobSeen). AreChunksOf (query_tree j.sink.query) (before ++ chunks)) (sym (job-at k d lt)) asked;
      ready = ap (λ (j : SinkJobSeen). j.sink.taken) (job-at k d lt) ∙ ap (λ n. turns_of n k before) (sym long);
    }

    -- and those that went on have taken the turns of the round too
    pub rests-taken : (done : List SinkJobSeen) → length done ≡ length jobs → All (λ j. j.refused ≡ false) done
        → ((k : ℕ) (d : SinkJobSeen) → k < length done → (slice_index_or done k d).refused ≡ false → (slice_index_or done k d).sink ≡ with_taken (turns_of (length jobs) k (before ++ chunks)) (slice_index_or jobs k d).sink)
        → (rests : List Run) → rests ≡ map (λ j. j.sink) done → HaveTaken q partitions (length sinks) (before ++ chunks) rests
    rests-taken done same gone worked rests rest = record {
      count = length-rests ∙ same ∙ long;
      each = λ k d lt.
          let at : SinkJobSeen = sink_job d in
          let low : k < length done = omega (arith, lt, length-rests) in
          let here : k < length jobs = omega (arith, low, same) in
          ap (λ (l : List Run). slice_index_or l k d) rest
          ∙ get_or-map (λ (j : SinkJobSeen). j.sink) done k at d low
          ∙ worked k at low (gone k at low)
          ∙ ap (λ (j : SinkJobSeen). with_taken (turns_of (length jobs) k (before ++ chunks)) j.sink) (job-at k at here)
          ∙ ap (λ n. sink_after q partitions n (before ++ chunks) k) long;
    } where
      length-rests : length rests ≡ length done
      length-rests = ap (λ (l : List Run). length l) rest ∙ length-map done (λ (j : SinkJobSeen). j.sink)

    -- which is what is gathered of them
    pub gathered : (done : List SinkJobSeen) → length done ≡ length jobs
        → ((k : ℕ) (d : SinkJobSeen) → k < length done → (slice_index_or done k d).refused ≡ false → (slice_index_or done k d).sink ≡ with_taken (turns_of (length jobs) k (before ++ chunks)) (slice_index_or jobs k d).sink)
        → {A : Type 0} (workers : ℕ) → workers ≡ length sinks → (result : Result (Vec Run A) AllocError) → IfOk result (λ v. v.items ≡ map (λ j. j.sink) done) → OnOk result (All (λ j. j.refused ≡ false) done)
        → IfOk result (λ v. HaveTaken q partitions workers (before ++ chunks) v.items)
    gathered done same worked workers high (Ok v) are on = subst (λ n. HaveTaken q partitions n (before ++ chunks) v.items) (sym high) (rests-taken done same on worked v.items are)
    gathered done same worked workers high (Err e) are on = tt
