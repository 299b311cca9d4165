-- The source of a run that has ended: it can be asked, and over telling stores it stands for the rows of the run.
use Rattle.std.proofs.Common.{◌≡◌, ◌∙◌, ◌+◌, ◌^◌, ◌<◌, ◌≤◌, ℕ, zero, suc, false, true, List, [], ◌∷◌, length, refl, sym, ap, subst, arith, is_some, Option, Some, None, ⊎_elim}
use Rattle.std.specs.List.{All, count_by, range_with_len, slice_index_or}
use Rattle.std.proofs.lemmas.Bool.{cases_eq}
use Rattle.std.proofs.lemmas.List.{get_or_default, length-map}
use Rattle.pipe_columns.specs.Row.{Row}
use Rattle.pipe_aggs.specs.declared.query.Query.{Query}
use Rattle.pipe_aggs.specs.CheckedQuery.{IsSound}
use Rattle.pipe_aggs.specs.QueryTrees.{query_tree}
use Rattle.pipe_inputs.proofs.TypeFacts.{rows-typed}
use Rattle.pipe_model.specs.Rows.{AreChunksOf, rows}
use Rattle.pipe_model.proofs.CountFacts.{count-append}
use Rattle.pipe_model.proofs.RowPlaces.{rows-distinct}
use Rattle.pipe_plan.specs.declared.event.PartitionEvent.{PartitionEvent}
use Rattle.pipe_plan.specs.Journals.{AreWhole, IsWhole, journal_of}
use Rattle.pipe_plan.specs.Plan.{plan}
use Rattle.pipe_plan.specs.Replay.{events_by, replay}
use Rattle.pipe_plan.specs.Run.{all_rows, Run, tells}
use Rattle.pipe_plan.specs.Whole.{all_kept, replayed_rows, rows_of}
use Rattle.pipe_plan.proofs.Adding.{count-over, sum_to}
use Rattle.pipe_plan.proofs.AllRows.{all-held}
use Rattle.pipe_plan.proofs.Filtering.{count-all}
use Rattle.pipe_spill.specs.SpillRow.{AreRows, spilled}
use Rattle.pipe_spill.specs.Store.{HasHeld}
use Rattle.pipe_groups.specs.Holds.{Holds}
use Rattle.pipe_groups.specs.Shape.{Shape, shape_of}
use Rattle.pipe_model.specs.Output.{key_types}
use Rattle.pipe_keyed.specs.Tables.{Table}
use Rattle.pipe_global.specs.Partition.{IsReplayed, IsRunnable, no_store, PartitionSeen, spilled_all, store_of, with_frames}
use Rattle.pipe_global.proofs.ClosedFacts.{finish-replayed, stands-replayed}
use Rattle.pipe_run.specs.Fed.{AreWholePartitions, IsWholePartition}
use Rattle.pipe_asked.specs.Given.{HasRows, IsSource, StandsForPart}
use Rattle.pipe_asked.specs.Sources.{unasked}
use Rattle.pipe_run.proofs.KeptTables.{kept-typed}
use Rattle.pipe_asked.proofs.Lists.{front-all}
use Rattle.pipe_run.proofs.PartRows.{part-rows}
use Rattle.pipe_run.proofs.Whole.{journal-at, journals_of}

-- ---- plans that are whole

-- partitions that hold the plans whole have journals that do
pub whole-of : (r : Run) (closed : List PartitionSeen) → AreWholePartitions r closed → AreWhole r (journals_of closed)
whole-of r closed whole p lt = by closed refl where
  by : (cs : List PartitionSeen) → closed ≡ cs → IsWhole r p (journal_of (journals_of closed) p)
  by [] e = absurd (omega (arith, lt, whole.count, ap (λ (l : List PartitionSeen). length l) e))
  by (d ∷ cs) e =
      let within : p < length closed = omega (arith, lt, whole.count) in
      let here : IsWholePartition r p (slice_index_or closed p d) = whole.each p d within in
      let own = here.replayed.journal in
      subst (IsWhole r p) (sym (journal-at closed p d within)) (record {
        workers = own.workers;
        plans = λ w mine. front-all (events_by w (slice_index_or closed p d).journal) (plan r w p) (own.plans w mine) (sym (here.replayed.book w mine) ∙ here.whole w mine);
      })

-- ---- few rows

every : (xs : List Row) → count_by (λ x. true) xs ≡ length xs
every xs = count-all (λ x. true) xs (λ front back x is. refl)

-- a term is no greater than the sum
sum_to-part : (n p : ℕ) (f : ℕ → ℕ) → p < n → f p ≤ sum_to n f
sum_to-part zero p f lt = absurd (omega (arith, lt))
sum_to-part (suc n) p f lt = ⊎_elim
    (λ is. omega (arith, ap f is))
    (λ apart. omega (arith, sum_to-part n p f (omega (arith, lt, apart))))
    (cases_eq p n)

-- what a partition holds and all workers keep is no more than there is
pub part-few : (r : Run) (closed : List PartitionSeen) (p : ℕ) (d : PartitionSeen) → IsRunnable r → r.is_open ≡ false → AreWholePartitions r closed → p < length closed
    → length (rows_of (replay r p (slice_index_or closed p d).journal)) + length (spilled_all r.query (all_kept r)) < 2 ^ 32
part-few r closed p d run shut whole lt =
    let journals = journals_of closed in
    let held : ℕ → List Row = λ k. rows_of (replay r k (journal_of journals k)) in
    let all = all-held r journals run.limits.workers run.limits.partitions run.limits.buffer shut (whole-of r closed whole) (λ x. true) in
    let one : length (held p) ≡ length (rows_of (replay r p (slice_index_or closed p d).journal)) = ap (λ (j : List PartitionEvent). length (rows_of (replay r p j))) (journal-at closed p d lt) in
    omega (
      arith,
      all,
      one,
      every (held p),
      every (all_rows r),
      every (all_kept r),
      count-append (λ x. true) (all_kept r) (replayed_rows r journals),
      count-over (λ x. true) held r.limits.partitions,
      sum_to-part r.limits.partitions p (λ k. count_by (λ x. true) (held k)) (omega (arith, lt, whole.count)),
      length-map (all_kept r) (spilled (key_types r.query)),
      run.few,
    )

-- a store that tells does so with more frames
still-tells : (more : List (List ℕ)) (o : Option (List (List ℕ))) → is_some o ≡ true → is_some (with_frames o more) ≡ true
still-tells more None = λ e. e
still-tells more (Some frames) = λ e. refl

module _ (r : Run) (query : Query) (closed : List PartitionSeen) (local : Table) (slice : Option (ℕ × ℕ)) (run : IsRunnable r) (of_query : r.query ≡ query_tree query) (shut : r.is_open ≡ false)
    (whole : AreWholePartitions r closed) (shape : local.shape ≡ shape_of r.query) (holds : Holds (shape_of r.query).prototypes local.groups (spilled_all r.query (all_kept r)))
    (told : (p : ℕ) (d : PartitionSeen) → p < length closed → HasHeld (slice_index_or closed p d).store.told (slice_index_or closed p d).store.held) where
  -- it can be asked
  pub ended-source : length closed < 2 ^ 32 → IsSource (unasked query closed local slice)
  ended-source few = record {
    groupable = subst Rattle.pipe_model.specs.Groupable.IsGroupable of_query run.query;
    given = omega arith;
    few = few;
    each = λ p d lt.
        let x = slice_index_or closed p d in
        let at : IsReplayed r p x = (whole.each p d lt).replayed in
        record {
          number = at.number;
          partitions = at.partitions ∙ sym whole.count;
          shape = at.shape ∙ ap shape_of of_query;
          can = λ from. finish-replayed r p x run at local (spilled_all r.query (all_kept r)) (told p d lt) (shape ∙ sym at.shape)
              (subst (λ (s : Shape). Holds s.prototypes local.groups (spilled_all r.query (all_kept r))) (sym at.shape) holds)
              (subst (λ (s : Shape). AreRows s.key_types s.input_types (spilled_all r.query (all_kept r))) (sym at.shape) (kept-typed r (range_with_len 0 r.limits.workers) run))
              (part-few r closed p d run shut whole lt);
        };
  }

  -- where the stores tell
  module _ (all_tell : All (λ s. tells s ≡ true) r.stores) where
    store-tells : (p : ℕ) (d : PartitionSeen) → p < length closed → is_some (slice_index_or closed p d).store.told ≡ true
    store-tells p d lt =
        let at : IsReplayed r p (slice_index_or closed p d) = (whole.each p d lt).replayed in
        let known : tells (store_of r p) ≡ true = all_tell p no_store (omega (arith, at.in_run, run.stores)) in
        ap (λ (o : Option (List (List ℕ))). is_some o) at.replayed.told ∙ still-tells _ (store_of r p).told known

    -- each partition stands for its rows
    pub ended-parts : (p : ℕ) (d : PartitionSeen) → p < length closed → StandsForPart r.query (all_rows r) (spilled_all r.query (all_kept r)) (slice_index_or closed p d)
    ended-parts p d lt =
        let x = slice_index_or closed p d in
        let at : IsReplayed r p x = (whole.each p d lt).replayed in
        record {
          rows = spilled_all r.query (rows_of (replay r p x.journal));
          stands = stands-replayed r p x run at (told p d lt) (store-tells p d lt);
          all = part-rows r closed p x run.limits.workers run.limits.buffer shut at.in_run whole.count (whole-of r closed whole) (sym (get_or_default closed p d x lt)) at.number at.partitions;
        }

    -- and all of them for all rows
    pub ended-rows : IsSound query → AreChunksOf r.query r.chunks → HasRows (all_rows r) (unasked query closed local slice)
    ended-rows sound chunks =
        let are = subst (λ q. AreChunksOf q r.chunks) of_query chunks in
        record {
          typed = subst (λ q. All (Rattle.pipe_inputs.specs.RowTypes.IsRowOf (query_tree query)) (rows r.chunks q)) (sym of_query) (rows-typed query 0 r.chunks sound are.columns are.typed);
          apart = rows-distinct r.chunks r.query;
          stands = record {
            locals = spilled_all r.query (all_kept r);
            holds = subst (λ q. Holds (shape_of q).prototypes local.groups (spilled_all r.query (all_kept r))) of_query holds;
            parts = λ p d from lt. subst (λ q. StandsForPart q (all_rows r) (spilled_all r.query (all_kept r)) (slice_index_or closed p d)) of_query (ended-parts p d lt);
          };
        }
