-- Where the plans are whole, a partition and the kept rows of its keys are the rows of the partition.
use Rattle.std.proofs.Common.{◌≡◌, ◌∙◌, ◌<◌, ◌==◌, ℕ, Bool, true, false, List, [], ◌∷◌, ◌++◌, length, refl, sym, ap, subst, arith, cond}
use Rattle.std.specs.List.{slice_index_or}
use Rattle.std.specs.List.Sorted.{IsPermutation}
use Rattle.std.proofs.lemmas.List.{map-append}
use Rattle.std.proofs.lemmas.List.Sorted.{IsPermutation-map}
use Rattle.pipe_columns.specs.Key.{partition}
use Rattle.pipe_columns.specs.Row.{Row}
use Rattle.pipe_model.specs.Counts.{CountAlike}
use Rattle.pipe_model.specs.Output.{key_types}
use Rattle.pipe_model.specs.Partitions.{rows_in}
use Rattle.pipe_model.specs.Query.{QueryTree}
use Rattle.pipe_model.proofs.CountFacts.{count-append}
use Rattle.pipe_model.proofs.MovedFacts.{rows-moved}
use Rattle.pipe_plan.specs.declared.event.PartitionEvent.{PartitionEvent}
use Rattle.pipe_plan.specs.Journals.{AreWhole, journal_of}
use Rattle.pipe_plan.specs.Replay.{replay}
use Rattle.pipe_plan.specs.Run.{all_rows, Run}
use Rattle.pipe_plan.specs.Whole.{all_kept, rows_of}
use Rattle.pipe_plan.proofs.ByPartition.{partition-alike}
use Rattle.pipe_spill.specs.SpillRow.{spilled}
use Rattle.pipe_spill.specs.declared.spill_row.SpillRow.{SpillRow}
use Rattle.pipe_global.specs.Finishing.{own_rows}
use Rattle.pipe_global.specs.Partition.{PartitionSeen, spilled_all}
use Rattle.pipe_run.proofs.Whole.{journal-at, journals_of}

-- the spilled rows of a partition's own are those of its rows
pub own-spilled : (q : QueryTree) (s : PartitionSeen) (rs : List Row) → own_rows s (spilled_all q rs) ≡ spilled_all q (rows_in s.partitions q s.number rs)
own-spilled q s [] = refl
own-spilled q s (r ∷ rs) = by (partition s.partitions (key_types q) r.key == s.number) (own-spilled q s rs) where
  by : (b : Bool) → own_rows s (spilled_all q rs) ≡ spilled_all q (rows_in s.partitions q s.number rs)
      → cond b (spilled (key_types q) r ∷ own_rows s (spilled_all q rs)) (own_rows s (spilled_all q rs))
      ≡ spilled_all q (cond b (r ∷ rows_in s.partitions q s.number rs) (rows_in s.partitions q s.number rs))
  by true rest = ap (λ (l : List SpillRow). spilled (key_types q) r ∷ l) rest
  by false rest = rest

-- lists in the other order count alike
turned : (xs ys zs : List Row) → CountAlike (xs ++ ys) zs → CountAlike (ys ++ xs) zs
turned xs ys zs alike test = omega (arith, alike test, count-append test xs ys, count-append test ys xs)

-- what a partition holds, and then what is kept of it, is what there is of it
pub part-rows : (r : Run) (partitions : List PartitionSeen) (p : ℕ) (s : PartitionSeen)
    → 0 < r.limits.workers → 0 < r.limits.buffer_size → r.is_open ≡ false → p < r.limits.partitions → length partitions ≡ r.limits.partitions
    → AreWhole r (journals_of partitions) → slice_index_or partitions p s ≡ s → s.number ≡ p → s.partitions ≡ r.limits.partitions
    → IsPermutation (spilled_all r.query (rows_of (replay r p s.journal)) ++ own_rows s (spilled_all r.query (all_kept r)))
    (spilled_all r.query (rows_in s.partitions r.query s.number (all_rows r)))
part-rows r partitions p s workers some shut lt count whole at number parts =
    let q = r.query in
    let held : List Row = rows_of (replay r p s.journal) in
    let kept : List Row = rows_in r.limits.partitions q p (all_kept r) in
    let journal : journal_of (journals_of partitions) p ≡ s.journal = journal-at partitions p s (omega (arith, count, lt)) ∙ ap (λ (x : PartitionSeen). x.journal) at in
    let alike : CountAlike (kept ++ held) (rows_in r.limits.partitions q p (all_rows r)) =
    subst (λ (j : List PartitionEvent). CountAlike (kept ++ rows_of (replay r p j)) (rows_in r.limits.partitions q p (all_rows r))) journal (partition-alike r (journals_of partitions) p workers some shut lt whole) in
    let moved = IsPermutation-map (spilled (key_types q)) (held ++ kept) (rows_in r.limits.partitions q p (all_rows r)) (rows-moved (held ++ kept) (rows_in r.limits.partitions q p (all_rows r)) (turned kept held (rows_in r.limits.partitions q p (all_rows r)) alike)) in
    let own : own_rows s (spilled_all q (all_kept r)) ≡ spilled_all q kept = own-spilled q s (all_kept r) ∙ ap (λ n. spilled_all q (rows_in n q s.number (all_kept r))) parts ∙ ap (λ n. spilled_all q (rows_in r.limits.partitions q n (all_kept r))) number in
    let all : spilled_all q (rows_in r.limits.partitions q p (all_rows r)) ≡ spilled_all q (rows_in s.partitions q s.number (all_rows r)) =
    ap (λ n. spilled_all q (rows_in n q p (all_rows r))) (sym parts) ∙ ap (λ n. spilled_all q (rows_in s.partitions q n (all_rows r))) (sym number) in
    subst (λ (l : List SpillRow). IsPermutation (spilled_all q held ++ own_rows s (spilled_all q (all_kept r))) l) all
    (subst (λ (l : List SpillRow). IsPermutation l (spilled_all q (rows_in r.limits.partitions q p (all_rows r))))
    (map-append (spilled (key_types q)) held kept ∙ ap (λ (l : List SpillRow). spilled_all q held ++ l) (sym own)) moved)
