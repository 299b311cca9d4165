-- The partition of a worked run that ended can give its groups.
use Rattle.std.proofs.Common.{rules, ◌≡◌, ◌∙◌, ◌<◌, ◌^◌, ◌+◌, List, [], ◌∷◌, length, refl, sym, ap, subst, arith}
use Rattle.std.proofs.lemmas.List.Elements.{All-nil}
use Rattle.pipe_model.specs.Query.{QueryTree}
use Rattle.pipe_plan.specs.Replay.{replay}
use Rattle.pipe_plan.specs.Run.{Run, StoreSeen}
use Rattle.pipe_plan.specs.Whole.{rows_of}
use Rattle.pipe_plan.specs.WorkedRuns.{sum_by_number}
use Rattle.pipe_spill.specs.SpillRow.{IsRow}
use Rattle.pipe_spill.specs.Store.{HasHeld}
use Rattle.pipe_groups.specs.Groups.{Group}
use Rattle.pipe_groups.specs.Holds.{Holds}
use Rattle.pipe_groups.specs.Shape.{shape_of}
use Rattle.pipe_groups.proofs.HoldFacts.{holds-none}
use Rattle.pipe_keyed.specs.Tables.{Table}
use Rattle.pipe_global.specs.Closed.{AreClosed}
use Rattle.pipe_global.specs.Finishing.{CanFinish}
use Rattle.pipe_global.specs.Partition.{IsRunnable, PartitionSeen}
use Rattle.pipe_global.specs.TestedRows.{HasEnded}
use Rattle.pipe_global.specs.WorkedTables.{one_spill_on}
use Rattle.pipe_global.proofs.ClosedFacts.{finish-replayed}
use Rattle.pipe_global.proofs.RunFacts.{rows-few}

-- the run of one spill can be made
runnable : (store : StoreSeen) → store.held ≡ 0 → IsRunnable (one_spill_on store)
runnable store empty = search rules

-- its only partition has ended with it
pub ended : (r : Run) (store : StoreSeen) (ps : List PartitionSeen) (x : PartitionSeen) → r ≡ one_spill_on store → store.held ≡ 0 → ps ≡ x ∷ [] → AreClosed r ps → HasEnded x
ended r store ps x run empty is closed = record {
  run = one_spill_on store;
  runnable = runnable store empty;
  replayed = (subst (λ (q : Run). AreClosed q (x ∷ [])) run (subst (AreClosed r) is closed) 0 x (omega arith)).replayed;
  query = refl;
}

-- with a local table of no row it can give its groups
pub finish-ended : (s : PartitionSeen) (local : Table) → HasEnded s → HasHeld s.store.told s.store.held → local.shape ≡ shape_of sum_by_number → local.groups ≡ [] → CanFinish s local
finish-ended s local end all shape empty =
    let same : local.shape ≡ s.table.shape = shape ∙ ap (λ (q : QueryTree). shape_of q) (sym end.query) ∙ sym end.replayed.shape in
    let few : length (rows_of (replay end.run 0 s.journal)) + 0 < 2 ^ 32 =
    omega (arith, end.runnable.few, rows-few end.run 0 s.journal end.runnable.limits.workers end.runnable.limits.buffer end.replayed.journal.workers) in
    finish-replayed end.run 0 s end.runnable end.replayed local [] all same
    (subst (λ (gs : List Group). Holds s.table.shape.prototypes gs []) (sym empty) (holds-none s.table.shape.prototypes))
    (All-nil (IsRow s.table.shape.key_types s.table.shape.input_types)) few
