-- A worker before its first turn.
use Rattle.std.proofs.Common.{◌≡◌, ◌∙◌, false, [], Some, refl, ap}
use Rattle.std.proofs.lemmas.List.{get_or-replicate}
use Rattle.pipe_plan.specs.Run.{Run}
use Rattle.pipe_groups.specs.Shape.{shape_of}
use Rattle.pipe_tables.specs.Buffers.{no_rows}
use Rattle.pipe_tables.specs.LocalTable.{Local}
use Rattle.pipe_tables.proofs.AfterFacts.{after-none}
use Rattle.pipe_global.specs.Opening.{no_shares}
use Rattle.pipe_global.specs.Shares.{share_of, SharesSeen}
use Rattle.pipe_workers.specs.Turns.{IsReady}
use Rattle.pipe_workers.specs.Workers.{TakesTurns}

-- a local table of no rows
pub record IsNew (r : Run) (t : Local) : Type 0 where
  pub shape : t.table.shape ≡ shape_of r.query
  pub limit : t.table.limit ≡ Some r.limits.spill_size
  pub groups : t.table.groups ≡ []
  pub size : t.buffers.size ≡ r.limits.buffer_size
  pub rows : t.buffers.rows ≡ no_rows r.limits.partitions
  pub overflowed : t.overflowed ≡ false

-- a worker of no event, with such a table, is ready for the first chunk
pub ready-new : (r : Run) (t : Local) (h : SharesSeen) → TakesTurns r → IsNew r t → h ≡ no_shares r.limits.partitions h.worker
    → IsReady r h.worker 0 (record { table = t; shares = h; turns = 0; closed = false; stopped = false })
ready-new r t h takes new unused = record {
  after = record {
    table = after-none r.limits (shape_of r.query) t takes.generic takes.runnable.limits.buffer new.shape new.limit new.groups new.size new.rows new.overflowed;
    shares = record {
      worker = refl;
      picks = ap (λ (s : SharesSeen). s.picks) unused;
      events = λ p lt. ap (λ (s : SharesSeen). share_of s p) unused ∙ get_or-replicate r.limits.partitions p 0 0 lt;
      faults = ap (λ (s : SharesSeen). s.faults) unused;
    };
  };
  turns = refl;
  at_work = refl;
  unstopped = refl;
}
