-- A sink may go to a thread.
use Rattle.std.proofs.Crossing.{Vec-send}
use denote.Ref.{NamedLft}
use denote.Struct.Declared.{shape}
use denote.Param.Send.{IsSend, sendable, recorded_send, struct_send}
use Rattle.pipe_sinks.specs.contracts.sink_run.SinkRun.TheInside.{the_row, the_type}
use Rattle.pipe_sinks.proofs.key_table.KeyTable.TheSendSync.{the_send}
use Rattle.pipe_aggs.proofs.checked_query.CheckedQuery.TheSendSync.{the_sync}

inside-send : (κ : NamedLft) → IsSend (the_row κ)
inside-send κ = recorded_send _ (the_type κ).D (the_type κ).to (the_type κ).to_one (struct_send (shape (the_type κ)) (
  search (sendable, the_sync) depth 20,
  (
    search sendable depth 20,
    (
      search (sendable, the_send) depth 20,
      (
        search (sendable, Vec-send) depth 20,
        (
          search (sendable, Vec-send) depth 20,
          tt,
        ),
      ),
    ),
  ),
))

pub run-send : (κ : NamedLft) → IsSend (Rattle.pipe_sinks.specs.contracts.sink_run.SinkRun.the_row κ)
run-send κ = search (sendable, inside-send) depth 20

pub job-send : (κ : NamedLft) → IsSend (Rattle.pipe_group_by.specs.contracts.typed_job.TypedJob.the_row κ)
job-send κ = search (sendable, run-send) depth 20
