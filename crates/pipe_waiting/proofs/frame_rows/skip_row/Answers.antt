-- What stands there is a row of the partition, or the bytes begin with none.
use Rattle.std.proofs.Common.{rules, ◌≡◌, ◌≢◌, ◌%◌, ◌<◌, ◌^◌, length, refl}
use Rattle.pipe_columns.specs.Key.{fold_bytes}
use Rattle.pipe_spill.specs.Reading.{BeginsNoTuple}
use Rattle.pipe_spill.specs.SpillRow.{IsKey}
use Rattle.pipe_waiting.proofs.FrameFacts.{no_own_inputs, no_own_key, other_partition, own_row}
use Rattle.pipe_waiting.proofs.frame_rows.skip_row.Goals as goal

pub returns-in_default-clause-not_a_frame : goal.returns-in_default-clause-not_a_frame
returns-in_default-clause-not_a_frame c = λ h r rest own e. c.in_default.ensures.none refl c.args.input_types.now r rest e

pub returns-then-partition_of-own-clause-not_a_frame : goal.returns-then-partition_of-own-clause-not_a_frame
returns-then-partition_of-own-clause-not_a_frame c = λ h.
    let room : length c.args.bytes.now < 2 ^ 64 = search rules in
    let differ : fold_bytes c.in-Some.key.now % c.args.own.partitions ≢ c.args.own.number = search rules in
    other_partition c.args.key_types.now c.args.input_types.now c.args.own.partitions c.args.own.number c.in-Some._place.chunk c.in-Some._place.row c.in-Some.key.now c.in-Some.inputs.now
    c.args.bytes.now room c.in-Some.ensures.some differ

pub returns-then-not-branch-clause-not_a_frame : goal.returns-then-not-branch-clause-not_a_frame
returns-then-not-branch-clause-not_a_frame c = λ h.
    let room : length c.args.bytes.now < 2 ^ 64 = search rules in
    let none : IsKey c.args.key_types.now c.in-Some.key.now → ⊥ = search rules in
    no_own_key c.args.key_types.now c.args.input_types.now c.args.own.partitions c.args.own.number c.in-Some._place.chunk c.in-Some._place.row c.in-Some.key.now c.in-Some.inputs.now
    c.args.bytes.now room c.in-Some.ensures.some none

pub returns-in-Err-NotAKey-clause-not_a_frame : goal.returns-in-Err-NotAKey-clause-not_a_frame
returns-in-Err-NotAKey-clause-not_a_frame c = λ h.
    let room : length c.args.bytes.now < 2 ^ 64 = search rules in
    let none : BeginsNoTuple c.args.input_types.now c.in-Some.inputs.now = search rules in
    no_own_inputs c.args.key_types.now c.args.input_types.now c.args.own.partitions c.args.own.number c.in-Some._place.chunk c.in-Some._place.row c.in-Some.key.now c.in-Some.inputs.now
    c.args.bytes.now room c.in-Some.ensures.some none

pub returns-in-Ok-clause-row : goal.returns-in-Ok-clause-row
returns-in-Ok-clause-row c =
    let room : length c.args.bytes.now < 2 ^ 64 = search rules in
    let lies : fold_bytes c.in-Some.key.now % c.args.own.partitions ≡ c.args.own.number = search rules in
    let key : IsKey c.args.key_types.now c.in-Some.key.now = search rules in
    own_row c.args.key_types.now c.args.input_types.now c.args.own.partitions c.args.own.number c.in-Some._place.chunk c.in-Some._place.row c.in-Some.key.now c.in-Some.inputs.now
    c.args.bytes.now room c.in-Some.ensures.some c.in-Some.ensures.chunk c.in-Some.ensures.row lies key c.read_inputs.new.values.items c.in-Ok.rest.now
    c.in-Ok.ensures.tuple c.in-Ok.ensures.code
