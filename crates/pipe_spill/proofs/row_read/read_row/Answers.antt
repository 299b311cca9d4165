-- The row is what stands there, and none begins where the head, the key or the inputs are wrong.
use Rattle.std.proofs.Common.{rules, ◌≡◌, ◌∙◌, ◌++◌, ◌<◌, ◌^◌, List, ℕ, drop, length, refl, subst, sym, take}
use Rattle.pipe_spill.specs.FrameBytes.{row_bytes}
use Rattle.pipe_spill.specs.Reading.{BeginsNoTuple}
use Rattle.pipe_spill.specs.SpillRow.{IsKey}
use Rattle.pipe_spill.proofs.RowOnce.{key_too_long, no_head, row_whole, wrong_inputs, wrong_key}
use Rattle.pipe_spill.proofs.row_read.read_row.Goals as goal

pub returns-in_default-clause-not_a_frame : goal.returns-in_default-clause-not_a_frame
returns-in_default-clause-not_a_frame c = λ h.
    no_head c.args.key_types.now c.args.input_types.now c.args.bytes.now (c.in_default.ensures.none refl)

pub returns-then-size-rest-clause-not_a_frame : goal.returns-then-size-rest-clause-not_a_frame
returns-then-size-rest-clause-not_a_frame c = λ h.
    let tail : List ℕ = c.in-Some.rest.now in
    let room : length tail < 2 ^ 64 = search rules in
    key_too_long c.args.key_types.now c.args.input_types.now c.in-Some.place.chunk c.in-Some.place.row c.in-Some.size tail c.args.bytes.now
    c.in-Some.ensures.size room c.in-Some.ensures.some c.if-size-rest.true

pub returns-then-not-is_key-clause-not_a_frame : goal.returns-then-not-is_key-clause-not_a_frame
returns-then-not-is_key-clause-not_a_frame c = λ h.
    let tail : List ℕ = c.in-Some.rest.now in
    let room : length tail < 2 ^ 64 = search rules in
    let wrong : IsKey c.args.key_types.now (take c.in-Some.size tail) → ⊥ = search rules in
    wrong_key c.args.key_types.now c.args.input_types.now c.in-Some.place.chunk c.in-Some.place.row c.in-Some.size tail c.args.bytes.now
    c.in-Some.ensures.size room c.in-Some.ensures.some wrong

pub returns-in-Err-clause-not_a_frame : goal.returns-in-Err-clause-not_a_frame
returns-in-Err-clause-not_a_frame c = λ h.
    let tail : List ℕ = c.in-Some.rest.now in
    let room : length tail < 2 ^ 64 = search rules in
    let none : BeginsNoTuple c.args.input_types.now (drop c.in-Some.size tail) = search rules in
    wrong_inputs c.args.key_types.now c.args.input_types.now c.in-Some.place.chunk c.in-Some.place.row c.in-Some.size tail c.args.bytes.now
    c.in-Some.ensures.size room c.in-Some.ensures.some none

pub returns-in_ok-key-in-Ok-clause-row : goal.returns-in_ok-key-in-Ok-clause-row
returns-in_ok-key-in-Ok-clause-row c =
    let key : IsKey c.args.key_types.now c.split_at.result.0.now = search rules in
    record {
      chunk = c.in-Some.ensures.chunk;
      row = c.in-Some.ensures.row;
      key = subst (IsKey c.args.key_types.now) (sym c.in_ok-key-in-Ok.ensures) key;
      inputs = c.in-Ok.ensures.tuple;
    }

pub returns-in_ok-key-in-Ok-clause-bytes : goal.returns-in_ok-key-in-Ok-clause-bytes
returns-in_ok-key-in-Ok-clause-bytes c =
    let inputs = c.args.input_types.now in
    let tail : List ℕ = c.in-Some.rest.now in
    let rest : List ℕ = c.in-Ok.rest.now in
    let room : length tail < 2 ^ 64 = search rules in
    subst (λ (key : List ℕ). row_bytes inputs (record { place = c.in-Some.place; key = key; values = c.in-Ok.values }) ++ rest ≡ c.args.bytes.now)
    (sym (c.in_ok-key-in-Ok.ensures ∙ c.split_at.ensures.front))
    (row_whole c.args.key_types.now inputs c.in-Some.place.chunk c.in-Some.place.row c.in-Some.size tail c.args.bytes.now
    c.in-Some.ensures.size room c.in-Some.ensures.some c.if-size-rest.false c.in-Ok.values rest (c.in-Ok.ensures.code ∙ c.split_at.ensures.back))
