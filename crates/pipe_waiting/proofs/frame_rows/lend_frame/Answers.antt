-- Past the last row that was tested no bytes are left.
use Rattle.std.proofs.lemmas.Grind.{common_steps}
use Rattle.std.proofs.Common.{rules, arith, ◌≡◌, ◌≢◌, ◌++◌, ◌<◌, ◌^◌, [], List, ℕ, length, subst, IsErrOf}
use Rattle.std.specs.Int.{bytes_high_first}
use Rattle.pipe_spill.specs.declared.frame_read.FrameError.TheVariants as fault
use Rattle.pipe_spill.proofs.FrameOnce.{read_back}
use Rattle.pipe_waiting.specs.ReadRows.{read_rows}
use Rattle.pipe_waiting.proofs.FrameFacts.{AreTested, no_rows, other_count, surplus, tested}
use Rattle.pipe_waiting.proofs.frame_rows.lend_frame.Goals as goal

pub returns-then-told-count-clause-refused : goal.returns-then-told-count-clause-refused
returns-then-told-count-clause-refused c = λ h rows typed lie n.
    let all : List ℕ = c.in-Some.all.now in
    let room : length all < 2 ^ 64 = search rules in
    let short : c.args.count < 2 ^ 64 = search rules in
    let differ : c.in-Some.told ≢ c.args.count = search rules in
    other_count c.args.key_types.now c.args.input_types.now c.args.own.partitions c.args.own.number c.args.count all c.args.bytes.now short room
    c.in-Some.told c.in-Some.ensures.range differ c.in-Some.ensures.some rows n

pub returns-in_err-rest-clause-refused : goal.returns-in_err-rest-clause-refused
returns-in_err-rest-clause-refused c = λ h rows typed lie n.
    let all : List ℕ = c.in-Some.all.now in
    let room : length all < 2 ^ 64 = search rules in
    let short : c.args.count < 2 ^ 64 = search rules in
    let told : c.in-Some.told ≡ c.args.count = search rules in
    let again : IsErrOf c.skip_rows.result fault.NotAFrame = search rules in
    no_rows c.args.key_types.now c.args.input_types.now c.args.own.partitions c.args.own.number c.args.count all c.args.bytes.now short room
    (subst (λ (k : ℕ). bytes_high_first 8 k ++ all ≡ c.args.bytes.now) told c.in-Some.ensures.some)
    rows (c.skip_rows.ensures.refused again rows typed lie n)

pub returns-else-is_empty-clause-refused : goal.returns-else-is_empty-clause-refused
returns-else-is_empty-clause-refused c = λ h rows typed lie n.
    let all : List ℕ = c.in-Some.all.now in
    let rest : List ℕ = c.in_ok-rest.rest.now in
    let room : length all < 2 ^ 64 = search rules in
    let short : c.args.count < 2 ^ 64 = search rules in
    let told : c.in-Some.told ≡ c.args.count = search rules in
    let some : rest ≢ [] = search rules in
    surplus c.args.key_types.now c.args.input_types.now c.args.own.partitions c.args.own.number c.args.count all c.args.bytes.now short room
    (subst (λ (k : ℕ). bytes_high_first 8 k ++ all ≡ c.args.bytes.now) told c.in-Some.ensures.some)
    rest c.in_ok-rest.ensures.tested some rows typed

-- the bytes were tested whole
whole : (c : goal.Then-is_empty)
    → (head : bytes_high_first 8 c.args.count ++ c.in-Some.all.now ≡ c.args.bytes.now) × (short : c.args.count < 2 ^ 64) × (room : length c.in-Some.all.now < 2 ^ 64)
    × AreTested c.args.key_types.now c.args.input_types.now c.args.own.partitions c.args.own.number c.args.count c.in-Some.all.now c.args.bytes.now short room head
whole c =
    let all : List ℕ = c.in-Some.all.now in
    let rest : List ℕ = c.in_ok-rest.rest.now in
    let room : length all < 2 ^ 64 = search rules in
    let short : c.args.count < 2 ^ 64 = search rules in
    let told : c.in-Some.told ≡ c.args.count = search rules in
    let head = subst (λ (k : ℕ). bytes_high_first 8 k ++ all ≡ c.args.bytes.now) told c.in-Some.ensures.some in
    let none : rest ≡ [] = grind (arith, common_steps) in (
      head,
      short,
      room,
      tested c.args.key_types.now c.args.input_types.now c.args.own.partitions c.args.own.number c.args.count all c.args.bytes.now short room head
          rest c.in_ok-rest.ensures.tested none,
    )

pub returns-then-is_empty-clause-held : goal.returns-then-is_empty-clause-held
returns-then-is_empty-clause-held c = (whole c).3.held

pub returns-then-is_empty-clause-typed : goal.returns-then-is_empty-clause-typed
returns-then-is_empty-clause-typed c = (whole c).3.typed

pub returns-then-is_empty-clause-lie : goal.returns-then-is_empty-clause-lie
returns-then-is_empty-clause-lie c = (whole c).3.lie

pub returns-then-is_empty-clause-frame : goal.returns-then-is_empty-clause-frame
returns-then-is_empty-clause-frame c = (whole c).3.frame

pub returns-then-is_empty-clause-read_back : goal.returns-then-is_empty-clause-read_back
returns-then-is_empty-clause-read_back c = λ rows typed e.
    let room : length c.args.bytes.now < 2 ^ 64 = search rules in
    read_back c.args.key_types.now c.args.input_types.now (read_rows c.args.input_types.now c.args.count c.in-Some.all.now) rows c.args.bytes.now
    (whole c).3.typed typed room (whole c).3.frame e
