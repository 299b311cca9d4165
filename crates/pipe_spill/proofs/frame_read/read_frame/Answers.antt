-- What was read so far, and what the bytes that are left tell.
use Rattle.std.proofs.lemmas.Grind.{common_steps}
use Rattle.std.proofs.Common.{rules, arith, ◌≡◌, ◌≢◌, ◌<◌, ◌/◌, ◌^◌, [], List, ℕ, length, refl, subst, sym, IsErrOf}
use Rattle.pipe_spill.specs.FrameBytes.{frame_bytes}
use Rattle.pipe_spill.specs.Reading.{BeginsNoRow}
use Rattle.pipe_spill.specs.declared.frame_read.FrameError.TheVariants as fault
use Rattle.pipe_spill.proofs.FrameOnce.{AreReadTo, bytes_left, frame_whole, no_count, no_next_row, none_read, one_read, read_back, too_few_bytes}
use Rattle.pipe_spill.proofs.frame_read.read_frame.Goals as goal

pub returns-then-count-rest-clause-not_a_frame : goal.returns-then-count-rest-clause-not_a_frame
returns-then-count-rest-clause-not_a_frame c = λ h.
    let all : List ℕ = c.in-Some.rest.now in
    let room : length all < 2 ^ 64 = search rules in
    let few : length all / 16 < c.in-Some.count = search rules in
    too_few_bytes c.args.key_types.now c.args.input_types.now c.in-Some.count all c.args.bytes.now c.in-Some.ensures.range room c.in-Some.ensures.some few

pub returns-in_err-row-clause-not_a_frame : goal.returns-in_err-row-clause-not_a_frame
returns-in_err-row-clause-not_a_frame c = λ h.
    let all : List ℕ = c.in-Some.rest.now in
    let rest : List ℕ = c.loop-row.rest.now in
    let room : length all < 2 ^ 64 = search rules in
    let again : IsErrOf c.read_row.result fault.NotAFrame = search rules in
    let none : BeginsNoRow c.args.key_types.now c.args.input_types.now rest = c.read_row.ensures.not_a_frame again in
    no_next_row c.args.key_types.now c.args.input_types.now c.in-Some.count all c.args.bytes.now c.in-Some.ensures.range room c.in-Some.ensures.some
    c.loop-row.rows.items rest c.loop-row._row c.loop-row.invariant c.loop-row-test.true none

pub loop-row-preserved : goal.loop-row-preserved
loop-row-preserved c =
    one_read c.args.key_types.now c.args.input_types.now c.loop-row.rows.items c.push.new.self.items c.in_ok-row.row c.loop-row.rest.now c.in_ok-row.after.now c.in-Some.rest.now
    c.loop-row._row c.loop-row.invariant c.in_ok-row.ensures.row c.in_ok-row.ensures.bytes c.in_ok-push.ensures.items

pub returns-else-is_empty-clause-not_a_frame : goal.returns-else-is_empty-clause-not_a_frame
returns-else-is_empty-clause-not_a_frame c = λ h.
    let all : List ℕ = c.in-Some.rest.now in
    let rest : List ℕ = c.loop-row.rest.now in
    let room : length all < 2 ^ 64 = search rules in
    let at_end : c.loop-row._row ≡ c.in-Some.count = search rules in
    let some : rest ≢ [] = search rules in
    bytes_left c.args.key_types.now c.args.input_types.now c.in-Some.count all c.args.bytes.now c.in-Some.ensures.range room c.in-Some.ensures.some
    c.loop-row.rows.items rest (subst (λ n. AreReadTo c.args.key_types.now c.args.input_types.now c.loop-row.rows.items rest all n) at_end c.loop-row.invariant) some

pub returns-in_default-clause-not_a_frame : goal.returns-in_default-clause-not_a_frame
returns-in_default-clause-not_a_frame c = λ h.
    no_count c.args.key_types.now c.args.input_types.now c.args.bytes.now (c.in_default.ensures.none refl)

pub loop-row-init : goal.loop-row-init
loop-row-init c =
    subst (λ xs. AreReadTo c.args.key_types.now c.args.input_types.now xs c.in-Some.rest.now c.in-Some.rest.now 0) (sym c.in_ok-rows.ensures.items)
    (none_read c.args.key_types.now c.args.input_types.now c.in-Some.rest.now)

pub returns-then-is_empty-clause-rows : goal.returns-then-is_empty-clause-rows
returns-then-is_empty-clause-rows c = c.loop-row.invariant.are

-- no bytes are left behind the last row
whole : (c : goal.Then-is_empty) → frame_bytes c.args.input_types.now c.loop-row.rows.items ≡ c.args.bytes.now
whole c =
    let keys = c.args.key_types.now in
    let inputs = c.args.input_types.now in
    let all : List ℕ = c.in-Some.rest.now in
    let rest : List ℕ = c.loop-row.rest.now in
    let room : length all < 2 ^ 64 = search rules in
    let at_end : c.loop-row._row ≡ c.in-Some.count = omega arith in
    let none : rest ≡ [] = grind (arith, common_steps) in
    frame_whole keys inputs c.in-Some.count all c.args.bytes.now c.in-Some.ensures.range room c.in-Some.ensures.some
    c.loop-row.rows.items rest (subst (λ n. AreReadTo keys inputs c.loop-row.rows.items rest all n) at_end c.loop-row.invariant) none

pub returns-then-is_empty-clause-frame : goal.returns-then-is_empty-clause-frame
returns-then-is_empty-clause-frame c = whole c

pub returns-then-is_empty-clause-read_back : goal.returns-then-is_empty-clause-read_back
returns-then-is_empty-clause-read_back c = λ rows p e.
    let room : length c.args.bytes.now < 2 ^ 64 = search rules in
    read_back c.args.key_types.now c.args.input_types.now c.loop-row.rows.items rows c.args.bytes.now c.loop-row.invariant.are p room (whole c) e
