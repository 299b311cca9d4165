-- One more value is passed, and past the last type a tuple was.
use Rattle.std.proofs.Common.{arith, ◌≡◌, ◌∙◌, ◌+◌, List, [], ℕ, drop, length, subst, sym}
use Rattle.pipe_columns.specs.declared.data_type.DataType.TheVariants as dt
use Rattle.pipe_spill.proofs.ValuesRead.{IsKeyTo, key_more, read_nothing, read_tuple}
use Rattle.pipe_waiting.specs.PlainValues.{BeginsSome}
use Rattle.pipe_waiting.proofs.PlainRead.{plain_at}
use Rattle.pipe_waiting.proofs.PlainValue.{next_of}
use Rattle.pipe_waiting.proofs.lent_keys.skip_inputs.Goals as goal

pub behind_value-rest-requires-clause-some : goal.behind_value-rest-requires-clause-some
behind_value-rest-requires-clause-some c =
    let plain = plain_at c.args.types.now c.loop-i.i dt.Boolean c.requires.plain c.loop-i-test.true in
    (next_of c.args.types.now c.loop-i.i dt.Boolean c.loop-i.rest.now c.loop-i-test.true plain c.loop-i.invariant.begins).front.some

pub behind_value-rest-requires-clause-room : goal.behind_value-rest-requires-clause-room
behind_value-rest-requires-clause-room c =
    let plain = plain_at c.args.types.now c.loop-i.i dt.Boolean c.requires.plain c.loop-i-test.true in
    (next_of c.args.types.now c.loop-i.i dt.Boolean c.loop-i.rest.now c.loop-i-test.true plain c.loop-i.invariant.begins).front.room

pub loop-i-init : goal.loop-i-init
loop-i-init c = record { passed = record { values = []; read = read_nothing c.args.types.now c.args.bytes.now }; begins = c.requires.begins }

pub loop-i-preserved : goal.loop-i-preserved
loop-i-preserved c =
    let types = c.args.types.now in
    let i = c.loop-i.i in
    let plain = plain_at types i dt.Boolean c.requires.plain c.loop-i-test.true in
    let next = next_of types i dt.Boolean c.loop-i.rest.now c.loop-i-test.true plain c.loop-i.invariant.begins in
    let rest : c.behind_value-rest.result.now ≡ next.rest = c.behind_value-rest.ensures ∙ next.front.behind in
    record {
      passed = subst (λ (l : List ℕ). IsKeyTo types c.args.bytes.now l (i + 1)) (sym rest)
          (key_more types c.args.bytes.now c.loop-i.rest.now next.rest i dt.Boolean c.loop-i.invariant.passed c.loop-i-test.true (record { value = next.value; is_value = next.is; front = next.code }));
      begins = subst (λ (l : List ℕ). BeginsSome (drop (i + 1) types) l) (sym rest) next.begins;
    }

pub returns : goal.returns
returns c =
    let types = c.args.types.now in
    let last : c.loop-i.i ≡ length types = omega arith in
    let passed : IsKeyTo types c.args.bytes.now c.loop-i.rest.now (length types) = subst (λ (n : ℕ). IsKeyTo types c.args.bytes.now c.loop-i.rest.now n) last c.loop-i.invariant.passed in
    let read = read_tuple types c.args.bytes.now passed.values c.loop-i.rest.now passed.read in
    record { values = passed.values; tuple = read.0; front = read.1 }
