-- One more value is read, and past the last type the tuple is whole.
use Rattle.std.proofs.Common.{arith, ◌≡◌, ◌∙◌, ◌+◌, ◌++◌, List, ℕ, drop, length, set, subst, sym}
use Rattle.pipe_columns.specs.declared.any_value.AnyValue.{AnyValue}
use Rattle.pipe_columns.specs.declared.data_type.DataType.TheVariants as dt
use Rattle.pipe_columns.specs.Key.{code}
use Rattle.pipe_spill.specs.KeyTypes.{IsTuple}
use Rattle.pipe_waiting.specs.PlainValues.{BeginsSome}
use Rattle.pipe_waiting.proofs.PlainRead.{all_placed, ArePlacedTo, none_placed, one_placed, plain_at}
use Rattle.pipe_waiting.proofs.PlainValue.{next_of}
use Rattle.pipe_waiting.proofs.plain_rows.read_plain_inputs.Goals as goal

pub plain_value-value-requires-clause-plain : goal.plain_value-value-requires-clause-plain
plain_value-value-requires-clause-plain c = plain_at c.args.types.now c.loop-i.i dt.Boolean c.requires.plain c.loop-i-test.true

pub plain_value-value-requires-clause-some : goal.plain_value-value-requires-clause-some
plain_value-value-requires-clause-some c =
    let plain = plain_at c.args.types.now c.loop-i.i dt.Boolean c.requires.plain c.loop-i-test.true in
    (next_of c.args.types.now c.loop-i.i dt.Boolean c.loop-i.rest.now c.loop-i-test.true plain c.loop-i.invariant.begins).front.some

pub plain_value-value-requires-clause-room : goal.plain_value-value-requires-clause-room
plain_value-value-requires-clause-room c =
    let plain = plain_at c.args.types.now c.loop-i.i dt.Boolean c.requires.plain c.loop-i-test.true in
    (next_of c.args.types.now c.loop-i.i dt.Boolean c.loop-i.rest.now c.loop-i-test.true plain c.loop-i.invariant.begins).front.room

pub behind_value-rest-requires-clause-room : goal.behind_value-rest-requires-clause-room
behind_value-rest-requires-clause-room c =
    let plain = plain_at c.args.types.now c.loop-i.i dt.Boolean c.requires.plain c.loop-i-test.true in
    (next_of c.args.types.now c.loop-i.i dt.Boolean c.loop-i.rest.now c.loop-i-test.true plain c.loop-i.invariant.begins).front.room

pub loop-i-init : goal.loop-i-init
loop-i-init c = record {
  placed = none_placed c.args.types.now c.args.bytes.now c.args.values.now c.requires.fit;
  begins = c.requires.begins;
}

pub loop-i-preserved : goal.loop-i-preserved
loop-i-preserved c =
    let types = c.args.types.now in
    let i = c.loop-i.i in
    let plain = plain_at types i dt.Boolean c.requires.plain c.loop-i-test.true in
    let next = next_of types i dt.Boolean c.loop-i.rest.now c.loop-i-test.true plain c.loop-i.invariant.begins in
    let read : c.plain_value-value.result ≡ next.value = c.plain_value-value.ensures ∙ next.front.value in
    let rest : c.behind_value-rest.result.now ≡ next.rest = c.behind_value-rest.ensures ∙ next.front.behind in
    record {
      placed = subst (λ (v : AnyValue). ArePlacedTo types c.args.bytes.now (set c.loop-i.values i v) c.behind_value-rest.result.now (i + 1)) (sym read)
          (subst (λ (l : List ℕ). ArePlacedTo types c.args.bytes.now (set c.loop-i.values i next.value) l (i + 1)) (sym rest)
          (one_placed types c.args.bytes.now c.loop-i.values c.loop-i.rest.now next.rest i dt.Boolean next.value c.loop-i.invariant.placed c.loop-i-test.true next.is next.code));
      begins = subst (λ (l : List ℕ). BeginsSome (drop (i + 1) types) l) (sym rest) next.begins;
    }

-- past the last type the whole tuple was read
at_end : (c : goal.After-loop-i) → IsTuple c.args.types.now c.loop-i.values × (code c.args.types.now c.loop-i.values ++ c.loop-i.rest.now ≡ c.args.bytes.now)
at_end c =
    let last : c.loop-i.i ≡ length c.args.types.now = omega arith in
    all_placed c.args.types.now c.args.bytes.now c.loop-i.values c.loop-i.rest.now c.loop-i.i c.loop-i.invariant.placed last

pub returns-clause-tuple : goal.returns-clause-tuple
returns-clause-tuple c = (at_end c).0

pub returns-clause-code : goal.returns-clause-code
returns-clause-code c = (at_end c).1
