-- The next row has the key that was read, and rows that are left begin with one.
use Rattle.std.proofs.Common.{rules, ◌≡◌, ◌∙◌, ◌+◌, ◌-◌, ◌<◌, ◌^◌, length, refl}
use Rattle.pipe_waiting.proofs.Giving.{begins_inputs, is_headed, next_is}
use Rattle.pipe_waiting.proofs.lent_rows.LentRows.next_key.Goals as goal

pub unreachable-requires : goal.unreachable-requires
unreachable-requires c =
    let count : c.self.inside.count ≡ c.args.self.now.count = search rules in
    let bytes : c.args.self.now.bytes ≡ c.self.inside.bytes.now = search rules in
    is_headed c.args.types.now c.args.self.now.count c.args.self.now.bytes c.requires.held (λ e. c.if-self-eq0.false (count ∙ e))
    (λ types r rest e. c.in_default.ensures.none refl types r rest (e ∙ bytes))

pub skip_inputs-rest-requires-clause-begins : goal.skip_inputs-rest-requires-clause-begins
skip_inputs-rest-requires-clause-begins c =
    let count : c.self.inside.count ≡ c.args.self.now.count = search rules in
    let bytes : c.self.inside.bytes.now ≡ c.args.self.now.bytes = search rules in
    let room : length c.args.self.now.bytes < 2 ^ 64 = search rules in
    begins_inputs c.args.types.now c.args.self.now.count c.args.self.now.bytes c.in-Some.place.chunk c.in-Some.place.row c.in-Some.key.now c.in-Some.inputs.now
    c.requires.held (λ e. c.if-self-eq0.false (count ∙ e)) room (c.in-Some.ensures.some ∙ bytes)

pub returns-clause-some : goal.returns-clause-some
returns-clause-some c =
    let bytes : c.self.inside.bytes.now ≡ c.args.self.now.bytes = search rules in
    let size : length c.in-Some.key.now < 2 ^ 64 = search rules in
    let count : c.args.self.now.count ≡ (c.self.inside.count - 1) + 1 = search rules in
    record {
      values = c.skip_inputs-rest.ensures.values;
      next = next_is c.args.types.now c.args.self.now.count (c.self.inside.count - 1) c.args.self.now.bytes c.skip_inputs-rest.result.now c.in-Some.place c.in-Some.key.now c.in-Some.inputs.now
          c.skip_inputs-rest.ensures.values
          c.requires.held count c.in-Some.ensures.chunk c.in-Some.ensures.row size (c.in-Some.ensures.some ∙ bytes) c.skip_inputs-rest.ensures.tuple
          c.skip_inputs-rest.ensures.front;
    }
