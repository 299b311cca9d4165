use Rattle.std.proofs.Common.{arith, ◌∙◌, ◌<◌, List, ◌++◌, length, take, ap}
use Rattle.std.proofs.lemmas.List.{append_assoc, length-drop}
use Rattle.pipe_columns.specs.declared.any_value.AnyValue.{AnyValue}
use Rattle.pipe_running.specs.declared.interface.Finalized.{Finalized}
use Rattle.pipe_running.specs.declared.function.AggregateFunction.{AggregateFunction}
use Rattle.pipe_running.specs.States.{given, output_values}
use Rattle.test_plain.proofs.FrameFacts.{outputs_more, outputs_of, same_rest}
use Rattle.test_plain.proofs.frame.output_row.Goals as goal

pub loop-j-preserved : goal.loop-j-preserved
loop-j-preserved c =
    let j = c.loop-j.j in
    let states : List AggregateFunction = c.args.group.states.items in
    let now : List AggregateFunction = c.loop-j.states.items in
    let state : AggregateFunction = c.index_mut.result.now in
    let inv = c.loop-j.invariant in
    let lengths = ap length inv.left in
    let there : j < length states = omega (arith, c.len-j-end.ensures) in
    let here : j < length now = omega (arith, lengths, length-drop j now, length-drop j states, there) in
    let rest = same_rest now states j state c.finalize.new.self here there c.index_mut.ensures.value inv.left in
    let outputs = outputs_more states j state there rest.1 in
    let key : List AnyValue = c.args.group.key.items in
    record {
      left = rest.0;
      row = c.in_ok-push_outputs.ensures ∙ ap (λ (t : List AnyValue). t ++ output_values c.finalize.result) inv.row
          ∙ ap (λ (f : Finalized). (key ++ outputs_of (take j states)) ++ output_values f) c.finalize.ensures.given
          ∙ append_assoc key (outputs_of (take j states)) (output_values (given state)) ∙ ap (λ (t : List AnyValue). key ++ t) outputs;
    }
