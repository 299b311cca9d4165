use Rattle.std.proofs.Common.{rules, arith, ◌≡◌, ◌∙◌, ◌++◌, List, [], drop, ap, sym}
use Rattle.std.proofs.lemmas.List.{append-nil, drop_all}
use Rattle.pipe_running.specs.declared.function.AggregateFunction.{AggregateFunction}
use Rattle.pipe_states.specs.Forms.{all_saved_types, saved_types_of}
use Rattle.pipe_states.proofs.Appending.{flat_written}
use Rattle.pipe_states.proofs.saved_types.push_all_types.Goals as goal

pub loop-function-preserved : goal.loop-function-preserved
loop-function-preserved c =
    let fs : List AggregateFunction = c.args.functions.now in
    let wrote : c.push_types.new.types.items ≡ c.loop-function.types.items ++ saved_types_of c.function-item.result = search rules in
    flat_written saved_types_of fs c.loop-function.function-index c.function-item.result c.loop-function.types.items c.push_types.new.types.items (c.args.types.now.items ++ all_saved_types fs)
    c.loop-function-test.true c.function-item.is c.loop-function.invariant wrote

pub returns : goal.returns
returns c =
    let fs : List AggregateFunction = c.args.functions.now in
    let end : drop c.loop-function.function-index fs ≡ [] = drop_all c.loop-function.function-index fs (omega (arith, c.loop-function-test.false)) in
    sym (append-nil c.loop-function.types.items) ∙ ap (λ (l : List AggregateFunction). c.loop-function.types.items ++ all_saved_types l) (sym end) ∙ c.loop-function.invariant
