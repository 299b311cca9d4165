use Rattle.std.proofs.Common.{rules, arith, ◌≡◌, ◌∙◌, ◌+◌, ◌++◌, List, [], ℕ, drop, refl, ap, sym, subst}
use Rattle.std.proofs.lemmas.List.{append-nil, drop_all, take_rest}
use Rattle.pipe_columns.specs.declared.any_value.AnyValue.{AnyValue}
use Rattle.pipe_columns.specs.Key.{code}
use Rattle.pipe_running.specs.declared.function.AggregateFunction.{AggregateFunction}
use Rattle.pipe_states.specs.Forms.{all_saved, all_saved_types, saved_of, saved_types_of}
use Rattle.pipe_states.proofs.Appending.{left_over}
use Rattle.pipe_states.proofs.Saved.{appended_more, AreAppended, front_results}
use Rattle.pipe_states.proofs.writing.append_results.Goals as goal

pub loop-function-init : goal.loop-function-init
loop-function-init c = record { typed = c.requires; bytes = refl }

pub append_result-requires : goal.append_result-requires
append_result-requires c =
    let fs : List AggregateFunction = c.args.functions.now in
    let f : AggregateFunction = c.function-item.result in
    let i : ℕ = c.loop-function.function-index in
    let left = left_over fs i f c.loop-function-test.true c.function-item.is in
    let inv = subst (λ (l : List AggregateFunction). AreAppended fs c.args.results.now c.args.text.now.items c.loop-function.text.items l c.loop-function.rest.now) left c.loop-function.invariant in
    (front_results f (drop (i + 1) fs) c.loop-function.rest.now inv.typed).0

pub loop-function-preserved : goal.loop-function-preserved
loop-function-preserved c =
    let fs : List AggregateFunction = c.args.functions.now in
    let f : AggregateFunction = c.function-item.result in
    let i : ℕ = c.loop-function.function-index in
    let rest : List AnyValue = c.loop-function.rest.now in
    let left = left_over fs i f c.loop-function-test.true c.function-item.is in
    let inv = subst (λ (l : List AggregateFunction). AreAppended fs c.args.results.now c.args.text.now.items c.loop-function.text.items l rest) left c.loop-function.invariant in
    let wrote : c.append_result.new.text.items ≡ c.loop-function.text.items ++ code (saved_types_of f) (saved_of f rest) = search rules in
    subst (λ (l : List AnyValue). AreAppended fs c.args.results.now c.args.text.now.items c.append_result.new.text.items (drop (i + 1) fs) l) (sym (take_rest rest c.width.result))
    (subst (λ (n : ℕ). AreAppended fs c.args.results.now c.args.text.now.items c.append_result.new.text.items (drop (i + 1) fs) (drop n rest)) (sym c.width.ensures)
    (appended_more fs c.args.results.now c.args.text.now.items c.loop-function.text.items c.append_result.new.text.items f (drop (i + 1) fs) rest inv wrote))

pub returns : goal.returns
returns c =
    let fs : List AggregateFunction = c.args.functions.now in
    let text : List ℕ = c.loop-function.text.items in
    let end : drop c.loop-function.function-index fs ≡ [] = drop_all c.loop-function.function-index fs (omega (arith, c.loop-function-test.false)) in
    sym (append-nil text)
    ∙ ap (λ (l : List AggregateFunction). text ++ code (all_saved_types l) (all_saved l c.loop-function.rest.now)) (sym end)
    ∙ c.loop-function.invariant.bytes
