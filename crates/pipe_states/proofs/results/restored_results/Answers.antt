use Rattle.std.proofs.Common.{rules, arith, ◌≡◌, ◌∙◌, ◌+◌, ◌++◌, [], List, ℕ, drop, ap, sym, subst}
use Rattle.std.specs.Prelude.{IsErrOf, Some, option_map}
use Rattle.std.proofs.lemmas.List.{drop_all, drop-drop}
use Rattle.pipe_columns.specs.declared.any_value.AnyValue.{AnyValue}
use Rattle.pipe_running.specs.declared.function.AggregateFunction.{AggregateFunction}
use Rattle.pipe_states.specs.Forms.{restored, restored_behind, saved_width}
use Rattle.pipe_states.specs.declared.state_error.StateError.TheVariants as fault
use Rattle.pipe_states.proofs.Appending.{left_over}
use Rattle.pipe_states.proofs.Saved.{AreRestored, front_saved, restored_more, restored_none}
use Rattle.pipe_states.proofs.results.restored_results.Goals as goal

pub loop-function-init : goal.loop-function-init
loop-function-init c =
    let none : c.in_ok-results.results.items ≡ [] = c.in_ok-results.ensures.items in
    let rest : List AnyValue = c.args.values.now in
    record {
      typed = c.requires;
      is = ap (λ (l : List AnyValue). restored_behind l c.args.functions.now rest) none;
      near = omega arith;
    }

pub restore-requires-clause-typed : goal.restore-requires-clause-typed
restore-requires-clause-typed c =
    let fs : List AggregateFunction = c.args.functions.now in
    let f : AggregateFunction = c.function-item.result in
    let i : ℕ = c.loop-function.function-index in
    let rest : List AnyValue = drop c.loop-function.j c.loop-function.values in
    let left = left_over fs i f c.loop-function-test.true c.function-item.is in
    let inv = subst (λ (l : List AggregateFunction). AreRestored fs c.args.values.now c.loop-function.results.items l i c.loop-function.j rest) left c.loop-function.invariant in
    (front_saved f (drop (i + 1) fs) rest inv.typed).0

pub loop-function-preserved : goal.loop-function-preserved
loop-function-preserved c =
    let fs : List AggregateFunction = c.args.functions.now in
    let f : AggregateFunction = c.function-item.result in
    let i : ℕ = c.loop-function.function-index in
    let j : ℕ = c.loop-function.j in
    let all : List AnyValue = c.args.values.now in
    let rest : List AnyValue = drop j c.loop-function.values in
    let left = left_over fs i f c.loop-function-test.true c.function-item.is in
    let inv = subst (λ (l : List AggregateFunction). AreRestored fs all c.loop-function.results.items l i j rest) left c.loop-function.invariant in
    let some : option_map (λ (more : List AnyValue). c.loop-function.results.items ++ more) (restored f rest) ≡ Some c.restore.new.results.items = search rules in
    let others : drop (j + saved_width f) c.restore.new.values ≡ drop (saved_width f) rest = c.restore.ensures.others ∙ sym (drop-drop (saved_width f) j c.loop-function.values) in
    let next = restored_more fs all c.loop-function.results.items c.restore.new.results.items f (drop (i + 1) fs) i j rest inv some in
    subst (λ (n : ℕ). AreRestored fs all c.restore.new.results.items (drop (i + 1) fs) (i + 1) (j + n) (drop (j + n) c.restore.new.values)) (sym c.saved_width-j.ensures)
    (subst (λ (l : List AnyValue). AreRestored fs all c.restore.new.results.items (drop (i + 1) fs) (i + 1) (j + saved_width f) l) (sym others) next)

pub returns-in_err-restore-clause-refused : goal.returns-in_err-restore-clause-refused
returns-in_err-restore-clause-refused c = λ h.
    let fs : List AggregateFunction = c.args.functions.now in
    let f : AggregateFunction = c.function-item.result in
    let i : ℕ = c.loop-function.function-index in
    let j : ℕ = c.loop-function.j in
    let all : List AnyValue = c.args.values.now in
    let rest : List AnyValue = drop j c.loop-function.values in
    let left = left_over fs i f c.loop-function-test.true c.function-item.is in
    let inv = subst (λ (l : List AggregateFunction). AreRestored fs all c.loop-function.results.items l i j rest) left c.loop-function.invariant in
    let again : IsErrOf c.restore.result fault.NotAState = search rules in
    restored_none fs all c.loop-function.results.items f (drop (i + 1) fs) i j rest inv (c.restore.ensures.refused again)

pub returns-clause-restored : goal.returns-clause-restored
returns-clause-restored c =
    let fs : List AggregateFunction = c.args.functions.now in
    let end : drop c.loop-function.function-index fs ≡ [] = drop_all c.loop-function.function-index fs (omega (arith, c.loop-function-test.false)) in
    let done : List AnyValue = c.loop-function.results.items in
    let rest : List AnyValue = drop c.loop-function.j c.loop-function.values in
    sym c.loop-function.invariant.is
    ∙ ap (λ (l : List AggregateFunction). restored_behind done l rest) end
    ∙ ap Some (sym c.new.ensures)
