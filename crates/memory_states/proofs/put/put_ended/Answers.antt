use Rattle.std.proofs.Common.{rules, ◌≡◌, ℕ, Some, Result, Ok, IfOk, IfErr, Vec, inl, subst}
use Rattle.std.specs.declared.alloc.Global.{Global}
use Rattle.memory_answer.specs.Giving.{IsPut}
use Rattle.memory_states.specs.Results.{IsFaultOf}
use Rattle.memory_states.proofs.ResultFacts.{fault-given}
use Rattle.memory_states.proofs.put.put_ended.Goals as goal
use Rattle.rollup_answer.specs.Headline.{IsOwed}
use Rattle.rollup_answer.specs.declared.fault.RollupFault.{RollupFault}
use Rattle.tool_shell.specs.declared.status.TheConstants.{DONE}

pub returns-in-Ok : goal.returns-in-Ok
returns-in-Ok c = record {
  given = λ a files text fault.
      let put : IsPut DONE c.in-Ok.text.items c.args.room.now c.put_bytes.new.room c.put_bytes.new.need c.put_bytes.result = search rules in
      let owed : IsOwed a (Some files) c.in-Ok.text.items = subst (λ (r : Result (Vec ℕ Global) RollupFault). IfOk r (λ t. IsOwed a (Some files) t.items)) c.in-Ok.is text in
      inl (record { result = Ok c.in-Ok.text.items; is = owed }, put);
}

pub returns-in-Err : goal.returns-in-Err
returns-in-Err c = record {
  given = λ a files text fault.
      let caused : IsFaultOf c.in-Err.fault a files = subst (λ (r : Result (Vec ℕ Global) RollupFault). IfErr r (λ f. IsFaultOf f a files)) c.in-Err.is fault in
      fault-given c.in-Err.fault a files c.args.room.now c.put_fault.new.room c.put_fault.new.need c.put_fault.result caused c.put_fault.ensures;
}
