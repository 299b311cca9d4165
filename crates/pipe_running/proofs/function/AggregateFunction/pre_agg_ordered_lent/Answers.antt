use Rattle.std.proofs.Common.{◌∙◌, true, false, refl, sym, ap}
use Rattle.pipe_native.specs.Native.{native_i8, native_i16, native_i32, native_i64, native_u8, native_u16, native_u32, native_u64}
use Rattle.pipe_running.specs.declared.function.AggregateFunction.TheVariants as function
use Rattle.pipe_running.specs.States.{after_value}
use Rattle.pipe_running.specs.Transitions.{count_after, extreme_after, first_after, last_after, mean_after, sum_state_after}
use Rattle.pipe_running.proofs.EndFacts.{first-run, last-run}
use Rattle.pipe_running.proofs.RunFacts.{run-within}
use Rattle.pipe_running.proofs.function.AggregateFunction.pre_agg_ordered_lent.Goals as goal

pub returns-in-Some : goal.returns-in-Some
returns-in-Some c =
    rw (c.in-First.is, c.pre_agg_lent.ensures)
    (ap function.First (sym (first-run c.args.chunk c.args.first_row c.args.values.now c.in-Some.value.now c.in-First.state c.in-Some.ensures.value))
    ∙ run-within function.First (λ p v s. first_after p v s) after_value (λ p v s. refl) c.args.chunk c.args.first_row c.args.values.now c.in-First.state)

pub returns-in-Some-last : goal.returns-in-Some-last
returns-in-Some-last c =
    rw (c.in-Last.is, c.pre_agg_lent-in-Some-last.ensures)
    (ap function.Last (sym (last-run c.args.chunk c.args.first_row c.args.values.now c.in-Some-last.value.now c.in-Last.state c.in-Some-last.ensures.value))
    ∙ run-within function.Last (λ p v s. last_after p v s) after_value (λ p v s. refl) c.args.chunk c.args.first_row c.args.values.now c.in-Last.state)

pub returns-in-Count : goal.returns-in-Count
returns-in-Count c = rw (c.in-Count.is, c.lend_run.ensures) (run-within function.Count (λ p v s. record { count = count_after false v s.count }) after_value (λ p v s. refl) c.args.chunk c.args.first_row c.args.values.now c.in-Count.state)

pub returns-in-Len : goal.returns-in-Len
returns-in-Len c = rw (c.in-Len.is, c.lend_run-in-Len.ensures) (run-within function.Len (λ p v s. record { count = count_after true v s.count }) after_value (λ p v s. refl) c.args.chunk c.args.first_row c.args.values.now c.in-Len.state)

pub returns-in-SumU32 : goal.returns-in-SumU32
returns-in-SumU32 c = rw (c.in-SumU32.is, c.lend_run-in-SumU32.ensures) (run-within function.SumU32 (λ p v s. sum_state_after native_u32 v s) after_value (λ p v s. refl) c.args.chunk c.args.first_row c.args.values.now c.in-SumU32.state)

pub returns-in-SumU64 : goal.returns-in-SumU64
returns-in-SumU64 c = rw (c.in-SumU64.is, c.lend_run-in-SumU64.ensures) (run-within function.SumU64 (λ p v s. sum_state_after native_u64 v s) after_value (λ p v s. refl) c.args.chunk c.args.first_row c.args.values.now c.in-SumU64.state)

pub returns-in-SumI32 : goal.returns-in-SumI32
returns-in-SumI32 c = rw (c.in-SumI32.is, c.lend_run-in-SumI32.ensures) (run-within function.SumI32 (λ p v s. sum_state_after native_i32 v s) after_value (λ p v s. refl) c.args.chunk c.args.first_row c.args.values.now c.in-SumI32.state)

pub returns-in-SumI64 : goal.returns-in-SumI64
returns-in-SumI64 c = rw (c.in-SumI64.is, c.lend_run-in-SumI64.ensures) (run-within function.SumI64 (λ p v s. sum_state_after native_i64 v s) after_value (λ p v s. refl) c.args.chunk c.args.first_row c.args.values.now c.in-SumI64.state)

pub returns-in-Mean : goal.returns-in-Mean
returns-in-Mean c = rw (c.in-Mean.is, c.lend_run-in-Mean.ensures) (run-within function.Mean (λ p v s. mean_after v s) after_value (λ p v s. refl) c.args.chunk c.args.first_row c.args.values.now c.in-Mean.state)

pub returns-in-Null : goal.returns-in-Null
returns-in-Null c = rw (c.in-Null.is, c.lend_run-in-Null.ensures) (run-within function.Null (λ p v s. s) after_value (λ p v s. refl) c.args.chunk c.args.first_row c.args.values.now c.in-Null.state)

pub returns-in-MinMaxU8 : goal.returns-in-MinMaxU8
returns-in-MinMaxU8 c = rw (c.in-MinMaxU8.is, c.lend_run-in-MinMaxU8.ensures) (run-within function.MinMaxU8 (λ p v s. extreme_after native_u8 v s) after_value (λ p v s. refl) c.args.chunk c.args.first_row c.args.values.now c.in-MinMaxU8.state)

pub returns-in-MinMaxU16 : goal.returns-in-MinMaxU16
returns-in-MinMaxU16 c = rw (c.in-MinMaxU16.is, c.lend_run-in-MinMaxU16.ensures) (run-within function.MinMaxU16 (λ p v s. extreme_after native_u16 v s) after_value (λ p v s. refl) c.args.chunk c.args.first_row c.args.values.now c.in-MinMaxU16.state)

pub returns-in-MinMaxU32 : goal.returns-in-MinMaxU32
returns-in-MinMaxU32 c = rw (c.in-MinMaxU32.is, c.lend_run-in-MinMaxU32.ensures) (run-within function.MinMaxU32 (λ p v s. extreme_after native_u32 v s) after_value (λ p v s. refl) c.args.chunk c.args.first_row c.args.values.now c.in-MinMaxU32.state)

pub returns-in-MinMaxU64 : goal.returns-in-MinMaxU64
returns-in-MinMaxU64 c = rw (c.in-MinMaxU64.is, c.lend_run-in-MinMaxU64.ensures) (run-within function.MinMaxU64 (λ p v s. extreme_after native_u64 v s) after_value (λ p v s. refl) c.args.chunk c.args.first_row c.args.values.now c.in-MinMaxU64.state)

pub returns-in-MinMaxI8 : goal.returns-in-MinMaxI8
returns-in-MinMaxI8 c = rw (c.in-MinMaxI8.is, c.lend_run-in-MinMaxI8.ensures) (run-within function.MinMaxI8 (λ p v s. extreme_after native_i8 v s) after_value (λ p v s. refl) c.args.chunk c.args.first_row c.args.values.now c.in-MinMaxI8.state)

pub returns-in-MinMaxI16 : goal.returns-in-MinMaxI16
returns-in-MinMaxI16 c = rw (c.in-MinMaxI16.is, c.lend_run-in-MinMaxI16.ensures) (run-within function.MinMaxI16 (λ p v s. extreme_after native_i16 v s) after_value (λ p v s. refl) c.args.chunk c.args.first_row c.args.values.now c.in-MinMaxI16.state)

pub returns-in-MinMaxI32 : goal.returns-in-MinMaxI32
returns-in-MinMaxI32 c = rw (c.in-MinMaxI32.is, c.lend_run-in-MinMaxI32.ensures) (run-within function.MinMaxI32 (λ p v s. extreme_after native_i32 v s) after_value (λ p v s. refl) c.args.chunk c.args.first_row c.args.values.now c.in-MinMaxI32.state)

pub returns-in-MinMaxI64 : goal.returns-in-MinMaxI64
returns-in-MinMaxI64 c = rw (c.in-MinMaxI64.is, c.lend_run-in-MinMaxI64.ensures) (run-within function.MinMaxI64 (λ p v s. extreme_after native_i64 v s) after_value (λ p v s. refl) c.args.chunk c.args.first_row c.args.values.now c.in-MinMaxI64.state)
