use Rattle.std.proofs.Common.{refl, true, false}
use Rattle.pipe_native.specs.Native.{native_i8, native_i16, native_i32, native_i64, native_u8, native_u16, native_u32, native_u64}
use Rattle.pipe_running.specs.declared.function.AggregateFunction.TheVariants as function
use Rattle.pipe_running.specs.States.{after_value}
use Rattle.pipe_running.specs.Transitions.{count_after, extreme_after, first_after, last_after, mean_after, sum_state_after}
use Rattle.pipe_running.proofs.RunFacts.{run-within}
use Rattle.pipe_running.proofs.function.AggregateFunctionAggregateFn.pre_agg_ordered.Goals as goal

pub returns-in-First-clause-state : goal.returns-in-First-clause-state
returns-in-First-clause-state c = rw (c.in-First.is, c.pre_agg_ordered.ensures.state) (run-within function.First (λ p v s. first_after p v s) after_value (λ p v s. refl) c.args.chunk c.args.first_row c.args.values.now c.in-First.state)

pub returns-in-Last-clause-state : goal.returns-in-Last-clause-state
returns-in-Last-clause-state c = rw (c.in-Last.is, c.pre_agg_ordered-in-Last.ensures.state) (run-within function.Last (λ p v s. last_after p v s) after_value (λ p v s. refl) c.args.chunk c.args.first_row c.args.values.now c.in-Last.state)

pub returns-in-Count-clause-state : goal.returns-in-Count-clause-state
returns-in-Count-clause-state c = rw (c.in-Count.is, c.pre_agg_ordered-in-Count.ensures.state) (run-within function.Count (λ p v s. record { count = count_after false v s.count }) after_value (λ p v s. refl) c.args.chunk c.args.first_row c.args.values.now c.in-Count.state)

pub returns-in-Len-clause-state : goal.returns-in-Len-clause-state
returns-in-Len-clause-state c = rw (c.in-Len.is, c.pre_agg_ordered-in-Len.ensures.state) (run-within function.Len (λ p v s. record { count = count_after true v s.count }) after_value (λ p v s. refl) c.args.chunk c.args.first_row c.args.values.now c.in-Len.state)

pub returns-in-SumU32-clause-state : goal.returns-in-SumU32-clause-state
returns-in-SumU32-clause-state c = rw (c.in-SumU32.is, c.pre_agg_ordered-in-SumU32.ensures.state) (run-within function.SumU32 (λ p v s. sum_state_after native_u32 v s) after_value (λ p v s. refl) c.args.chunk c.args.first_row c.args.values.now c.in-SumU32.state)

pub returns-in-SumU64-clause-state : goal.returns-in-SumU64-clause-state
returns-in-SumU64-clause-state c = rw (c.in-SumU64.is, c.pre_agg_ordered-in-SumU64.ensures.state) (run-within function.SumU64 (λ p v s. sum_state_after native_u64 v s) after_value (λ p v s. refl) c.args.chunk c.args.first_row c.args.values.now c.in-SumU64.state)

pub returns-in-SumI32-clause-state : goal.returns-in-SumI32-clause-state
returns-in-SumI32-clause-state c = rw (c.in-SumI32.is, c.pre_agg_ordered-in-SumI32.ensures.state) (run-within function.SumI32 (λ p v s. sum_state_after native_i32 v s) after_value (λ p v s. refl) c.args.chunk c.args.first_row c.args.values.now c.in-SumI32.state)

pub returns-in-SumI64-clause-state : goal.returns-in-SumI64-clause-state
returns-in-SumI64-clause-state c = rw (c.in-SumI64.is, c.pre_agg_ordered-in-SumI64.ensures.state) (run-within function.SumI64 (λ p v s. sum_state_after native_i64 v s) after_value (λ p v s. refl) c.args.chunk c.args.first_row c.args.values.now c.in-SumI64.state)

pub returns-in-Mean-clause-state : goal.returns-in-Mean-clause-state
returns-in-Mean-clause-state c = rw (c.in-Mean.is, c.pre_agg_ordered-in-Mean.ensures.state) (run-within function.Mean (λ p v s. mean_after v s) after_value (λ p v s. refl) c.args.chunk c.args.first_row c.args.values.now c.in-Mean.state)

pub returns-in-Null-clause-state : goal.returns-in-Null-clause-state
returns-in-Null-clause-state c = rw (c.in-Null.is, c.pre_agg_ordered-in-Null.ensures.state) (run-within function.Null (λ p v s. s) after_value (λ p v s. refl) c.args.chunk c.args.first_row c.args.values.now c.in-Null.state)

pub returns-in-MinMaxU8-clause-state : goal.returns-in-MinMaxU8-clause-state
returns-in-MinMaxU8-clause-state c = rw (c.in-MinMaxU8.is, c.pre_agg_ordered-in-MinMaxU8.ensures.state) (run-within function.MinMaxU8 (λ p v s. extreme_after native_u8 v s) after_value (λ p v s. refl) c.args.chunk c.args.first_row c.args.values.now c.in-MinMaxU8.state)

pub returns-in-MinMaxU16-clause-state : goal.returns-in-MinMaxU16-clause-state
returns-in-MinMaxU16-clause-state c = rw (c.in-MinMaxU16.is, c.pre_agg_ordered-in-MinMaxU16.ensures.state) (run-within function.MinMaxU16 (λ p v s. extreme_after native_u16 v s) after_value (λ p v s. refl) c.args.chunk c.args.first_row c.args.values.now c.in-MinMaxU16.state)

pub returns-in-MinMaxU32-clause-state : goal.returns-in-MinMaxU32-clause-state
returns-in-MinMaxU32-clause-state c = rw (c.in-MinMaxU32.is, c.pre_agg_ordered-in-MinMaxU32.ensures.state) (run-within function.MinMaxU32 (λ p v s. extreme_after native_u32 v s) after_value (λ p v s. refl) c.args.chunk c.args.first_row c.args.values.now c.in-MinMaxU32.state)

pub returns-in-MinMaxU64-clause-state : goal.returns-in-MinMaxU64-clause-state
returns-in-MinMaxU64-clause-state c = rw (c.in-MinMaxU64.is, c.pre_agg_ordered-in-MinMaxU64.ensures.state) (run-within function.MinMaxU64 (λ p v s. extreme_after native_u64 v s) after_value (λ p v s. refl) c.args.chunk c.args.first_row c.args.values.now c.in-MinMaxU64.state)

pub returns-in-MinMaxI8-clause-state : goal.returns-in-MinMaxI8-clause-state
returns-in-MinMaxI8-clause-state c = rw (c.in-MinMaxI8.is, c.pre_agg_ordered-in-MinMaxI8.ensures.state) (run-within function.MinMaxI8 (λ p v s. extreme_after native_i8 v s) after_value (λ p v s. refl) c.args.chunk c.args.first_row c.args.values.now c.in-MinMaxI8.state)

pub returns-in-MinMaxI16-clause-state : goal.returns-in-MinMaxI16-clause-state
returns-in-MinMaxI16-clause-state c = rw (c.in-MinMaxI16.is, c.pre_agg_ordered-in-MinMaxI16.ensures.state) (run-within function.MinMaxI16 (λ p v s. extreme_after native_i16 v s) after_value (λ p v s. refl) c.args.chunk c.args.first_row c.args.values.now c.in-MinMaxI16.state)

pub returns-in-MinMaxI32-clause-state : goal.returns-in-MinMaxI32-clause-state
returns-in-MinMaxI32-clause-state c = rw (c.in-MinMaxI32.is, c.pre_agg_ordered-in-MinMaxI32.ensures.state) (run-within function.MinMaxI32 (λ p v s. extreme_after native_i32 v s) after_value (λ p v s. refl) c.args.chunk c.args.first_row c.args.values.now c.in-MinMaxI32.state)

pub returns-in-MinMaxI64-clause-state : goal.returns-in-MinMaxI64-clause-state
returns-in-MinMaxI64-clause-state c = rw (c.in-MinMaxI64.is, c.pre_agg_ordered-in-MinMaxI64.ensures.state) (run-within function.MinMaxI64 (λ p v s. extreme_after native_i64 v s) after_value (λ p v s. refl) c.args.chunk c.args.first_row c.args.values.now c.in-MinMaxI64.state)
