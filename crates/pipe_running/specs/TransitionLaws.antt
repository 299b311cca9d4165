-- Of the proofs alone: what one more value leaves of a state's count.
use Rattle.std.specs.Prelude.{ℕ, ◌+◌, ◌≤◌, Bool, true, false}
use Rattle.std.proofs.Common.{arith}
use Rattle.pipe_columns.specs.declared.any_value.AnyValue.{AnyValue}
use Rattle.pipe_columns.specs.declared.any_value.AnyValue.TheVariants as av
use Rattle.pipe_running.specs.Transitions.{count_after}

-- a count grows by one at most
pub count_by_one : (include_null : Bool) (v : AnyValue) (n : ℕ)
    → count_after include_null v n ≤ n + 1
count_by_one true v n = omega arith
count_by_one false av.Null n = omega arith
count_by_one false (av.Boolean b) n = omega arith
count_by_one false (av.Int m) n = omega arith
count_by_one false (av.Text s) n = omega arith

-- what counts nothing stays at 0
pub none_by_one : 0 ≤ 1
none_by_one = omega arith
