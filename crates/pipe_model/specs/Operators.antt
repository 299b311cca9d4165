-- What operators and casts make of values.
use Rattle.std.specs.Prelude.{suc, ℤ, pos, negsuc, neg_ℤ, ◌+ℤ◌, ◌*ℤ◌, ◌-ℤ◌, Bool, true, false, not, Option, Some, None, if◌then◌else◌}
use Rattle.std.specs.declared.cmp.Ordering.{Ordering}
use Rattle.std.specs.Ordering.{is_eq, is_ne, is_lt, is_le, is_gt, is_ge, int_eq}
use Rattle.std.specs.Int.{int_div_euclid}
use Rattle.pipe_columns.specs.declared.data_type.DataType.{DataType}
use Rattle.pipe_columns.specs.declared.any_value.AnyValue.{AnyValue}
use Rattle.pipe_columns.specs.declared.any_value.AnyValue.TheVariants as av
use Rattle.pipe_columns.specs.AnyValue.{fits_number, value_cmp}
use Rattle.pipe_columns.specs.DataType.{is_boolean, wrapped}
use Rattle.pipe_columns.specs.declared.operator.Operator.{Operator}
use Rattle.pipe_columns.specs.declared.operator.Operator.TheVariants as op

-- the quotient rounded down
abbrev pub floor_quotient : ℤ → ℤ → ℤ
floor_quotient a (pos b) = int_div_euclid a (pos b)
floor_quotient a (negsuc b) = int_div_euclid (neg_ℤ a) (pos (suc b))

-- a number that a division gives, where the divisor isn't 0
abbrev pub where_divisible : ℤ → ℤ → Option ℤ
where_divisible b n = if int_eq b (pos 0) then None else Some n

-- the exact result of arithmetic; none for a zero divisor
abbrev pub exact_result : Operator → ℤ → ℤ → Option ℤ
exact_result op.Plus a b = Some (a +ℤ b)
exact_result op.Minus a b = Some (a -ℤ b)
exact_result op.Multiply a b = Some (a *ℤ b)
exact_result op.FloorDivide a b = where_divisible b (floor_quotient a b)
exact_result op.Modulus a b = where_divisible b (a -ℤ b *ℤ floor_quotient a b)
exact_result o a b = None

-- a number wrapped into a type, null for none
abbrev pub number_if_any : DataType → Option ℤ → AnyValue
number_if_any t None = av.Null
number_if_any t (Some n) = av.Int (wrapped t n)

-- arithmetic of numbers of a type: the exact result, wrapped once; null where an operand is
abbrev pub arithmetic : Operator → DataType → AnyValue → AnyValue → AnyValue
arithmetic o t (av.Int a) (av.Int b) = number_if_any t (exact_result o a b)
arithmetic o t a b = av.Null

-- a comparison, null where an operand is
abbrev pub comparison : (Ordering → Bool) → AnyValue → AnyValue → AnyValue
comparison test av.Null b = av.Null
comparison test a av.Null = av.Null
comparison test a b = av.Boolean (test (value_cmp a b))

-- and of three truths: false where one is false, else null where one is null, else true
abbrev pub and_values : AnyValue → AnyValue → AnyValue
and_values (av.Boolean false) b = av.Boolean false
and_values a (av.Boolean false) = av.Boolean false
and_values (av.Boolean true) (av.Boolean true) = av.Boolean true
and_values a b = av.Null

-- or of three truths: true where one is true, else null where one is null, else false
abbrev pub or_values : AnyValue → AnyValue → AnyValue
or_values (av.Boolean true) b = av.Boolean true
or_values a (av.Boolean true) = av.Boolean true
or_values (av.Boolean false) (av.Boolean false) = av.Boolean false
or_values a b = av.Null

-- an operator over two operands of a type
abbrev pub apply : Operator → DataType → AnyValue → AnyValue → AnyValue
apply op.Plus t a b = arithmetic op.Plus t a b
apply op.Minus t a b = arithmetic op.Minus t a b
apply op.Multiply t a b = arithmetic op.Multiply t a b
apply op.FloorDivide t a b = arithmetic op.FloorDivide t a b
apply op.Modulus t a b = arithmetic op.Modulus t a b
apply op.Eq t a b = comparison is_eq a b
apply op.NotEq t a b = comparison is_ne a b
apply op.Lt t a b = comparison is_lt a b
apply op.LtEq t a b = comparison is_le a b
apply op.Gt t a b = comparison is_gt a b
apply op.GtEq t a b = comparison is_ge a b
apply op.And t a b = and_values a b
apply op.Or t a b = or_values a b

-- a truth as a number
abbrev pub truth_number : Bool → ℤ
truth_number b = if b then pos 1 else pos 0

-- a value in another type: a truth is 1 or 0, a number is true where it isn't 0, and one out of
-- range is null
abbrev pub cast_value : DataType → AnyValue → AnyValue
cast_value t av.Null = av.Null
cast_value t (av.Boolean b) = if is_boolean t then av.Boolean b else av.Int (truth_number b)
cast_value t (av.Int n) =
    if is_boolean t then av.Boolean (not (int_eq n (pos 0)))
    else if fits_number n t then av.Int n else av.Null
cast_value t (av.Text s) = av.Null

-- what a ternary gives of its predicate and its two branches
abbrev pub chosen : AnyValue → AnyValue → AnyValue → AnyValue
chosen (av.Boolean true) truthy falsy = truthy
chosen p truthy falsy = falsy
