-- A sum in a number type.
use Rattle.std.proofs.Common.{◌≡◌, ◌∙◌, ℤ, ◌+ℤ◌, ap}
use Rattle.std.proofs.lemmas.Int.{ints}
use Rattle.std.proofs.Common.{arith}
use Rattle.pipe_columns.specs.DataType.{wrapped}
use Rattle.pipe_native.specs.Native.{IsNative, Native}

turn : (a b : ℤ) → a +ℤ b ≡ b +ℤ a
turn a b = omega (arith, ints)

-- two numbers that are wrapped, and their sum again, are the wrapped sum
pub sum-wrapped : {K : Type 0} (k : Native K) → IsNative k → (a b : ℤ) → k.number (k.wrap (k.number (k.wrap a) +ℤ k.number (k.wrap b))) ≡ wrapped k.dtype (a +ℤ b)
sum-wrapped k w a b =
    ap k.number
    (w.adds (k.number (k.wrap a)) b ∙ ap k.wrap (turn (k.number (k.wrap a)) b) ∙ w.adds b a ∙ ap k.wrap (turn b a))
    ∙ w.gives (a +ℤ b)
