-- A fact that holds anyway holds where there is an error.
use Rattle.std.specs.Prelude.{OnErr}
use Rattle.std.specs.declared.result.Result.{Result}
use Rattle.std.specs.declared.result.Result.TheVariants.{Err, Ok}

-- whatever the answer is
pub on_err : {A E : Type 0} (x : Result A E) (P : Type 0) → P → OnErr x P
on_err (Ok a) P p = tt
on_err (Err e) P p = p
