use Rattle.std.proofs.Common.{rules, ◌≡◌, ◌∙◌, false, ap}
use Rattle.std.specs.Int.{w128}
use Rattle.std.proofs.lemmas.Int.{to_z-of_z}
use Rattle.pipe_columns.specs.declared.data_type.DataType.TheVariants as dt
use Rattle.pipe_columns.specs.DataType.{wrapped as wrap, same_type}
use Rattle.pipe_exprs.proofs.NumberFacts.{product_is}
use Rattle.pipe_exprs.proofs.arithmetic.product.Goals as goal

pub returns-else-eq : goal.returns-else-eq
returns-else-eq c =
    let other : same_type c.args.dtype dt.UInt64 ≡ false = search rules in
    to_z-of_z w128 c.wrapped_into.result (search rules) ∙ c.wrapped_into.ensures
    ∙ ap (wrap c.args.dtype) (product_is c.args.dtype c.args.a c.args.b c.requires.integer other c.requires.fits_a c.requires.fits_b c.ranges.a c.ranges.b)
