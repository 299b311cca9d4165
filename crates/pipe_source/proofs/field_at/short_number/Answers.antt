use Rattle.std.proofs.Common.{◌≡◌, arith, sym, true}
use Rattle.std.proofs.lemmas.Int.{to_z-of_z}
use Rattle.pipe_columns.specs.AnyValue.{fits_number}
use Rattle.pipe_scan.specs.Records.{between}
use Rattle.pipe_source.proofs.FieldsAt.{short-value}
use Rattle.pipe_source.proofs.field_at.short_number.Goals as goal

pub returns-in-Some : goal.returns-in-Some
returns-in-Some c =
    let fits : fits_number c.in-Some.number c.args.dtype ≡ true = grind (arith, to_z-of_z, c.is_in_range.ensures, c.if-is_in_range.true) in
    grind (arith, to_z-of_z, short-value c.args.dtype (between c.args.text.now c.args.low c.args.high) c.in-Some.number (sym c.in-Some.ensures) fits)
