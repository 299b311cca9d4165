use Rattle.std.proofs.Common.{◌≡◌, map, take}
use Rattle.pipe_columns.specs.Frame.{field_of}
use Rattle.pipe_columns.proofs.data_frame.DataFrame.fits.Given as goal

-- the columns so far are of their fields
abbrev pub invariant-loop-i : goal.invariant-loop-i
invariant-loop-i l = map field_of (take l.i l.self.columns) ≡ take l.i l.fields
