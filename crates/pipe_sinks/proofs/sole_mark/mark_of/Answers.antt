use Rattle.pipe_columns.specs.declared.any_value.AnyValue.TheVariants as av
use Rattle.pipe_sinks.proofs.MarkedFacts.{narrow-fits, narrow-written, sole-fits}
use Rattle.pipe_sinks.proofs.sole_mark.mark_of.Goals as goal

pub number_mark-requires : goal.number_mark-requires
number_mark-requires c =
    narrow-written c.in-Int.number (narrow-fits c.requires.1.dtype c.in-Int.number c.requires.1.narrow (sole-fits c.requires.0 c.requires.1 (av.Int c.in-Int.number) (rw c.in-Int.is at c.requires.2)))
