-- Of the proofs alone: what a second look gives.
use Rattle.lavzimo_answer.specs.Lines.{LookSeen}
use Rattle.lavzimo_answer.specs.declared.look.Look.{Look}

abbrev pub look_seen : Look → LookSeen
look_seen l = record { how = l.how; more = l.more }
