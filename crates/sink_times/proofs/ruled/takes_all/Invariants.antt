use Rattle.std.proofs.Common.{◌≡◌}
use Rattle.sink_times.proofs.ruled.takes_all.Given as goal

-- the sender is that of the same sink, as before
abbrev pub invariant-loop-chunk : goal.invariant-loop-chunk
invariant-loop-chunk g l = record {
  can : (goal.iterator-loop-chunk g).can_next l.chunk-iterator;
  ends : (goal.iterator-loop-chunk g).is_finite l.chunk-iterator;
  number : l.sender.number ≡ l.initial.sender.number;
  channel : l.sender.channel ≡ l.initial.sender.channel;
  fields : l.sender.fields ≡ l.initial.sender.fields;
}
