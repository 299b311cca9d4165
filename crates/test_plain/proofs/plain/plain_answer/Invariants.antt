use Rattle.std.proofs.Common.{◌≡◌, take}
use Rattle.test_plain.proofs.plain.plain_answer.Given as goal

-- the chunks so far are taken
abbrev pub invariant-loop-chunk : goal.invariant-loop-chunk
invariant-loop-chunk l = record {
  query : l.groups.query ≡ l.fn.query;
  taken : l.groups.taken ≡ take l.chunk-index l.chunks;
}
