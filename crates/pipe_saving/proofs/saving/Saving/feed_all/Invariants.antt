use Rattle.std.proofs.Common.{◌≡◌, ◌++◌, take}
use Rattle.pipe_saving.proofs.saving.Saving.feed_all.Given as goal

-- the chunks so far are taken
abbrev pub invariant-loop-chunk : goal.invariant-loop-chunk
invariant-loop-chunk l = record {
  query : l.saving.query ≡ l.fn.self.query;
  first : l.saving.first ≡ l.fn.self.first;
  taken : l.saving.taken ≡ l.fn.self.taken ++ take l.chunk-index l.chunks;
}
