use Rattle.std.proofs.Common.{◌≡◌, map, take}
use Rattle.pipe_run.proofs.opening.marks_of.Given as goal

-- the marks of the stores before
abbrev pub invariant-loop-store : goal.invariant-loop-store
invariant-loop-store g l = map (λ m. m.value) l.marks.items ≡ take l.store-index l.stores
