-- Whether those so far have, and those that are left, is whether all have.
use Rattle.std.proofs.Common.{◌≡◌, ◌^◌, ◌&&◌, drop}
use Rattle.std.specs.Prelude.{nat_lt}
use Rattle.std.specs.List.{list_all}
use Rattle.pipe_run.proofs.limits.have_numbers.Given as goal

abbrev pub invariant-loop-store : goal.invariant-loop-store
invariant-loop-store g l =
    (l.fit && list_all (λ s. nat_lt (g.S.SpillStore.held s) (2 ^ 63)) (drop l.store-index l.stores))
    ≡ list_all (λ s. nat_lt (g.S.SpillStore.held s) (2 ^ 63)) l.stores
