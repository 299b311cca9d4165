use Rattle.std.proofs.Common.{sym, true≢false}
use Rattle.pipe_keyed.proofs.KeyFacts.{led-none}
use Rattle.pipe_keyed.proofs.keyed_groups.KeyedGroups.new.Goals as goal

pub invariant_of-result : goal.invariant_of-result
invariant_of-result g c = led-none g.M.Marking.marks g.M.Marking.can_hide _ _ c.in_ok-groups.groups.shape _ _ _ c.in_ok-groups.ensures.groups c.with_keys-chains.ensures.marks c.with_keys-chains.ensures.leads
    (λ hidden. absurd (true≢false (sym hidden)))
