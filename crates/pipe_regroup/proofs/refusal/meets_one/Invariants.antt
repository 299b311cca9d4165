use Rattle.std.proofs.Common.{◌≡◌, false, take}
use Rattle.std.specs.List.{list_any}
use Rattle.pipe_states.specs.Together.{do_overlap}
use Rattle.pipe_regroup.proofs.refusal.meets_one.Given as goal

-- none of those so far shares one
abbrev pub invariant-loop-other : goal.invariant-loop-other
invariant-loop-other l = record { apart : list_any (λ s. do_overlap s l.file) (take l.other-index l.files) ≡ false }
