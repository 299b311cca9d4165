use Rattle.std.proofs.Common.{◌≡◌, take}
use Rattle.pipe_chains.specs.Layout.{leads_of, marks_of}
use Rattle.pipe_chains.proofs.link.lead_all.Given as goal

abbrev pub invariant-loop-index : goal.invariant-loop-index
invariant-loop-index l = (marks_of l.links ≡ marks_of l.initial.links) × (take l.index (leads_of l.links) ≡ take l.index l.leads)
