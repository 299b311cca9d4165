use Rattle.std.proofs.Common.{◌≡◌, ◌∙◌, ◌<◌, ℕ, List, ap, arith}
use Rattle.std.specs.List.{slice_index_or}
use Rattle.std.proofs.lemmas.List.{get_or-replicate}
use Rattle.pipe_global.specs.Shares.{refused_puts_in, next_pick}
use Rattle.pipe_workers.proofs.pick.pick.Goals as goal

-- no put of the worker was refused
pub dump-requires-clause-room : goal.dump-requires-clause-room
dump-requires-clause-room g c =
    let n = g.R.Naming.run.limits.partitions in
    let p = next_pick n c.args.shares.now in
    let there : p < n = omega (arith, c.len.ensures.some) in
    let none : refused_puts_in c.args.shares.now p ≡ 0 = ap (λ (l : List ℕ). slice_index_or l p 0) c.requires.faultless ∙ get_or-replicate n p 0 0 there in
    omega (arith, none)
