use Rattle.std.proofs.Common.{◌≡◌, ◌+◌, ◌<◌, ◌≤◌, ℕ, get_or, length}
use Rattle.std.specs.Fork.{ChangesAt}
use Rattle.pipe_threads.proofs.beside.in_turn.Given as goal

-- the calls so far left these elements, and the others are as before
abbrev pub invariant-loop-k : goal.invariant-loop-k
invariant-loop-k g l =
    (length l.s ≡ length l.fn.s)
    × ((j : ℕ) (d : g.row.T.Denot) → l.k ≤ j → get_or l.s j d ≡ get_or l.fn.s j d)
    × ((j : ℕ) (d : g.row.T.Denot) → j < l.k → ChangesAt g.F.Fn l.f (l.base + j) (get_or l.fn.s j d) (get_or l.s j d))
