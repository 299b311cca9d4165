use Rattle.std.proofs.Common.{◌≡◌, ◌≤◌, vec_capacity, vec_len}
use Rattle.pipe_source.proofs.piece_check.piece_places.Given as goal

-- as many places as turns, and room for all
abbrev pub invariant-loop-place : goal.invariant-loop-place
invariant-loop-place l = (vec_len l.places ≡ l._place) × (l.count ≤ vec_capacity l.places)
