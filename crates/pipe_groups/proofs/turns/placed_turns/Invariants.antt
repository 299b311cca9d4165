use Rattle.std.proofs.Common.{◌≡◌, map, take}
use Rattle.pipe_groups.proofs.turns.placed_turns.Given as goal

-- the groups so far
abbrev pub invariant-loop-at : goal.invariant-loop-at
invariant-loop-at l = record {
  places : map (λ r. r.place) l.rows.items ≡ take l.at l.places;
  order : map (λ r. r.row) l.rows.items ≡ take l.at l.order;
}
