use Rattle.std.proofs.Common.{◌≡◌, map, take}
use Rattle.std.specs.List.{All}
use Rattle.pipe_groups.specs.PlacedRanks.{IsRowAt}
use Rattle.pipe_groups.proofs.place_order.placed_rows.Given as goal

-- the rows so far
abbrev pub invariant-loop-row : goal.invariant-loop-row
invariant-loop-row l = record {
  places : map (λ r. r.place) l.rows.items ≡ take l.row l.places;
  each : All (IsRowAt l.places) l.rows.items;
}
