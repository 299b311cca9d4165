use Rattle.std.proofs.Common.{◌≡◌, length, drop}
use Rattle.std.specs.List.{list_any}
use Rattle.narrow_query.specs.Names.{is_column}
use Rattle.narrow_query.proofs.narrowing.is_named.Given as goal

-- where one is the column, one of the rest is
abbrev pub invariant-loop-place : goal.invariant-loop-place
invariant-loop-place l = record {
  count : l.place-end ≡ length l.arena;
  rest : list_any (is_column l.name) l.arena ≡ list_any (is_column l.name) (drop l.place l.arena);
}
