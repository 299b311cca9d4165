use Rattle.std.proofs.Common.{◌≡◌, take, true}
use Rattle.std.specs.List.{list_all}
use Rattle.pipe_scan.proofs.plain_rows.are_numbers.Given as goal

-- the first fields are
abbrev pub invariant-loop-i : goal.invariant-loop-i
invariant-loop-i l = list_all (λ number. number) (take l.i l.numbers) ≡ true
