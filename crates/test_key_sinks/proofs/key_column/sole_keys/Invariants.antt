use Rattle.std.proofs.Common.{◌≡◌, ◌∷◌, [], map, take}
use Rattle.test_key_sinks.proofs.key_column.sole_keys.Given as goal

-- the keys so far have one value each
abbrev pub invariant-loop-row : goal.invariant-loop-row
invariant-loop-row l = map (λ v. v ∷ []) l.values.items ≡ map (λ r. r.key) (take l.row l.fn.rows)
