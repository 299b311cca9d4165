-- Of the proofs alone: which groups lie in which partition.
use Rattle.std.specs.Prelude.{◌≡◌, ◌%◌, ℕ, List, map, Option, Some, None}
use Rattle.pipe_columns.specs.Key.{fold_bytes}
use Rattle.pipe_groups.specs.Groups.{Group, group_keys}
use Rattle.pipe_tables.specs.declared.parts.Parts.{Parts}

-- the partitions of keys, out of so many
abbrev pub marks_in : ℕ → List (List ℕ) → List ℕ
marks_in partitions keys = map (λ k. fold_bytes k % partitions) keys

-- what is kept of the partitions of groups, if anything, is up to date
abbrev pub ArePartsOf : List Group → Option Parts → Type 0
ArePartsOf gs None = Unit {0}
ArePartsOf gs (Some p) = p.chains.leads ≡ marks_in p.partitions (group_keys gs)
