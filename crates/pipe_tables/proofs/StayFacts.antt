-- Groups that change and stay in their partitions.
use Rattle.std.proofs.Common.{◌≡◌, ◌∙◌, ℕ, List, set, Option, Some, None, ap, sym}
use Rattle.pipe_groups.specs.Groups.{Group, group_of, group_keys}
use Rattle.pipe_keyed.proofs.KeyFacts.{keys-set}
use Rattle.pipe_tables.specs.Parts.{ArePartsOf, marks_in}
use Rattle.pipe_tables.specs.declared.parts.Parts.{Parts}

-- a group in place of another of its key leaves the partitions
pub parts-set : (gs new : List Group) (i : ℕ) (g : Group) → new ≡ set gs i g → g.key ≡ (group_of gs i).key → (parts : Option Parts) → ArePartsOf gs parts → ArePartsOf new parts
parts-set gs new i g is same None h = tt
parts-set gs new i g is same (Some p) h = h ∙ ap (marks_in p.partitions) (sym (keys-set gs i g same)) ∙ ap (λ (xs : List Group). marks_in p.partitions (group_keys xs)) (sym is)

-- the same groups are in the same partitions
pub parts-same : (gs new : List Group) → new ≡ gs → (parts : Option Parts) → ArePartsOf gs parts → ArePartsOf new parts
parts-same gs new e parts h = rw e h
