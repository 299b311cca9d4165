-- Of the proofs alone: how chains lie in memory.
use Rattle.std.specs.Prelude.{◌≡◌, ◌<◌, ◌≤◌, ◌-◌, ◌*◌, ◌/◌, ◌^◌, ℕ, zero, suc, min, List, Option, Some, None, length, map, take, slice_index, slice_index_or, vec_capacity}
use Rattle.pipe_chains.specs.declared.heads.Heads.{Heads}
use Rattle.pipe_chains.specs.declared.link.Link.{Link}
use Rattle.pipe_chains.specs.declared.chains.Chains.TheInside.{Inside}
use Rattle.pipe_chains.specs.Chains.{last_of, Marked}
use Rattle.pipe_chains.specs.Heads.{slot_of, told_at}

-- the marks of links
abbrev pub marks_of : List Link → List ℕ
marks_of links = map (λ l. l.mark) links

-- the leads of links
abbrev pub leads_of : List Link → List ℕ
leads_of links = map (λ l. l.lead) links

-- the entry that is told as its number and one, or none as 0
abbrev pub entry_of : ℕ → Option ℕ
entry_of zero = None
entry_of (suc i) = Some i

-- what is told of each slot is the last entry whose lead has it, and each link leads to the last entry
-- before it whose lead has the slot of its own
pub record IsChained (slot told : ℕ → ℕ) (links : List Link) : Type 0 where
  pub few : length links < 2 ^ 32
  pub headed : (s : ℕ) → entry_of (told s) ≡ last_of s (map slot (leads_of links))
  pub linked : (i : ℕ) (d : Link) → i < length links
      → entry_of (slice_index_or links i d).behind
      ≡ last_of (slot (slice_index_or links i d).lead) (take i (map slot (leads_of links)))

-- links are chained by heads
abbrev pub AreLinked : Heads → List Link → Type 0
AreLinked heads links = IsChained (slot_of heads) (told_at heads) links

-- what is told is none, or an entry whose lead has the slot of a lead
pub record IsOfSlot (slot : ℕ → ℕ) (links : List Link) (lead told : ℕ) : Type 0 where
  pub within : told ≤ length links
  pub same : (i : ℕ) → told ≡ suc i → slot (slice_index (leads_of links) i) ≡ slot lead

-- chains as contracts see them: there are two heads for each entry, and the number of one and 1 have 32
-- bits
abbrev pub view_of : Inside → Marked
view_of a = record {
  marks = marks_of a.links.items;
  leads = leads_of a.links.items;
  room = min (min (length a.heads.told.items / 2 - length a.links.items) (vec_capacity a.links - length a.links.items))
      (2 ^ 32 - 1 - length a.links.items);
}

-- what lies there is chained, and has heads
pub record AreChained (a : Inside) : Type 0 where
  pub linked : AreLinked a.heads a.links.items
  pub headed : length a.links.items * 2 ≤ length a.heads.told.items
