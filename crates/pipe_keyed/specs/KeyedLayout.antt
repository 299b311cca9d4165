-- Of the proofs alone: how groups that are found by marks are kept.
use Rattle.std.specs.Prelude.{◌≡◌, ◌<◌, ℕ, Bool, true, false, List, [], length, map, min, Option, slice_index_or}
use Rattle.std.specs.declared.hash.RandomState.{RandomState}
use Rattle.pipe_chains.specs.Hash.{secret_hash_of}
use Rattle.pipe_columns.specs.declared.data_type.DataType.{DataType}
use Rattle.pipe_groups.specs.Groups.{Group, group_of, Seen}

-- the groups, with room for as many more as there is in both the buffer and the chains
abbrev pub with_room : ℕ → Seen → Seen
with_room chained t = record {
  shape = t.shape;
  groups = t.groups;
  room = record {
    groups = min t.room.groups chained;
    states = t.room.states;
    bytes = t.room.bytes;
  };
}

-- each key has a mark, and it is one of the key
pub record AreMarked (Marks : List DataType → List ℕ → ℕ → Type 0) (types : List DataType)
    (keys : List (List ℕ)) (marks : List ℕ) : Type 0 where
  pub many : length marks ≡ length keys
  pub each : (i : ℕ) → i < length keys
      → Marks types (slice_index_or keys i []) (slice_index_or marks i 0)

-- the lead of a key: its secret hash where keys hide, else its mark
abbrev pub lead_of : Bool → Option RandomState → List ℕ → ℕ → ℕ
lead_of true hash_keys key mark = secret_hash_of hash_keys key
lead_of false hash_keys key mark = mark

-- the leads of keys
abbrev pub leads_of : Bool → Option RandomState → List (List ℕ) → List ℕ → List ℕ
leads_of true hash_keys keys marks = map (secret_hash_of hash_keys) keys
leads_of false hash_keys keys marks = marks

-- keys are marked and led, and hide only where keys of their types can
pub record AreLed (Marks : List DataType → List ℕ → ℕ → Type 0) (CanHide : List DataType → Type 0)
    (hash_keys : Option RandomState) (hides : Bool) (types : List DataType)
    (keys : List (List ℕ)) (marks leads : List ℕ) : Type 0 where
  pub marked : AreMarked Marks types keys marks
  pub led : leads ≡ leads_of hides hash_keys keys marks
  pub can : hides ≡ true → CanHide types

-- each group of a key has a lead
abbrev pub HaveLead : List Group → List ℕ → List ℕ → ℕ → Type 0
HaveLead gs leads key lead =
    (i : ℕ) → i < length gs → (group_of gs i).key ≡ key → slice_index_or leads i 0 ≡ lead
