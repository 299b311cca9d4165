-- Of the proofs alone: how groups lie in memory.
use Rattle.std.specs.Prelude.{◌≡◌, ◌+◌, ◌*◌, ◌-◌, ◌≤◌, ℕ, zero, suc, List, [], ◌∷◌, None, length, take, drop, if◌then◌else◌, is_some, slice_index_or, vec_capacity}
use Rattle.pipe_running.specs.declared.function.AggregateFunction.{AggregateFunction}
use Rattle.pipe_running.specs.GroupStates.{fresh_states}
use Rattle.pipe_groups.specs.declared.groups.Entry.{Entry}
use Rattle.pipe_groups.specs.declared.groups.Groups.TheInside.{Inside}
use Rattle.pipe_groups.specs.Groups.{count_held, Group, RowlessAreFresh, Seen}
use Rattle.pipe_groups.specs.Shape.{IsShape, Shape}

-- the bytes from one position on, up to another
abbrev pub key_between : List ℕ → ℕ → ℕ → List ℕ
key_between bytes start end = take (end - start) (drop start bytes)

-- what stands for an entry past the last
abbrev pub no_entry : Entry
no_entry = record { end = 0; first = None }

-- where the key of the entry at an index begins: where that of the one before ends, and the first one
-- at a position
abbrev pub start_from : ℕ → List Entry → ℕ → ℕ
start_from start es zero = start
start_from start es (suc i) = (slice_index_or es i no_entry).end

-- the groups of entries of which the first key begins at a position: each has the states that stand
-- where it stands
abbrev pub groups_at : ℕ → List ℕ → List (List AggregateFunction) → List Entry → List Group
groups_at start bytes states [] = []
groups_at start bytes [] (e ∷ es) =
    record { key = key_between bytes start e.end; first = e.first; states = [] }
    ∷ groups_at e.end bytes [] es
groups_at start bytes (ss ∷ states) (e ∷ es) =
    record { key = key_between bytes start e.end; first = e.first; states = ss }
    ∷ groups_at e.end bytes states es

-- no key ends before it begins
abbrev pub AscendFrom : ℕ → List Entry → Type 0
AscendFrom start [] = Unit {0}
AscendFrom start (e ∷ es) = (start ≤ e.end) × AscendFrom e.end es

-- where the last key ends
abbrev pub last_end : ℕ → List Entry → ℕ
last_end start [] = start
last_end start (e ∷ es) = last_end e.end es

-- how many bytes the keys of entries with rows have
abbrev pub held_from : ℕ → List Entry → ℕ
held_from start [] = 0
held_from start (e ∷ es) = (if is_some e.first then e.end - start else 0) + held_from e.end es

-- the lesser of two numbers
abbrev pub lesser : ℕ → ℕ → ℕ
lesser a b = a - (a - b)

-- what the groups are of
abbrev pub shape_in : Inside → Shape
shape_in a = record {
  key_types = a.key_types.items;
  input_types = a.input_types.items;
  prototypes = a.prototypes.items;
  fields = a.fields;
}

-- the groups that lie there
abbrev pub groups_in : Inside → List Group
groups_in a = groups_at 0 a.bytes.items a.states.groups a.entries.items

-- groups as contracts see them
abbrev pub view_of : Inside → Seen
view_of a = record {
  shape = shape_in a;
  groups = groups_in a;
  room = record {
    groups = lesser (vec_capacity a.entries - length a.entries.items) a.states.room;
    states = a.states.room * length a.prototypes.items;
    bytes = vec_capacity a.bytes - length a.bytes.items;
  };
}

-- keys lie one behind another and fill the buffer, each entry has its running aggregates, which are of the
-- prototypes' kinds and fresh where it has no row, and the entries with rows are counted
pub record IsLaidOut (a : Inside) : Type 0 where
  pub shape : IsShape (shape_in a)
  pub ascend : AscendFrom 0 a.entries.items
  pub filled : last_end 0 a.entries.items ≡ length a.bytes.items
  pub like : a.states.fresh ≡ fresh_states a.prototypes.items
  pub sized : length a.states.groups ≡ length a.entries.items
  pub fresh : RowlessAreFresh a.prototypes.items (groups_in a)
  pub counted : a.held ≡ count_held (groups_in a)
