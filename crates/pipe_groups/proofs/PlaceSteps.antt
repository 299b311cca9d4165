-- A group with rows more: what is put in its place, between the fields and the groups.
use Rattle.std.proofs.Common.{◌≡◌, ◌∙◌, ℕ, ◌+◌, ◌<◌, ◌≤◌, Bool, true, false, cond, if◌then◌else◌, is_some, List, length, get_or, set, Option, sym, ap, arith, subst, vec_capacity, Vec, Global}
use Rattle.std.proofs.lemmas.List.{get_or_default}
use Rattle.pipe_columns.specs.declared.place.Place.{Place}
use Rattle.pipe_kinds.specs.ManyStates.{states_in, with_states}
use Rattle.pipe_running.specs.declared.function.AggregateFunction.{AggregateFunction}
use Rattle.pipe_running.specs.GroupStates.{fresh_states}
use Rattle.pipe_groups.specs.declared.groups.Entry.{Entry}
use Rattle.pipe_groups.specs.declared.groups.Groups.TheInside.{Inside}
use Rattle.pipe_groups.specs.Groups.{Covers, Group, group_of, KeepsRoom, Seen}
use Rattle.pipe_groups.specs.Layout.{groups_in, IsLaidOut, key_between, no_entry, shape_in, start_from, view_of}
use Rattle.pipe_groups.specs.Shape.{Shape}
use Rattle.pipe_groups.proofs.LaidFacts.{group-is, held-le, index-within, length-groups}
use Rattle.pipe_groups.proofs.SetFacts.{set-groups, set-laid, set-length}

module _ (a : Inside) (t : Seen) (view_is : view_of a ≡ t) (laid : IsLaidOut a) where
  -- there are no more held groups than entries
  pub held-fits : a.held ≤ length a.entries.items
  held-fits = omega (arith, laid.counted, held-le (groups_in a), length-groups 0 a.bytes.items a.states.groups a.entries.items)

  module _ (i : ℕ) (within : i < length t.groups) where
    -- the running aggregates of the group at an index are there
    pub states-within : i < length a.states.groups
    states-within = omega (arith, laid.sized, index-within a t view_is laid i within)

    abbrev old : Entry
    old = get_or a.entries.items i no_entry

    is : group_of t.groups i ≡ record { key = key_between a.bytes.items (start_from 0 a.entries.items i) old.end; first = old.first; states = states_in a.states i }
    is = group-is a t view_is laid i within old (get_or_default a.entries.items i no_entry old (index-within a t view_is laid i within))

    pub states-are : states_in a.states i ≡ (group_of t.groups i).states
    states-are = ap (λ (g : Group). g.states) (sym is)

    pub first-is : old.first ≡ (group_of t.groups i).first
    first-is = ap (λ (g : Group). g.first) (sym is)

    module _ (b : Inside) (first : Option Place) (new : List AggregateFunction) (bytes : b.bytes ≡ a.bytes) (entries : b.entries.items ≡ set a.entries.items i (record old { first = first }))
        (states : b.states ≡ with_states i new a.states) (shape : shape_in b ≡ shape_in a) where
      same_bytes : b.bytes.items ≡ a.bytes.items
      same_bytes = ap (λ (v : Vec ℕ Global). v.items) bytes

      same : b.prototypes.items ≡ a.prototypes.items
      same = ap (λ (s : Shape). s.prototypes) shape

      pub put-groups : groups_in b ≡ set t.groups i (record { key = (group_of t.groups i).key; first = first; states = new })
      put-groups =
          set-groups a b laid i (index-within a t view_is laid i within) first new same_bytes entries states shape
          ∙ ap (λ (s : Seen). set s.groups i (record { key = (group_of s.groups i).key; first = first; states = new })) view_is

      pub put-room : vec_capacity b.entries ≡ vec_capacity a.entries → KeepsRoom t (view_of b)
      put-room es groups key_bytes h =
          let w : Covers (view_of a) groups key_bytes = subst (λ (s : Seen). Covers s groups key_bytes) (sym view_is) h in
          rw (es, set-length a b laid i (index-within a t view_is laid i within) first new same_bytes entries states shape, states, bytes, same) w

      pub put-laid : b.held + cond (is_some old.first) 1 0 ≡ a.held + cond (is_some first) 1 0 → (is_some first ≡ false → new ≡ fresh_states a.prototypes.items) → IsLaidOut b
      put-laid held fresh = set-laid a b laid i (index-within a t view_is laid i within) first new same_bytes entries states shape held fresh

-- a group is counted with its first row
pub counted-once : (has : Bool) (held more : ℕ) → more ≡ (if has then held else held + 1) → more + cond has 1 0 ≡ held + 1
counted-once true held more e = omega (arith, e)
counted-once false held more e = omega (arith, e)
