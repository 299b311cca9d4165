-- A group that is joined with another, between the fields and the groups.
use Rattle.std.proofs.Common.{◌≡◌, ◌∙◌, ℕ, ◌<◌, true, is_some, List, length, get_or, Option, sym, ap, arith}
use Rattle.pipe_columns.specs.declared.place.Place.{Place}
use Rattle.pipe_running.specs.declared.function.AggregateFunction.{AggregateFunction}
use Rattle.pipe_running.specs.GroupStates.{fresh_states}
use Rattle.pipe_groups.specs.declared.groups.Groups.TheInside.{Inside}
use Rattle.pipe_groups.specs.Groups.{AreJoinable, count_held, group_of, has_rows, Seen}
use Rattle.pipe_groups.specs.Layout.{IsLaidOut, no_entry, view_of}
use Rattle.pipe_groups.specs.Shape.{Shape}
use Rattle.pipe_groups.proofs.PlaceSteps.{first-is}
use Rattle.pipe_groups.proofs.SetFacts.{count-some}

-- groups of the same shape have the same prototypes
pub same-prototypes : (a o : Inside) (t s : Seen) → view_of a ≡ t → view_of o ≡ s → s.shape ≡ t.shape → o.prototypes.items ≡ a.prototypes.items
same-prototypes a o t s v w e =
    let same : (view_of o).shape ≡ (view_of a).shape = ap (λ (x : Seen). x.shape) w ∙ e ∙ ap (λ (x : Seen). x.shape) (sym v) in
    ap (λ (x : Shape). x.prototypes) same

-- and so the same before any row
pub same-fresh : (a o : Inside) (t s : Seen) → view_of a ≡ t → view_of o ≡ s → IsLaidOut a → IsLaidOut o → s.shape ≡ t.shape → o.states.fresh ≡ a.states.fresh
same-fresh a o t s v w k l e = l.like ∙ ap (λ (fs : List AggregateFunction). fresh_states fs) (same-prototypes a o t s v w e) ∙ sym k.like

-- running aggregates that are others may be joined as those
pub joinable-same : (ss others ts rest : List AggregateFunction) → ss ≡ others → ts ≡ rest → AreJoinable others rest → AreJoinable ss ts
joinable-same ss others ts rest e f h = rw (e, f) h

module _ (o : Inside) (s : Seen) (view_is : view_of o ≡ s) (laid : IsLaidOut o) (i : ℕ) (within : i < length s.groups) (some : has_rows (group_of s.groups i) ≡ true) where
  -- the entry of a group that holds a row has a place
  pub entry-some : is_some (get_or o.entries.items i no_entry).first ≡ true
  entry-some = ap (λ (p : Option Place). is_some p) (first-is o s view_is laid i within) ∙ some

  -- and is counted
  pub held-some : 0 < o.held
  held-some = omega (arith, laid.counted, ap (λ (x : Seen). count_held x.groups) view_is, count-some s.groups i within some)
