use Rattle.std.proofs.Common.{◌≡◌, ◌∙◌, ◌+◌, ◌-◌, ◌++◌, ◌∷◌, [], List, length, length-append, arith, refl, ap}
use Rattle.std.proofs.lemmas.List.{length_push}
use Rattle.pipe_kinds.specs.ManyStates.{ManyStates}
use Rattle.pipe_groups.specs.Groups.{Group, new_group, Seen}
use Rattle.pipe_groups.specs.Layout.{view_of}
use Rattle.pipe_groups.proofs.LaidFacts.{count-entries}
use Rattle.pipe_groups.proofs.PushFacts.{pushed-groups, pushed-laid}
use Rattle.pipe_groups.proofs.RoomFacts.{covered-parts, parts-covered}
use Rattle.pipe_groups.proofs.groups.Groups.push.Goals as goal

pub invariant_of-self : goal.invariant_of-self
invariant_of-self c = pushed-laid c.self.inside _ c.self.invariant c.args.key.now c.push_entry.ensures.bytes c.push_entry.ensures.entries c.push_entry.ensures.states refl refl

pub returns-clause-ok : goal.returns-clause-ok
returns-clause-ok c =
    let seen : view_of c.self.inside ≡ c.make_room.new.self = c.self.view_is in
    let was = c.in_ok-make_room.ensures.groups in (
      pushed-groups c.self.inside (record c.self.inside { bytes = c.push_entry.new.bytes; entries = c.push_entry.new.entries; states = c.push_entry.new.states }) c.self.invariant c.args.key.now c.push_entry.ensures.bytes c.push_entry.ensures.entries c.push_entry.ensures.states refl refl
          ∙ ap (λ (s : Seen). s.groups ++ new_group s.shape.prototypes c.args.key.now ∷ []) seen ∙ rw (was.0, was.1) refl,
      ap (λ (s : Seen). s.shape) seen ∙ was.1,
    )

pub returns-clause-index : goal.returns-clause-index
returns-clause-index c =
    omega (
      arith,
      c.len-index.ensures,
      c.self.inside.entries.ok.0,
      count-entries c.self.inside c.make_room.new.self c.self.view_is c.self.invariant,
      ap (λ (gs : List Group). length gs) c.in_ok-make_room.ensures.groups.0,
    )

pub returns-clause-room : goal.returns-clause-room
returns-clause-room c = λ g b h.
    let key = c.args.key.now in
    let bytes : length c.push_entry.new.bytes.items ≡ length c.self.inside.bytes.items + length key = rw c.push_entry.ensures.bytes (length-append c.self.inside.bytes.items key) in
    let entries : length c.push_entry.new.entries.items ≡ length c.self.inside.entries.items + 1 = rw c.push_entry.ensures.entries (length_push c.self.inside.entries.items _) in
    let room : c.push_entry.new.states.room ≡ c.self.inside.states.room - 1 = ap (λ (m : ManyStates). m.room) c.push_entry.ensures.states in
    let parts = covered-parts c.self.inside c.make_room.new.self (g + 1) (b + length key) c.self.view_is (c.in_ok-make_room.ensures.room (g + 1) (b + length key) h) in
    parts-covered (record c.self.inside { bytes = c.push_entry.new.bytes; entries = c.push_entry.new.entries; states = c.push_entry.new.states }) g b
    (omega (arith, parts.0, entries, c.push_entry.ensures.keeps_entries)) (omega (arith, parts.1, room)) (omega (arith, parts.2, bytes, c.push_entry.ensures.keeps_bytes))
