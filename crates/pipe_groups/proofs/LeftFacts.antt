-- Groups of which some were given: the others are as before.
use Rattle.std.proofs.Common.{◌≡◌, ◌∙◌, ℕ, ◌+◌, ◌<◌, ◌≤◌, ◌⊎◌, inl, inr, Bool, true, false, cond, is_some, List, [], ◌∷◌, length, get_or, refl, sym, ap, arith}
use Rattle.std.proofs.lemmas.Bool.{cases_order}
use Rattle.std.proofs.lemmas.List.{get_or_default, get_or_past}
use Rattle.std.proofs.lemmas.List.Elements.{All-from_get_or, All-get_or}
use Rattle.pipe_kinds.specs.ManyStates.{states_in}
use Rattle.pipe_running.specs.declared.function.AggregateFunction.{AggregateFunction}
use Rattle.pipe_running.specs.GroupStates.{fresh_states}
use Rattle.pipe_groups.specs.declared.groups.Entry.{Entry}
use Rattle.pipe_groups.specs.declared.groups.Groups.TheInside.{Inside}
use Rattle.pipe_groups.specs.Groups.{count_held, Group, group_of, has_rows, no_group}
use Rattle.pipe_groups.specs.Layout.{groups_at, groups_in, IsLaidOut, key_between, no_entry, shape_in, start_from}
use Rattle.pipe_groups.specs.Shape.{Shape}
use Rattle.pipe_groups.proofs.FreshFacts.{fresh-shape}
use Rattle.pipe_groups.proofs.LaidFacts.{group-at, length-groups}

abbrev States : Type 0
States = List AggregateFunction

-- how many entries have rows
abbrev entries_held : List Entry → ℕ
entries_held [] = 0
entries_held (e ∷ es) = cond (is_some e.first) 1 0 + entries_held es

held-more : (g : Group) (gs : List Group) → count_held (g ∷ gs) ≡ cond (has_rows g) 1 0 + count_held gs
held-more g gs = by (has_rows g) refl where
  by : (b : Bool) → has_rows g ≡ b → count_held (g ∷ gs) ≡ cond (has_rows g) 1 0 + count_held gs
  by true e = rw e (omega arith)
  by false e = rw e (omega arith)

-- so many groups hold rows, whatever their running aggregates are
held-entries : (start : ℕ) (bytes : List ℕ) (states : List States) (es : List Entry) → count_held (groups_at start bytes states es) ≡ entries_held es
held-entries start bytes states [] = refl
held-entries start bytes [] (e ∷ es) =
    held-more (record { key = key_between bytes start e.end; first = e.first; states = [] }) (groups_at e.end bytes [] es) ∙ ap (λ (n : ℕ). cond (is_some e.first) 1 0 + n) (held-entries e.end bytes [] es)
held-entries start bytes (ss ∷ states) (e ∷ es) =
    held-more (record { key = key_between bytes start e.end; first = e.first; states = ss }) (groups_at e.end bytes states es) ∙ ap (λ (n : ℕ). cond (is_some e.first) 1 0 + n) (held-entries e.end bytes states es)

-- there are as many groups
pub left-count : (a b : Inside) → b.entries.items ≡ a.entries.items → length (groups_in b) ≡ length (groups_in a)
left-count a b entries =
    length-groups 0 b.bytes.items b.states.groups b.entries.items ∙ ap (λ (es : List Entry). length es) entries ∙ sym (length-groups 0 a.bytes.items a.states.groups a.entries.items)

module _ (a b : Inside) (bytes : b.bytes.items ≡ a.bytes.items) (entries : b.entries.items ≡ a.entries.items) (k : ℕ) where
  abbrev e : Entry
  e = get_or a.entries.items k no_entry

  -- the groups at an index differ in their running aggregates alone
  group-before : k < length a.entries.items → group_of (groups_in a) k ≡ record { key = key_between a.bytes.items (start_from 0 a.entries.items k) e.end; first = e.first; states = states_in a.states k }
  group-before lt = group-at 0 a.bytes.items a.states.groups a.entries.items k e lt (get_or_default a.entries.items k no_entry e lt)

  group-after : k < length a.entries.items → group_of (groups_in b) k ≡ record { key = key_between a.bytes.items (start_from 0 a.entries.items k) e.end; first = e.first; states = states_in b.states k }
  group-after lt =
      (λ i. get_or (groups_at 0 (bytes i) b.states.groups (entries i)) k no_group)
      ∙ group-at 0 a.bytes.items b.states.groups a.entries.items k e lt (get_or_default a.entries.items k no_entry e lt)

  -- a group whose running aggregates are as before is as before
  pub left-others : states_in b.states k ≡ states_in a.states k → group_of (groups_in b) k ≡ group_of (groups_in a) k
  left-others same = elim (cases_order k (length a.entries.items)) [
    | inl tie ↦ past (omega (arith, tie))
    | inr o ↦ elim o [ inl lt ↦ here lt | inr gt ↦ past (omega (arith, gt)) ]
  ] where
    here : k < length a.entries.items → group_of (groups_in b) k ≡ group_of (groups_in a) k
    here lt =
        group-after lt ∙ ap (λ (ss : States). record { key = key_between a.bytes.items (start_from 0 a.entries.items k) e.end; first = e.first; states = ss }) same
        ∙ sym (group-before lt)

    past : length a.entries.items ≤ k → group_of (groups_in b) k ≡ group_of (groups_in a) k
    past le =
        let own : length (groups_in a) ≡ length a.entries.items = length-groups 0 a.bytes.items a.states.groups a.entries.items in
        get_or_past (groups_in b) k no_group (omega (arith, le, own, left-count a b entries)) ∙ sym (get_or_past (groups_in a) k no_group (omega (arith, le, own)))

-- groups of which some have running aggregates of no rows then are laid out
module _ (a b : Inside) (laid : IsLaidOut a) (bytes : b.bytes.items ≡ a.bytes.items) (entries : b.entries.items ≡ a.entries.items) (shape : shape_in b ≡ shape_in a) (held : b.held ≡ a.held)
    (like : b.states.fresh ≡ a.states.fresh) (count : length b.states.groups ≡ length a.states.groups)
    (each : (k : ℕ) → (states_in b.states k ≡ states_in a.states k) ⊎ (states_in b.states k ≡ fresh_states (states_in a.states k))) where
  same : b.prototypes.items ≡ a.prototypes.items
  same = ap (λ (s : Shape). s.prototypes) shape

  rowless : (k : ℕ) → k < length (groups_in b) → has_rows (group_of (groups_in b) k) ≡ false → (group_of (groups_in b) k).states ≡ fresh_states a.prototypes.items
  rowless k lt none =
      let there : k < length a.entries.items = omega (arith, lt, left-count a b entries, length-groups 0 a.bytes.items a.states.groups a.entries.items) in
      let before = group-before a b bytes entries k there in
      let after = group-after a b bytes entries k there in
      let was_none : has_rows (group_of (groups_in a) k) ≡ false = ap (λ (g : Group). has_rows g) before ∙ sym (ap (λ (g : Group). has_rows g) after) ∙ none in
      let own : states_in a.states k ≡ fresh_states a.prototypes.items =
      sym (ap (λ (g : Group). g.states) before) ∙ All-get_or (λ (g : Group). has_rows g ≡ false → g.states ≡ fresh_states a.prototypes.items) (groups_in a) k no_group (omega (arith, lt, left-count a b entries)) laid.fresh was_none in
      ap (λ (g : Group). g.states) after ∙ elim (each k) [
        | inl as_before ↦ as_before ∙ own
        | inr fresh ↦ fresh ∙ ap (λ (ss : States). fresh_states ss) (own ∙ fresh-shape (shape_in a) laid.shape)
      ]

  pub left-laid : IsLaidOut b
  left-laid = record {
    shape = rw shape laid.shape;
    ascend = rw entries laid.ascend;
    filled = rw (bytes, entries) laid.filled;
    like = like ∙ laid.like ∙ ap (λ (fs : States). fresh_states fs) (sym same);
    sized = count ∙ laid.sized ∙ ap (λ (es : List Entry). length es) (sym entries);
    fresh = rw same (All-from_get_or (λ (g : Group). has_rows g ≡ false → g.states ≡ fresh_states a.prototypes.items) (groups_in b) no_group rowless);
    counted = held ∙ laid.counted ∙ held-entries 0 a.bytes.items a.states.groups a.entries.items ∙ ap entries_held (sym entries) ∙ sym (held-entries 0 b.bytes.items b.states.groups b.entries.items);
  }
