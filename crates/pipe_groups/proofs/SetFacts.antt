-- One group in the place of another of its key.
use Rattle.std.proofs.Common.{◌≡◌, ◌∙◌, ℕ, zero, suc, ◌+◌, ◌<◌, true, false, cond, is_some, List, [], ◌∷◌, length, get_or, set, Option, refl, sym, ap, arith}
use Rattle.std.proofs.lemmas.List.{get_or_default, length-set}
use Rattle.std.proofs.lemmas.List.Elements.{All-set}
use Rattle.std.proofs.lemmas.List.Sums.{length-filter, sum_by-set}
use Rattle.pipe_columns.specs.declared.place.Place.{Place}
use Rattle.pipe_kinds.specs.ManyStates.{states_in, with_states}
use Rattle.pipe_running.specs.declared.function.AggregateFunction.{AggregateFunction}
use Rattle.pipe_running.specs.GroupStates.{fresh_states}
use Rattle.pipe_groups.specs.declared.groups.Entry.{Entry}
use Rattle.pipe_groups.specs.declared.groups.Groups.TheInside.{Inside}
use Rattle.pipe_groups.specs.Groups.{count_held, Group, group_of, has_rows, no_group}
use Rattle.pipe_groups.specs.Layout.{AscendFrom, groups_at, groups_in, IsLaidOut, key_between, last_end, no_entry, shape_in, start_from}
use Rattle.pipe_groups.specs.Shape.{Shape}
use Rattle.pipe_groups.proofs.LaidFacts.{group-at, length-groups, start-next}

abbrev States : Type 0
States = List AggregateFunction

-- the groups of entries of which one is replaced, with its running aggregates
pub groups-set : (start : ℕ) (bytes : List ℕ) (states : List States) (new : States) (es : List Entry) (i : ℕ) (e : Entry) (first : Option Place) → i < length es → e ≡ get_or es i e → length states ≡ length es
    → groups_at start bytes (set states i new) (set es i (record e { first = first }))
    ≡ set (groups_at start bytes states es) i (record { key = key_between bytes (start_from start es i) e.end; first = first; states = new })
groups-set start bytes states new [] i e first h q z = absurd (omega arith)
groups-set start bytes [] new (x ∷ xs) i e first h q z = absurd (omega arith)
groups-set start bytes (ss ∷ states) new (x ∷ xs) zero e first h q z = rw q refl
groups-set start bytes (ss ∷ states) new (x ∷ xs) (suc i) e first h q z = rw (groups-set x.end bytes states new xs i e first (omega arith) q (omega arith), start-next start x xs i) refl

-- where one is replaced, keys lie as before
ends-set : (start : ℕ) (es : List Entry) (i : ℕ) (e : Entry) (first : Option Place) → i < length es → e ≡ get_or es i e → AscendFrom start es
    → AscendFrom start (set es i (record e { first = first })) × (last_end start (set es i (record e { first = first })) ≡ last_end start es)
ends-set start [] i e first h q a = absurd (omega arith)
ends-set start (x ∷ xs) zero e first h q a = rw q (a, refl)
ends-set start (x ∷ xs) (suc i) e first h q a =
    let rest = ends-set x.end xs i e first (omega arith) q a.1 in
    ((a.0, rest.0), rest.1)

-- how many groups are held where one is replaced
pub count-set : (gs : List Group) (i : ℕ) (g : Group) → i < length gs
    → count_held (set gs i g) + cond (has_rows (group_of gs i)) 1 0 ≡ count_held gs + cond (has_rows g) 1 0
count-set gs i g h =
    let one : Group → ℕ = λ x. cond (has_rows x) 1 0 in
    omega (arith, length-filter has_rows gs, length-filter has_rows (set gs i g), sum_by-set one gs i g no_group h)

module _ (a b : Inside) (laid : IsLaidOut a) (i : ℕ) (within : i < length a.entries.items) (first : Option Place) (new : States)
    (bytes : b.bytes.items ≡ a.bytes.items) (entries : b.entries.items ≡ set a.entries.items i (record (get_or a.entries.items i no_entry) { first = first }))
    (states : b.states ≡ with_states i new a.states) (shape : shape_in b ≡ shape_in a) where
  abbrev old : Entry
  old = get_or a.entries.items i no_entry

  is : old ≡ get_or a.entries.items i old
  is = get_or_default a.entries.items i no_entry old within

  same : b.prototypes.items ≡ a.prototypes.items
  same = ap (λ (s : Shape). s.prototypes) shape

  was : group_of (groups_in a) i ≡ record { key = key_between a.bytes.items (start_from 0 a.entries.items i) old.end; first = old.first; states = states_in a.states i }
  was = group-at 0 a.bytes.items a.states.groups a.entries.items i old within is

  abbrev replaced : Group
  replaced = record { key = key_between a.bytes.items (start_from 0 a.entries.items i) old.end; first = first; states = new }

  exact : groups_in b ≡ set (groups_in a) i replaced
  exact = rw (bytes, entries, states) (groups-set 0 a.bytes.items a.states.groups new a.entries.items i old first within is laid.sized)

  pub set-groups : groups_in b ≡ set (groups_in a) i (record { key = (group_of (groups_in a) i).key; first = first; states = new })
  set-groups = exact ∙ ap (λ (g : Group). set (groups_in a) i (record { key = g.key; first = first; states = new })) (sym was)

  pub set-length : length b.entries.items ≡ length a.entries.items
  set-length = rw entries (length-set a.entries.items i _)

  pub set-laid : b.held + cond (is_some old.first) 1 0 ≡ a.held + cond (is_some first) 1 0 → (is_some first ≡ false → new ≡ fresh_states a.prototypes.items) → IsLaidOut b
  set-laid held fresh = record {
    shape = rw shape laid.shape;
    ascend = rw entries (ends-set 0 a.entries.items i old first within is laid.ascend).0;
    filled = rw (bytes, entries) ((ends-set 0 a.entries.items i old first within is laid.ascend).1 ∙ laid.filled);
    like = rw (states, same) laid.like;
    sized = rw states (length-set a.states.groups i new) ∙ laid.sized ∙ sym set-length;
    fresh = rw (exact, same) (All-set (λ (g : Group). has_rows g ≡ false → g.states ≡ fresh_states a.prototypes.items) (groups_in a) i replaced fresh laid.fresh);
    counted = counted;
  } where
    counted : b.held ≡ count_held (groups_in b)
    counted =
        let inside : i < length (groups_in a) = omega (arith, within, length-groups 0 a.bytes.items a.states.groups a.entries.items) in
        let before : ◌≡◌ {A = ℕ} (cond (has_rows (group_of (groups_in a) i)) 1 0) (cond (is_some old.first) 1 0) = ap (λ (g : Group). let k : ℕ = cond (has_rows g) 1 0 in k) was in
        omega (arith, held, before, laid.counted, count-set (groups_in a) i replaced inside, ap (λ (gs : List Group). count_held gs) exact)

-- where a group holds a row, some are held
pub count-some : (gs : List Group) (i : ℕ) → i < length gs → has_rows (group_of gs i) ≡ true → 0 < count_held gs
count-some gs i h some =
    let one : ◌≡◌ {A = ℕ} (cond (has_rows (group_of gs i)) 1 0) 1 = rw some refl in
    omega (arith, one, count-set gs i no_group h)
