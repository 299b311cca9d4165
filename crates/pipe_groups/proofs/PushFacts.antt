-- One group more.
use Rattle.std.proofs.Common.{◌≡◌, ◌∙◌, ℕ, ◌+◌, ◌-◌, ◌≤◌, false, List, [], ◌∷◌, ◌++◌, length, take, drop, Option, None, refl, sym, ap, arith, length-append, length-drop}
use Rattle.std.proofs.lemmas.List.{drop-append-le, take-append-le, drop_at, take_all, length_push}
use Rattle.std.proofs.lemmas.List.Elements.{All-push, filter-append}
use Rattle.pipe_kinds.specs.ManyStates.{with_fresh}
use Rattle.pipe_columns.specs.declared.place.Place.{Place}
use Rattle.pipe_running.specs.declared.function.AggregateFunction.{AggregateFunction}
use Rattle.pipe_running.specs.GroupStates.{fresh_states}
use Rattle.pipe_groups.specs.declared.groups.Entry.{Entry}
use Rattle.pipe_groups.specs.declared.groups.Groups.TheInside.{Inside}
use Rattle.pipe_groups.specs.Groups.{count_held, Group, has_rows, held_groups, new_group}
use Rattle.pipe_groups.specs.Layout.{AscendFrom, groups_at, groups_in, IsLaidOut, key_between, last_end, shape_in}
use Rattle.pipe_groups.specs.Shape.{Shape}
use Rattle.pipe_groups.proofs.LaidFacts.{last-behind}

abbrev States : Type 0
States = List AggregateFunction

-- more bytes leave a key
key-append : (bytes k : List ℕ) (start end : ℕ) → start ≤ end → end ≤ length bytes → key_between (bytes ++ k) start end ≡ key_between bytes start end
key-append bytes k start end le h =
    ap (λ (b : List ℕ). take (end - start) b) (drop-append-le start bytes k (omega (arith, le, h)))
    ∙ take-append-le (end - start) (drop start bytes) k (omega (arith, le, h, length-drop start bytes))

-- the key of a new entry
key-new : (bytes k : List ℕ) (start : ℕ) → start ≡ length bytes → key_between (bytes ++ k) start (length bytes + length k) ≡ k
key-new bytes k start e =
    rw (drop_at bytes k start (sym e)) (take_all (length bytes + length k - start) k (omega (arith, e)))

-- the groups of one entry more
pub groups-push : (start : ℕ) (bytes k : List ℕ) (states : List States) (ss : States) (es : List Entry) → AscendFrom start es → last_end start es ≡ length bytes → length states ≡ length es
    → groups_at start (bytes ++ k) (states ++ ss ∷ []) (es ++ record { end = length bytes + length k; first = None } ∷ [])
    ≡ groups_at start bytes states es ++ record { key = k; first = None; states = ss } ∷ []
groups-push start bytes k [] ss [] w f z = rw (key-new bytes k start f) refl
groups-push start bytes k (s ∷ states) ss [] w f z = absurd (omega arith)
groups-push start bytes k [] ss (x ∷ xs) w f z = absurd (omega arith)
groups-push start bytes k (s ∷ states) ss (x ∷ xs) w f z =
    rw (
      key-append bytes k start x.end w.0 (omega (arith, f, last-behind x.end xs w.1)),
      groups-push x.end bytes k states ss xs w.1 f (omega arith),
    ) refl

-- behind the last key one more lies
ends-push : (start n m : ℕ) (es : List Entry) (first : Option Place) → AscendFrom start es → last_end start es ≡ n
    → AscendFrom start (es ++ record { end = n + m; first = first } ∷ []) × (last_end start (es ++ record { end = n + m; first = first } ∷ []) ≡ n + m)
ends-push start n m [] first w f = ((omega (arith, f), tt), refl)
ends-push start n m (x ∷ xs) first w f =
    let rest = ends-push x.end n m xs first w.1 f in
    ((w.0, rest.0), rest.1)

-- a group without rows is not counted
pub count-push : (gs : List Group) (g : Group) → has_rows g ≡ false → count_held (gs ++ g ∷ []) ≡ count_held gs
count-push gs g none =
    let more : held_groups (gs ++ g ∷ []) ≡ held_groups gs ++ held_groups (g ∷ []) = filter-append has_rows gs (g ∷ []) in
    let nothing : held_groups (g ∷ []) ≡ [] = rw none refl in
    ap (λ (l : List Group). length l) more ∙ rw nothing (length-append (held_groups gs) [] ∙ omega arith)

module _ (a b : Inside) (laid : IsLaidOut a) (k : List ℕ) (bytes : b.bytes.items ≡ a.bytes.items ++ k)
    (entries : b.entries.items ≡ a.entries.items ++ record { end = length a.bytes.items + length k; first = None } ∷ [])
    (states : b.states ≡ with_fresh a.states) (shape : shape_in b ≡ shape_in a) (held : b.held ≡ a.held) where
  abbrev new : Entry
  new = record { end = length a.bytes.items + length k; first = None }

  same : b.prototypes.items ≡ a.prototypes.items
  same = ap (λ (s : Shape). s.prototypes) shape

  pub pushed-groups : groups_in b ≡ groups_in a ++ new_group a.prototypes.items k ∷ []
  pushed-groups =
      rw (bytes, entries, states) (groups-push 0 a.bytes.items k a.states.groups a.states.fresh a.entries.items laid.ascend laid.filled laid.sized)
      ∙ ap (λ (ss : States). groups_in a ++ record { key = k; first = None; states = ss } ∷ []) laid.like

  pub pushed-laid : IsLaidOut b
  pushed-laid = record {
    shape = rw shape laid.shape;
    ascend = rw entries (ends-push 0 (length a.bytes.items) (length k) a.entries.items None laid.ascend laid.filled).0;
    filled = rw (bytes, entries) ((ends-push 0 (length a.bytes.items) (length k) a.entries.items None laid.ascend laid.filled).1 ∙ sym (length-append a.bytes.items k));
    like = rw (states, same) laid.like;
    sized = rw (entries, states) (rw (length_push a.entries.items new, length_push a.states.groups a.states.fresh) (omega (arith, laid.sized)));
    fresh = rw (pushed-groups, same) (All-push (λ (g : Group). has_rows g ≡ false → g.states ≡ fresh_states a.prototypes.items) (groups_in a) (new_group a.prototypes.items k) laid.fresh (λ e. refl));
    counted = held ∙ laid.counted ∙ sym (ap (λ (gs : List Group). count_held gs) pushed-groups ∙ count-push (groups_in a) (new_group a.prototypes.items k) refl);
  }
