-- Groups, read off their entries.
use Rattle.std.proofs.Common.{◌≡◌, ◌∙◌, ℕ, zero, suc, ◌+◌, ◌-◌, ◌<◌, ◌≤◌, Bool, true, false, if◌then◌else◌, is_some, List, [], ◌∷◌, length, drop, get_or, refl, sym, ap, subst, arith, length-take-le, length-drop}
use Rattle.std.specs.List.{sum_by}
use Rattle.std.proofs.lemmas.List.{drop_more, get_or_default}
use Rattle.std.proofs.lemmas.List.Elements.{All-nil}
use Rattle.std.proofs.lemmas.List.Sums.{sum_by_from}
use Rattle.pipe_kinds.specs.ManyStates.{states_in}
use Rattle.pipe_running.specs.declared.function.AggregateFunction.{AggregateFunction}
use Rattle.pipe_groups.specs.declared.groups.Entry.{Entry}
use Rattle.pipe_groups.specs.declared.groups.Groups.TheInside.{Inside}
use Rattle.pipe_groups.specs.Groups.{Group, count_held, group_of, has_rows, held_bytes, held_groups, no_group, Seen}
use Rattle.pipe_groups.specs.Layout.{AscendFrom, groups_at, held_from, IsLaidOut, key_between, last_end, no_entry, shape_in, start_from, view_of}
use Rattle.pipe_groups.specs.Shape.{IsShape}
use Rattle.pipe_running.specs.GroupStates.{fresh_states}

-- there are as many groups as entries
pub length-groups : (start : ℕ) (bytes : List ℕ) (states : List (List AggregateFunction)) (es : List Entry) → length (groups_at start bytes states es) ≡ length es
length-groups start bytes states [] = refl
length-groups start bytes [] (e ∷ es) = ap suc (length-groups e.end bytes [] es)
length-groups start bytes (ss ∷ states) (e ∷ es) = ap suc (length-groups e.end bytes states es)

-- a key begins where it does behind the first entry
pub start-next : (start : ℕ) (e : Entry) (es : List Entry) (i : ℕ) → start_from e.end es i ≡ start_from start (e ∷ es) (suc i)
start-next start e es zero = refl
start-next start e es (suc i) = refl

-- the group of an entry
pub group-at : (start : ℕ) (bytes : List ℕ) (states : List (List AggregateFunction)) (es : List Entry) (i : ℕ) (e : Entry) → i < length es → e ≡ get_or es i e
    → get_or (groups_at start bytes states es) i no_group ≡ record { key = key_between bytes (start_from start es i) e.end; first = e.first; states = get_or states i [] }
group-at start bytes states [] i e h q = absurd (omega arith)
group-at start bytes [] (x ∷ xs) zero e h q = rw q refl
group-at start bytes (ss ∷ states) (x ∷ xs) zero e h q = rw q refl
group-at start bytes [] (x ∷ xs) (suc i) e h q = rw (sym (start-next start x xs i)) (group-at x.end bytes [] xs i e (omega arith) q)
group-at start bytes (ss ∷ states) (x ∷ xs) (suc i) e h q = rw (sym (start-next start x xs i)) (group-at x.end bytes states xs i e (omega arith) q)

-- the last key ends no sooner than the first begins
pub last-behind : (start : ℕ) (es : List Entry) → AscendFrom start es → start ≤ last_end start es
last-behind start [] h = omega arith
last-behind start (e ∷ es) h = omega (arith, h.0, last-behind e.end es h.1)

-- a key ends no sooner than it begins, and no later than the last
pub ends-within : (start : ℕ) (es : List Entry) (i : ℕ) (e : Entry) → AscendFrom start es → i < length es → e ≡ get_or es i e → (start_from start es i ≤ e.end) × (e.end ≤ last_end start es)
ends-within start [] i e h lt q = absurd (omega arith)
ends-within start (x ∷ xs) zero e h lt q = rw q (h.0, last-behind x.end xs h.1)
ends-within start (x ∷ xs) (suc i) e h lt q = rw (sym (start-next start x xs i)) (ends-within x.end xs i e h.1 (omega arith) q)

-- there are no more held groups than groups
pub held-le : (gs : List Group) → count_held gs ≤ length gs
held-le [] = omega arith
held-le (g ∷ gs) = by (has_rows g) refl (held-le gs) where
  by : (b : Bool) → has_rows g ≡ b → count_held gs ≤ length gs → count_held (g ∷ gs) ≤ suc (length gs)
  by true e h = rw e (omega (arith, h))
  by false e h = rw e (omega (arith, h))

-- one more entry has so many bytes of held keys more
held-more : (start : ℕ) (bytes : List ℕ) (e : Entry) (es : List Entry) (ss : List AggregateFunction) (gs : List Group) → start ≤ e.end → e.end ≤ length bytes → held_bytes gs ≡ held_from e.end es
    → held_bytes (record { key = key_between bytes start e.end; first = e.first; states = ss } ∷ gs) ≡ held_from start (e ∷ es)
held-more start bytes e es ss gs starts ends rest = by (is_some e.first) refl where
  long : length (key_between bytes start e.end) ≡ e.end - start
  long = length-take-le (e.end - start) (drop start bytes) (omega (arith, starts, ends, length-drop start bytes))

  by : (b : Bool) → is_some e.first ≡ b → held_bytes (record { key = key_between bytes start e.end; first = e.first; states = ss } ∷ gs) ≡ held_from start (e ∷ es)
  by true q =
      let key_len : Group → ℕ = λ g. length g.key in
      let held : List Group = held_groups gs in
      let same : 0 + length (key_between bytes start e.end) + sum_by key_len held ≡ e.end - start + held_from e.end es = omega (arith, long, rest) in
      rw q (sum_by_from key_len (0 + length (key_between bytes start e.end)) held ∙ same)
  by false q = rw q (rest ∙ omega arith)

-- so many bytes have the held keys
pub held-bytes : (start : ℕ) (bytes : List ℕ) (states : List (List AggregateFunction)) (es : List Entry) → AscendFrom start es → last_end start es ≤ length bytes
    → held_bytes (groups_at start bytes states es) ≡ held_from start es
held-bytes start bytes states [] w le = refl
held-bytes start bytes [] (e ∷ es) w le = held-more start bytes e es [] (groups_at e.end bytes [] es) w.0 (omega (arith, le, last-behind e.end es w.1)) (held-bytes e.end bytes [] es w.1 le)
held-bytes start bytes (ss ∷ states) (e ∷ es) w le = held-more start bytes e es ss (groups_at e.end bytes states es) w.0 (omega (arith, le, last-behind e.end es w.1)) (held-bytes e.end bytes states es w.1 le)

-- one more entry of some: it lies behind those before, and has so many bytes of held keys
pub held-next : (start : ℕ) (es : List Entry) (k : ℕ) (e : Entry) → k < length es → e ≡ get_or es k e → AscendFrom start (drop k es)
    → (start ≤ e.end) × AscendFrom e.end (drop (k + 1) es) × (held_from start (drop k es) ≡ (if is_some e.first then e.end - start else 0) + held_from e.end (drop (k + 1) es))
held-next start es k e lt is h =
    let cut : drop k es ≡ e ∷ drop (k + 1) es = drop_more es k e lt ∙ ap (λ (x : Entry). x ∷ drop (k + 1) es) (sym is) in
    let all : AscendFrom start (e ∷ drop (k + 1) es) = subst (λ (l : List Entry). AscendFrom start l) cut h in
    (all.0, all.1, ap (λ (l : List Entry). held_from start l) cut)

-- where a key begins behind the first
pub start-behind : (es : List Entry) (i : ℕ) (e : Entry) → 0 < i → i < length es → e ≡ get_or es (i - 1) e → e.end ≡ start_from 0 es i
start-behind es zero e pos lt is = absurd (omega arith)
start-behind es (suc i) e pos lt is =
    let before : suc i - 1 ≡ i = omega arith in
    ap (λ (x : Entry). x.end) (is ∙ ap (λ (k : ℕ). get_or es k e) before ∙ sym (get_or_default es i no_entry e (omega (arith, lt))))

-- no groups are laid out
pub laid-none : (a : Inside) → IsShape (shape_in a) → a.bytes.items ≡ [] → a.entries.items ≡ [] → a.states.groups ≡ [] → a.states.fresh ≡ fresh_states a.prototypes.items → a.held ≡ 0 → IsLaidOut a
laid-none a shape b e s f h = record {
  shape = shape;
  ascend = rw e tt;
  filled = rw (e, b) refl;
  like = f;
  sized = rw (e, s) refl;
  fresh = rw e (All-nil (λ (g : Group). has_rows g ≡ false → g.states ≡ fresh_states a.prototypes.items));
  counted = rw e h;
}

module _ (a : Inside) (t : Seen) (view_is : view_of a ≡ t) (laid : IsLaidOut a) where
  pub count-entries : length t.groups ≡ length a.entries.items
  count-entries = ap (λ (s : Seen). length s.groups) (sym view_is) ∙ length-groups 0 a.bytes.items a.states.groups a.entries.items

  pub total-held : held_bytes t.groups ≡ held_from 0 a.entries.items
  total-held = ap (λ (s : Seen). held_bytes s.groups) (sym view_is) ∙ held-bytes 0 a.bytes.items a.states.groups a.entries.items laid.ascend (omega (arith, laid.filled))

  module _ (i : ℕ) (within : i < length t.groups) where
    pub index-within : i < length a.entries.items
    index-within = omega (arith, within, count-entries)

    module _ (e : Entry) (is : e ≡ get_or a.entries.items i e) where
      -- the group at an index is that of the entry
      pub group-is : group_of t.groups i ≡ record { key = key_between a.bytes.items (start_from 0 a.entries.items i) e.end; first = e.first; states = states_in a.states i }
      group-is = ap (λ (s : Seen). group_of s.groups i) (sym view_is) ∙ group-at 0 a.bytes.items a.states.groups a.entries.items i e index-within is

      pub key-within : (start_from 0 a.entries.items i ≤ e.end) × (e.end ≤ length a.bytes.items)
      key-within =
          let ends = ends-within 0 a.entries.items i e laid.ascend index-within is in
          (ends.0, omega (arith, ends.1, laid.filled))
