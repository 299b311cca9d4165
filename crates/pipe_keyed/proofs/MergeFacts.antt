-- Groups that are merged, a group at a time.
use Rattle.std.proofs.Common.{◌≡◌, ◌∙◌, ℕ, zero, suc, ◌+◌, ◌<◌, ◌≤◌, Bool, true, false, if◌then◌else◌, is_some, List, [], ◌∷◌, length, set, Option, Some, None, refl, sym, ap, subst, arith, mul-le-mul_right}
use Rattle.std.specs.List.{filter, IsDistinct}
use Rattle.std.specs.Str.{bytes_eq}
use Rattle.std.proofs.lemmas.List.Elements.{All-set}
use Rattle.std.proofs.lemmas.List.Sums.{sum_by-cons}
use Rattle.std.proofs.lemmas.Slice.Eq.{bytes_eq-Decides}
use Rattle.pipe_columns.specs.declared.place.Place.{Place}
use Rattle.pipe_columns.specs.Place.{place_cmp}
use Rattle.pipe_running.specs.Pick.{nearest}
use Rattle.pipe_running.specs.declared.function.AggregateFunction.{AggregateFunction}
use Rattle.pipe_running.specs.GroupStates.{fresh_states}
use Rattle.pipe_groups.specs.Groups.{AreJoined, count_held, cover, Covers, Group, group_of, has_rows, HasGroups, held_at, held_bytes, group_keys, new_group, RowlessAreFresh, Seen, with_group, with_held}
use Rattle.pipe_groups.proofs.HoldFacts.{held_at-covered, held_at-passing}
use Rattle.pipe_groups.proofs.KeepFacts.{apart-cover}
use Rattle.pipe_groups.proofs.PutFacts.{held_at-at}
use Rattle.pipe_groups.proofs.TakeFacts.{held_at-emptied, HoldTaken, keys_of-set, taken-joinable, taken-joined, taken-none}
use Rattle.pipe_keyed.specs.Merges.{IsTakenInto, MayMerge, MayTake}
use Rattle.pipe_keyed.proofs.TableFacts.{fresh-covered}

-- the groups whose keys pass a test
abbrev pub part : (List ℕ → Bool) → List Group → List Group
part test gs = filter (λ g. test g.key) gs

-- some groups of others, whose keys pass a test, were taken in
pub record Merging (test : List ℕ → Bool) (own0 other0 own other : Seen) : Type 0 where
  pub taken : List ℕ → Option Group
  pub holds : HoldTaken own0.shape.prototypes own0.groups taken own.groups
  pub rest : (k : List ℕ) → held_at k other.groups ≡ (if is_some (taken k) then None else held_at k other0.groups)
  pub from : (k : List ℕ) → is_some (taken k) ≡ true → taken k ≡ held_at k other0.groups
  pub inside : (k : List ℕ) → is_some (taken k) ≡ true → test k ≡ true
  pub shape : own.shape ≡ own0.shape
  pub apart : IsDistinct bytes_eq (group_keys own.groups)
  pub fresh : RowlessAreFresh own0.shape.prototypes own.groups
  pub other_shape : other.shape ≡ own0.shape
  pub keys : group_keys other.groups ≡ group_keys other0.groups
  pub other_fresh : RowlessAreFresh own0.shape.prototypes other.groups

-- a group that another with rows is joined with has rows
joined-rows : (g o : Group) → has_rows o ≡ true → has_rows (with_group o g) ≡ true
joined-rows g o h = by o.first h where
  by : (first : Option Place) → is_some first ≡ true → is_some (nearest place_cmp first g.first) ≡ true
  by None f = cc
  by (Some p) f = refl

-- of a key whose groups have no rows nothing is held
none-held : (k : List ℕ) (gs : List Group) → ((j : ℕ) → j < length gs → (group_of gs j).key ≡ k → has_rows (group_of gs j) ≡ false) → held_at k gs ≡ None
none-held k [] h = refl
none-held k (g ∷ gs) h = by (bytes_eq k g.key) refl (none-held k gs (λ j l. h (suc j) (omega arith))) where
  by : (b : Bool) → bytes_eq k g.key ≡ b → held_at k gs ≡ None → (if b then (if has_rows g then Some g else None) else held_at k gs) ≡ None
  by true e rest = let rowless : has_rows g ≡ false = h 0 (omega arith) (sym ((bytes_eq-Decides k g.key).0 e)) in rw rowless refl
  by false e rest = rest

module _ (test : List ℕ → Bool) (own0 other0 : Seen) (may : MayMerge own0 other0) where
  abbrev pub ps : List AggregateFunction
  ps = own0.shape.prototypes

  -- at first none was
  pub merging-start : Merging test own0 other0 own0 other0
  merging-start = record {
    taken = λ k. None;
    holds = taken-none ps own0.groups;
    rest = λ k. refl;
    from = λ k h. absurd (cc);
    inside = λ k h. absurd (cc);
    shape = refl;
    apart = may.apart;
    fresh = may.fresh;
    other_shape = may.shape;
    keys = refl;
    other_fresh = may.other_fresh;
  }

  module _ (own other : Seen) (m : Merging test own0 other0 own other) where
    other-apart : IsDistinct bytes_eq (group_keys other.groups)
    other-apart = rw m.keys may.other_apart

    module _ (i : ℕ) (lt : i < length other.groups) (rows : has_rows (group_of other.groups i) ≡ true) where
      abbrev pub o : Group
      o = group_of other.groups i

      here : held_at o.key other.groups ≡ Some o
      here = held_at-at o.key other.groups i other-apart lt refl ∙ rw rows refl

      -- a group with rows wasn't taken, and is held as it was
      none : m.taken o.key ≡ None
      none = by (m.taken o.key) refl where
        by : (t : Option Group) → m.taken o.key ≡ t → t ≡ None
        by None e = refl
        by (Some x) e = absurd (let q : Some o ≡ None = sym here ∙ m.rest o.key ∙ rw e refl in cc)

      there : held_at o.key other0.groups ≡ Some o
      there = sym (m.rest o.key ∙ rw none refl) ∙ here

      abbrev pub covered : List Group
      covered = cover ps o.key own.groups

      covered-taken : HoldTaken ps own0.groups m.taken covered
      covered-taken = λ k. held_at-covered ps o.key k own.groups ∙ m.holds k

      -- it may be taken
      pub may-take : MayTake own.shape.prototypes own.groups o
      may-take = rw m.shape (λ j at. taken-joinable ps own0.groups other0.groups may.rows may.others m.taken covered j o may.holds may.other_holds may.few
          (apart-cover ps o.key own.groups m.apart) (fresh-covered ps o.key own.groups m.fresh) at.0 at.1 there none covered-taken)

      -- and was then
      module _ (passes : test o.key ≡ true) (own' other' : Seen) (into : IsTakenInto own.shape.prototypes own.groups o own'.groups) (shape : own'.shape ≡ own.shape)
          (left : HasGroups other other' (set other.groups i (new_group other.shape.prototypes o.key))) where
        pub into-same : IsTakenInto ps own.groups o own'.groups
        into-same = subst (λ (fs : List AggregateFunction). IsTakenInto fs own.groups o own'.groups) (ap (λ s. s.prototypes) m.shape) into

        left-same : other'.groups ≡ set other.groups i (new_group ps o.key)
        left-same = left.0 ∙ ap (λ s. set other.groups i (new_group s.prototypes o.key)) m.other_shape

        abbrev pub taken' : List ℕ → Option Group
        taken' k = if bytes_eq k o.key then Some o else m.taken k

        abbrev pub now : Group
        now = with_group o (group_of covered into-same.index)

        rest' : (k : List ℕ) → held_at k other'.groups ≡ (if is_some (taken' k) then None else held_at k other0.groups)
        rest' k = ap (held_at k) left-same ∙ held_at-emptied ps k other.groups i other-apart lt ∙ by (bytes_eq k o.key) refl where
          by : (b : Bool) → bytes_eq k o.key ≡ b → (if b then None else held_at k other.groups) ≡ (if is_some (if b then Some o else m.taken k) then None else held_at k other0.groups)
          by true e = refl
          by false e = m.rest k

        from' : (k : List ℕ) → is_some (taken' k) ≡ true → taken' k ≡ held_at k other0.groups
        from' k = by (bytes_eq k o.key) refl where
          by : (b : Bool) → bytes_eq k o.key ≡ b → is_some (if b then Some o else m.taken k) ≡ true → (if b then Some o else m.taken k) ≡ held_at k other0.groups
          by true e h = sym there ∙ ap (λ (x : List ℕ). held_at x other0.groups) (sym ((bytes_eq-Decides k o.key).0 e))
          by false e h = m.from k h

        inside' : (k : List ℕ) → is_some (taken' k) ≡ true → test k ≡ true
        inside' k = by (bytes_eq k o.key) refl where
          by : (b : Bool) → bytes_eq k o.key ≡ b → is_some (if b then Some o else m.taken k) ≡ true → test k ≡ true
          by true e h = ap test ((bytes_eq-Decides k o.key).0 e) ∙ passes
          by false e h = m.inside k h

        pub merging-next : Merging test own0 other0 own' other'
        merging-next = record {
          taken = taken';
          holds = rw into-same.is
              (taken-joined ps own0.groups m.taken covered into-same.index o (apart-cover ps o.key own.groups m.apart) (fresh-covered ps o.key own.groups m.fresh)
              into-same.at.0 into-same.at.1 rows none covered-taken);
          rest = rest';
          from = from';
          inside = inside';
          shape = shape ∙ m.shape;
          apart = rw (into-same.is, keys_of-set covered into-same.index now refl) (apart-cover ps o.key own.groups m.apart);
          fresh = rw into-same.is
              (All-set (λ (g : Group). has_rows g ≡ false → g.states ≡ fresh_states ps) covered into-same.index now
              (λ h. absurd (let q = joined-rows (group_of covered into-same.index) o rows in cc)) (fresh-covered ps o.key own.groups m.fresh));
          other_shape = left.1 ∙ m.other_shape;
          keys = ap group_keys left-same ∙ keys_of-set other.groups i (new_group ps o.key) refl ∙ m.keys;
          other_fresh = rw left-same (All-set (λ (g : Group). has_rows g ≡ false → g.states ≡ fresh_states ps) other.groups i (new_group ps o.key) (λ h. refl) m.other_fresh);
        }

    -- ---- the end: no group whose key passes has rows

    module _ (done : (j : ℕ) → j < length other.groups → test (group_of other.groups j).key ≡ true → has_rows (group_of other.groups j) ≡ false) where
      passing-none : (k : List ℕ) → test k ≡ true → held_at k other.groups ≡ None
      passing-none k t = none-held k other.groups (λ j l e. done j l (ap test e ∙ t))

      merged : (k : List ℕ) → m.taken k ≡ (if test k then held_at k other0.groups else None)
      merged k = by (test k) refl (m.taken k) refl where
        by : (b : Bool) → test k ≡ b → (t : Option Group) → m.taken k ≡ t → m.taken k ≡ (if b then held_at k other0.groups else None)
        by true e (Some x) f = m.from k (rw f refl)
        by true e None f = f ∙ sym (sym (m.rest k ∙ rw f refl) ∙ passing-none k e)
        by false e (Some x) f = absurd (let q = m.inside k (rw f refl) in cc)
        by false e None f = f

      -- what is then held of own groups, and of others
      pub merged-joined : AreJoined ps own0.groups (part test other0.groups) own.groups
      merged-joined = λ k. m.holds k ∙ ap (λ (t : Option Group). with_held ps t (held_at k own0.groups)) (merged k ∙ sym (held_at-passing test k other0.groups))

      pub merged-rest : (k : List ℕ) → held_at k other.groups ≡ (if test k then None else held_at k other0.groups)
      merged-rest k = by (test k) refl where
        by : (b : Bool) → test k ≡ b → held_at k other.groups ≡ (if b then None else held_at k other0.groups)
        by true e = passing-none k e
        by false e = let t : m.taken k ≡ None = merged k ∙ rw e refl in m.rest k ∙ rw t refl

-- ---- room

-- a group that is left without rows is counted no more
pub count-emptied : (test : List ℕ → Bool) (gs : List Group) (i : ℕ) (u : Group) → i < length gs → u.key ≡ (group_of gs i).key → test u.key ≡ true → has_rows (group_of gs i) ≡ true → has_rows u ≡ false
    → (count_held (part test gs) ≡ count_held (part test (set gs i u)) + 1) × (held_bytes (part test gs) ≡ held_bytes (part test (set gs i u)) + length u.key)
count-emptied test [] i u lt k t r n = absurd (omega arith)
count-emptied test (g ∷ gs) zero u lt k t r n =
    let same : test g.key ≡ true = ap test (sym k) ∙ t in
    rw (t, same, r, n, k) (omega arith, omega (arith, sum_by-cons (λ (x : Group). length x.key) g (filter has_rows (part test gs))))
count-emptied test (g ∷ gs) (suc i) u lt k t r n = by (test g.key) (has_rows g) refl refl (count-emptied test gs i u (omega arith) k t r n) where
  by : (b c : Bool) → test g.key ≡ b → has_rows g ≡ c
      → (count_held (part test gs) ≡ count_held (part test (set gs i u)) + 1) × (held_bytes (part test gs) ≡ held_bytes (part test (set gs i u)) + length u.key)
      → (count_held (part test (g ∷ gs)) ≡ count_held (part test (g ∷ set gs i u)) + 1) × (held_bytes (part test (g ∷ gs)) ≡ held_bytes (part test (g ∷ set gs i u)) + length u.key)
  by true true e f h = rw (e, f) (
    omega (arith, h.0),
    omega (arith, h.1, sum_by-cons (λ (x : Group). length x.key) g (filter has_rows (part test gs)), sum_by-cons (λ (x : Group). length x.key) g (filter has_rows (part test (set gs i u)))),
  )
  by true false e f h = rw (e, f) h
  by false c e f h = rw e h

-- there is room for what groups whose keys pass hold
abbrev pub HasRoom : (List ℕ → Bool) → Seen → Seen → Type 0
HasRoom test own other = Covers own (count_held (part test other.groups)) (held_bytes (part test other.groups))

module _ (test : List ℕ → Bool) (own other : Seen) (i : ℕ) (lt : i < length other.groups) (passes : test (group_of other.groups i).key ≡ true) (rows : has_rows (group_of other.groups i) ≡ true) (room : HasRoom test own other) where
  counts : (fs : List AggregateFunction) → (count_held (part test other.groups) ≡ count_held (part test (set other.groups i (new_group fs (group_of other.groups i).key))) + 1)
      × (held_bytes (part test other.groups) ≡ held_bytes (part test (set other.groups i (new_group fs (group_of other.groups i).key))) + length (group_of other.groups i).key)
  counts fs = count-emptied test other.groups i (new_group fs (group_of other.groups i).key) lt refl passes rows refl

  -- so for one of them
  pub room-one : Covers own 1 (length (group_of other.groups i).key)
  room-one =
      let c = counts [] in
      let one : 1 ≤ count_held (part test other.groups) = omega (arith, c.0) in
      (omega (arith, one, room.0), omega (arith, room.1, mul-le-mul_right (length own.shape.prototypes) one), omega (arith, c.1, room.2))

  -- and then for the rest
  pub room-next : (own' other' : Seen) → HasGroups other other' (set other.groups i (new_group other.shape.prototypes (group_of other.groups i).key))
      → ((g b : ℕ) → Covers own (g + 1) (b + length (group_of other.groups i).key) → Covers own' g b) → HasRoom test own' other'
  room-next own' other' left keeps =
      let c = counts other.shape.prototypes in
      rw left.0 (keeps _ _ (rw (← c.0, ← c.1) room))
