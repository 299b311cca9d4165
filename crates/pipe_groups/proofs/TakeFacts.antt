-- Groups that take the rows of others in, a group at a time.
use Rattle.std.proofs.Common.{◌≡◌, ◌∙◌, ℕ, zero, suc, ◌+◌, ◌<◌, ◌^◌, Bool, true, false, if◌then◌else◌, is_some, List, [], ◌∷◌, ◌++◌, length, set, take, Option, Some, None, unwrap_or, refl, sym, ap, subst, arith}
use Rattle.std.specs.List.{IsDistinct}
use Rattle.std.specs.Str.{bytes_eq}
use Rattle.std.proofs.Math.Seq.{map-set_same}
use Rattle.std.proofs.lemmas.Cmp.{nat_list_eq_equiv}
use Rattle.std.proofs.lemmas.List.Elements.{All-get_or}
use Rattle.std.proofs.lemmas.Map.Keys.{IsDistinct-push, IsDistinct-tail}
use Rattle.std.proofs.lemmas.List.{map-append}
use Rattle.std.proofs.lemmas.Slice.Eq.{bytes_eq-Decides}
use Rattle.pipe_columns.specs.declared.place.Place.{Place}
use Rattle.pipe_columns.specs.Place.{place_cmp}
use Rattle.pipe_running.specs.Pick.{nearest}
use Rattle.pipe_running.specs.declared.function.AggregateFunction.{AggregateFunction}
use Rattle.pipe_running.specs.GroupStates.{fresh_states}
use Rattle.pipe_running.proofs.GroupStateFacts.{group-fresh, group-holds}
use Rattle.pipe_running.proofs.StatesHoldFacts.{fresh-hold, hold-seen}
use Rattle.pipe_spill.specs.declared.spill_row.SpillRow.{SpillRow}
use Rattle.pipe_groups.specs.Groups.{AreJoinable, Group, group_of, has_rows, held_at, is_covered, group_keys, new_group, no_group, RowlessAreFresh, with_group, with_held}
use Rattle.pipe_groups.specs.Holds.{entries_of, FoundStands, Holds, of_key}
use Rattle.pipe_groups.proofs.FeedFacts.{few-of_key}
use Rattle.pipe_groups.proofs.HoldFacts.{held_at-cover}
use Rattle.pipe_groups.proofs.JoinFacts.{kinds-joinable}
use Rattle.pipe_groups.proofs.PutFacts.{held_at-at, held_at-new, later-differs, not-first, not-later}

-- ---- a group is changed

-- a group of the same key in the place of one leaves the keys
pub keys_of-set : (gs : List Group) (i : ℕ) (u : Group) → u.key ≡ (group_of gs i).key → group_keys (set gs i u) ≡ group_keys gs
keys_of-set gs i u e = map-set_same (λ (g : Group). g.key) gs i u no_group e

-- what is then held: of its key the new one, if it has rows, and of others what was
pub held_at-set : (k : List ℕ) (gs : List Group) (i : ℕ) (u : Group) → IsDistinct bytes_eq (group_keys gs) → i < length gs → u.key ≡ (group_of gs i).key
    → held_at k (set gs i u) ≡ (if bytes_eq k u.key then (if has_rows u then Some u else None) else held_at k gs)
held_at-set k [] i u d lt e = absurd (omega arith)
held_at-set k (g ∷ gs) zero u d lt e = by (bytes_eq k u.key) refl where
  by : (b : Bool) → bytes_eq k u.key ≡ b → (if b then (if has_rows u then Some u else None) else held_at k gs) ≡ (if b then (if has_rows u then Some u else None) else held_at k (g ∷ gs))
  by true f = refl
  by false f = let other : bytes_eq k g.key ≡ false = ap (bytes_eq k) (sym e) ∙ f in rw other refl
held_at-set k (g ∷ gs) (suc i) u d lt e = by (bytes_eq k g.key) refl (held_at-set k gs i u (IsDistinct-tail bytes_eq g.key (group_keys gs) d) (omega arith) e) where
  by : (b : Bool) → bytes_eq k g.key ≡ b → held_at k (set gs i u) ≡ (if bytes_eq k u.key then (if has_rows u then Some u else None) else held_at k gs)
      → held_at k (g ∷ set gs i u) ≡ (if bytes_eq k u.key then (if has_rows u then Some u else None) else held_at k (g ∷ gs))
  by true f rest =
      let apart : bytes_eq u.key g.key ≡ false = later-differs g gs i u.key d (omega arith) (sym e) in
      let other : bytes_eq k u.key ≡ false = ap (λ (x : List ℕ). bytes_eq x u.key) ((bytes_eq-Decides k g.key).0 f) ∙ nat_list_eq_equiv.symm g.key u.key ∙ apart in
      rw (f, other) refl
  by false f rest = rw f rest

-- a group that is left without rows is held no more
pub held_at-emptied : (ps : List AggregateFunction) (k : List ℕ) (gs : List Group) (i : ℕ) → IsDistinct bytes_eq (group_keys gs) → i < length gs
    → held_at k (set gs i (new_group ps (group_of gs i).key)) ≡ (if bytes_eq k (group_of gs i).key then None else held_at k gs)
held_at-emptied ps k gs i d lt = held_at-set k gs i (new_group ps (group_of gs i).key) d lt refl

-- what is held of one more group is that group, of its key
pub held_at-push : (k : List ℕ) (gs : List Group) (o : Group) → is_covered o.key gs ≡ false → held_at k (gs ++ o ∷ []) ≡ (if bytes_eq k o.key then (if has_rows o then Some o else None) else held_at k gs)
held_at-push k [] o h = refl
held_at-push k (g ∷ gs) o h = by (bytes_eq k g.key) refl (held_at-push k gs o (not-later o.key g gs h)) where
  by : (b : Bool) → bytes_eq k g.key ≡ b → held_at k (gs ++ o ∷ []) ≡ (if bytes_eq k o.key then (if has_rows o then Some o else None) else held_at k gs)
      → held_at k (g ∷ (gs ++ o ∷ [])) ≡ (if bytes_eq k o.key then (if has_rows o then Some o else None) else held_at k (g ∷ gs))
  by true f rest =
      let other : bytes_eq k o.key ≡ false = ap (λ (x : List ℕ). bytes_eq x o.key) ((bytes_eq-Decides k g.key).0 f) ∙ nat_list_eq_equiv.symm g.key o.key ∙ not-first o.key g gs h in
      rw (f, other) refl
  by false f rest = rw f rest

-- keys stay apart when a new one is pushed
pub apart-pushed : (gs : List Group) (o : Group) → IsDistinct bytes_eq (group_keys gs) → is_covered o.key gs ≡ false → IsDistinct bytes_eq (group_keys (gs ++ o ∷ []))
apart-pushed gs o d h = subst (IsDistinct bytes_eq) (sym (map-append (λ (g : Group). g.key) gs (o ∷ []))) (IsDistinct-push nat_list_eq_equiv (group_keys gs) o.key d h)

-- ---- what was taken

module _ (ps : List AggregateFunction) (gs : List Group) where
  -- groups that were others hold what these held, and what was taken at each key
  abbrev pub HoldTaken : (List ℕ → Option Group) → List Group → Type 0
  HoldTaken taken now = (k : List ℕ) → held_at k now ≡ with_held ps (taken k) (held_at k gs)

  -- at first nothing was taken
  pub taken-none : HoldTaken (λ k. None) gs
  taken-none = λ k. refl

  -- a new group of no rows takes nothing
  pub taken-pushed : (taken : List ℕ → Option Group) (now : List Group) (k : List ℕ) → HoldTaken taken now → HoldTaken taken (now ++ new_group ps k ∷ [])
  taken-pushed taken now k h = λ q. held_at-cover ps k q now ∙ h q

  -- the group of a key, as what is held of it or a new one
  own-group : (g : Group) (k : List ℕ) → g.key ≡ k → (has_rows g ≡ false → g.states ≡ fresh_states ps) → unwrap_or (if has_rows g then Some g else None) (new_group ps k) ≡ g
  own-group g k e fresh = by g.first refl where
    by : (first : Option Place) → g.first ≡ first → unwrap_or (if is_some first then Some g else None) (new_group ps k) ≡ g
    by (Some p) f = refl
    by None f =
        let states : g.states ≡ fresh_states ps = fresh (ap (λ (o : Option Place). is_some o) f) in
        λ i. record { key = sym e i; first = sym f i; states = sym states i }

  -- the rows of a group are taken into that of its key
  pub taken-joined : (taken : List ℕ → Option Group) (now : List Group) (i : ℕ) (o : Group) → IsDistinct bytes_eq (group_keys now) → RowlessAreFresh ps now → i < length now → (group_of now i).key ≡ o.key
      → has_rows o ≡ true → taken o.key ≡ None → HoldTaken taken now → HoldTaken (λ k. if bytes_eq k o.key then Some o else taken k) (set now i (with_group o (group_of now i)))
  taken-joined taken now i o apart fresh lt e rows none h = λ k. held_at-set k now i u apart lt refl ∙ by k (bytes_eq k o.key) refl where
    g : Group
    g = group_of now i

    u : Group
    u = with_group o g

    -- the group that it is taken into has rows then
    filled : has_rows u ≡ true
    filled = by_first o.first rows where
      by_first : (first : Option Place) → is_some first ≡ true → is_some (nearest place_cmp first g.first) ≡ true
      by_first None f = cc
      by_first (Some p) f = refl

    -- and is what was held of the key with it
    here : Some u ≡ with_held ps (Some o) (held_at o.key gs)
    here =
        let held : held_at o.key gs ≡ (if has_rows g then Some g else None) = sym (h o.key ∙ ap (λ (x : Option Group). with_held ps x (held_at o.key gs)) none) ∙ held_at-at o.key now i apart lt e in
        let found : unwrap_or (held_at o.key gs) (new_group ps o.key) ≡ g = ap (λ (x : Option Group). unwrap_or x (new_group ps o.key)) held
        ∙ own-group g o.key e (All-get_or (λ x. has_rows x ≡ false → x.states ≡ fresh_states ps) now i no_group lt fresh) in
        ap (λ (x : Group). Some (with_group o x)) (sym found)

    by : (k : List ℕ) (b : Bool) → bytes_eq k o.key ≡ b → (if bytes_eq k u.key then (if has_rows u then Some u else None) else held_at k now)
        ≡ with_held ps (if bytes_eq k o.key then Some o else taken k) (held_at k gs)
    by k true f =
        let same : bytes_eq k u.key ≡ true = ap (bytes_eq k) e ∙ f in
        let own : k ≡ o.key = (bytes_eq-Decides k o.key).0 f in
        rw (same, f, filled) (here ∙ ap (λ (x : List ℕ). with_held ps (Some o) (held_at x gs)) (sym own))
    by k false f =
        let other : bytes_eq k u.key ≡ false = ap (bytes_eq k) e ∙ f in
        rw (other, f) (h k)

  -- ---- one by one

  -- a group of others behind those that were taken, which has rows and is joined
  pub next-joined : (front now : List Group) (i : ℕ) (o : Group) → is_covered o.key front ≡ false → IsDistinct bytes_eq (group_keys now) → RowlessAreFresh ps now → i < length now → (group_of now i).key ≡ o.key
      → has_rows o ≡ true → HoldTaken (λ k. held_at k front) now → HoldTaken (λ k. held_at k (front ++ o ∷ [])) (set now i (with_group o (group_of now i)))
  next-joined front now i o new apart fresh lt e rows h = λ k.
      taken-joined (λ k. held_at k front) now i o apart fresh lt e rows (held_at-new o.key front new) h k
      ∙ ap (λ (x : Option Group). with_held ps x (held_at k gs)) (sym (held_at-push k front o new ∙ rw rows refl))

  -- one without rows leaves what is held
  pub next-rowless : (front now : List Group) (o : Group) → is_covered o.key front ≡ false → has_rows o ≡ false → HoldTaken (λ k. held_at k front) now → HoldTaken (λ k. held_at k (front ++ o ∷ [])) now
  next-rowless front now o new rowless h = λ k. h k ∙ ap (λ (x : Option Group). with_held ps x (held_at k gs)) (by k (bytes_eq k o.key) refl) where
    by : (k : List ℕ) (b : Bool) → bytes_eq k o.key ≡ b → held_at k front ≡ held_at k (front ++ o ∷ [])
    by k true f =
        let none : held_at k front ≡ None = ap (λ (x : List ℕ). held_at x front) ((bytes_eq-Decides k o.key).0 f) ∙ held_at-new o.key front new in
        none ∙ sym (held_at-push k front o new ∙ rw (f, rowless) refl)
    by k false f = sym (held_at-push k front o new ∙ rw f refl)

-- where keys are apart no group before one has its key
pub new-before : (gs : List Group) (j : ℕ) → IsDistinct bytes_eq (group_keys gs) → j < length gs → is_covered (group_of gs j).key (take j gs) ≡ false
new-before [] j d lt = absurd (omega arith)
new-before (g ∷ gs) zero d lt = refl
new-before (g ∷ gs) (suc j) d lt = rw (later-differs g gs j (group_of gs j).key d (omega arith) refl) (new-before gs j (IsDistinct-tail bytes_eq g.key (group_keys gs) d) (omega arith))

-- ---- which groups may be joined

module _ (ps : List AggregateFunction) where
  -- a group that stands for rows, or is fresh where it has none, and one that stands for others
  found-joinable : (g o : Group) (b : Bool) (xs ys : List SpillRow) → (b ≡ false → g.states ≡ fresh_states ps) → FoundStands ps (if b then Some g else None) xs → FoundStands ps (Some o) ys
      → length (entries_of xs) + length (entries_of ys) < 2 ^ 32 → AreJoinable g.states o.states
  found-joinable g o true xs ys fresh h k few =
      kinds-joinable ps g.states o.states (length (entries_of xs)) (length (entries_of ys)) h.kinds k.kinds
      (hold-seen (length (entries_of xs)) ps g.states (group-holds ps g.states g.first (entries_of xs) h)) (hold-seen (length (entries_of ys)) ps o.states (group-holds ps o.states o.first (entries_of ys) k)) few
  found-joinable g o false xs ys fresh h k few =
      rw (fresh refl)
      (kinds-joinable ps (fresh_states ps) o.states 0 (length (entries_of ys)) (group-fresh ps).kinds k.kinds (hold-seen 0 ps (fresh_states ps) (fresh-hold 0 ps))
      (hold-seen (length (entries_of ys)) ps o.states (group-holds ps o.states o.first (entries_of ys) k)) (omega (arith, few)))

  -- a group that others hold may be joined with that of its key, of which nothing was taken yet, where all rows number fewer than 2^32
  pub taken-joinable : (gs others : List Group) (rows more : List SpillRow) (taken : List ℕ → Option Group) (now : List Group) (i : ℕ) (o : Group)
      → Holds ps gs rows → Holds ps others more → length rows + length more < 2 ^ 32
      → IsDistinct bytes_eq (group_keys now) → RowlessAreFresh ps now → i < length now → (group_of now i).key ≡ o.key → held_at o.key others ≡ Some o → taken o.key ≡ None → HoldTaken ps gs taken now
      → AreJoinable (group_of now i).states o.states
  taken-joinable gs others rows more taken now i o h k few apart fresh lt e there none t =
      let g : Group = group_of now i in
      let held : (if has_rows g then Some g else None) ≡ held_at o.key gs = sym (held_at-at o.key now i apart lt e) ∙ t o.key ∙ ap (λ (x : Option Group). with_held ps x (held_at o.key gs)) none in
      found-joinable g o (has_rows g) (of_key o.key rows) (of_key o.key more) (All-get_or (λ x. has_rows x ≡ false → x.states ≡ fresh_states ps) now i no_group lt fresh)
      (subst (λ (x : Option Group). FoundStands ps x (of_key o.key rows)) (sym held) (h.at o.key)) (subst (λ (x : Option Group). FoundStands ps x (of_key o.key more)) there (k.at o.key))
      (omega (arith, few, few-of_key o.key rows, few-of_key o.key more))
