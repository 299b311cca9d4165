-- Groups hold rows that one of them takes at once.
use Rattle.std.proofs.Common.{◌≡◌, ◌∙◌, ℕ, ◌<◌, Bool, true, false, if◌then◌else◌, is_some, List, [], ◌∷◌, ◌++◌, length, set, Option, Some, None, refl, sym, ap, subst}
use Rattle.std.specs.List.{All, IsDistinct}
use Rattle.std.specs.Str.{bytes_eq}
use Rattle.std.proofs.lemmas.List.{append-nil, map-append}
use Rattle.std.proofs.lemmas.List.Elements.{All-head, All-tail, filter-append}
use Rattle.std.proofs.lemmas.Slice.Eq.{bytes_eq-Decides}
use Rattle.pipe_columns.specs.declared.any_value.AnyValue.{AnyValue}
use Rattle.pipe_columns.specs.declared.place.Place.{Place}
use Rattle.pipe_running.specs.declared.function.AggregateFunction.{AggregateFunction}
use Rattle.pipe_running.specs.GroupStates.{GroupStands, TakesFrom}
use Rattle.pipe_running.specs.Runs.{placed}
use Rattle.pipe_running.proofs.GroupRunFacts.{group-run}
use Rattle.pipe_running.proofs.GroupStateFacts.{group-fresh}
use Rattle.pipe_spill.specs.declared.spill_row.SpillRow.{SpillRow}
use Rattle.pipe_groups.specs.GroupRuns.{with_run}
use Rattle.pipe_groups.specs.Groups.{Group, group_of, has_rows, held_at, group_keys, no_group, RowlessAreFresh}
use Rattle.pipe_groups.specs.Holds.{entries_of, FoundStands, Holds, of_key}
use Rattle.pipe_groups.proofs.PutFacts.{held_at-at}
use Rattle.pipe_groups.proofs.RunFacts.{least-some}
use Rattle.pipe_groups.proofs.TakeFacts.{held_at-set}

-- rows of one key are the rows of that key, and of no other
of_key-own : (k : List ℕ) (rows : List SpillRow) → All (λ r. r.key ≡ k) rows → of_key k rows ≡ rows
of_key-own k [] h = refl
of_key-own k (r ∷ rows) h =
    let here : bytes_eq k r.key ≡ true = (bytes_eq-Decides k r.key).1 (sym (All-head (λ (x : SpillRow). x.key ≡ k) r rows h)) in
    rw here (ap (λ (l : List SpillRow). r ∷ l) (of_key-own k rows (All-tail (λ (x : SpillRow). x.key ≡ k) r rows h)))

of_key-others : (q k : List ℕ) (rows : List SpillRow) → bytes_eq q k ≡ false → All (λ r. r.key ≡ k) rows → of_key q rows ≡ []
of_key-others q k [] e h = refl
of_key-others q k (r ∷ rows) e h =
    let other : bytes_eq q r.key ≡ false = ap (bytes_eq q) (All-head (λ (x : SpillRow). x.key ≡ k) r rows h) ∙ e in
    rw other (of_key-others q k rows e (All-tail (λ (x : SpillRow). x.key ≡ k) r rows h))

module _ (ps : List AggregateFunction) (gs : List Group) (i : ℕ) (apart : IsDistinct bytes_eq (group_keys gs)) (fresh : RowlessAreFresh ps gs) (lt : i < length gs)
    (chunk row : ℕ) (inputs : List (List AnyValue)) (some : 0 < length inputs) (taken : All (TakesFrom 0 ps) inputs)
    (run : List SpillRow) (own : All (λ r. r.key ≡ (group_of gs i).key) run) (entries : entries_of run ≡ placed chunk row inputs) where
  abbrev g : Group
  g = group_of gs i

  -- what a group stands for, with the run
  stands : (xs : List SpillRow) → GroupStands ps g.first g.states (entries_of xs) → FoundStands ps (Some (with_run chunk row inputs g)) (xs ++ run)
  stands xs h =
      subst (GroupStands ps (with_run chunk row inputs g).first (with_run chunk row inputs g).states)
      (ap (λ (es : List (Place × List AnyValue)). entries_of xs ++ es) (sym entries) ∙ sym (map-append (λ (r : SpillRow). (r.place, r.values)) xs run))
      (group-run ps g.states g.first (entries_of xs) chunk row inputs taken h)

  -- so it was before
  before : (xs : List SpillRow) (b : Bool) → has_rows g ≡ b → FoundStands ps (if b then Some g else None) xs → GroupStands ps g.first g.states (entries_of xs)
  before xs true e h = h
  before xs false e h = rw (h, rowless g.first e, fresh i no_group lt e) (group-fresh ps) where
    rowless : (first : Option Place) → is_some first ≡ false → first ≡ None
    rowless None q = refl
    rowless (Some p) q = cc

  -- the group has rows then
  rows-there : has_rows (with_run chunk row inputs g) ≡ true
  rows-there = ap (λ (o : Option Place). is_some o) (least-some chunk row inputs g.first some)

  -- the groups hold the run too
  pub holds-run : (rows : List SpillRow) → Holds ps gs rows → Holds ps (set gs i (with_run chunk row inputs g)) (rows ++ run)
  holds-run rows h = record { at = λ q. by q (bytes_eq q g.key) refl } where
    both : (q : List ℕ) → of_key q (rows ++ run) ≡ of_key q rows ++ of_key q run
    both q = filter-append (λ (r : SpillRow). bytes_eq q r.key) rows run

    here : FoundStands ps (held_at g.key gs) (of_key g.key rows)
    here = h.at g.key

    found : GroupStands ps g.first g.states (entries_of (of_key g.key rows))
    found = before (of_key g.key rows) (has_rows g) refl (rw (held_at-at g.key gs i apart lt refl) at here)

    by : (q : List ℕ) (b : Bool) → bytes_eq q g.key ≡ b → FoundStands ps (held_at q (set gs i (with_run chunk row inputs g))) (of_key q (rows ++ run))
    by q true e =
        let same : q ≡ g.key = (bytes_eq-Decides q g.key).0 e in
        rw (held_at-set q gs i (with_run chunk row inputs g) apart lt refl, e, rows-there, both q, same, of_key-own g.key run own) (stands (of_key g.key rows) found)
    by q false e =
        rw (held_at-set q gs i (with_run chunk row inputs g) apart lt refl, e, both q, of_key-others q g.key run e own, append-nil (of_key q rows)) (h.at q)
