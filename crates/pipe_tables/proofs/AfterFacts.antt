-- One row more comes to a local table.
use Rattle.std.proofs.Common.{◌≡◌, ◌≢◌, ◌∙◌, ◌+◌, ◌≤◌, ◌<◌, ◌==◌, ◌&&◌, ◌||◌, ◌%◌, ◌^◌, ℕ, Bool, true, false, not, List, [], ◌∷◌, ◌++◌, Some, None, length, map, set, take, get_or, zero, suc, refl, ap, sym, subst, arith}
use Rattle.std.specs.Prelude.{All, if◌then◌else◌, nat_le}
use Rattle.std.specs.List.{list_any, range_with_len}
use Rattle.std.specs.Set.{is_member}
use Rattle.std.specs.Str.{bytes_eq}
use Rattle.std.proofs.lemmas.Bool.{false≢true}
use Rattle.std.proofs.lemmas.Bool.Decides.{nat_tests}
use Rattle.std.proofs.lemmas.List.{append-nil, append_assoc, length-append, length-map, map-append, take_more}
use Rattle.std.proofs.lemmas.List.Elements.{All-append, All-cons, All-filter, All-head, All-nil, All-tail, All-take}
use Rattle.std.proofs.lemmas.List.FromFn.{get_or-map-range_with_len, length-map-range_with_len}
use Rattle.std.proofs.lemmas.List.Sums.{count_by-le-length, length-filter}
use Rattle.std.proofs.lemmas.Option.{unwrap_or-slice_get}
use Rattle.std.proofs.Math.Nat.{mod-lt}
use Rattle.pipe_columns.specs.declared.any_value.AnyValue.{AnyValue}
use Rattle.pipe_columns.specs.Key.{fold_bytes, partition}
use Rattle.pipe_columns.specs.Row.{Row}
use Rattle.pipe_running.specs.declared.function.AggregateFunction.{AggregateFunction}
use Rattle.pipe_running.specs.GroupStates.{fresh_states}
use Rattle.pipe_plan.specs.declared.limits.Limits.{Limits}
use Rattle.pipe_plan.specs.Kept.{first_distinct, kept_keys, same_key}
use Rattle.pipe_plan.specs.Payloads.{full_pieces, rest_of}
use Rattle.pipe_plan.specs.Run.{AreLimits, is_generic}
use Rattle.pipe_plan.proofs.Cutting.{full-filled, full-unfilled, rest-filled, rest-short, rest-unfilled}
use Rattle.pipe_plan.proofs.KeptKeys.{kept-full, kept-known, kept-new}
use Rattle.pipe_inputs.specs.ChunkRows.{no_row, row_at}
use Rattle.pipe_spill.specs.SpillRow.{HasValues, spilled}
use Rattle.pipe_spill.proofs.SpilledRows.{spilled_are_rows}
use Rattle.pipe_spill.specs.declared.spill_row.SpillRow.{SpillRow}
use Rattle.pipe_groups.specs.Groups.{count_held, Group, has_rows, new_group, put, RowlessAreFresh, group_with_row as with_a_row}
use Rattle.pipe_groups.specs.Holds.{HoldFewer}
use Rattle.pipe_groups.specs.Shape.{IsShape, Shape}
use Rattle.pipe_groups.proofs.HoldFacts.{holds-none, holds-row}
use Rattle.pipe_groups.proofs.ShapeFacts.{shape-takes}
use Rattle.pipe_tables.specs.After.{IsAfter, is_kept_of, kept_of, left_of, piece_for, pieces_for, spilled_to, waiting_of, with_all}
use Rattle.pipe_tables.specs.Buffers.{buffer_of, buffered, fills, leaving, no_rows, rows_with}
use Rattle.pipe_tables.specs.LocalTable.{holding, let_go, Local, overflowing, local_with_row}
use Rattle.pipe_keyed.specs.Tables.{put_row, TakesOne}
use Rattle.pipe_tables.proofs.CountFacts.{count-put, gain}
use Rattle.pipe_tables.proofs.HeldKeys.{held-kept, keeps-stays}
use Rattle.pipe_tables.proofs.KeptRows.{kept-first, kept_of-more, one_if, sent-more, spilled_to-more, stays}

-- ---- lists by a number

-- functions that agree from a number on
map-from : {X : Type 0} (f g : ℕ → X) (a n : ℕ) → ((p : ℕ) → a ≤ p → g p ≡ f p) → map f (range_with_len a n) ≡ map g (range_with_len a n)
map-from f g a zero same = refl
map-from f g a (suc n) same =
    ap (λ y. y ∷ map f (range_with_len (a + 1) n)) (sym (same a (omega arith)))
    ∙ ap (λ l. g a ∷ l) (map-from f g (a + 1) n (λ p le. same p (omega arith)))

-- an element that is written
pub set-map : {X : Type 0} (f g : ℕ → X) (a n q : ℕ) (v : X) → q < n → g (a + q) ≡ v → ((p : ℕ) → p ≢ a + q → g p ≡ f p)
    → set (map f (range_with_len a n)) q v ≡ map g (range_with_len a n)
set-map f g a zero q v lt is others = absurd (omega arith)
set-map {X = X} f g a (suc n) zero v lt is others =
    let here : a + 0 ≡ a = omega arith in
    ap (λ y. y ∷ map f (range_with_len (a + 1) n)) (sym is ∙ ap g here)
    ∙ ap (λ l. g a ∷ l) (map-from f g (a + 1) n (λ p le. others p (omega (arith, le))))
set-map f g a (suc n) (suc q) v lt is others =
    let there : (a + 1) + q ≡ a + suc q = omega arith in
    ap (λ y. y ∷ set (map f (range_with_len (a + 1) n)) q v) (sym (others a (omega arith)))
    ∙ ap (λ l. g a ∷ l) (set-map f g (a + 1) n q v (omega arith) (ap g there ∙ is) (λ p not_q. others p (λ e. not_q (e ∙ sym there))))

-- ---- what groups keep

-- groups without rows stay fresh
fresh-put : (ps : List AggregateFunction) (r : SpillRow) (gs : List Group) → RowlessAreFresh ps gs → RowlessAreFresh ps (put ps r.key r.place r.values gs)
fresh-put ps r [] fresh = All-cons (IsFresh ps) (with_a_row r.place r.values (new_group ps r.key)) [] (λ e. cc) (All-nil (IsFresh ps))
  where
    IsFresh : List AggregateFunction → Group → Type 0
    IsFresh ps g = has_rows g ≡ false → g.states ≡ fresh_states ps
fresh-put ps r (g ∷ gs) fresh = by (bytes_eq r.key g.key) (fresh-put ps r gs (All-tail (IsFresh ps) g gs fresh))
  where
    IsFresh : List AggregateFunction → Group → Type 0
    IsFresh ps g = has_rows g ≡ false → g.states ≡ fresh_states ps

    by : (b : Bool) → RowlessAreFresh ps (put ps r.key r.place r.values gs) → RowlessAreFresh ps (if b then with_a_row r.place r.values g ∷ gs else g ∷ put ps r.key r.place r.values gs)
    by true rest = All-cons (IsFresh ps) (with_a_row r.place r.values g) gs (λ e. cc) (All-tail (IsFresh ps) g gs fresh)
    by false rest = All-cons (IsFresh ps) g (put ps r.key r.place r.values gs) (All-head (IsFresh ps) g gs fresh) rest

-- ---- the rest, and the piece, with one more

-- what waits behind one more: nothing where it fills the piece
next-rest : (n : ℕ) (xs : List SpillRow) (r : SpillRow) → 0 < n → (if length (rest_of n xs ++ r ∷ []) == n then [] else rest_of n xs ++ r ∷ []) ≡ rest_of n (xs ++ r ∷ [])
next-rest n xs r some = by (length (rest_of n xs ++ r ∷ []) == n) refl
  where
    by : (b : Bool) → (length (rest_of n xs ++ r ∷ []) == n) ≡ b → (if b then [] else rest_of n xs ++ r ∷ []) ≡ rest_of n (xs ++ r ∷ [])
    by true is =
        let full : length (rest_of n xs ++ r ∷ []) ≡ n = grind (arith, nat_tests) in
        sym (rest-filled n xs r some (omega (arith, full, length-append (rest_of n xs) (r ∷ []))))
    by false is =
        let short : length (rest_of n xs ++ r ∷ []) ≢ n = grind (arith, nat_tests) in
        sym (rest-unfilled n xs r some (λ e. short (omega (arith, e, length-append (rest_of n xs) (r ∷ [])))))

-- the piece that one more makes, if it fills one
next-piece : (n : ℕ) (xs : List SpillRow) (r : SpillRow) → 0 < n
    → full_pieces n (xs ++ r ∷ []) ≡ full_pieces n xs ++ one_if (length (rest_of n xs ++ r ∷ []) == n) (rest_of n xs ++ r ∷ [])
next-piece n xs r some = by (length (rest_of n xs ++ r ∷ []) == n) refl
  where
    by : (b : Bool) → (length (rest_of n xs ++ r ∷ []) == n) ≡ b → full_pieces n (xs ++ r ∷ []) ≡ full_pieces n xs ++ one_if b (rest_of n xs ++ r ∷ [])
    by true is =
        let full : length (rest_of n xs ++ r ∷ []) ≡ n = grind (arith, nat_tests) in
        full-filled n xs r some (omega (arith, full, length-append (rest_of n xs) (r ∷ [])))
    by false is =
        let short : length (rest_of n xs ++ r ∷ []) ≢ n = grind (arith, nat_tests) in
        full-unfilled n xs r some (λ e. short (omega (arith, e, length-append (rest_of n xs) (r ∷ [])))) ∙ sym (append-nil (full_pieces n xs))

-- ---- one row more

module _ (l : Limits) (s : Shape) (taken : List Row) (x : Row) (t : Local) (generic : is_generic l.sink ≡ true) (limits : AreLimits l)
    (all : All (HasValues s.key_types s.input_types) taken) (typed : HasValues s.key_types s.input_types x) (after : IsAfter l s taken t) where
  abbrev r : SpillRow
  r = spilled s.key_types x

  -- its partition, and what waits there
  abbrev q : ℕ
  q = partition l.partitions s.key_types x.key

  abbrev w : List SpillRow
  w = waiting_of l s.key_types taken q

  -- what is sent where it is kept
  spilled-kept : stays l taken x ≡ true → (p : ℕ) → spilled_to l s.key_types p (taken ++ x ∷ []) ≡ spilled_to l s.key_types p taken
  spilled-kept is p =
      spilled_to-more l taken x generic s.key_types p
      ∙ ap (λ b. spilled_to l s.key_types p taken ++ one_if ((q == p) && not b) r) is
      ∙ ap (λ b. spilled_to l s.key_types p taken ++ one_if b r) (and-false (q == p))
      ∙ append-nil (spilled_to l s.key_types p taken)
    where
      and-false : (b : Bool) → (b && false) ≡ false
      and-false true = refl
      and-false false = refl

  -- and where it isn't: it goes to its partition, and to no other
  spilled-own : stays l taken x ≡ false → spilled_to l s.key_types q (taken ++ x ∷ []) ≡ spilled_to l s.key_types q taken ++ r ∷ []
  spilled-own is =
      let same : (q == q) ≡ true = grind (arith, nat_tests) in
      spilled_to-more l taken x generic s.key_types q
      ∙ ap (λ b. spilled_to l s.key_types q taken ++ one_if ((q == q) && not b) r) is
      ∙ ap (λ b. spilled_to l s.key_types q taken ++ one_if (b && true) r) same

  spilled-other : stays l taken x ≡ false → (p : ℕ) → (q == p) ≡ false → spilled_to l s.key_types p (taken ++ x ∷ []) ≡ spilled_to l s.key_types p taken
  spilled-other is p other =
      spilled_to-more l taken x generic s.key_types p
      ∙ ap (λ b. spilled_to l s.key_types p taken ++ one_if (b && not (stays l taken x)) r) other
      ∙ append-nil (spilled_to l s.key_types p taken)

  -- what the buffers have of it
  buffers-count : length t.buffers.rows ≡ l.partitions
  buffers-count = ap (λ (rows : List (List SpillRow)). length rows) after.waits ∙ length-map-range_with_len (waiting_of l s.key_types taken) 0 l.partitions

  q-is : buffer_of r.key t.buffers ≡ q
  q-is = ap (λ n. fold_bytes r.key % n) buffers-count

  q-there : q < l.partitions
  q-there = mod-lt (fold_bytes r.key) limits.partitions

  rows-are : rows_with r t.buffers ≡ w ++ r ∷ []
  rows-are =
      ap (λ i. get_or t.buffers.rows i [] ++ r ∷ []) q-is
      ∙ ap (λ (rows : List (List SpillRow)). get_or rows q [] ++ r ∷ []) after.waits
      ∙ ap (λ (rows : List SpillRow). rows ++ r ∷ []) (get_or-map-range_with_len (waiting_of l s.key_types taken) 0 l.partitions q q [] q-there (omega arith))

  fills-is : fills r t.buffers ≡ (length (w ++ r ∷ []) == l.buffer_size)
  fills-is = ap (λ (rows : List SpillRow). length rows == t.buffers.size) rows-are ∙ ap (λ n. length (w ++ r ∷ []) == n) after.size

  -- the keys that are held
  counted-kept : stays l taken x ≡ true → count_held (put s.prototypes r.key r.place r.values t.table.groups) ≡ length (kept_keys l (taken ++ x ∷ []))
  counted-kept is =
      count-put s.prototypes r.key r.place r.values t.table.groups
      ∙ ap (λ b. count_held t.table.groups + gain b) (held-kept l s taken x t generic all typed after)
      ∙ ap (λ n. n + gain (is_member same_key (kept_keys l taken) x.key)) after.counted
      ∙ by (is_member same_key (kept_keys l taken) x.key) refl is
    where
      by : (b : Bool) → is_member same_key (kept_keys l taken) x.key ≡ b → (b || nat_le (length (kept_keys l taken)) l.spill_size) ≡ true
          → length (kept_keys l taken) + gain b ≡ length (kept_keys l (taken ++ x ∷ []))
      by true held stay = omega (arith, ap (λ (ks : List (List AnyValue)). length ks) (kept-known l taken x generic held))
      by false new stay =
          let room : length (kept_keys l taken) ≤ l.spill_size = grind (arith, nat_tests) in
          omega (arith, ap (λ (ks : List (List AnyValue)). length ks) (kept-new l taken x generic new room), length-append (kept_keys l taken) (x.key ∷ []))

  counted-sent : stays l taken x ≡ false → length (kept_keys l taken) ≡ length (kept_keys l (taken ++ x ∷ []))
  counted-sent is = by (is_member same_key (kept_keys l taken) x.key) is
    where
      by : (b : Bool) → (b || nat_le (length (kept_keys l taken)) l.spill_size) ≡ false → length (kept_keys l taken) ≡ length (kept_keys l (taken ++ x ∷ []))
      by true gone = absurd (false≢true (sym gone))
      by false gone =
          let full : l.spill_size < length (kept_keys l taken) = grind (arith, nat_tests) in
          ap (λ (ks : List (List AnyValue)). length ks) (sym (kept-full l taken x generic full))

  -- the local table where the row is kept
  after-kept : IsShape s → stays l taken x ≡ true → IsAfter l s (taken ++ x ∷ []) (holding r t)
  after-kept shape is =
      let gs : List Group = put s.prototypes r.key r.place r.values t.table.groups in
      let groups : put_row t.table r ≡ gs = ap (λ (h : Shape). put h.prototypes r.key r.place r.values t.table.groups) after.shape in
      let rows : map (spilled s.key_types) (kept_of l (taken ++ x ∷ [])) ≡ map (spilled s.key_types) (kept_of l taken) ++ r ∷ [] =
      ap (λ (ys : List Row). map (spilled s.key_types) ys) (kept_of-more l taken x generic ∙ ap (λ b. kept_of l taken ++ one_if b x) is) ∙ map-append (spilled s.key_types) (kept_of l taken) (x ∷ []) in
      record {
        shape = after.shape;
        limit = after.limit;
        size = after.size;
        holds = rw (groups, rows) (holds-row s.prototypes t.table.groups (map (spilled s.key_types) (kept_of l taken)) r (shape-takes s r.values shape typed.inputs.of_types) after.fresh after.holds);
        counted = ap (λ (gs : List Group). count_held gs) groups ∙ counted-kept is;
        fresh = rw groups (fresh-put s.prototypes r t.table.groups after.fresh);
        waits = after.waits ∙ map-from (waiting_of l s.key_types taken) (waiting_of l s.key_types (taken ++ x ∷ [])) 0 l.partitions (λ p _. ap (λ (ys : List SpillRow). rest_of l.buffer_size ys) (spilled-kept is p));
        overflowed = after.overflowed ∙ sym (sent-more l taken x generic ∙ ap (λ b. list_any (λ y. not (is_kept_of l taken y)) taken || not b) is ∙ or-false (list_any (λ y. not (is_kept_of l taken y)) taken));
      }
    where
      or-false : (b : Bool) → (b || false) ≡ b
      or-false true = refl
      or-false false = refl

  -- and where it overflows
  after-sent : stays l taken x ≡ false → IsAfter l s (taken ++ x ∷ []) (overflowing r t)
  after-sent is =
      let n = l.buffer_size in
      let written : (buffered r t.buffers).rows ≡ set t.buffers.rows q (if length (w ++ r ∷ []) == n then [] else w ++ r ∷ []) =
      ap (λ i. set t.buffers.rows i (if fills r t.buffers then [] else rows_with r t.buffers)) q-is
      ∙ ap (λ b. set t.buffers.rows q (if b then [] else rows_with r t.buffers)) fills-is
      ∙ ap (λ (rows : List SpillRow). set t.buffers.rows q (if length (w ++ r ∷ []) == n then [] else rows)) rows-are in
      record {
        shape = after.shape;
        limit = after.limit;
        size = after.size;
        holds = rw (ap (λ (ys : List Row). map (spilled s.key_types) ys) (kept_of-more l taken x generic ∙ ap (λ b. kept_of l taken ++ one_if b x) is ∙ append-nil (kept_of l taken))) after.holds;
        counted = after.counted ∙ counted-sent is;
        fresh = after.fresh;
        waits =
            written
            ∙ ap (λ (rows : List (List SpillRow)). set rows q (if length (w ++ r ∷ []) == n then [] else w ++ r ∷ [])) after.waits
            ∙ set-map (waiting_of l s.key_types taken) (waiting_of l s.key_types (taken ++ x ∷ [])) 0 l.partitions q (if length (w ++ r ∷ []) == n then [] else w ++ r ∷ []) q-there
            (ap (waiting_of l s.key_types (taken ++ x ∷ [])) {x = 0 + q} {y = q} (omega arith) ∙ ap (λ (ys : List SpillRow). rest_of n ys) (spilled-own is) ∙ sym (next-rest n (spilled_to l s.key_types q taken) r limits.buffer))
            (λ p other. ap (λ (ys : List SpillRow). rest_of n ys) (spilled-other is p (apart p other)));
        overflowed = sym (sent-more l taken x generic ∙ ap (λ b. list_any (λ y. not (is_kept_of l taken y)) taken || not b) is ∙ or-true (list_any (λ y. not (is_kept_of l taken y)) taken));
      }
    where
      or-true : (b : Bool) → (b || true) ≡ true
      or-true true = refl
      or-true false = refl

      apart : (p : ℕ) → p ≢ 0 + q → (q == p) ≡ false
      apart p other = let not_q : p ≢ q = λ e. other (omega (arith, e)) in grind (arith, nat_tests)

  -- so it is with one row more
  pub after-row : IsShape s → IsAfter l s (taken ++ x ∷ []) (local_with_row r t)
  after-row shape = by (stays l taken x) refl
    where
      by : (b : Bool) → stays l taken x ≡ b → IsAfter l s (taken ++ x ∷ []) (local_with_row r t)
      by true is = subst (λ (u : Local). IsAfter l s (taken ++ x ∷ []) u) (sym (ap (λ b. if b then holding r t else overflowing r t) (keeps-stays l s taken x t generic all typed after ∙ is))) (after-kept shape is)
      by false is = subst (λ (u : Local). IsAfter l s (taken ++ x ∷ []) u) (sym (ap (λ b. if b then holding r t else overflowing r t) (keeps-stays l s taken x t generic all typed after ∙ is))) (after-sent is)

  -- what leaves where the row overflows
  let_go-is : stays l taken x ≡ false → let_go r t ≡ (if length (w ++ r ∷ []) == l.buffer_size then Some (q, w ++ r ∷ []) else None)
  let_go-is is =
      ap (λ b. if b then None else leaving r t.buffers) (keeps-stays l s taken x t generic all typed after ∙ is)
      ∙ ap (λ b. if b then Some (buffer_of r.key t.buffers, rows_with r t.buffers) else None) fills-is
      ∙ ap (λ i. if length (w ++ r ∷ []) == l.buffer_size then Some (i, rows_with r t.buffers) else None) q-is
      ∙ ap (λ (rows : List SpillRow). if length (w ++ r ∷ []) == l.buffer_size then Some (q, rows) else None) rows-are

  -- what leaves is the next piece of its partition
  pub after-piece : (p : ℕ) → left_of l s.key_types (taken ++ x ∷ []) p ≡ left_of l s.key_types taken p ++ piece_for p (let_go r t)
  after-piece p = by (stays l taken x) refl
    where
      nothing : (b : Bool) → (q == p) ≡ false → piece_for p (if b then Some (q, w ++ r ∷ []) else None) ≡ []
      nothing true other = ap (λ c. let one : List (List SpillRow) = if c then (w ++ r ∷ []) ∷ [] else [] in one) other
      nothing false other = refl

      own : (b : Bool) → (q == p) ≡ true → piece_for p (if b then Some (q, w ++ r ∷ []) else None) ≡ one_if b (w ++ r ∷ [])
      own true same = ap (λ c. let one : List (List SpillRow) = if c then (w ++ r ∷ []) ∷ [] else [] in one) same
      own false same = refl

      sent : stays l taken x ≡ false → (b : Bool) → (q == p) ≡ b → left_of l s.key_types (taken ++ x ∷ []) p ≡ left_of l s.key_types taken p ++ piece_for p (let_go r t)
      sent is true same =
          let q_is : q ≡ p = grind (arith, nat_tests) in
          ap (left_of l s.key_types (taken ++ x ∷ [])) (sym q_is)
          ∙ ap (λ (rows : List SpillRow). full_pieces l.buffer_size rows) (spilled-own is)
          ∙ next-piece l.buffer_size (spilled_to l s.key_types q taken) r limits.buffer
          ∙ ap (λ i. left_of l s.key_types taken i ++ one_if (length (w ++ r ∷ []) == l.buffer_size) (w ++ r ∷ [])) q_is
          ∙ ap (λ ps. left_of l s.key_types taken p ++ ps) (sym (own (length (w ++ r ∷ []) == l.buffer_size) same))
          ∙ ap (λ o. left_of l s.key_types taken p ++ piece_for p o) (sym (let_go-is is))
      sent is false other =
          ap (λ (rows : List SpillRow). full_pieces l.buffer_size rows) (spilled-other is p other)
          ∙ sym (append-nil (left_of l s.key_types taken p))
          ∙ ap (λ ps. left_of l s.key_types taken p ++ ps) (sym (nothing (length (w ++ r ∷ []) == l.buffer_size) other))
          ∙ ap (λ o. left_of l s.key_types taken p ++ piece_for p o) (sym (let_go-is is))

      by : (b : Bool) → stays l taken x ≡ b → left_of l s.key_types (taken ++ x ∷ []) p ≡ left_of l s.key_types taken p ++ piece_for p (let_go r t)
      by true is =
          ap (λ (rows : List SpillRow). full_pieces l.buffer_size rows) (spilled-kept is p)
          ∙ sym (append-nil (left_of l s.key_types taken p))
          ∙ ap (λ b. left_of l s.key_types taken p ++ piece_for p (if b then None else leaving r t.buffers)) (sym (keeps-stays l s taken x t generic all typed after ∙ is))
      by false is = sent is (q == p) refl

-- ---- all rows of a worker

module _ (l : Limits) (s : Shape) (generic : is_generic l.sink ≡ true) (limits : AreLimits l) (shape : IsShape s) where
  -- rows with one more have the types
  typed-more : (taken : List Row) (x : Row) → All (HasValues s.key_types s.input_types) taken → HasValues s.key_types s.input_types x → All (HasValues s.key_types s.input_types) (taken ++ x ∷ [])
  typed-more taken x all typed = All-append (HasValues s.key_types s.input_types) taken (x ∷ []) all (All-cons (HasValues s.key_types s.input_types) x [] typed (All-nil (HasValues s.key_types s.input_types)))

  -- a local table after more rows
  pub after-all : (taken rows : List Row) (t : Local) → All (HasValues s.key_types s.input_types) taken → All (HasValues s.key_types s.input_types) rows → IsAfter l s taken t
      → IsAfter l s (taken ++ rows) (with_all (map (spilled s.key_types) rows) t)
  after-all taken [] t all more after = subst (λ (rows : List Row). IsAfter l s rows t) (sym (append-nil taken)) after
  after-all taken (x ∷ rows) t all more after =
      let typed = All-head (HasValues s.key_types s.input_types) x rows more in
      subst (λ (ys : List Row). IsAfter l s ys (with_all (map (spilled s.key_types) rows) (local_with_row (spilled s.key_types x) t))) (append_assoc taken (x ∷ []) rows)
      (after-all (taken ++ x ∷ []) rows (local_with_row (spilled s.key_types x) t) (typed-more taken x all typed) (All-tail (HasValues s.key_types s.input_types) x rows more)
      (after-row l s taken x t generic limits all typed after shape))

  -- and the pieces that left meanwhile
  pub pieces-all : (taken rows : List Row) (t : Local) (p : ℕ) → All (HasValues s.key_types s.input_types) taken → All (HasValues s.key_types s.input_types) rows → IsAfter l s taken t
      → left_of l s.key_types (taken ++ rows) p ≡ left_of l s.key_types taken p ++ pieces_for p (map (spilled s.key_types) rows) t
  pieces-all taken [] t p all more after = ap (λ (ys : List Row). left_of l s.key_types ys p) (append-nil taken) ∙ sym (append-nil (left_of l s.key_types taken p))
  pieces-all taken (x ∷ rows) t p all more after =
      let typed = All-head (HasValues s.key_types s.input_types) x rows more in
      let u = local_with_row (spilled s.key_types x) t in
      ap (λ (ys : List Row). left_of l s.key_types ys p) (sym (append_assoc taken (x ∷ []) rows))
      ∙ pieces-all (taken ++ x ∷ []) rows u p (typed-more taken x all typed) (All-tail (HasValues s.key_types s.input_types) x rows more) (after-row l s taken x t generic limits all typed after shape)
      ∙ ap (λ ps. ps ++ pieces_for p (map (spilled s.key_types) rows) u) (after-piece l s taken x t generic limits all typed after p)
      ∙ append_assoc (left_of l s.key_types taken p) (piece_for p (let_go (spilled s.key_types x) t)) (pieces_for p (map (spilled s.key_types) rows) u)

-- ---- no row

-- a local table that is new
pub after-none : (l : Limits) (s : Shape) (t : Local) → is_generic l.sink ≡ true → 0 < l.buffer_size → t.table.shape ≡ s → t.table.limit ≡ Some l.spill_size → t.table.groups ≡ []
    → t.buffers.size ≡ l.buffer_size → t.buffers.rows ≡ no_rows l.partitions → t.overflowed ≡ false → IsAfter l s [] t
after-none l s t generic some shape limit groups size rows overflowed = record {
  shape = shape;
  limit = limit;
  size = size;
  holds = rw groups (holds-none s.prototypes);
  counted = ap (λ (gs : List Group). count_held gs) groups ∙ sym (ap (λ (ks : List (List AnyValue)). length ks) (kept-first l [] generic) ∙ none (l.spill_size + 1));
  fresh = rw groups (All-nil (λ (g : Group). has_rows g ≡ false → g.states ≡ fresh_states s.prototypes));
  waits = rows ∙ empty (waiting_of l s.key_types []) (λ p. rest-short l.buffer_size [] some) 0 l.partitions;
  overflowed = overflowed;
}
  where
    none : (n : ℕ) → length (first_distinct same_key n []) ≡ 0
    none zero = refl
    none (suc n) = refl

    empty : (f : ℕ → List SpillRow) → ((p : ℕ) → f p ≡ []) → (a n : ℕ) → no_rows n ≡ map f (range_with_len a n)
    empty f none a zero = refl
    empty f none a (suc n) = ap (λ (b : List SpillRow). b ∷ no_rows n) (sym (none a)) ∙ ap (λ l. f a ∷ l) (empty f none (a + 1) n)

-- ---- few rows

-- a local table after few rows has room for one more
pub after-room : (l : Limits) (s : Shape) (taken : List Row) (t : Local) → All (HasValues s.key_types s.input_types) taken → length taken + 1 < 2 ^ 32 → IsAfter l s taken t → TakesOne t.table
after-room l s taken t all few after = subst (λ (h : Shape). HoldFewer h t.table.groups 1) (sym after.shape) (record {
  rows = map (spilled s.key_types) (kept_of l taken);
  holds = after.holds;
  typed = spilled_are_rows s.key_types s.input_types (kept_of l taken) (All-filter (is_kept_of l taken) (HasValues s.key_types s.input_types) taken all);
  few = omega (arith, few, length-map (kept_of l taken) (spilled s.key_types), length-filter (is_kept_of l taken) taken, count_by-le-length (is_kept_of l taken) taken);
})

-- a local table after the rows before a number takes the one there
pub after-next : (l : Limits) (s : Shape) (rows : List Row) (n : ℕ) (t : Local) → is_generic l.sink ≡ true → AreLimits l → IsShape s → All (HasValues s.key_types s.input_types) rows → n < length rows
    → IsAfter l s (take n rows) t → IsAfter l s (take (n + 1) rows) (local_with_row (spilled s.key_types (row_at rows n)) t)
after-next l s rows n t generic limits shape all lt after =
    let at : row_at rows n ≡ get_or rows n no_row = unwrap_or-slice_get rows n no_row in
    let typed : HasValues s.key_types s.input_types (row_at rows n) = rw at (all n no_row lt) in
    rw (take_more rows n no_row lt, ← at) (after-row l s (take n rows) (row_at rows n) t generic limits (All-take (HasValues s.key_types s.input_types) n rows all) typed after shape)
