-- Running aggregates that are fed rows which follow one another.
use Rattle.std.proofs.Common.{◌≡◌, ◌∙◌, ℕ, zero, suc, ◌+◌, ◌-◌, ◌<◌, ◌≤◌, ◌^◌, not, Bool, true, false, List, [], ◌∷◌, ◌++◌, map, length, take, drop, get_or, set, Option, Some, None, refl, sym, ap, subst, arith}
use Rattle.std.specs.Cmp.Derive as derive
use Rattle.std.specs.List.{All, list_all}
use Rattle.std.proofs.lemmas.Bool.{and_parts}
use Rattle.std.proofs.lemmas.List.{append_assoc, drop_more, drop-set-lt, length-drop, length-map, length-take-le, take_more_set}
use Rattle.std.proofs.lemmas.List.Elements.{All-head, All-tail}
use Rattle.std.proofs.lemmas.Option.{unwrap_or-slice_get}
use Rattle.pipe_columns.specs.declared.any_value.AnyValue.{AnyValue}
use Rattle.pipe_columns.specs.declared.any_value.AnyValue.TheVariants as av
use Rattle.pipe_columns.specs.declared.place.Place.{Place}
use Rattle.pipe_columns.specs.Frame.{value_at}
use Rattle.pipe_columns.specs.Place.{place_cmp}
use Rattle.pipe_columns.specs.Row.{Row}
use Rattle.pipe_inputs.specs.ChunkRows.{row_at}
use Rattle.pipe_inputs.specs.RowRuns.{run_inputs, run_values}
use Rattle.pipe_inputs.proofs.RunFacts.{run-next}
use Rattle.pipe_running.specs.declared.function.AggregateFunction.{AggregateFunction}
use Rattle.pipe_running.specs.declared.function.AggregateFunction.TheVariants as function
use Rattle.pipe_running.specs.GroupStates.{least_with_run, run_from, TakesFrom}
use Rattle.pipe_running.specs.Held.{is_text}
use Rattle.pipe_running.specs.Lent.{keeps_text, text_of_run}
use Rattle.pipe_running.specs.Pick.{nearer}
use Rattle.pipe_running.specs.Runs.{after_run}
use Rattle.pipe_running.specs.StateLaws.{function_by_one, function_takes_alike}
use Rattle.pipe_running.specs.States.{after_value, seen, takes}
use Rattle.pipe_groups.specs.GroupRuns.{keeps_none_of, KeepNoneFrom}
use Rattle.pipe_groups.proofs.StateFacts.{takes-at}

abbrev States : Type 0
States = List AggregateFunction

-- whether a value is no text
abbrev plain : AnyValue → Bool
plain v = not (is_text v)

-- ---- no text is kept

not-not : (b : Bool) → not b ≡ true → b ≡ false
not-not true h = cc
not-not false h = refl

-- where none of some values is a text, none of them is
pub no-text-at : (vs : List AnyValue) (i : ℕ) → list_all plain vs ≡ true → is_text (value_at vs i) ≡ false
no-text-at vs i h = ap is_text (unwrap_or-slice_get vs i av.Null) ∙ at vs i h where
  at : (ws : List AnyValue) (k : ℕ) → list_all plain ws ≡ true → is_text (get_or ws k av.Null) ≡ false
  at [] k h = refl
  at (w ∷ ws) zero h = not-not (is_text w) (and_parts (plain w) (list_all plain ws) h).0
  at (w ∷ ws) (suc k) h = at ws k (and_parts (plain w) (list_all plain ws) h).1

-- none of a run is kept
pub no-text-run : (chunk row : ℕ) (vs : List AnyValue) (s : AggregateFunction) → keeps_none_of s vs ≡ true → text_of_run chunk row vs s ≡ None
no-text-run chunk row vs (function.First a) h = rw (no-text-at vs 0 h) refl
no-text-run chunk row vs (function.Last a) h = rw (no-text-at vs (length vs - 1) h) refl
no-text-run chunk row vs f h = refl

-- nor is its first one
pub no-text-first : (p : Place) (v : AnyValue) (vs : List AnyValue) (s : AggregateFunction) → keeps_none_of s (v ∷ vs) ≡ true → keeps_text p v s ≡ false
no-text-first p v vs (function.First a) h = rw (not-not (is_text v) (and_parts (plain v) (list_all plain vs) h).0) refl
no-text-first p v vs (function.Last a) h = rw (not-not (is_text v) (and_parts (plain v) (list_all plain vs) h).0) refl
no-text-first p v vs f h = refl

-- nor one of the others, once the first is taken
pub no-text-next : (p : Place) (v : AnyValue) (vs : List AnyValue) (s : AggregateFunction) → keeps_none_of s (v ∷ vs) ≡ true → keeps_none_of (after_value p v s) vs ≡ true
no-text-next p v vs (function.First a) h = (and_parts (plain v) (list_all plain vs) h).1
no-text-next p v vs (function.Last a) h = (and_parts (plain v) (list_all plain vs) h).1
no-text-next p v vs f h = refl

-- ---- one by one

-- what all values are taken, the first is and the others are
takes-others : (p : Place) (v : AnyValue) (vs ws : List AnyValue) (s : AggregateFunction) → list_all (takes s) ws ≡ true → list_all (takes (after_value p v s)) ws ≡ true
takes-others p v vs [] s h = refl
takes-others p v vs (w ∷ ws) s h =
    let parts = and_parts (takes s w) (list_all (takes s) ws) h in
    derive.both_true (function_takes_alike p v w s ∙ parts.0) (takes-others p v vs ws s parts.1)

-- of rows from one on those before a number are fed: the rest gives what all were to give
pub record FedTo (rows : List Row) (chunk row len j : ℕ) (old now : AggregateFunction) (i : ℕ) : Type 0 where
  pub state : after_run after_value chunk i (run_values rows i (row + len - i) j) now ≡ after_run after_value chunk row (run_values rows row len j) old
  pub plain : keeps_none_of now (run_values rows i (row + len - i) j) ≡ true
  pub taken : list_all (takes now) (run_values rows i (row + len - i) j) ≡ true
  pub few : seen now + (row + len - i) < 2 ^ 32

pub fed-start : (rows : List Row) (chunk row len j : ℕ) (old : AggregateFunction) → keeps_none_of old (run_values rows row len j) ≡ true
    → list_all (takes old) (run_values rows row len j) ≡ true → seen old + len < 2 ^ 32 → FedTo rows chunk row len j old old row
fed-start rows chunk row len j old plain taken few =
    let all : row + len - row ≡ len = omega arith in
    record {
      state = ap (λ (n : ℕ). after_run after_value chunk row (run_values rows row n j) old) all;
      plain = ap (λ (n : ℕ). keeps_none_of old (run_values rows row n j)) all ∙ plain;
      taken = ap (λ (n : ℕ). list_all (takes old) (run_values rows row n j)) all ∙ taken;
      few = omega (arith, few);
    }

module _ (rows : List Row) (chunk row len j : ℕ) (old now : AggregateFunction) (i : ℕ) (fed : FedTo rows chunk row len j old now i) (lt : i < row + len) (there : row + len ≤ length rows) where
  abbrev pub here : AnyValue
  here = value_at (row_at rows i).inputs j

  abbrev pub rest : List AnyValue
  rest = run_values rows (i + 1) (row + len - (i + 1)) j

  cut : run_values rows i (row + len - i) j ≡ here ∷ rest
  cut =
      let one : row + len - i ≡ suc (row + len - (i + 1)) = omega (arith, lt) in
      ap (λ (n : ℕ). run_values rows i n j) one ∙ run-next rows i (row + len - (i + 1)) j (omega (arith, lt, there))

  pub fed-takes : takes now here ≡ true
  fed-takes = (and_parts (takes now here) (list_all (takes now) rest) (ap (list_all (takes now)) (sym cut) ∙ fed.taken)).0

  pub fed-few : seen now + 1 < 2 ^ 32
  fed-few = omega (arith, fed.few, lt)

  pub fed-plain : keeps_text (record { chunk = chunk; row = i }) here now ≡ false
  fed-plain = no-text-first (record { chunk = chunk; row = i }) here rest now (ap (keeps_none_of now) (sym cut) ∙ fed.plain)

  pub fed-one : (new : AggregateFunction) → new ≡ after_value (record { chunk = chunk; row = i }) here now → FedTo rows chunk row len j old new (i + 1)
  fed-one new is =
      let p : Place = record { chunk = chunk; row = i } in
      rw is (record {
        state = ap (λ (vs : List AnyValue). after_run after_value chunk i vs now) (sym cut) ∙ fed.state;
        plain = no-text-next p here rest now (ap (keeps_none_of now) (sym cut) ∙ fed.plain);
        taken = takes-others p here rest rest now (and_parts (takes now here) (list_all (takes now) rest) (ap (list_all (takes now)) (sym cut) ∙ fed.taken)).1;
        few = omega (arith, fed.few, lt, function_by_one p here now);
      })

pub fed-end : (rows : List Row) (chunk row len j : ℕ) (old now : AggregateFunction) (i : ℕ) → FedTo rows chunk row len j old now i → row + len ≤ i → now ≡ after_run after_value chunk row (run_values rows row len j) old
fed-end rows chunk row len j old now i fed le =
    let none : row + len - i ≡ 0 = omega (arith, le) in
    ap (λ (n : ℕ). after_run after_value chunk i (run_values rows i n j) now) (sym none) ∙ fed.state

-- ---- those of a group

-- one more is fed
pub run-states-next : (chunk row : ℕ) (inputs : List (List AnyValue)) (now : States) (j : ℕ) (d new : AggregateFunction) (whole : States) → j < length now
    → take j now ++ run_from chunk row j inputs (drop j now) ≡ whole → new ≡ after_run after_value chunk row (map (λ r. value_at r j) inputs) (get_or now j d)
    → take (j + 1) (set now j new) ++ run_from chunk row (j + 1) inputs (drop (j + 1) (set now j new)) ≡ whole
run-states-next chunk row inputs now j d new whole lt fed is =
    let rest : States = run_from chunk row (j + 1) inputs (drop (j + 1) now) in
    let here : run_from chunk row j inputs (drop j now) ≡ new ∷ rest = rw (drop_more now j d lt, is) refl in
    rw (take_more_set now j new lt, drop-set-lt (j + 1) now j new (let l : j < j + 1 = omega arith in l))
    (append_assoc (take j now) (new ∷ []) rest ∙ ap (λ (l : States). take j now ++ l) (sym here) ∙ fed)

-- each takes its inputs
pub run-takes-at : (ss : States) (inputs : List (List AnyValue)) (j : ℕ) (d : AggregateFunction) → j < length ss → All (λ row. TakesFrom 0 ss row) inputs
    → list_all (takes (get_or ss j d)) (map (λ r. value_at r j) inputs) ≡ true
run-takes-at ss [] j d lt h = refl
run-takes-at ss (r ∷ rs) j d lt h =
    derive.both_true (takes-at ss r j d lt (All-head (λ row. TakesFrom 0 ss row) r rs h)) (run-takes-at ss rs j d lt (All-tail (λ row. TakesFrom 0 ss row) r rs h))

-- and keeps none of them as a text
plain-from : (i : ℕ) (ss : States) (inputs : List (List AnyValue)) (j : ℕ) (d : AggregateFunction) → j < length ss → KeepNoneFrom i ss inputs → keeps_none_of (get_or ss j d) (map (λ r. value_at r (i + j)) inputs) ≡ true
plain-from i [] inputs j d lt h = absurd (omega arith)
plain-from i (s ∷ ss) inputs zero d lt h =
    let same : i + 0 ≡ i = omega arith in
    rw same h.0
plain-from i (s ∷ ss) inputs (suc j) d lt h =
    let same : i + suc j ≡ i + 1 + j = omega arith in
    rw same (plain-from (i + 1) ss inputs j d (omega arith) h.1)

pub run-plain-at : (ss : States) (inputs : List (List AnyValue)) (j : ℕ) (d : AggregateFunction) → j < length ss → KeepNoneFrom 0 ss inputs → keeps_none_of (get_or ss j d) (map (λ r. value_at r j) inputs) ≡ true
run-plain-at ss inputs j d lt h =
    let same : 0 + j ≡ j = omega arith in
    subst (λ (k : ℕ). keeps_none_of (get_or ss j d) (map (λ r. value_at r k) inputs) ≡ true) same (plain-from 0 ss inputs j d lt h)

-- ---- the rows of a run

-- so many inputs
pub length-inputs : (rows : List Row) (row len : ℕ) → row + len ≤ length rows → length (run_inputs rows row len) ≡ len
length-inputs rows row len le =
    length-map (take len (drop row rows)) (λ (r : Row). r.inputs) ∙ length-take-le len (drop row rows) (omega (arith, le, length-drop row rows))

-- the least place with those of some rows
pub least-some : (chunk row : ℕ) (inputs : List (List AnyValue)) (first : Option Place) → 0 < length inputs → least_with_run chunk row inputs first ≡ Some (nearer place_cmp (record { chunk = chunk; row = row }) first)
least-some chunk row [] first h = absurd (omega arith)
least-some chunk row (r ∷ rs) first h = refl
