-- The state row that bytes begin with: its place and key, its counts, and its results.
use Rattle.std.proofs.Common.{◌≡◌, ◌∙◌, ◌+◌, ◌^◌, ◌<◌, ℕ, true, false, List, [], ◌∷◌, ◌++◌, length, drop, take, append_assoc, length-append, lt-ltb, refl, sym, ap, subst, arith}
use Rattle.std.specs.Prelude.{Some}
use Rattle.std.proofs.lemmas.Bool.{false≢true}
use Rattle.std.proofs.lemmas.List.{drop_at, take_at}
use Rattle.std.proofs.lemmas.List.Elements.{All-cons, All-tail}
use Rattle.pipe_columns.specs.declared.any_value.AnyValue.{AnyValue}
use Rattle.pipe_columns.specs.declared.data_type.DataType.{DataType}
use Rattle.pipe_columns.specs.declared.data_type.DataType.TheVariants as dt
use Rattle.pipe_columns.specs.declared.place.Place.{Place}
use Rattle.pipe_columns.specs.AnyValue.{fits, HasUtf8}
use Rattle.pipe_columns.specs.Key.{code}
use Rattle.pipe_aggs.specs.HashAggs.{prototypes}
use Rattle.pipe_model.specs.Aggregate.{counted}
use Rattle.pipe_model.specs.Groupable.{IsGroupable}
use Rattle.pipe_model.specs.Output.{key_types}
use Rattle.pipe_model.specs.Query.{QueryTree}
use Rattle.pipe_running.specs.declared.function.AggregateFunction.{AggregateFunction}
use Rattle.pipe_spill.specs.FrameBytes.{row_bytes}
use Rattle.pipe_spill.specs.KeyTypes.{AreOfTypes, IsCodeOfNone, IsTuple}
use Rattle.pipe_spill.proofs.CodeOrder.{tuple_once}
use Rattle.pipe_spill.proofs.RowOnce.{eight_once}
use Rattle.pipe_states.specs.Forms.{all_give, all_saved, all_saved_types, restored_behind}
use Rattle.pipe_states.specs.Reading.{AreResults, BeginsNoCounts, BeginsNoKey, BeginsNoResults, BeginsNoStateRow, counts_bytes, IsTextRow, key_bytes, results_bytes}
use Rattle.pipe_states.specs.StateText.{saved_row, state_types}
use Rattle.pipe_states.specs.declared.state_row.StateRow.{StateRow}
use Rattle.pipe_states.proofs.Forms.{gives-are, result_types-are, saved-are, state_types-are}
use Rattle.pipe_states.proofs.ReadResults.{WereRead}
use Rattle.pipe_states.proofs.Rows.{results_typed, row_parts}
use Rattle.pipe_states.proofs.Saved.{saved_again}

-- the types of three counts
abbrev three : List DataType
three = dt.UInt32 ∷ dt.UInt32 ∷ dt.UInt32 ∷ []

-- a count of fewer than 2^32 fits
count-fits : (n : ℕ) → n < 2 ^ 32 → fits (counted n) dt.UInt32 ≡ true
count-fits n few = lt-ltb n (2 ^ 32) few

-- counts that are the same as values are so
same_count : (m n : ℕ) → counted m ≡ counted n → m ≡ n
same_count m n e = cc

-- the counts of two rows that are one
record AreSameCounts (p q : Place) (m n : ℕ) : Type 0 where
  chunk : p.chunk ≡ q.chunk
  row : p.row ≡ q.row
  rows : m ≡ n

same_counts : (p q : Place) (m n : ℕ) → counted p.chunk ∷ counted p.row ∷ counted m ∷ [] ≡ counted q.chunk ∷ counted q.row ∷ counted n ∷ [] → AreSameCounts p q m n
same_counts p q m n e = record {
  chunk = same_count p.chunk q.chunk (let f : counted p.chunk ≡ counted q.chunk = cc in f);
  row = same_count p.row q.row (let f : counted p.row ≡ counted q.row = cc in f);
  rows = same_count m n (let f : counted m ≡ counted n = cc in f);
}

-- bytes begin with one key alone
key_once : (p q : Place) (k key x rest : List ℕ) → length (key_bytes q key ++ rest) < 2 ^ 64 → key_bytes p k ++ x ≡ key_bytes q key ++ rest → (k ≡ key) × (x ≡ rest)
key_once p q k key x rest room e =
    let body : k ++ x ≡ key ++ rest = ap (λ (l : List ℕ). drop 16 l) e in
    let long : length k + length x ≡ length key + length rest = omega (arith, length-append k x, length-append key rest, ap length body) in
    let short : length key + length rest < 2 ^ 64 = omega (arith, room, length-append key rest) in
    let same : length k ≡ length key =
    eight_once (length k) (length key) (drop 16 (key_bytes p k ++ x)) (drop 16 (key_bytes q key ++ rest)) (omega (arith, long, short)) (omega (arith, short)) (ap (λ (l : List ℕ). drop 8 l) e) in (
      sym (take_at k x (length key) same) ∙ ap (λ (l : List ℕ). take (length key) l) body ∙ take_at key rest (length key) refl,
      sym (drop_at k x (length key) same) ∙ ap (λ (l : List ℕ). drop (length key) l) body ∙ drop_at key rest (length key) refl,
    )

module _ (q : QueryTree) (g : IsGroupable q) where
  -- the bytes of a row are those of its place and key, of its counts, and of its results
  row_bytes_are : (r : StateRow) → row_bytes (state_types q) (saved_row q r)
      ≡ key_bytes r.first (code (key_types q) r.key) ++ (counts_bytes r.last r.rows ++ results_bytes (prototypes q) r.results)
  row_bytes_are r =
      sym (row_parts q g r (key_types q) (prototypes q) refl refl)
      ∙ append_assoc (key_bytes r.first (code (key_types q) r.key)) (counts_bytes r.last r.rows) (results_bytes (prototypes q) r.results)

  -- so with others behind them
  row_front : (r : StateRow) (more : List ℕ) → row_bytes (state_types q) (saved_row q r) ++ more
      ≡ key_bytes r.first (code (key_types q) r.key) ++ (counts_bytes r.last r.rows ++ (results_bytes (prototypes q) r.results ++ more))
  row_front r more =
      let key : List ℕ = key_bytes r.first (code (key_types q) r.key) in
      let counts : List ℕ = counts_bytes r.last r.rows in
      let results : List ℕ = results_bytes (prototypes q) r.results in
      ap (λ (l : List ℕ). l ++ more) (row_bytes_are r)
      ∙ append_assoc key (counts ++ results) more
      ∙ ap (λ (l : List ℕ). key ++ l) (append_assoc counts results more)

  -- what a row is saved as, with its types by its running aggregates
  saved_values : (r : StateRow) → IsTextRow q r → IsTuple (dt.UInt32 ∷ dt.UInt32 ∷ dt.UInt32 ∷ all_saved_types (prototypes q))
      (counted r.last.chunk ∷ counted r.last.row ∷ counted r.rows ∷ all_saved (prototypes q) r.results)
  saved_values r is =
      subst (λ (vs : List AnyValue). IsTuple (dt.UInt32 ∷ dt.UInt32 ∷ dt.UInt32 ∷ all_saved_types (prototypes q)) (counted r.last.chunk ∷ counted r.last.row ∷ counted r.rows ∷ vs)) (saved-are q g r.results)
      (subst (λ (ts : List DataType). IsTuple ts (saved_row q r).values) (state_types-are q g) is.saved.inputs)

  -- its results can be saved
  has_results : (r : StateRow) → IsTextRow q r → AreResults (prototypes q) r.results
  has_results r is =
      let values = saved_values r is in
      let saved : List AnyValue = all_saved (prototypes q) r.results in
      record {
        typed = results_typed q g r is.of_query;
        saved = record {
          of_types = values.of_types.1.1.1;
          utf8 = All-tail HasUtf8 (counted r.rows) saved (All-tail HasUtf8 (counted r.last.row) (counted r.rows ∷ saved)
              (All-tail HasUtf8 (counted r.last.chunk) (counted r.last.row ∷ counted r.rows ∷ saved) values.utf8));
        };
      }

  -- its counts fit
  has_counts : (r : StateRow) → IsTextRow q r → AreOfTypes three (counted r.last.chunk ∷ counted r.last.row ∷ counted r.rows ∷ [])
  has_counts r is = let typed = is.saved.inputs.of_types in (typed.0, (typed.1.0, (typed.1.1.0, tt)))

  -- no place and key
  pub no_key_row : (bytes : List ℕ) → BeginsNoKey bytes → BeginsNoStateRow q bytes
  no_key_row bytes none r more is e =
      none r.first (code (key_types q) r.key) (counts_bytes r.last r.rows ++ (results_bytes (prototypes q) r.results ++ more)) (sym (row_front r more) ∙ e)

  -- a place and a key
  module _ (first : Place) (key rest bytes : List ℕ) (room : length bytes < 2 ^ 64) (head : key_bytes first key ++ rest ≡ bytes) where
    -- a row that the bytes begin with has that key, and the rest is behind it
    there : (r : StateRow) (more : List ℕ) → row_bytes (state_types q) (saved_row q r) ++ more ≡ bytes
        → (code (key_types q) r.key ≡ key) × (counts_bytes r.last r.rows ++ (results_bytes (prototypes q) r.results ++ more) ≡ rest)
    there r more e =
        key_once r.first first (code (key_types q) r.key) key (counts_bytes r.last r.rows ++ (results_bytes (prototypes q) r.results ++ more)) rest
        (subst (λ (l : List ℕ). length l < 2 ^ 64) (sym head) room) (sym (row_front r more) ∙ e ∙ sym head)

    -- no counts
    pub no_counts_row : BeginsNoCounts rest → BeginsNoStateRow q bytes
    no_counts_row none r more is e = none r.last r.rows (results_bytes (prototypes q) r.results ++ more) (there r more e).1

    -- a key that is none
    pub other_code_row : IsCodeOfNone (key_types q) key → BeginsNoStateRow q bytes
    other_code_row none r more is e = none r.key is.of_query.key (there r more e).0

    -- counts
    module _ (last : Place) (rows : ℕ) (saved : List ℕ) (chunk : last.chunk < 2 ^ 32) (row : last.row < 2 ^ 32) (few : rows < 2 ^ 32)
        (counts : counts_bytes last rows ++ saved ≡ rest) where
      -- they are those of the row, and what is saved stands behind them
      behind : (r : StateRow) (more : List ℕ) → IsTextRow q r → row_bytes (state_types q) (saved_row q r) ++ more ≡ bytes
          → AreSameCounts r.last last r.rows rows × (results_bytes (prototypes q) r.results ++ more ≡ saved)
      behind r more is e =
          let once = tuple_once three (counted r.last.chunk ∷ counted r.last.row ∷ counted r.rows ∷ []) (counted last.chunk ∷ counted last.row ∷ counted rows ∷ [])
          (results_bytes (prototypes q) r.results ++ more) saved (has_counts r is)
          (count-fits last.chunk chunk, (count-fits last.row row, (count-fits rows few, tt))) ((there r more e).1 ∙ sym counts) in
          (same_counts r.last last r.rows rows once.0, once.1)

      -- no results
      pub no_results_row : BeginsNoResults (prototypes q) saved → BeginsNoStateRow q bytes
      no_results_row none r more is e = none r.results more (has_results r is) (behind r more is e).1

      -- results
      module _ (results : List AnyValue) (after : List ℕ) (read : WereRead (prototypes q) results after saved) where
        -- they are those of the row
        same_results : (r : StateRow) (more : List ℕ) → IsTextRow q r → row_bytes (state_types q) (saved_row q r) ++ more ≡ bytes → r.results ≡ results
        same_results r more is e =
            let fs : List AggregateFunction = prototypes q in
            let own = has_results r is in
            let once = tuple_once (all_saved_types fs) (all_saved fs r.results) (all_saved fs results) more after own.saved.of_types read.are.saved.of_types
            ((behind r more is e).1 ∙ sym read.front) in
            let some : restored_behind [] fs (all_saved fs r.results) ≡ Some r.results = saved_again fs [] r.results own.typed in
            let other : restored_behind [] fs (all_saved fs r.results) ≡ Some results = ap (restored_behind [] fs) once.0 ∙ saved_again fs [] results read.are.typed in
            cc

        -- which can't be given
        pub not_given_row : all_give (prototypes q) rows results ≡ false → BeginsNoStateRow q bytes
        not_given_row none r more is e =
            let number = (behind r more is e).0.rows in
            let same = same_results r more is e in
            false≢true (sym none ∙ (λ i. all_give (prototypes q) (sym number i) (sym same i)) ∙ sym (gives-are q g r.rows r.results) ∙ is.of_query.given)

        -- which can
        module _ (tuple : List AnyValue) (is : IsTuple (key_types q) tuple) (coded : code (key_types q) tuple ≡ key)
            (given : all_give (prototypes q) rows results ≡ true) where
          -- the row of them
          abbrev pub the_row : StateRow
          the_row = record { key = tuple; first = first; last = last; rows = rows; results = results }

          -- the bytes begin with it
          pub row_begins : row_bytes (state_types q) (saved_row q the_row) ++ after ≡ bytes
          row_begins =
              row_front the_row after
              ∙ (λ i. key_bytes first (coded i) ++ (counts_bytes last rows ++ read.front i))
              ∙ ap (λ (l : List ℕ). key_bytes first key ++ l) counts
              ∙ head

          -- it can stand in a text
          pub row_in_text : first.chunk < 2 ^ 32 → first.row < 2 ^ 32 → IsTextRow q the_row
          row_in_text a b =
              let fs : List AggregateFunction = prototypes q in
              let front : List AnyValue = counted last.chunk ∷ counted last.row ∷ counted rows ∷ [] in
              record {
                of_query = record {
                  key = is;
                  results = record {
                    of_types = subst (λ (ts : List DataType). AreOfTypes ts results) (sym (result_types-are q g)) read.are.typed;
                    utf8 = read.utf8;
                  };
                  given = gives-are q g rows results ∙ given;
                };
                saved = record {
                  chunk = a;
                  row = b;
                  key = (tuple, is, refl);
                  inputs = subst (λ (ts : List DataType). IsTuple ts (saved_row q the_row).values) (sym (state_types-are q g))
                      (subst (λ (vs : List AnyValue). IsTuple (three ++ all_saved_types fs) (front ++ vs)) (sym (saved-are q g results)) (record {
                        of_types = (count-fits last.chunk chunk, (count-fits last.row row, (count-fits rows few, read.are.saved.of_types)));
                        utf8 = All-cons HasUtf8 (counted last.chunk) (counted last.row ∷ counted rows ∷ all_saved fs results) tt
                            (All-cons HasUtf8 (counted last.row) (counted rows ∷ all_saved fs results) tt
                            (All-cons HasUtf8 (counted rows) (all_saved fs results) tt read.are.saved.utf8));
                      }));
                };
              }
