-- The text of a state is the text of no other.
use Rattle.std.proofs.Common.{◌≡◌, ◌∙◌, ◌^◌, ◌<◌, ℕ, List, ◌++◌, map, length, drop, sym, ap, subst, arith}
use Rattle.std.specs.Prelude.{All}
use Rattle.std.specs.Int.{bytes_high_first}
use Rattle.std.proofs.lemmas.List.{length-map}
use Rattle.std.proofs.lemmas.List.Elements.{All-weaker}
use Rattle.pipe_model.specs.Groupable.{IsGroupable}
use Rattle.pipe_model.specs.Output.{key_types}
use Rattle.pipe_model.specs.Query.{QueryTree}
use Rattle.pipe_spill.specs.FrameBytes.{frame_bytes, rows_bytes}
use Rattle.pipe_spill.specs.SpillRow.{AreRows}
use Rattle.pipe_spill.proofs.FrameOnce.{read_back}
use Rattle.pipe_spill.proofs.RowOnce.{four_once}
use Rattle.pipe_states.specs.Fair.{IsFair, IsRowOf}
use Rattle.pipe_states.specs.Files.{IsFairStateOf, IsTextOfNone}
use Rattle.pipe_states.specs.Reading.{IsFrameOfNoState, IsTextRow}
use Rattle.pipe_states.specs.States.{StateSeen}
use Rattle.pipe_states.specs.StateText.{saved_row, state_text, state_types}
use Rattle.pipe_states.specs.declared.state_row.StateRow.{StateRow}
use Rattle.pipe_states.proofs.ReadRows.{saved_text, text_of_saved}
use Rattle.pipe_states.proofs.Rows.{same_rows}
use Rattle.pipe_states.proofs.TextFacts.{saved_are_rows}

-- two numbers in front of bytes are those that stand there
range_once : (a b c d : ℕ) (xs ys : List ℕ) → a < 2 ^ 32 → b < 2 ^ 32 → c < 2 ^ 32 → d < 2 ^ 32
    → bytes_high_first 4 a ++ bytes_high_first 4 b ++ xs ≡ bytes_high_first 4 c ++ bytes_high_first 4 d ++ ys → (a ≡ c) × (b ≡ d) × (xs ≡ ys)
range_once a b c d xs ys p q r s e = (
  four_once a c (bytes_high_first 4 b ++ xs) (bytes_high_first 4 d ++ ys) p r e,
  four_once b d xs ys q s (ap (λ (l : List ℕ). drop 4 l) e),
  ap (λ (l : List ℕ). drop 8 l) e,
)

-- fewer than eight bytes are no state
pub no_range : (q : QueryTree) (bytes : List ℕ) → length bytes < 8 → IsTextOfNone q bytes
no_range q bytes h s p e = omega (arith, h, ap length e)

-- what was written of a state is its text
pub written_state : (q : QueryTree) (s : StateSeen) (first end count : ℕ) (rows : List StateRow) (head text : List ℕ)
    → first ≡ s.first → end ≡ s.end → rows ≡ s.rows → count ≡ length rows
    → head ≡ bytes_high_first 4 first ++ bytes_high_first 4 end ++ bytes_high_first 8 count
    → text ≡ head ++ rows_bytes (state_types q) (map (saved_row q) rows) → text ≡ state_text q s
written_state q s first end count rows head text f e r n h t =
    let number : count ≡ length (map (saved_row q) s.rows) = n ∙ ap (λ (l : List StateRow). length l) r ∙ sym (length-map s.rows (saved_row q)) in
    t
    ∙ ap (λ (l : List ℕ). l ++ rows_bytes (state_types q) (map (saved_row q) rows)) h
    ∙ (λ i. bytes_high_first 4 (f i) ++ bytes_high_first 4 (e i) ++ bytes_high_first 8 (number i) ++ rows_bytes (state_types q) (map (saved_row q) (r i)))

module _ (q : QueryTree) (g : IsGroupable q) where
  -- the rows of a fair state are saved as rows of its types
  saved_are : (s : StateSeen) → IsFairStateOf q s → AreRows (key_types q) (state_types q) (map (saved_row q) s.rows)
  saved_are s h = saved_are_rows q s.first s.end s.rows h.fair.end h.fair.few h.fair.rows h.of_query

  -- bytes that begin with a range
  module _ (first end : ℕ) (frame bytes : List ℕ) (short : first < 2 ^ 32) (few : end < 2 ^ 32)
      (head : bytes_high_first 4 first ++ bytes_high_first 4 end ++ frame ≡ bytes) where
    -- a state whose text they are has that range, and its rows that frame
    parts : (s : StateSeen) → IsFairStateOf q s → state_text q s ≡ bytes
        → (s.first ≡ first) × (s.end ≡ end) × (frame_bytes (state_types q) (map (saved_row q) s.rows) ≡ frame)
    parts s h e =
        range_once s.first s.end first end (frame_bytes (state_types q) (map (saved_row q) s.rows)) frame
        (omega (arith, h.fair.range, h.fair.end)) h.fair.end short few (e ∙ sym head)

    -- what stands behind the range is the frame of no state rows
    pub no_state_rows : IsFrameOfNoState q frame → IsTextOfNone q bytes
    no_state_rows none s h e = none s.rows (text_of_saved q s.rows h.of_query (saved_are s h)) (parts s h e).2

    -- state rows were read of it
    module _ (rows : List StateRow) (text : All (IsTextRow q) rows) (read : frame_bytes (state_types q) (map (saved_row q) rows) ≡ frame) (room : length frame < 2 ^ 64) where
      -- they are of the query
      pub of_query : All (IsRowOf q) rows
      of_query = All-weaker (IsTextRow q) (IsRowOf q) (λ r is. is.of_query) rows text

      -- the rows of a state are they
      the_rows : (s : StateSeen) → IsFairStateOf q s → state_text q s ≡ bytes → s.rows ≡ rows
      the_rows s h e =
          same_rows q g s.rows rows h.of_query of_query
          (read_back (key_types q) (state_types q) (map (saved_row q) rows) (map (saved_row q) s.rows) frame (saved_text q rows text) (saved_are s h) room read (parts s h e).2)

      -- the state of the range with these rows
      abbrev pub the_state : StateSeen
      the_state = record { first = first; end = end; rows = rows }

      -- no other has the text
      pub sole_state : (s : StateSeen) → IsFairStateOf q s → state_text q s ≡ bytes → s ≡ the_state
      sole_state s h e =
          let at = parts s h e in
          let same = the_rows s h e in
          λ i. record { first = at.0 i; end = at.1 i; rows = same i }

      -- it isn't fair
      pub unfair : (IsFair the_state → ⊥) → IsTextOfNone q bytes
      unfair none s h e = none (subst IsFair (sole_state s h e) h.fair)

      -- it has the text
      pub text_of_state : state_text q the_state ≡ bytes
      text_of_state = ap (λ (l : List ℕ). bytes_high_first 4 first ++ bytes_high_first 4 end ++ l) read ∙ head
