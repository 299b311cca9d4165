-- How many rows chunks of generated rows have.
use Rattle.std.specs.Prelude.{◌≡◌, ◌+◌, ◌-◌, ◌*◌, ◌<◌, ◌≤◌, ℕ, zero, suc, All, List, [], ◌∷◌, ◌++◌, length, map, min, refl, sum_by}
use Rattle.std.specs.List.{range_with_len}
use Rattle.std.proofs.Common.{◌∙◌, ap, arith, rules, sym}
use Rattle.std.proofs.lemmas.Grind.{div_ceil_times}
use Rattle.std.proofs.lemmas.List.{append-nil, append_assoc}
use Rattle.std.proofs.lemmas.List.FromFn.{length-map-range_with_len, map-range_with_len_more, sum_by-map-range_with_len_more}
use Rattle.std.proofs.lemmas.List.Elements.{All-cons, All-nil}
use Rattle.pipe_columns.specs.declared.data_chunk.DataChunk.{DataChunk}
use Rattle.pipe_columns.specs.Frame.{FitsSchema}
use Rattle.pipe_model.specs.Rows.{total_height}
use Rattle.tool_made.proofs.MadeFacts.{begins_inside}
use Rattle.tool_made.specs.Made.{chunk_count, made, made_chunk, made_from}
use Rattle.tool_made.specs.MadeQuery.{made_schema}
use Rattle.tool_made.specs.declared.made.Made.{Made}

module _ (m : Made) (some : 0 < m.chunk) where
  -- the first chunks have their rows, or all
  pub first-rows : (n : ℕ) → total_height (map (made_chunk m) (range_with_len 0 n)) ≡ min (n * m.chunk) m.rows
  first-rows zero = omega arith
  first-rows (suc n) =
      let one : suc n ≡ n + 1 = omega arith in
      let times : (n + 1) * m.chunk ≡ n * m.chunk + m.chunk = omega arith in
      ap (λ k. total_height (map (made_chunk m) (range_with_len 0 k))) one
      ∙ sum_by-map-range_with_len_more (λ (c : DataChunk). c.frame.height) (made_chunk m) 0 n n (omega arith)
      ∙ ap (λ h. h + min m.chunk (m.rows - n * m.chunk)) (first-rows n)
      ∙ omega (arith, times, one)

  -- all chunks have all rows
  pub all-rows : total_height (made m) ≡ m.rows
  all-rows = first-rows (chunk_count m) ∙ omega (arith, (div_ceil_times m.rows m.chunk some).0)

  -- there are no more chunks than rows
  pub few-chunks : length (made m) ≤ m.rows
  few-chunks = omega (arith, length-map-range_with_len (made_chunk m) 0 (chunk_count m), count)
    where
      count : chunk_count m ≤ m.rows
      count = few (chunk_count m) refl
        where
          few : (n : ℕ) → n ≡ chunk_count m → n ≤ m.rows
          few zero e = omega arith
          few (suc n) e = let inside = begins_inside m n some (omega (arith, e)) in omega (arith, inside.0, inside.1)

-- chunks all have the columns of generated rows
pub chunks-fit : (m : Made) (is : List ℕ) → All (λ c. FitsSchema made_schema c.frame) (map (made_chunk m) is)
chunks-fit m [] = All-nil _
chunks-fit m (i ∷ is) = All-cons (λ c. FitsSchema made_schema c.frame) (made_chunk m i) (map (made_chunk m) is) refl (chunks-fit m is)

-- the first chunks, and then those behind them
pub made-then : (m : Made) (a b : ℕ) → made_from m 0 (a + b) ≡ made_from m 0 a ++ made_from m a b
made-then m a zero = ap (made_from m 0) (omega arith) ∙ sym (append-nil (made_from m 0 a))
made-then m a (suc b) =
    let sum : a + suc b ≡ a + b + 1 = omega arith in
    let one : suc b ≡ b + 1 = omega arith in
    let here : 0 + (a + b) ≡ a + b = omega arith in
    ap (made_from m 0) sum
    ∙ map-range_with_len_more (made_chunk m) 0 (a + b) (a + b) here
    ∙ ap (λ (cs : List DataChunk). cs ++ made_chunk m (a + b) ∷ []) (made-then m a b)
    ∙ append_assoc (made_from m 0 a) (made_from m a b) (made_chunk m (a + b) ∷ [])
    ∙ ap (λ (cs : List DataChunk). made_from m 0 a ++ cs) (sym (ap (made_from m a) one ∙ map-range_with_len_more (made_chunk m) a b (a + b) refl))
