-- A run that is fed generated rows, round by round.
use Rattle.std.proofs.Common.{◌≡◌, ◌∙◌, ◌+◌, ◌-◌, ◌<◌, ◌≤◌, ◌^◌, ◌++◌, ℕ, List, refl, ap, arith, length, subst, sym}
use Rattle.std.specs.List.{All, range_with_len}
use Rattle.std.proofs.lemmas.List.FromFn.{length-map-range_with_len}
use Rattle.pipe_columns.specs.declared.data_chunk.DataChunk.{DataChunk}
use Rattle.pipe_columns.specs.declared.schema.Field.{Field}
use Rattle.pipe_columns.specs.Frame.{FitsSchema}
use Rattle.pipe_model.specs.Rows.{total_height}
use Rattle.pipe_plan.specs.Rounds.{IsFront}
use Rattle.pipe_plan.specs.Run.{StoreSeen}
use Rattle.pipe_run.specs.declared.error.PipeError.{PipeError}
use Rattle.pipe_run.specs.Fed.{FedSeen}
use Rattle.pipe_run.specs.Failing.{NoneFailed}
use Rattle.pipe_run.specs.Feeding.{chunks_reached, IsFeedCause}
use Rattle.pipe_run.specs.Refusals.{AllHaveFields}
use Rattle.pipe_run.specs.Finish.{IsFinishCause}
use Rattle.tool_made.specs.Made.{chunk_count, made, made_chunk, made_from}
use Rattle.tool_made.specs.MadeQuery.{made_schema}
use Rattle.tool_made.specs.declared.made.Made.{Made}
use Rattle.tool_made.proofs.Heights.{chunks-fit, few-chunks, first-rows, made-then}
use Rattle.tool_run.proofs.FeedFacts.{feed-cause, reached-has}

-- chunks of one round more
pub fed-then : (m : Made) (a b : ℕ) (old more now : List DataChunk) → old ≡ made_from m 0 a → more ≡ made_from m a b → now ≡ old ++ more → now ≡ made_from m 0 (a + b)
fed-then m a b old more now one two is =
    is ∙ ap (λ (cs : List DataChunk). cs ++ more) one ∙ ap (λ (cs : List DataChunk). made_from m 0 a ++ cs) two ∙ sym (made-then m a b)

-- the first chunks fit what the rows have
pub made-fit : (fields : List Field) (m : Made) (n : ℕ) (chunks : List DataChunk) → made_schema ≡ fields → chunks ≡ made_from m 0 n → AllHaveFields fields chunks
made-fit fields m n chunks same is =
    subst (AllHaveFields fields) (sym is) (subst (λ (f : List Field). AllHaveFields f (made_from m 0 n)) same (chunks-fit m (range_with_len 0 n)))

-- and so do those that a refused feed reached
pub made-reached : (fields : List Field) (s : FedSeen) (m : Made) (a b : ℕ) (more : List DataChunk) (err : PipeError) → made_schema ≡ fields → s.chunks ≡ made_from m 0 a → more ≡ made_from m a b → AllHaveFields fields (chunks_reached s more err)
made-reached fields s m a b more err same one two =
    reached-has (AllHaveFields fields) s more err (made-fit fields m a s.chunks same one) (made-fit fields m (a + b) (s.chunks ++ more) same (fed-then m a b s.chunks more (s.chunks ++ more) one two refl))

-- they are the first of all
pub made-first : (m : Made) (n : ℕ) (chunks : List DataChunk) → n ≤ chunk_count m → chunks ≡ made_from m 0 n → IsFront chunks (made m)
made-first m n chunks within is =
    let rest : List DataChunk = made_from m n (chunk_count m - n) in
    let number : chunk_count m ≡ n + (chunk_count m - n) = omega (arith, within) in
    record { rest = rest; is = ap (made_from m 0) number ∙ made-then m n (chunk_count m - n) ∙ ap (λ (cs : List DataChunk). cs ++ rest) (sym is) }

-- and so are those that a refused feed reached
pub reached-first : (s : FedSeen) (m : Made) (a b : ℕ) (more : List DataChunk) (err : PipeError) → a + b ≤ chunk_count m → s.chunks ≡ made_from m 0 a → more ≡ made_from m a b → IsFront (chunks_reached s more err) (made m)
reached-first s m a b more err within one two =
    reached-has (λ (cs : List DataChunk). IsFront cs (made m)) s more err (made-first m a s.chunks (omega (arith, within)) one) (made-first m (a + b) (s.chunks ++ more) within (fed-then m a b s.chunks more (s.chunks ++ more) one two refl))

-- a feed of generated rows is refused for a store or for want of memory
pub made-cause : (first s : FedSeen) (m : Made) (a b : ℕ) (more : List DataChunk) (stores : List StoreSeen) (err : PipeError)
    → 0 < m.chunk → m.rows < 2 ^ 32 → a + b ≤ chunk_count m → made_schema ≡ s.setting.query.schema → NoneFailed first.stores s.stores
    → s.chunks ≡ made_from m 0 a → more ≡ made_from m a b → IsFeedCause s more stores err → IsFinishCause first stores err
made-cause first s m a b more stores err some small within fields calm one two cause =
    let is : s.chunks ++ more ≡ made_from m 0 (a + b) = fed-then m a b s.chunks more (s.chunks ++ more) one two refl in
    let fit = subst (λ f. All (λ (c : DataChunk). FitsSchema f c.frame) (made_from m 0 (a + b))) fields (chunks-fit m (range_with_len 0 (a + b))) in
    let rows : total_height (made_from m 0 (a + b)) < 2 ^ 32 = omega (arith, first-rows m some (a + b), small) in
    let count : chunk_count m ≤ m.rows = omega (arith, few-chunks m some, length-map-range_with_len (made_chunk m) 0 (chunk_count m)) in
    let number : length (made_from m 0 (a + b)) < 2 ^ 32 = omega (arith, length-map-range_with_len (made_chunk m) 0 (a + b), count, within, small) in
    feed-cause first s more stores err calm
    (subst (All (λ (c : DataChunk). FitsSchema s.setting.query.schema c.frame)) (sym is) fit)
    (subst (λ (cs : List DataChunk). total_height cs < 2 ^ 32) (sym is) rows)
    (subst (λ (cs : List DataChunk). length cs < 2 ^ 32) (sym is) number) cause
