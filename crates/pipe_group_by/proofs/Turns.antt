-- A sink that takes a worker's turns of a round.
use Rattle.std.proofs.Common.{◌≡◌, ◌∙◌, ◌+◌, ◌<◌, ℕ, suc, true, false, List, [], ◌∷◌, ◌++◌, length, take, drop, sym, ap, subst, arith, length-append, append_assoc}
use Rattle.std.proofs.Math.Seq.{drop-cons}
use Rattle.std.specs.List.{slice_index_or}
use Rattle.std.proofs.lemmas.List.{length-take-le, take-append-drop, take_more}
use Rattle.std.proofs.lemmas.List.Elements.{All-get_or, All-weaker}
use Rattle.std.proofs.lemmas.List.Sums.{sum_by-append, sum_by-cons}
use Rattle.pipe_columns.specs.declared.data_chunk.DataChunk.{DataChunk}
use Rattle.pipe_columns.specs.Frame.{FitsSchema}
use Rattle.pipe_aggs.specs.QueryTrees.{query_tree}
use Rattle.pipe_model.specs.Rows.{AreChunksOf, total_height}
use Rattle.pipe_sinks.specs.Runs.{ComesBehind, Run, Takes, with_taken}
use Rattle.pipe_group_by.specs.Positions.{is_turn, numbered, turns_of}
use Rattle.pipe_group_by.proofs.Numbering.{all-rest, numbered-at, turn-no, turn-yes, turns-before, turns-height}

-- the next chunk of a round whose chunks have their positions
module _ (n w : ℕ) (first : Run) (before chunks : List DataChunk) (k : ℕ) (c : DataChunk) (lt : k < length chunks) (is : c ≡ slice_index_or chunks k c)
    (positions : numbered (length before) chunks ≡ chunks) where
  -- those before it
  abbrev front : List DataChunk
  front = before ++ take k chunks

  long : length front ≡ length before + k
  long = length-append before (take k chunks) ∙ ap (λ m. length before + m) (length-take-le k chunks (omega arith))

  index : c.chunk_index ≡ length front
  index = ap (λ (x : DataChunk). x.chunk_index) is ∙ numbered-at (length before) chunks k c positions lt ∙ sym long

  more : before ++ take (k + 1) chunks ≡ front ++ c ∷ []
  more =
      ap (λ (l : List DataChunk). before ++ l) (take_more chunks k c lt ∙ ap (λ (x : DataChunk). take k chunks ++ x ∷ []) (sym is))
      ∙ sym (append_assoc before (take k chunks) (c ∷ []))

  split : chunks ≡ take k chunks ++ c ∷ drop (suc k) chunks
  split = sym (take-append-drop k chunks) ∙ ap (λ (l : List DataChunk). take k chunks ++ l) (drop-cons chunks k c lt ∙ ap (λ (x : DataChunk). x ∷ drop (suc k) chunks) (sym is))

  heights : total_height front + c.frame.height + total_height (drop (suc k) chunks) ≡ total_height (before ++ chunks)
  heights =
      let height : DataChunk → ℕ = λ x. x.frame.height in
      omega (
        arith,
        sum_by-append height before (take k chunks),
        sum_by-append height before chunks,
        ap (λ (l : List DataChunk). total_height l) split,
        sum_by-append height (take k chunks) (c ∷ drop (suc k) chunks),
        sum_by-cons height c (drop (suc k) chunks),
      )

  module _ (s : Run) (so : s ≡ with_taken (turns_of n w front) first) where
    -- the sink may take it
    pub turn-takes : AreChunksOf (query_tree first.query) (before ++ chunks) → Takes s c
    turn-takes asked = subst (λ (r : Run). Takes r c) (sym so) (record {
      fits = subst (λ (x : DataChunk). FitsSchema first.query.schema x.frame) (sym is) (All-get_or (λ (x : DataChunk). FitsSchema first.query.schema x.frame) chunks k c lt (all-rest (λ (x : DataChunk). FitsSchema first.query.schema x.frame) before chunks asked.columns));
      later = All-weaker (λ (x : DataChunk). x.chunk_index < length front) (λ (x : DataChunk). ComesBehind c x) (λ x low some more. omega (arith, low, index)) (turns_of n w front) (turns-before n w front);
      few = omega (arith, heights, asked.rows, turns-height n w front);
    })

    -- and has then taken the turns up to it
    pub turn-taken : (new : Run) → is_turn n w c ≡ true → new ≡ with_taken (s.taken ++ c ∷ []) s → new ≡ with_taken (turns_of n w (before ++ take (k + 1) chunks)) first
    turn-taken new own made =
        made
        ∙ ap (λ (r : Run). with_taken (r.taken ++ c ∷ []) r) so
        ∙ ap (λ (l : List DataChunk). with_taken l first) (sym (turn-yes n w front c index own) ∙ ap (λ (l : List DataChunk). turns_of n w l) (sym more))

    -- also where it isn't a turn of the worker
    pub turn-passed : is_turn n w c ≡ false → s ≡ with_taken (turns_of n w (before ++ take (k + 1) chunks)) first
    turn-passed other = so ∙ ap (λ (l : List DataChunk). with_taken l first) (sym (turn-no n w front c index other) ∙ ap (λ (l : List DataChunk). turns_of n w l) (sym more))
