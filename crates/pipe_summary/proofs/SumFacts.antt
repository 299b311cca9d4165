-- Frames that sum chunks up: their states, one frame more, and all of them merged.
use Rattle.std.proofs.Common.{◌≡◌, ◌∙◌, ℕ, ◌+◌, ◌≤◌, List, [], ◌∷◌, ◌++◌, length, map, All, refl, sym, ap, subst, arith}
use Rattle.std.specs.List.{flat_map}
use Rattle.std.proofs.lemmas.Grind.{flat_map-append}
use Rattle.std.proofs.lemmas.List.{append-nil, length-append, map-append}
use Rattle.std.proofs.lemmas.List.Elements.{All-cons, All-head, All-nil, All-push, All-tail, All-weaker}
use Rattle.pipe_columns.specs.declared.data_chunk.DataChunk.{DataChunk}
use Rattle.pipe_model.specs.Query.{QueryTree}
use Rattle.pipe_model.specs.Rows.{rows_from}
use Rattle.pipe_states.specs.Fair.{IsFair, IsStateOf}
use Rattle.pipe_states.specs.Files.{IsFairStateOf}
use Rattle.pipe_states.specs.Parts.{Part, part_of, parts_from, rows_of_parts, saved}
use Rattle.pipe_states.specs.Regrouped.{end_of, first_of, merged_states}
use Rattle.pipe_states.specs.States.{state_rows, StateSeen}
use Rattle.pipe_states.specs.StateText.{state_text}
use Rattle.pipe_states.proofs.GivenStates.{merged-state-of}
use Rattle.pipe_states.proofs.MergedFair.{merged-fair}
use Rattle.pipe_states.proofs.PartFacts.{rows_of_all}
use Rattle.pipe_states.proofs.RegroupFacts.{merged_rows-are}
use Rattle.pipe_model.proofs.RowPlaces.{rows-distinct}
use Rattle.pipe_model.specs.Rows.{HaveDistinctPlaces}
use Rattle.pipe_summary.specs.InTurn.{AreInTurn, FollowFrom}
use Rattle.pipe_summary.specs.Sums.{run_states, Sums, texts_of}
use Rattle.pipe_summary.proofs.TextLists.{one_list}
use Rattle.pipe_summary.proofs.TurnFacts.{count-within, follow-on, reach, reach-end}

-- runs, joined
abbrev pub joined : List (List DataChunk) → List DataChunk
joined runs = flat_map (λ run. run) runs

module _ (q : QueryTree) where
  -- the states of runs from a position on end behind all their chunks
  runs-reach : (first : ℕ) (runs : List (List DataChunk)) → reach first (map (saved q) (parts_from q first runs)) ≡ first + length (joined runs)
  runs-reach first [] = omega arith
  runs-reach first (run ∷ runs) =
      let long : length (joined (run ∷ runs)) ≡ length run + length (joined runs) = length-append run (joined runs) in
      runs-reach (first + length run) runs ∙ omega (arith, long)

  -- they follow one another
  runs-follow : (first : ℕ) (runs : List (List DataChunk)) → All (λ run. 1 ≤ length run) runs → FollowFrom first (map (saved q) (parts_from q first runs))
  runs-follow first [] h = tt
  runs-follow first (run ∷ runs) h =
      let some : 1 ≤ length run = All-head (λ (r : List DataChunk). 1 ≤ length r) run runs h in
      (refl, omega arith, runs-follow (first + length run) runs (All-tail (λ (r : List DataChunk). 1 ≤ length r) run runs h))

  -- runs with one more behind them
  parts-more : (first : ℕ) (runs : List (List DataChunk)) (run : List DataChunk) → parts_from q first (runs ++ run ∷ []) ≡ parts_from q first runs ++ part_of q (first + length (joined runs)) run ∷ []
  parts-more first [] run = ap (λ (n : ℕ). part_of q n run ∷ []) (omega arith)
  parts-more first (other ∷ runs) run =
      let long : length (joined (other ∷ runs)) ≡ length other + length (joined runs) = length-append other (joined runs) in
      let where_to : first + length other + length (joined runs) ≡ first + length (joined (other ∷ runs)) = omega (arith, long) in
      ap (λ (l : List Part). part_of q first other ∷ l) (parts-more (first + length other) runs run ∙ ap (λ (n : ℕ). parts_from q (first + length other) runs ++ part_of q n run ∷ []) where_to)

  -- the states of runs with one more
  states-more : (runs : List (List DataChunk)) (run : List DataChunk) → run_states q (runs ++ run ∷ []) ≡ run_states q runs ++ saved q (part_of q (length (joined runs)) run) ∷ []
  states-more runs run =
      ap (map (saved q)) (parts-more 0 runs run ∙ ap (λ (n : ℕ). parts_from q 0 runs ++ part_of q n run ∷ []) (omega arith))
      ∙ map-append (saved q) (parts_from q 0 runs) (part_of q (length (joined runs)) run ∷ [])

  -- no frame sums no chunk up
  pub sums-none : Sums q [] []
  sums-none = record {
    runs = [];
    joined = refl;
    some = All-nil (λ (run : List DataChunk). 1 ≤ length run);
    fair = All-nil (IsFairStateOf q);
    texts = refl;
  }

  -- one frame more, of chunks behind the others
  pub sums-more : (frames : List (List ℕ)) (chunks more : List DataChunk) → Sums q frames chunks → 1 ≤ length more → IsFairStateOf q (saved q (part_of q (length chunks) more))
      → Sums q (frames ++ state_text q (saved q (part_of q (length chunks) more)) ∷ []) (chunks ++ more)
  sums-more frames chunks more s some fair =
      let at : length chunks ≡ length (joined s.runs) = ap (λ (l : List DataChunk). length l) s.joined in
      let all : run_states q s.runs ++ saved q (part_of q (length chunks) more) ∷ [] ≡ run_states q (s.runs ++ more ∷ []) =
      ap (λ (n : ℕ). run_states q s.runs ++ saved q (part_of q n more) ∷ []) at ∙ sym (states-more s.runs more) in
      record {
        runs = s.runs ++ more ∷ [];
        joined =
            ap (λ (l : List DataChunk). l ++ more) s.joined
            ∙ ap (λ (l : List DataChunk). joined s.runs ++ l) (sym (append-nil more))
            ∙ sym (flat_map-append (λ run. run) s.runs (more ∷ []));
        some = All-push (λ (run : List DataChunk). 1 ≤ length run) s.runs more s.some some;
        fair = subst (All (IsFairStateOf q)) all (All-push (IsFairStateOf q) (run_states q s.runs) (saved q (part_of q (length chunks) more)) s.fair fair);
        texts =
            ap (λ (l : List (List ℕ)). l ++ state_text q (saved q (part_of q (length chunks) more)) ∷ []) s.texts
            ∙ sym (map-append (state_text q) (run_states q s.runs) (saved q (part_of q (length chunks) more) ∷ []))
            ∙ ap (texts_of q) all;
      }

  module _ (states : List StateSeen) (chunks : List DataChunk) (turn : AreInTurn q states) (s : Sums q (texts_of q states) chunks) where
    -- states in turn whose texts sum chunks up are those of their runs
    pub states-are : states ≡ run_states q s.runs
    states-are = one_list q states (run_states q s.runs) turn.fair s.fair s.texts

    -- they end behind the last chunk
    pub sums-end : end_of states ≡ length chunks
    sums-end =
        sym (reach-end states) ∙ ap (reach 0) states-are ∙ runs-reach 0 s.runs
        ∙ (let at : length chunks ≡ length (joined s.runs) = ap (λ (l : List DataChunk). length l) s.joined in omega (arith, at))

    -- merged they are the state of all chunks
    pub merged-is : 1 ≤ length states → merged_states q states ≡ saved q (part_of q 0 chunks)
    merged-is some =
        let parts : List Part = parts_from q 0 s.runs in
        let all : rows_of_parts parts ≡ rows_from q 0 chunks = rows_of_all q 0 s.runs ∙ ap (rows_from q 0) (sym s.joined) in
        let rows : (merged_states q states).rows ≡ state_rows q (rows_from q 0 chunks) =
        ap (λ (l : List StateSeen). (merged_states q l).rows) states-are
        ∙ merged_rows-are q parts (λ e. subst HaveDistinctPlaces (sym all) (rows-distinct chunks q))
        ∙ ap (state_rows q) all in
        let begins : first_of states ≡ 0 = first-is states turn.follow in
        let ends : end_of states ≡ 0 + length chunks = let e = sums-end in omega (arith, e) in
        λ i. record { first = begins i; end = ends i; rows = rows i }
      where
        first-is : (states : List StateSeen) → FollowFrom 0 states → first_of states ≡ 0
        first-is [] f = refl
        first-is (t ∷ others) f = f.0

    -- so its text alone sums them up
    pub sums-merged : 1 ≤ length states → Sums q (state_text q (merged_states q states) ∷ []) chunks
    sums-merged some =
        let fair : IsFairStateOf q (merged_states q states) = record {
          fair = merged-fair q states (All-weaker (IsFairStateOf q) IsFair (λ t f. f.fair) states turn.fair) (follow-on 0 states turn.follow) turn.few;
          of_query = merged-state-of q states (All-weaker (IsFairStateOf q) (IsStateOf q) (λ t f. f.of_query) states turn.fair) turn.few;
        } in
        let whole = merged-is some in
        let least : length states ≤ end_of states = subst (λ (n : ℕ). length states ≤ n) (reach-end states) (count-up states turn.follow) in
        let long : 1 ≤ length chunks = let e = sums-end in omega (arith, some, least, e) in
        record {
          runs = chunks ∷ [];
          joined = sym (append-nil chunks);
          some = All-cons (λ (run : List DataChunk). 1 ≤ length run) chunks [] long (All-nil (λ (run : List DataChunk). 1 ≤ length run));
          fair = All-cons (IsFairStateOf q) (saved q (part_of q 0 chunks)) [] (subst (IsFairStateOf q) whole fair) (All-nil (IsFairStateOf q));
          texts = ap (λ (t : StateSeen). state_text q t ∷ []) whole;
        }
      where
        count-up : (states : List StateSeen) → FollowFrom 0 states → length states ≤ reach 0 states
        count-up states f = let n = count-within 0 states f in omega (arith, n)
