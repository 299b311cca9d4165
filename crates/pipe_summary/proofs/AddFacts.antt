-- Additions: chunks that are counted, and a state that is put behind others.
use Rattle.std.proofs.Common.{◌≡◌, ℕ, ◌+◌, ◌<◌, ◌≤◌, ◌^◌, List, [], ◌∷◌, ◌++◌, length, Option, Some, None, IfSome, true, false, is_some, ◌-◌, sym, subst, arith}
use Rattle.std.proofs.lemmas.List.Elements.{All-append}
use Rattle.std.proofs.lemmas.List.Sums.{sum_by-append}
use Rattle.pipe_columns.specs.declared.data_chunk.DataChunk.{DataChunk}
use Rattle.pipe_columns.specs.declared.schema.Field.{Field}
use Rattle.pipe_columns.specs.Frame.{FitsSchema}
use Rattle.pipe_model.specs.Query.{QueryTree}
use Rattle.pipe_model.specs.Rows.{total_height}
use Rattle.pipe_saving.specs.Refusals.{AllFit}
use Rattle.pipe_spill.specs.Store.{with_frame}
use Rattle.pipe_states.specs.States.{StateSeen}
use Rattle.pipe_states.specs.StateText.{state_text}
use Rattle.pipe_summary.specs.Additions.{AreFewBehind}
use Rattle.pipe_summary.specs.Held.{IsAdding}
use Rattle.pipe_summary.specs.InTurn.{AreInTurn, HoldsStates}
use Rattle.pipe_summary.proofs.HoldFacts.{holds-more}
use Rattle.pipe_summary.proofs.TurnFacts.{count-within, end-low, reach, reach-end}

-- the rows of chunks and more
pub heights-more : (taken chunks : List DataChunk) → total_height (taken ++ chunks) ≡ total_height taken + total_height chunks
heights-more taken chunks = sum_by-append (λ (c : DataChunk). c.frame.height) taken chunks

-- an addition with more chunks
pub adding-more : (fields : List Field) (before first : ℕ) (taken chunks : List DataChunk) (rows more : ℕ) → IsAdding fields before first taken rows → AllFit fields chunks
    → AreFewBehind before first (taken ++ chunks) → more ≡ rows + total_height chunks → IsAdding fields before first (taken ++ chunks) more
adding-more fields before first taken chunks rows more a fit few e = record {
  fit = All-append (λ (c : DataChunk). FitsSchema fields c.frame) taken chunks a.fit fit;
  few = few;
  counted = let heights = heights-more taken chunks in let counted = a.counted in omega (arith, e, heights, counted);
}

-- a number that was found is few
pub few-of : (r : Option ℕ) (n : ℕ) → is_some r ≡ true → IfSome r (λ m. m ≡ n) → IfSome r (λ m. m < 2 ^ 32) → n < 2 ^ 32
few-of None n some e few = let no : false ≡ true = some in absurd (cc)
few-of (Some m) n some e few = subst (λ (k : ℕ). k < 2 ^ 32) e few

module _ (q : QueryTree) where
  -- a store of states has room for one frame more
  pub has-room : (told : Option (List (List ℕ))) (held : ℕ) (states : List StateSeen) → HoldsStates q told held states → held < 2 ^ 64 - 1
  has-room told held states h =
      let within : length states ≤ reach 0 states = let n = count-within 0 states h.in_turn.follow in omega (arith, n) in
      let low = end-low q states h.in_turn in
      let at = reach-end states in
      let count = h.count in
      omega (arith, within, low, at, count)

  -- what a store holds with the frame of one more state
  pub holds-put : (told now : Option (List (List ℕ))) (held count : ℕ) (states after : List StateSeen) (s : StateSeen) → HoldsStates q told held states → AreInTurn q (states ++ s ∷ [])
      → now ≡ with_frame told (state_text q s) → count ≡ held + 1 → after ≡ states ++ s ∷ [] → HoldsStates q now count after
  holds-put told now held count states after s h turn put more grown =
      subst (λ (l : List StateSeen). HoldsStates q now count l) (sym grown)
      (subst (λ (n : ℕ). HoldsStates q now n (states ++ s ∷ [])) (sym more)
      (subst (λ (t : Option (List (List ℕ))). HoldsStates q t (held + 1) (states ++ s ∷ [])) (sym put) (holds-more q told held states s h turn)))
