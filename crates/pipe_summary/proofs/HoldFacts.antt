-- What a store holds and stands for: with one more frame, answered, and merged.
use Rattle.std.proofs.Common.{◌≡◌, ◌∙◌, ℕ, suc, ◌+◌, ◌<◌, ◌≤◌, ◌^◌, List, [], ◌∷◌, ◌++◌, length, Option, Some, None, IfSome, false, refl, sym, ap, subst, arith}
use Rattle.std.proofs.lemmas.List.{append-nil}
use Rattle.std.proofs.lemmas.List.Elements.{All-nil}
use Rattle.pipe_columns.specs.declared.data_chunk.DataChunk.{DataChunk}
use Rattle.pipe_columns.specs.declared.schema.Field.{Field}
use Rattle.pipe_columns.specs.Frame.{FitsSchema, FrameData}
use Rattle.pipe_model.specs.Answer.{answer}
use Rattle.pipe_model.specs.Query.{QueryTree}
use Rattle.pipe_model.specs.Rows.{rows_from, total_height}
use Rattle.pipe_saving.proofs.FedFacts.{rows_from-length}
use Rattle.pipe_spill.specs.Store.{HasHeld, with_frame}
use Rattle.pipe_states.proofs.FairFacts.{rows-few}
use Rattle.pipe_states.specs.Files.{IsFairStateOf}
use Rattle.pipe_states.specs.Parts.{part_of, saved}
use Rattle.pipe_states.specs.Regrouped.{end_of, merged_states, regrouped}
use Rattle.pipe_states.specs.States.{StateSeen}
use Rattle.pipe_states.specs.StateText.{state_text}
use Rattle.pipe_states.specs.Together.{total_rows}
use Rattle.pipe_summary.specs.Additions.{CanBeAdded, state_behind, states_with, told_with}
use Rattle.pipe_summary.specs.Held.{IsRegrouped}
use Rattle.pipe_summary.specs.InTurn.{AreInTurn, HoldsStates}
use Rattle.pipe_summary.specs.Summed.{all_keys, IsMerged, IsSummed, sliced_rows, summed, told_merged}
use Rattle.pipe_summary.specs.Sums.{StandsFor, Sums, texts_of}
use Rattle.pipe_summary.proofs.ReadFacts.{count-more}
use Rattle.pipe_summary.proofs.SumFacts.{sums-end, sums-merged, sums-more}
use Rattle.pipe_summary.proofs.SummedFacts.{frames-answer}
use Rattle.pipe_summary.proofs.TextLists.{texts-more}
use Rattle.pipe_summary.proofs.TurnFacts.{end-low, more-in_turn, next-in_turn, row_count}

module _ (q : QueryTree) where
  -- ---- one frame more

  -- the frame of one more state
  pub holds-more : (told : Option (List (List ℕ))) (held : ℕ) (states : List StateSeen) (s : StateSeen) → HoldsStates q told held states → AreInTurn q (states ++ s ∷ [])
      → HoldsStates q (with_frame told (state_text q s)) (held + 1) (states ++ s ∷ [])
  holds-more None held states s h turn = record { in_turn = turn; count = count-more held states s h.count; texts = tt }
  holds-more (Some frames) held states s h turn = record {
    in_turn = turn;
    count = count-more held states s h.count;
    texts = ap (λ (l : List (List ℕ)). l ++ state_text q s ∷ []) h.texts ∙ sym (texts-more q states s);
  }

  -- of how many rows the state of chunks is
  pub rows-within : (states : List StateSeen) (chunks : List DataChunk) → row_count (state_behind q states chunks) ≤ total_height chunks
  rows-within states chunks =
      let few = rows-few q (rows_from q (end_of states) chunks) in
      let long = rows_from-length q (end_of states) chunks in
      omega (arith, few, long)

  -- the state of chunks that are few behind states is in turn behind them
  pub behind-in_turn : (states : List StateSeen) (chunks : List DataChunk) → AreInTurn q states → 1 ≤ length chunks → IsFairStateOf q (state_behind q states chunks)
      → total_rows states + total_height chunks < 2 ^ 32 → AreInTurn q (states ++ state_behind q states chunks ∷ [])
  behind-in_turn states chunks turn some fair few =
      let within = rows-within states chunks in
      more-in_turn q states (state_behind q states chunks) turn fair refl (omega (arith, some)) (omega (arith, within, few))

  -- with the frame of chunks behind the others a store stands for these too
  pub stands-more : (told : Option (List (List ℕ))) (held : ℕ) (states : List StateSeen) (before chunks : List DataChunk) → HoldsStates q told held states → StandsFor q told before
      → 1 ≤ length chunks → IsFairStateOf q (state_behind q states chunks) → StandsFor q (with_frame told (state_text q (state_behind q states chunks))) (before ++ chunks)
  stands-more None held states before chunks h s some fair = s
  stands-more (Some frames) held states before chunks h s some fair =
      let sums : Sums q (texts_of q states) before = subst (λ (l : List (List ℕ)). Sums q l before) h.texts s in
      let at : end_of states ≡ length before = sums-end q states before h.in_turn sums in
      subst (λ (n : ℕ). Sums q (frames ++ state_text q (saved q (part_of q n chunks)) ∷ []) (before ++ chunks)) (sym at)
      (sums-more q frames before chunks s some (subst (λ (n : ℕ). IsFairStateOf q (saved q (part_of q n chunks))) at fair))

  -- ---- an addition, with or without a chunk

  -- what a store holds and stands for with chunks behind the others
  pub record HasAdded (told now : Option (List (List ℕ))) (states after : List StateSeen) (chunks : List DataChunk) : Type 0 where
    pub grown : after ≡ states_with q states chunks
    pub put : now ≡ told_with q told states chunks
    pub stands : (before : List DataChunk) → StandsFor q told before → StandsFor q now (before ++ chunks)

  -- no chunk changes nothing
  pub added-none : (told : Option (List (List ℕ))) (states : List StateSeen) (chunks : List DataChunk) → chunks ≡ [] → HasAdded told told states states chunks
  added-none told states [] e = record {
    grown = refl;
    put = refl;
    stands = λ before s. subst (StandsFor q told) (sym (append-nil before)) s;
  }
  added-none told states (c ∷ cs) e = let no : suc (length cs) ≡ 0 = ap (λ (l : List DataChunk). length l) e in absurd (omega (arith, no))

  -- some are one frame more
  pub added-some : (told now : Option (List (List ℕ))) (held : ℕ) (states after : List StateSeen) (chunks : List DataChunk) (s : StateSeen) → HoldsStates q told held states → 1 ≤ length chunks
      → s ≡ state_behind q states chunks → AreInTurn q (states ++ s ∷ []) → after ≡ states ++ s ∷ [] → now ≡ with_frame told (state_text q s) → HasAdded told now states after chunks
  added-some told now held states after [] s h some e turn grown put = absurd (omega (arith, some))
  added-some told now held states after (c ∷ cs) s h some e turn grown put =
      let frame : now ≡ with_frame told (state_text q (state_behind q states (c ∷ cs))) = put ∙ ap (λ (t : StateSeen). with_frame told (state_text q t)) e in
      let fair : IsFairStateOf q (state_behind q states (c ∷ cs)) = subst (IsFairStateOf q) e (next-in_turn q states s turn).fair in
      record {
        grown = grown ∙ ap (λ (t : StateSeen). states ++ t ∷ []) e;
        put = frame;
        stands = λ before stood. subst (λ (n : Option (List (List ℕ))). StandsFor q n (before ++ c ∷ cs)) (sym frame) (stands-more told held states before (c ∷ cs) h stood some fair);
      }

  -- no chunk can be added at any time
  pub none-can : (fields : List Field) (states : List StateSeen) (chunks : List DataChunk) → AreInTurn q states → length chunks ≡ 0 → CanBeAdded fields states chunks
  none-can fields states [] turn e = record {
    fit = All-nil (λ (c : DataChunk). FitsSchema fields c.frame);
    few = record { rows = let few = turn.few in omega (arith, few); positions = let low = end-low q states turn in omega (arith, low) };
  }
  none-can fields states (c ∷ cs) turn e = absurd (omega (arith, e))

  -- no chunk was taken where a range is empty
  pub none-taken : (s : StateSeen) (first : ℕ) (chunks : List DataChunk) → s ≡ saved q (part_of q first chunks) → s.first ≡ s.end → chunks ≡ []
  none-taken s first [] e empty = refl
  none-taken s first (c ∷ cs) e empty =
      let begins : s.first ≡ first = ap (λ (t : StateSeen). t.first) e in
      let ends : s.end ≡ first + suc (length cs) = ap (λ (t : StateSeen). t.end) e in
      absurd (omega (arith, begins, ends, empty))

  -- some were where it isn't
  pub some-taken : (s : StateSeen) (first : ℕ) (chunks : List DataChunk) → s ≡ saved q (part_of q first chunks) → (s.first ≡ s.end → ⊥) → 1 ≤ length chunks
  some-taken s first [] e some =
      let begins : s.first ≡ first = ap (λ (t : StateSeen). t.first) e in
      let ends : s.end ≡ first + 0 = ap (λ (t : StateSeen). t.end) e in
      absurd (some (omega (arith, begins, ends)))
  some-taken s first (c ∷ cs) e some = omega arith

  -- ---- the answer

  pub stands-answer : (told : Option (List (List ℕ))) (held : ℕ) (states : List StateSeen) (chunks : List DataChunk) (f : FrameData) → q.keeps_order ≡ false → HoldsStates q told held states
      → IfSome told (λ frames. f ≡ summed q states) → StandsFor q told chunks → f ≡ answer chunks q 1
  stands-answer None held states chunks f unordered h e s = absurd s
  stands-answer (Some frames) held states chunks f unordered h e s = e ∙ frames-answer q states chunks unordered h.in_turn (subst (λ (l : List (List ℕ)). Sums q l chunks) h.texts s)

  -- the frame of all states that were read
  pub regrouped-read : (told : Option (List (List ℕ))) (held : ℕ) (read files : List StateSeen) (keep : List ℕ) (p : QueryTree) (f : FrameData) → HoldsStates q told held read
      → f ≡ regrouped p files keep → p ≡ q → files ≡ read → keep ≡ all_keys q → IsRegrouped q told held f
  regrouped-read told held read files keep p f h g same these by = record {
    states = read;
    holds = h;
    frame_is = g ∙ ap (λ (x : QueryTree). regrouped x files keep) same ∙ ap (λ (l : List StateSeen). regrouped q l keep) these ∙ ap (regrouped q read) by;
  }

  -- and its rows under the query's slice
  pub summed-read : (told : Option (List (List ℕ))) (held : ℕ) (slice : Option (ℕ × ℕ)) (f g : FrameData) → IsRegrouped q told held f → slice ≡ q.slice → g ≡ sliced_rows slice f
      → IsSummed q told held g
  summed-read told held slice f g r same by = record {
    states = r.states;
    holds = r.holds;
    frame_is = by ∙ ap (λ (s : Option (ℕ × ℕ)). sliced_rows s f) same ∙ ap (sliced_rows q.slice) r.frame_is;
  }

  -- the frame of all states that were read, where they are those held
  pub regrouped-told : (told : Option (List (List ℕ))) (states read files : List StateSeen) (keep : List ℕ) (p : QueryTree) (f : FrameData) → IfSome told (λ frames. read ≡ states)
      → f ≡ regrouped p files keep → p ≡ q → files ≡ read → keep ≡ all_keys q → IfSome told (λ frames. f ≡ regrouped q states (all_keys q))
  regrouped-told None states read files keep p f e g same these by = tt
  regrouped-told (Some frames) states read files keep p f e g same these by =
      g ∙ ap (λ (x : QueryTree). regrouped x files keep) same ∙ ap (λ (l : List StateSeen). regrouped q l keep) (these ∙ e) ∙ ap (regrouped q states) by

  -- and its rows under the query's slice
  pub summed-told : (told : Option (List (List ℕ))) (states : List StateSeen) (slice : Option (ℕ × ℕ)) (f g : FrameData) → IfSome told (λ frames. f ≡ regrouped q states (all_keys q))
      → slice ≡ q.slice → g ≡ sliced_rows slice f → IfSome told (λ frames. g ≡ summed q states)
  summed-told None states slice f g e same by = tt
  summed-told (Some frames) states slice f g e same by = by ∙ ap (λ (s : Option (ℕ × ℕ)). sliced_rows s f) same ∙ ap (sliced_rows q.slice) e

  -- ---- all frames as one

  -- the frame of some states, merged
  frame-merged : (into : Option (List (List ℕ))) (states : List StateSeen) → (length states ≡ 0 → ⊥) → told_merged q into states ≡ with_frame into (state_text q (merged_states q states))
  frame-merged into [] some = absurd (some refl)
  frame-merged into (s ∷ states) some = refl

  -- the frame of all states that were read, merged
  pub merged-read : (told into now : Option (List (List ℕ))) (held : ℕ) (files : List StateSeen) (text : List ℕ) → HoldsStates q told held files → (length files ≡ 0 → ⊥)
      → text ≡ state_text q (merged_states q files) → now ≡ with_frame into text → IsMerged q told held into now
  merged-read told into now held files text h some t put = record {
    states = files;
    holds = h;
    now_is = put ∙ ap (with_frame into) t ∙ sym (frame-merged into files some);
  }

  -- and none, where there was none
  pub merged-none : (told into now : Option (List (List ℕ))) (held : ℕ) (files : List StateSeen) → HoldsStates q told held files → length files ≡ 0 → now ≡ into → IsMerged q told held into now
  merged-none told into now held [] h none same = record { states = []; holds = h; now_is = same }
  merged-none told into now held (s ∷ files) h none same = absurd (omega (arith, none))

  -- where they are those held
  pub merged-told : (told into now : Option (List (List ℕ))) (states files : List StateSeen) (text : List ℕ) → IfSome told (λ frames. files ≡ states) → (length files ≡ 0 → ⊥)
      → text ≡ state_text q (merged_states q files) → now ≡ with_frame into text → IfSome told (λ frames. now ≡ told_merged q into states)
  merged-told None into now states files text e some t put = tt
  merged-told (Some frames) into now states files text e some t put =
      put ∙ ap (with_frame into) (t ∙ ap (λ (l : List StateSeen). state_text q (merged_states q l)) e)
      ∙ sym (frame-merged into states (λ n. some (ap (λ (l : List StateSeen). length l) e ∙ n)))

  -- an empty store tells no frame
  empty-told : (told : Option (List (List ℕ))) → HasHeld told 0 → IfSome told (λ frames. frames ≡ [])
  empty-told None h = tt
  empty-told (Some []) h = refl
  empty-told (Some (f ∷ frames)) h = absurd (omega (arith, h))

  -- a store that held no frame stands for the same chunks with that of the states merged
  pub stands-merged : (told into now : Option (List (List ℕ))) (held : ℕ) (states : List StateSeen) (chunks : List DataChunk) → HoldsStates q told held states → HasHeld into 0
      → IfSome told (λ frames. now ≡ told_merged q into states) → StandsFor q told chunks → IfSome now (λ frames. StandsFor q now chunks)
  stands-merged None into now held states chunks h empty e s = absurd s
  stands-merged (Some frames) into now held states chunks h empty e s =
      by states into e h.in_turn (subst (λ (l : List (List ℕ)). Sums q l chunks) h.texts s) (empty-told into empty)
    where
      by : (states : List StateSeen) (into : Option (List (List ℕ))) → now ≡ told_merged q into states → AreInTurn q states → Sums q (texts_of q states) chunks → IfSome into (λ frames. frames ≡ [])
          → IfSome now (λ frames. StandsFor q now chunks)
      by [] None e turn sums none = subst (λ (n : Option (List (List ℕ))). IfSome n (λ frames. StandsFor q n chunks)) (sym e) tt
      by [] (Some l) e turn sums none = subst (λ (n : Option (List (List ℕ))). IfSome n (λ frames. StandsFor q n chunks)) (sym e) (subst (λ (l : List (List ℕ)). Sums q l chunks) (sym none) sums)
      by (t ∷ others) None e turn sums none = subst (λ (n : Option (List (List ℕ))). IfSome n (λ frames. StandsFor q n chunks)) (sym e) tt
      by (t ∷ others) (Some l) e turn sums none =
          subst (λ (n : Option (List (List ℕ))). IfSome n (λ frames. StandsFor q n chunks)) (sym e)
          (subst (λ (l : List (List ℕ)). Sums q (l ++ state_text q (merged_states q (t ∷ others)) ∷ []) chunks) (sym none)
          (sums-merged q (t ∷ others) chunks turn sums (omega arith)))
