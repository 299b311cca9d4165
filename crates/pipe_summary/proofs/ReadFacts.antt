-- States that are read frame by frame: one more of them, all, and a frame that is damaged.
use Rattle.std.proofs.Common.{◌≡◌, ◌∙◌, ℕ, ◌+◌, List, [], ◌∷◌, ◌++◌, length, take, Option, Some, None, IfSome, Result, Err, refl, sym, ap, subst, arith}
use Rattle.std.specs.List.{slice_get}
use Rattle.std.proofs.Math.Seq.{take-length}
use Rattle.pipe_aggs.specs.QueryTrees.{query_tree}
use Rattle.pipe_aggs.specs.declared.query.Query.{Query}
use Rattle.pipe_model.specs.Query.{QueryTree}
use Rattle.pipe_spill.specs.Store.{HasHeld, IsFrameAt}
use Rattle.pipe_states.specs.Files.{IsFairStateOf}
use Rattle.pipe_states.specs.States.{StateSeen}
use Rattle.pipe_states.specs.StateText.{state_text}
use Rattle.pipe_summary.specs.Held.{AreFront, IsDamagedAt, IsDamagedNext}
use Rattle.pipe_summary.specs.InTurn.{AreInTurn, HoldsStates, IsFirstDamaged}
use Rattle.pipe_summary.specs.declared.read_error.ReadError.{ReadError}
use Rattle.pipe_summary.specs.declared.read_error.ReadError.TheVariants as read_error
use Rattle.pipe_summary.proofs.TextLists.{none-damaged, one_list, one_state, take-one, texts-more}
use Rattle.pipe_summary.proofs.TurnFacts.{next-in_turn}

-- the length of a list with one more
length-more : {X : Type 0} (xs : List X) (x : X) → length (xs ++ x ∷ []) ≡ length xs + 1
length-more [] x = refl
length-more (y ∷ xs) x = let e = length-more xs x in omega (arith, e)

-- so many frames are held with one more
pub count-more : {X : Type 0} (n : ℕ) (xs : List X) (x : X) → n ≡ length xs → n + 1 ≡ length (xs ++ x ∷ [])
count-more n xs x e = let more = length-more xs x in omega (arith, e, more)

-- the number in an answer that a frame is damaged
pub number-is : {T : Type 0} (m n : ℕ) → ◌≡◌ {A = Result T ReadError} (Err (read_error.Damaged m)) (Err (read_error.Damaged n)) → m ≡ n
number-is {T = T} m n e = ap number e where
  number : Result T ReadError → ℕ
  number (Err (read_error.Damaged k)) = k
  number r = 0

module _ (q : QueryTree) where
  -- no frame is the text of no state
  pub front-none : (told : Option (List (List ℕ))) → AreFront q told []
  front-none None = tt
  front-none (Some frames) = refl

  -- one more frame is that of one more state
  pub front-more : (told : Option (List (List ℕ))) (states : List StateSeen) (s : StateSeen) (n : ℕ) → n ≡ length states → AreFront q told states → IsFrameAt told n (state_text q s) → AreFront q told (states ++ s ∷ [])
  front-more None states s n e f at = tt
  front-more (Some frames) states s n e f at =
      ap (λ (m : ℕ). take m frames) (length-more states s)
      ∙ take-one frames (length states) (state_text q s) (ap (slice_get frames) (sym e) ∙ at)
      ∙ ap (λ (l : List (List ℕ)). l ++ state_text q s ∷ []) f
      ∙ sym (texts-more q states s)

  -- all frames are those of states
  pub front-all : (told : Option (List (List ℕ))) (held : ℕ) (states : List StateSeen) → AreInTurn q states → HasHeld told held → held ≡ length states → AreFront q told states → HoldsStates q told held states
  front-all None held states turn h e f = record { in_turn = turn; count = e; texts = tt }
  front-all (Some frames) held states turn h e f = record {
    in_turn = turn;
    count = e;
    texts = sym (take-length frames) ∙ ap (λ (n : ℕ). take n frames) (h ∙ e) ∙ f;
  }

  -- a frame that is the text of no fair state is damaged
  pub next-none : (told : Option (List (List ℕ))) (states : List StateSeen) (at n : ℕ) → at ≡ length states → IsDamagedAt q told at n → IsDamagedNext q told states n
  next-none None states at n e d = record { number = d.number ∙ e; none = tt }
  next-none (Some frames) states at n e d = record {
    number = d.number ∙ e;
    none = (d.none.0, ap (slice_get frames) d.number ∙ d.none.1, λ s text turn. d.none.2 s (next-in_turn q states s turn).fair text);
  }

  -- so is one that is the text of a state that isn't in turn
  pub next-late : (told : Option (List (List ℕ))) (states : List StateSeen) (s : StateSeen) (n : ℕ) → n ≡ length states → IsFairStateOf q s → IsFrameAt told n (state_text q s)
      → (AreInTurn q (states ++ s ∷ []) → ⊥) → IsDamagedNext q told states n
  next-late None states s n e fair at late = record { number = e; none = tt }
  next-late (Some frames) states s n e fair at late = record {
    number = e;
    none = (state_text q s, at, λ t text turn. late (subst (λ (u : StateSeen). AreInTurn q (states ++ u ∷ [])) (one_state q t s (next-in_turn q states t turn).fair fair text) turn));
  }

  -- behind the texts of states in turn it is the first
  pub first-damaged : (told : Option (List (List ℕ))) (states : List StateSeen) (n : ℕ) → AreInTurn q states → AreFront q told states → IsDamagedNext q told states n → IfSome told (λ frames. IsFirstDamaged q frames n)
  first-damaged None states n turn f d = tt
  first-damaged (Some frames) states n turn f d = record {
    states = states;
    in_turn = turn;
    before = ap (λ (m : ℕ). take m frames) d.number ∙ f;
    bytes = d.none.0;
    at = d.none.1;
    none = d.none.2;
  }

  -- a store that tells the texts of states in turn tells no frame that is damaged
  pub not-told : (told : Option (List (List ℕ))) (held : ℕ) (states : List StateSeen) (n : ℕ) → HoldsStates q told held states → IfSome told (λ frames. IsFirstDamaged q frames n) → told ≡ None
  not-told None held states n h d = refl
  not-told (Some frames) held states n h d = absurd (none-damaged q states n h.in_turn (subst (λ (l : List (List ℕ)). IsFirstDamaged q l n) h.texts d))

  -- a store that tells its frames holds one list of states
  pub same-states : (told : Option (List (List ℕ))) (held : ℕ) (a b : List StateSeen) → HoldsStates q told held a → HoldsStates q told held b → IfSome told (λ frames. a ≡ b)
  same-states None held a b h k = tt
  same-states (Some frames) held a b h k = one_list q a b h.in_turn.fair k.in_turn.fair (sym h.texts ∙ k.texts)

  -- ---- a loop over the frames

  -- one more frame was read, of a store that stays as it was
  pub read-more : (told now : Option (List (List ℕ))) (old new : List StateSeen) (s : StateSeen) (number : ℕ) → number ≡ length old → AreFront q told old → now ≡ told
      → IsFrameAt now number (state_text q s) → new ≡ old ++ s ∷ [] → (number + 1 ≡ length new) × AreFront q told new
  read-more told now old new s number e f same at grown = (
    count-more number old s e ∙ ap (λ (l : List StateSeen). length l) (sym grown),
    subst (AreFront q told) (sym grown) (front-more told old s number e f (subst (λ (t : Option (List (List ℕ))). IsFrameAt t number (state_text q s)) same at)),
  )

  -- the next is damaged
  pub read-damaged : (told now : Option (List (List ℕ))) (states : List StateSeen) (n : ℕ) → AreInTurn q states → AreFront q told states → now ≡ told → IsDamagedNext q now states n
      → IfSome told (λ frames. IsFirstDamaged q frames n)
  read-damaged told now states n turn f same d = first-damaged told states n turn f (subst (λ (t : Option (List (List ℕ))). IsDamagedNext q t states n) same d)

  -- all were read
  pub read-all : (told now : Option (List (List ℕ))) (held number : ℕ) (states : List StateSeen) → AreInTurn q states → AreFront q told states → now ≡ told → HasHeld now held
      → number ≡ length states → number ≡ held → HoldsStates q now held states
  read-all told now held number states turn f same h e stop =
      front-all now held states turn h (sym stop ∙ e) (subst (λ (t : Option (List (List ℕ))). AreFront q t states) (sym same) f)

-- states that were read again of a store are held
pub held-again : (p r : Query) (told now : Option (List (List ℕ))) (held count : ℕ) (read : List StateSeen) → r ≡ p → now ≡ told → count ≡ held
    → HoldsStates (query_tree r) now count read → HoldsStates (query_tree p) told held read
held-again p r told now held count read e f n k =
    subst (λ (v : Query). HoldsStates (query_tree v) told held read) e
    (subst (λ (t : Option (List (List ℕ))). HoldsStates (query_tree r) t held read) f
    (subst (λ (m : ℕ). HoldsStates (query_tree r) now m read) n k))

-- where the store tells its frames, they are what it held
pub again : (p r : Query) (told now : Option (List (List ℕ))) (held count : ℕ) (states read : List StateSeen) → HoldsStates (query_tree p) told held states → r ≡ p → now ≡ told → count ≡ held
    → HoldsStates (query_tree r) now count read → IfSome told (λ frames. read ≡ states)
again p r told now held count states read h e f n k = same-states (query_tree p) told held read states (held-again p r told now held count read e f n k) h

-- and none of its frames is damaged
pub again-sound : (p r : Query) (told : Option (List (List ℕ))) (held : ℕ) (states : List StateSeen) (n : ℕ) → HoldsStates (query_tree p) told held states → r ≡ p
    → IfSome told (λ frames. IsFirstDamaged (query_tree r) frames n) → told ≡ None
again-sound p r told held states n h e d =
    not-told (query_tree p) told held states n h (subst (λ (v : Query). IfSome told (λ frames. IsFirstDamaged (query_tree v) frames n)) e d)
