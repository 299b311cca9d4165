-- Lists of states and their texts: one list has the texts, and the first frame that tells none is one.
use Rattle.std.proofs.Common.{◌≡◌, ◌∙◌, ℕ, zero, suc, ◌+◌, ◌<◌, ◌≤◌, List, [], ◌∷◌, ◌++◌, length, take, get_or, drop, All, ◌⊎◌, inl, inr, Option, Some, None, refl, sym, ap, subst, arith}
use Rattle.std.specs.List.{slice_get}
use Rattle.std.specs.List.{take-map}
use Rattle.std.proofs.Math.Seq.{take-length}
use Rattle.std.proofs.lemmas.Bool.{cases_lt}
use Rattle.std.proofs.lemmas.List.{map-append, take-append-drop, take-take, take_more}
use Rattle.std.proofs.lemmas.List.Elements.{All-head, All-tail}
use Rattle.std.proofs.lemmas.Option.{get_or_from_slice_get, slice_get_within}
use Rattle.pipe_model.specs.Query.{QueryTree}
use Rattle.pipe_states.specs.Files.{IsFairStateOf}
use Rattle.pipe_states.specs.States.{StateSeen}
use Rattle.pipe_states.specs.StateText.{state_text}
use Rattle.pipe_states.proofs.TextFacts.{state_once}
use Rattle.pipe_summary.specs.InTurn.{AreInTurn, IsFirstDamaged}
use Rattle.pipe_summary.specs.Sums.{texts_of}
use Rattle.pipe_summary.proofs.TurnFacts.{front-in_turn}

-- the heads and the rests of equal lists
pub head-same : {X : Type 0} (x y : X) (xs ys : List X) → x ∷ xs ≡ y ∷ ys → x ≡ y
head-same x y xs ys e = ap (λ (l : List _). get_or l 0 x) e

pub tail-same : {X : Type 0} (x y : X) (xs ys : List X) → x ∷ xs ≡ y ∷ ys → xs ≡ ys
tail-same {X = X} x y xs ys e = ap rest e where
  rest : List X → List X
  rest [] = []
  rest (z ∷ zs) = zs

-- an element more of a list, as it stands there
pub take-one : {X : Type 0} (xs : List X) (i : ℕ) (x : X) → slice_get xs i ≡ Some x → take (i + 1) xs ≡ take i xs ++ x ∷ []
take-one xs i x at = take_more xs i x (slice_get_within xs i x at) ∙ ap (λ (y : _). take i xs ++ y ∷ []) (get_or_from_slice_get xs i x x at)

-- an element in front
get-take : {X : Type 0} (xs : List X) (n m : ℕ) → n < m → slice_get (take m xs) n ≡ slice_get xs n
get-take xs n zero lt = absurd (omega (arith, lt))
get-take [] n (suc m) lt = refl
get-take (x ∷ xs) zero (suc m) lt = refl
get-take (x ∷ xs) (suc n) (suc m) lt = get-take xs n m (omega (arith, lt))

module _ (q : QueryTree) where
  -- fair states of equal texts are one
  pub one_state : (s t : StateSeen) → IsFairStateOf q s → IsFairStateOf q t → state_text q s ≡ state_text q t → s ≡ t
  one_state s t f g e = state_once q s t f.fair g.fair f.of_query g.of_query e

  -- and so are lists of them
  pub one_list : (s t : List StateSeen) → All (IsFairStateOf q) s → All (IsFairStateOf q) t → texts_of q s ≡ texts_of q t → s ≡ t
  one_list [] [] f g e = refl
  one_list [] (y ∷ t) f g e = let no : 0 ≡ suc (length (texts_of q t)) = ap (λ (l : List (List ℕ)). length l) e in absurd (omega (arith, no))
  one_list (x ∷ s) [] f g e = let no : suc (length (texts_of q s)) ≡ 0 = ap (λ (l : List (List ℕ)). length l) e in absurd (omega (arith, no))
  one_list (x ∷ s) (y ∷ t) f g e =
      λ i. one_state x y (All-head (IsFairStateOf q) x s f) (All-head (IsFairStateOf q) y t g) (head-same (state_text q x) (state_text q y) (texts_of q s) (texts_of q t) e) i
      ∷ one_list s t (All-tail (IsFairStateOf q) x s f) (All-tail (IsFairStateOf q) y t g) (tail-same (state_text q x) (state_text q y) (texts_of q s) (texts_of q t) e) i

  -- the texts of states and one more
  pub texts-more : (states : List StateSeen) (s : StateSeen) → texts_of q (states ++ s ∷ []) ≡ texts_of q states ++ state_text q s ∷ []
  texts-more states s = map-append (state_text q) states (s ∷ [])

  -- ---- the first frame that is damaged

  -- the text at a number is that of the state there
  text-at : (states : List StateSeen) (n : ℕ) (bytes : List ℕ) → slice_get (texts_of q states) n ≡ Some bytes → (s : StateSeen) × (slice_get states n ≡ Some s) × (state_text q s ≡ bytes)
  text-at [] n bytes at = absurd (let no : None ≡ Some bytes = at in cc)
  text-at (s ∷ states) zero bytes at = (s, refl, some-is (state_text q s) bytes at) where
    some-is : (x y : List ℕ) → Some x ≡ Some y → x ≡ y
    some-is x y e = ap (λ (o : Option (List ℕ)). from o x) e where
      from : Option (List ℕ) → List ℕ → List ℕ
      from None d = d
      from (Some y) d = y
  text-at (s ∷ states) (suc n) bytes at = text-at states n bytes at

  -- the first so many of states in turn are in turn
  front-turn : (n : ℕ) (states : List StateSeen) → AreInTurn q states → AreInTurn q (take n states)
  front-turn n states h = front-in_turn q (take n states) (drop n states) (subst (AreInTurn q) (sym (take-append-drop n states)) h)

  -- where a front of frames are the texts of states in turn, none of these is the first damaged
  pub none-before : (frames : List (List ℕ)) (n m : ℕ) (states : List StateSeen) → AreInTurn q states → take m frames ≡ texts_of q states → n < m → IsFirstDamaged q frames n → ⊥
  none-before frames n m states h e lt d =
      let within : n < length frames = slice_get_within frames n d.bytes d.at in
      let here : slice_get (texts_of q states) n ≡ Some d.bytes = ap (λ (l : List (List ℕ)). slice_get l n) (sym e) ∙ get-take frames n m lt ∙ d.at in
      let found = text-at states n d.bytes here in
      let same : take n states ≡ d.states =
      one_list (take n states) d.states (front-turn n states h).fair d.in_turn.fair
      (sym (take-map (state_text q) n states) ∙ ap (take n) (sym e) ∙ take-take n m frames (omega arith) ∙ d.before) in
      let more : take (n + 1) states ≡ d.states ++ found.0 ∷ [] = take-one states n found.0 found.1 ∙ ap (λ (l : List StateSeen). l ++ found.0 ∷ []) same in
      d.none found.0 found.2 (subst (AreInTurn q) more (front-turn (n + 1) states h))

  -- one frame at most is the first damaged
  pub one-damaged : (frames : List (List ℕ)) (m n : ℕ) → IsFirstDamaged q frames m → IsFirstDamaged q frames n → m ≡ n
  one-damaged frames m n d e = by (cases_lt m n) where
    by : (m < n) ⊎ (n ≤ m) → m ≡ n
    by (inl lt) = absurd (none-before frames m n e.states e.in_turn e.before lt d)
    by (inr le) = by_eq (cases_lt n m) where
      by_eq : (n < m) ⊎ (m ≤ n) → m ≡ n
      by_eq (inl lt) = absurd (none-before frames n m d.states d.in_turn d.before lt e)
      by_eq (inr ge) = omega (arith, le, ge)

  -- none is where frames are the texts of states in turn
  pub none-damaged : (states : List StateSeen) (n : ℕ) → AreInTurn q states → IsFirstDamaged q (texts_of q states) n → ⊥
  none-damaged states n h d =
      let within : n < length (texts_of q states) = slice_get_within (texts_of q states) n d.bytes d.at in
      none-before (texts_of q states) n (length (texts_of q states)) states h (take-length (texts_of q states)) within d
