-- States in turn: one more, and the first of them.
use Rattle.std.proofs.Common.{◌≡◌, ◌∙◌, ℕ, ◌+◌, ◌<◌, ◌≤◌, ◌^◌, List, [], ◌∷◌, ◌++◌, length, All, refl, sym, ap, arith, lit<}
use Rattle.std.specs.List.{sum_by}
use Rattle.std.proofs.lemmas.List.Elements.{All-cons, All-head, All-nil, All-push, All-tail}
use Rattle.std.proofs.lemmas.List.Sums.{sum_by-append, sum_by-cons}
use Rattle.pipe_model.specs.Query.{QueryTree}
use Rattle.pipe_states.specs.Files.{IsFairStateOf}
use Rattle.pipe_states.specs.Regrouped.{end_of}
use Rattle.pipe_states.specs.States.{StateSeen}
use Rattle.pipe_states.specs.Together.{FollowOn, total_rows}
use Rattle.pipe_summary.specs.InTurn.{AreInTurn, FollowFrom}

-- of how many rows a state is
abbrev pub row_count : StateSeen → ℕ
row_count s = sum_by (λ r. r.rows) s.rows

-- where states end that begin at a position
abbrev pub reach : ℕ → List StateSeen → ℕ
reach first [] = first
reach first (s ∷ states) = reach s.end states

-- from 0 on that is where they end
pub reach-end : (states : List StateSeen) → reach 0 states ≡ end_of states
reach-end [] = refl
reach-end (s ∷ states) = behind s states where
  behind : (s : StateSeen) (states : List StateSeen) → reach s.end states ≡ end_of (s ∷ states)
  behind s [] = refl
  behind s (t ∷ others) = behind t others

-- one more follows where it begins there
pub follow-more : (first : ℕ) (states : List StateSeen) (s : StateSeen) → FollowFrom first states → s.first ≡ reach first states → s.first < s.end → FollowFrom first (states ++ s ∷ [])
follow-more first [] s f e lt = (e, lt, tt)
follow-more first (t ∷ states) s f e lt = (f.0, f.1, follow-more t.end states s f.2 e lt)

-- the last of them does
pub follow-last : (first : ℕ) (states : List StateSeen) (s : StateSeen) → FollowFrom first (states ++ s ∷ []) → (s.first ≡ reach first states) × (s.first < s.end)
follow-last first [] s f = (f.0, f.1)
follow-last first (t ∷ states) s f = follow-last t.end states s f.2

-- and so do those in front
pub follow-front : (first : ℕ) (states others : List StateSeen) → FollowFrom first (states ++ others) → FollowFrom first states
follow-front first [] others f = tt
follow-front first (t ∷ states) others f = (f.0, f.1, follow-front t.end states others f.2)

-- where states end one more ends
pub reach-more : (first : ℕ) (states : List StateSeen) (s : StateSeen) → reach first (states ++ s ∷ []) ≡ s.end
reach-more first [] s = refl
reach-more first (t ∷ states) s = reach-more t.end states s

-- states with one more end where it does
pub end-more : (states : List StateSeen) (s : StateSeen) → end_of (states ++ s ∷ []) ≡ s.end
end-more states s = sym (reach-end (states ++ s ∷ [])) ∙ reach-more 0 states s

-- they are of its rows more
pub total-more : (states : List StateSeen) (s : StateSeen) → total_rows (states ++ s ∷ []) ≡ total_rows states + row_count s
total-more states s = sum_by-append row_count states (s ∷ []) ∙ ap (λ (n : ℕ). total_rows states + n) (sum_by-cons row_count s [] ∙ plus (row_count s)) where
  plus : (n : ℕ) → n + 0 ≡ n
  plus n = omega arith

-- those in front are of no more rows
total-front : (states others : List StateSeen) → total_rows states ≤ total_rows (states ++ others)
total-front states others = let joined : total_rows (states ++ others) ≡ total_rows states + total_rows others = sum_by-append row_count states others in omega arith

-- of all elements, those in front
pub all-front : {X : Type 0} (P : X → Type 0) (xs ys : List X) → All P (xs ++ ys) → All P xs
all-front P [] ys h = All-nil P
all-front P (x ∷ xs) ys h = All-cons P x xs (All-head P x (xs ++ ys) h) (all-front P xs ys (All-tail P x (xs ++ ys) h))

-- of all elements, the last
pub all-last : {X : Type 0} (P : X → Type 0) (xs : List X) (x : X) → All P (xs ++ x ∷ []) → P x
all-last P [] x h = All-head P x [] h
all-last P (y ∷ xs) x h = all-last P xs x (All-tail P y (xs ++ x ∷ []) h)

module _ (q : QueryTree) where
  -- no states are in turn
  pub none-in_turn : AreInTurn q []
  none-in_turn = record { fair = All-nil (IsFairStateOf q); follow = tt; few = lit< tt }

  -- one more is in turn that begins where the others end, of few rows with them
  pub more-in_turn : (states : List StateSeen) (s : StateSeen) → AreInTurn q states → IsFairStateOf q s → s.first ≡ end_of states → s.first < s.end
      → total_rows states + row_count s < 2 ^ 32 → AreInTurn q (states ++ s ∷ [])
  more-in_turn states s h fair begins some few = record {
    fair = All-push (IsFairStateOf q) states s h.fair fair;
    follow = follow-more 0 states s h.follow (begins ∙ sym (reach-end states)) some;
    few = let more = total-more states s in omega (arith, more, few);
  }

  -- what is known of one that is in turn behind others
  pub record IsNext (states : List StateSeen) (s : StateSeen) : Type 0 where
    pub fair : IsFairStateOf q s
    pub begins : s.first ≡ end_of states
    pub some : s.first < s.end
    pub few : total_rows states + row_count s < 2 ^ 32

  pub next-in_turn : (states : List StateSeen) (s : StateSeen) → AreInTurn q (states ++ s ∷ []) → IsNext states s
  next-in_turn states s h =
      let last = follow-last 0 states s h.follow in
      let more = total-more states s in
      record {
        fair = all-last (IsFairStateOf q) states s h.fair;
        begins = last.0 ∙ reach-end states;
        some = last.1;
        few = omega (arith, more, h.few);
      }

  -- those in front are in turn
  pub front-in_turn : (states others : List StateSeen) → AreInTurn q (states ++ others) → AreInTurn q states
  front-in_turn states others h = record {
    fair = all-front (IsFairStateOf q) states others h.fair;
    follow = follow-front 0 states others h.follow;
    few = let less = total-front states others in omega (arith, less, h.few);
  }

  -- a state that doesn't begin where others end, or has no chunk, isn't in turn behind them
  pub not-next : (states : List StateSeen) (s : StateSeen) → (s.first ≡ end_of states → s.first ≡ s.end) → AreInTurn q (states ++ s ∷ []) → ⊥
  not-next states s h t = let n = next-in_turn states s t in let same : s.first ≡ s.end = h n.begins in let some : s.first < s.end = n.some in omega arith

  -- nor one with which the rows are too many
  pub too-many : (states : List StateSeen) (s : StateSeen) → 2 ^ 32 ≤ total_rows states + row_count s → AreInTurn q (states ++ s ∷ []) → ⊥
  too-many states s many t = let n = next-in_turn states s t in let few : total_rows states + row_count s < 2 ^ 32 = n.few in omega arith

-- states that follow from a position on follow one another
pub follow-on : (first : ℕ) (states : List StateSeen) → FollowFrom first states → FollowOn states
follow-on first [] f = tt
follow-on first (s ∷ []) f = tt
follow-on first (s ∷ t ∷ others) f = (f.2.0, follow-on s.end (t ∷ others) f.2)

-- each state has a chunk, so they are no more than their chunks
pub count-within : (first : ℕ) (states : List StateSeen) → FollowFrom first states → first + length states ≤ reach first states
count-within first [] f = omega arith
count-within first (s ∷ states) f =
    let rest = count-within s.end states f.2 in
    let begins : s.first ≡ first = f.0 in
    let some : s.first < s.end = f.1 in
    omega (arith, rest)

-- states in turn end at a position
pub end-low : (q : QueryTree) (states : List StateSeen) → AreInTurn q states → end_of states < 2 ^ 32
end-low q states h = by states h.fair where
  by : (states : List StateSeen) → All (IsFairStateOf q) states → end_of states < 2 ^ 32
  by [] f = lit< tt
  by (s ∷ []) f = (All-head (IsFairStateOf q) s [] f).fair.end
  by (s ∷ t ∷ others) f = by (t ∷ others) (All-tail (IsFairStateOf q) s (t ∷ others) f)
