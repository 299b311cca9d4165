-- States that are regrouped or merged together.
use Rattle.std.specs.Prelude.{◌≡◌, ◌≤◌, ◌<◌, ℕ, Bool, true, nat_eq, List, [], ◌∷◌, length, take, sum_by, slice_get, All, Some}
use Rattle.std.specs.List.{IsDistinct, list_any}
use Rattle.pipe_model.specs.Query.{QueryTree}
use Rattle.pipe_states.specs.Ranges.{share_number}
use Rattle.pipe_states.specs.States.{StateSeen}

-- positions of keys to keep: one at least, each of a key, none twice
pub record AreKept (q : QueryTree) (keep : List ℕ) : Type 0 where
  pub some : 1 ≤ length keep
  pub keys : All (λ i. i < length q.keys) keep
  pub distinct : IsDistinct nat_eq keep

-- of how many rows states are
abbrev pub total_rows : List StateSeen → ℕ
total_rows states = sum_by (λ s. sum_by (λ r. r.rows) s.rows) states

-- whether the ranges of two states share a number
abbrev pub do_overlap : StateSeen → StateSeen → Bool
do_overlap s t = share_number s.first s.end t.first t.end

-- no two ranges of states share a number
abbrev pub NoneOverlap : List StateSeen → Type 0
NoneOverlap states = IsDistinct do_overlap states

-- the state at a position is the first whose range shares a number with that of one before it
pub record IsFirstOverlap (states : List StateSeen) (i : ℕ) : Type 0 where
  pub state : StateSeen
  pub at : slice_get states i ≡ Some state
  pub before : NoneOverlap (take i states)
  pub overlaps : list_any (λ s. do_overlap s state) (take i states) ≡ true

-- each state begins where the one before ends
abbrev pub FollowOn : List StateSeen → Type 0
FollowOn [] = Unit {0}
FollowOn (s ∷ []) = Unit {0}
FollowOn (s ∷ t ∷ others) = (t.first ≡ s.end) × FollowOn (t ∷ others)
