-- Groups that give a frame, as they lie.
use Rattle.std.proofs.Common.{◌≡◌, ◌∙◌, ℕ, ◌<◌, List, [], ◌∷◌, length, map, drop, get_or, refl, sym, ap, subst}
use Rattle.std.specs.List.{All}
use Rattle.std.proofs.lemmas.List.Elements.{All-head, All-tail}
use Rattle.std.proofs.lemmas.Simd.{map-map}
use Rattle.pipe_kinds.specs.ManyStates.{states_in}
use Rattle.pipe_running.specs.declared.function.AggregateFunction.{AggregateFunction}
use Rattle.pipe_running.specs.GroupStates.{given_all}
use Rattle.pipe_spill.specs.SpillRow.{IsKey}
use Rattle.pipe_groups.specs.declared.groups.Groups.TheInside.{Inside}
use Rattle.pipe_groups.specs.Given.{CanGive}
use Rattle.pipe_groups.specs.Groups.{Group, group_of, group_keys, Seen}
use Rattle.pipe_groups.specs.Layout.{IsLaidOut, view_of}
use Rattle.pipe_groups.specs.Shape.{IsShape}
use Rattle.pipe_groups.proofs.FrameFacts.{all-mapped, given-long, givens}
use Rattle.pipe_groups.proofs.PlaceSteps.{states-are, states-within}

module _ (a : Inside) (t : Seen) (view_is : view_of a ≡ t) (laid : IsLaidOut a) where
  pub shape-is : IsShape t.shape
  shape-is = subst (λ (s : Seen). IsShape s.shape) view_is laid.shape

  -- the running aggregates of a group
  pub states-of : (i : ℕ) → i < length t.groups → (group_of t.groups i).states ≡ states_in a.states i
  states-of i lt = sym (states-are a t view_is laid i lt)

  module _ (taken : List ℕ) (within : All (λ i. i < length t.groups) taken) (gives : All (CanGive t.shape) (map (group_of t.groups) taken)) where
    gives-each : All (λ i. CanGive t.shape (group_of t.groups i)) taken
    gives-each = all-mapped (CanGive t.shape) (group_of t.groups) taken gives

    pub keys-each : All (λ i. IsKey t.shape.key_types (group_of t.groups i).key) taken
    keys-each = λ k d lt. (gives-each k d lt).key

    pub all-within : All (λ i. i < length a.states.groups) taken
    all-within = λ k d lt. states-within a t view_is laid (get_or taken k d) (within k d lt)

    pub all-long : (m : ℕ) → m ≡ length (drop (length t.shape.key_types) t.shape.fields) → All (λ i. length (given_all (states_in a.states i)) ≡ m) taken
    all-long m f = λ k d lt.
        let i : ℕ = get_or taken k d in
        ap (λ (s : List AggregateFunction). length (given_all s)) (sym (states-of i (within k d lt))) ∙ given-long t.shape shape-is (group_of t.groups i) (gives-each k d lt) ∙ sym f

    -- what they give
    pub all-give : map (λ i. given_all (states_in a.states i)) taken ≡ map (λ i. given_all (group_of t.groups i).states) taken
    all-give = by taken within where
      by : (xs : List ℕ) → All (λ i. i < length t.groups) xs → map (λ i. given_all (states_in a.states i)) xs ≡ map (λ i. given_all (group_of t.groups i).states) xs
      by [] h = refl
      by (i ∷ is) h =
          rw (sym (states-of i (All-head (λ i. i < length t.groups) i is h)), by is (All-tail (λ i. i < length t.groups) i is h)) refl

  -- what some groups give
  pub givens-taken : (taken : List ℕ) → map (λ i. given_all (group_of t.groups i).states) taken ≡ givens (map (group_of t.groups) taken)
  givens-taken taken = sym (map-map (λ (g : Group). given_all g.states) (group_of t.groups) taken)

  -- the keys of some groups
  pub keys-taken : (taken : List ℕ) → map (λ i. (group_of t.groups i).key) taken ≡ group_keys (map (group_of t.groups) taken)
  keys-taken taken = sym (map-map (λ (g : Group). g.key) (group_of t.groups) taken)
