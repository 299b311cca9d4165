-- The one key of a row: its value, and where its group is.
use Rattle.std.proofs.Common.{◌≡◌, ◌∙◌, ℕ, List, [], ◌∷◌, ◌++◌, length, refl, sym, ap, subst, arith}
use Rattle.std.proofs.lemmas.List.{get_or_push, length_push}
use Rattle.pipe_columns.specs.declared.any_value.AnyValue.{AnyValue}
use Rattle.pipe_columns.specs.declared.data_type.DataType.{DataType}
use Rattle.pipe_columns.specs.Frame.{value_at}
use Rattle.pipe_columns.specs.Key.{code}
use Rattle.pipe_running.specs.declared.function.AggregateFunction.{AggregateFunction}
use Rattle.pipe_spill.specs.KeyTypes.{AreOfTypes}
use Rattle.pipe_groups.specs.Groups.{Group, new_group, no_group}
use Rattle.pipe_keyed.specs.Keyed.{IsAt}
use Rattle.pipe_sinks.specs.Marks.{IsMarkedKey, IsSole, IsSoleValue, mark_of, sole_code}

-- a key of one value is its first value
pub sole-key : (t : DataType) (k : List AnyValue) → AreOfTypes (t ∷ []) k → k ≡ value_at k 0 ∷ []
sole-key t [] h = absurd h
sole-key t (v ∷ []) h = refl
sole-key t (v ∷ w ∷ k) h = absurd h.1

module _ (types : List DataType) (k : List AnyValue) (v : AnyValue) (is : v ≡ value_at k 0) (sole : IsSole types) (fit : AreOfTypes types k) where
  alone : k ≡ v ∷ []
  alone = sole-key sole.dtype k (subst (λ (ts : List DataType). AreOfTypes ts k) sole.is fit) ∙ ap (λ (x : AnyValue). x ∷ []) (sym is)

  -- so the code of the value is that of the key
  pub sole-is : sole_code types v ≡ code types k
  sole-is = ap (code types) (sym alone)

  pub sole-fit : IsSoleValue types v
  sole-fit = subst (AreOfTypes types) alone fit

  -- and it may be looked for by its mark
  pub sole-marked : (mark : ℕ) (key : List ℕ) → mark ≡ mark_of v → key ≡ code types k → IsMarkedKey types key mark
  sole-marked mark key m e = record { sole = sole; value = v; fit = sole-fit; key_is = e ∙ sym sole-is; mark_is = m }

-- a new group is the last one
pub new-at : (ps : List AggregateFunction) (gs : List Group) (k : List ℕ) (now : List Group) (i : ℕ) → now ≡ gs ++ new_group ps k ∷ [] → i ≡ length gs → IsAt now k i
new-at ps gs k now i is last =
    rw is (omega (arith, last, length_push gs (new_group ps k)), ap (λ (g : Group). g.key) (get_or_push gs (new_group ps k) no_group i (sym last)))
