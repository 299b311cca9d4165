-- Running aggregates that keep no text of inputs of their types.
use Rattle.std.proofs.Common.{◌≡◌, ◌∙◌, ℕ, zero, suc, ◌+◌, ◌<◌, ◌≤◌, ◌&&◌, ◌||◌, not, Bool, true, false, List, [], ◌∷◌, map, length, drop, get_or, refl, sym, ap, arith}
use Rattle.std.specs.Cmp.Derive as derive
use Rattle.std.specs.List.{All, list_all}
use Rattle.std.proofs.lemmas.Bool.{and_parts}
use Rattle.std.proofs.lemmas.List.{drop_all, drop-drop, drop_more, get_or-drop, get_or_past, length-drop}
use Rattle.std.proofs.lemmas.List.Elements.{All-head, All-tail}
use Rattle.std.proofs.lemmas.Option.{unwrap_or-slice_get}
use Rattle.pipe_columns.specs.declared.any_value.AnyValue.{AnyValue}
use Rattle.pipe_columns.specs.declared.any_value.AnyValue.TheVariants as av
use Rattle.pipe_columns.specs.declared.data_type.DataType.{DataType}
use Rattle.pipe_columns.specs.declared.data_type.DataType.TheVariants as dt
use Rattle.pipe_columns.specs.AnyValue.{fits}
use Rattle.pipe_columns.specs.DataType.{is_string}
use Rattle.pipe_columns.specs.Frame.{value_at}
use Rattle.pipe_model.specs.Kind.{Kind}
use Rattle.pipe_model.specs.Kind as kind
use Rattle.pipe_running.specs.declared.function.AggregateFunction.{AggregateFunction}
use Rattle.pipe_running.specs.declared.function.AggregateFunction.TheVariants as function
use Rattle.pipe_running.specs.declared.min_max.Direction.{Direction}
use Rattle.pipe_running.specs.declared.min_max.Direction.TheVariants as direction
use Rattle.pipe_running.specs.GroupStates.{SameKinds}
use Rattle.pipe_running.specs.Held.{is_text}
use Rattle.pipe_running.specs.SameKind.{SameKind}
use Rattle.pipe_running.specs.States.{kind_of, kind_of_direction}
use Rattle.pipe_spill.specs.KeyTypes.{AreOfTypes}
use Rattle.pipe_groups.specs.GroupRuns.{keep_no_text, keeps_none_of, keeps_value, KeepNoneFrom}

-- ---- of one kind

-- whether a kind keeps a value
abbrev keeps_kind : Kind → Bool
keeps_kind kind.first = true
keeps_kind kind.last = true
keeps_kind k = false

end-direction : (d : Direction) → keeps_kind (kind_of_direction d) ≡ false
end-direction direction.Min = refl
end-direction direction.Max = refl

kind-keeps : (f : AggregateFunction) → keeps_value f ≡ keeps_kind (kind_of f)
kind-keeps (function.MinMaxU8 a) = sym (end-direction a.direction)
kind-keeps (function.MinMaxU16 a) = sym (end-direction a.direction)
kind-keeps (function.MinMaxU32 a) = sym (end-direction a.direction)
kind-keeps (function.MinMaxU64 a) = sym (end-direction a.direction)
kind-keeps (function.MinMaxI8 a) = sym (end-direction a.direction)
kind-keeps (function.MinMaxI16 a) = sym (end-direction a.direction)
kind-keeps (function.MinMaxI32 a) = sym (end-direction a.direction)
kind-keeps (function.MinMaxI64 a) = sym (end-direction a.direction)
kind-keeps f = refl

same-keeps : (f g : AggregateFunction) → SameKind f g → keeps_value g ≡ keeps_value f
same-keeps f g h = kind-keeps g ∙ ap keeps_kind h.kind ∙ sym (kind-keeps f)

-- ---- values of a type that isn't that of texts

no-text : (t : DataType) (v : AnyValue) → is_string t ≡ false → fits v t ≡ true → not (is_text v) ≡ true
no-text t av.Null s f = refl
no-text t (av.Boolean b) s f = refl
no-text t (av.Int n) s f = refl
no-text t (av.Text b) s f = cc

-- the value at a position of a row of types
value-plain : (types : List DataType) (row : List AnyValue) (i : ℕ) → AreOfTypes types row → is_string (get_or types i dt.Boolean) ≡ false → not (is_text (get_or row i av.Null)) ≡ true
value-plain [] [] i h s = refl
value-plain [] (v ∷ row) i h s = absurd h
value-plain (t ∷ types) [] i h s = absurd h
value-plain (t ∷ types) (v ∷ row) zero h s = no-text t v s h.0
value-plain (t ∷ types) (v ∷ row) (suc i) h s = value-plain types row i h.1 s

values-plain : (types : List DataType) (inputs : List (List AnyValue)) (i : ℕ) → All (AreOfTypes types) inputs → is_string (get_or types i dt.Boolean) ≡ false
    → list_all (λ v. not (is_text v)) (map (λ row. value_at row i) inputs) ≡ true
values-plain types [] i h s = refl
values-plain types (r ∷ rs) i h s =
    let here : not (is_text (value_at r i)) ≡ true =
    ap (λ (v : AnyValue). not (is_text v)) (unwrap_or-slice_get r i av.Null) ∙ value-plain types r i (All-head (AreOfTypes types) r rs h) s in
    derive.both_true here (values-plain types rs i (All-tail (AreOfTypes types) r rs h) s)

-- so one of a kind that keeps none of its type keeps none of them
one-plain : (f s : AggregateFunction) (types : List DataType) (inputs : List (List AnyValue)) (i : ℕ) → SameKind f s → All (AreOfTypes types) inputs
    → not (keeps_value f && is_string (get_or types i dt.Boolean)) ≡ true → keeps_none_of s (map (λ row. value_at row i) inputs) ≡ true
one-plain f s types inputs i same typed none = rw (same-keeps f s same) (by (keeps_value f) none) where
  rest : Bool
  rest = list_all (λ v. not (is_text v)) (map (λ row. value_at row i) inputs)

  plain : (b : Bool) → is_string (get_or types i dt.Boolean) ≡ b → not b ≡ true → rest ≡ true
  plain true e n = cc
  plain false e n = values-plain types inputs i typed e

  by : (b : Bool) → not (b && is_string (get_or types i dt.Boolean)) ≡ true → (not b || rest) ≡ true
  by true n = plain (is_string (get_or types i dt.Boolean)) refl n
  by false n = refl

-- each of some keeps none, where their prototypes don't
none-from : (j : ℕ) (fs ss : List AggregateFunction) (types rest : List DataType) (inputs : List (List AnyValue)) → ((i : ℕ) → get_or rest i dt.Boolean ≡ get_or types (j + i) dt.Boolean)
    → SameKinds fs ss → All (AreOfTypes types) inputs → keep_no_text fs rest ≡ true → KeepNoneFrom j ss inputs
none-from j [] [] types rest inputs at k typed none = tt
none-from j [] (s ∷ ss) types rest inputs at k typed none = absurd k
none-from j (f ∷ fs) [] types rest inputs at k typed none = absurd k
none-from j (f ∷ fs) (s ∷ ss) types [] inputs at k typed none =
    let zero-at : j + 0 ≡ j = omega arith in
    let here : get_or types j dt.Boolean ≡ dt.Boolean = ap (λ (i : ℕ). get_or types i dt.Boolean) (sym zero-at) ∙ sym (at 0) in
    (one-plain f s types inputs j k.0 typed (rw here (by (keeps_value f))), none-from (j + 1) fs ss types [] inputs (λ i. at (suc i) ∙ ap (λ (n : ℕ). get_or types n dt.Boolean) (omega arith)) k.1 typed (empty fs)) where
      by : (b : Bool) → not (b && false) ≡ true
      by true = refl
      by false = refl

      empty : (gs : List AggregateFunction) → keep_no_text gs [] ≡ true
      empty [] = refl
      empty (g ∷ gs) = refl
none-from j (f ∷ fs) (s ∷ ss) types (t ∷ rest) inputs at k typed none =
    let zero-at : j + 0 ≡ j = omega arith in
    let here : get_or types j dt.Boolean ≡ t = ap (λ (i : ℕ). get_or types i dt.Boolean) (sym zero-at) ∙ sym (at 0) in
    let parts = and_parts (not (keeps_value f && is_string t)) (keep_no_text fs rest) none in
    (one-plain f s types inputs j k.0 typed (rw here parts.0), none-from (j + 1) fs ss types rest inputs (λ i. at (suc i) ∙ ap (λ (n : ℕ). get_or types n dt.Boolean) (omega arith)) k.1 typed parts.1)

pub none-kept : (fs ss : List AggregateFunction) (types : List DataType) (inputs : List (List AnyValue)) → SameKinds fs ss → All (AreOfTypes types) inputs → keep_no_text fs types ≡ true → KeepNoneFrom 0 ss inputs
none-kept fs ss types inputs k typed none = none-from 0 fs ss types types inputs (λ i. ap (λ (n : ℕ). get_or types n dt.Boolean) (omega arith)) k typed none

-- ---- the test of prototypes, one by one

no-types : (fs : List AggregateFunction) → keep_no_text fs [] ≡ true
no-types [] = refl
no-types (f ∷ fs) = refl

not-both : (b : Bool) → b && false ≡ true → ⊥
not-both true h = cc
not-both false h = cc

module _ (fs : List AggregateFunction) (types : List DataType) (j : ℕ) (f : AggregateFunction) (lt : j < length fs) (is : f ≡ get_or fs j f) where
  abbrev rest : List AggregateFunction
  rest = drop (j + 1) fs

  head : drop j fs ≡ f ∷ rest
  head = drop_more fs j f lt ∙ ap (λ (x : AggregateFunction). x ∷ rest) (sym is)

  type-at : (t : DataType) (ts : List DataType) → drop j types ≡ t ∷ ts → get_or types j dt.Boolean ≡ t
  type-at t ts e =
      let same : j + 0 ≡ j = omega arith in
      ap (λ (n : ℕ). get_or types n dt.Boolean) (sym same) ∙ sym (get_or-drop j types 0 dt.Boolean) ∙ ap (λ (l : List DataType). get_or l 0 dt.Boolean) e

  pub keep-next : keeps_value f && is_string (get_or types j dt.Boolean) ≡ false → keep_no_text (drop j fs) (drop j types) ≡ keep_no_text rest (drop (j + 1) types)
  keep-next fails = by (drop j types) refl where
    by : (ts : List DataType) → drop j types ≡ ts → keep_no_text (drop j fs) (drop j types) ≡ keep_no_text rest (drop (j + 1) types)
    by [] e = (λ k. keep_no_text (head k) (e k)) ∙ sym (ap (keep_no_text rest) (sym (drop-drop 1 j types) ∙ ap (drop 1) e) ∙ no-types rest)
    by (t ∷ ts) e =
        (λ k. keep_no_text (head k) (e k))
        ∙ ap (λ (b : Bool). not b && keep_no_text rest ts) (ap (λ (x : DataType). keeps_value f && is_string x) (sym (type-at t ts e)) ∙ fails)
        ∙ ap (keep_no_text rest) (sym (sym (drop-drop 1 j types) ∙ ap (drop 1) e))

  pub keep-fails : keeps_value f && is_string (get_or types j dt.Boolean) ≡ true → keep_no_text (drop j fs) (drop j types) ≡ false
  keep-fails holds = by (drop j types) refl where
    by : (ts : List DataType) → drop j types ≡ ts → keep_no_text (drop j fs) (drop j types) ≡ false
    by [] e =
        let past : get_or types j dt.Boolean ≡ dt.Boolean = get_or_past types j dt.Boolean (omega (arith, length-drop j types, ap (λ (l : List DataType). length l) e)) in
        let both : keeps_value f && false ≡ true = ap (λ (x : DataType). keeps_value f && is_string x) (sym past) ∙ holds in
        absurd (not-both (keeps_value f) both)
    by (t ∷ ts) e =
        (λ k. keep_no_text (head k) (e k))
        ∙ ap (λ (b : Bool). not b && keep_no_text rest ts) (ap (λ (x : DataType). keeps_value f && is_string x) (sym (type-at t ts e)) ∙ holds)

pub keep-end : (fs : List AggregateFunction) (types : List DataType) (j : ℕ) → length fs ≤ j → keep_no_text (drop j fs) types ≡ true
keep-end fs types j le = ap (λ (gs : List AggregateFunction). keep_no_text gs types) (drop_all j fs le)
