-- What sums, counts and extremes of many lists come to: those of the lists joined.
use Rattle.std.proofs.Common.{◌≡◌, ◌∙◌, ◌+◌, ℕ, ℤ, pos, ◌+ℤ◌, not, List, [], ◌∷◌, ◌++◌, length, map, refl, sym, ap, arith}
use Rattle.std.specs.Int.{w32, w64, w128}
use Rattle.std.specs.List.{flat_map}
use Rattle.std.proofs.lemmas.Int.{ints}
use Rattle.std.proofs.lemmas.List.{length-append, map-append}
use Rattle.std.proofs.lemmas.List.Elements.{filter-append}
use Rattle.pipe_columns.specs.declared.any_value.AnyValue.{AnyValue}
use Rattle.pipe_columns.specs.declared.any_value.AnyValue.TheVariants as av
use Rattle.pipe_columns.specs.declared.data_type.DataType.{DataType}
use Rattle.pipe_columns.specs.declared.data_type.DataType.TheVariants as dt
use Rattle.pipe_columns.specs.declared.place.Place.{Place}
use Rattle.pipe_columns.specs.AnyValue.{is_null}
use Rattle.pipe_columns.specs.DataType.{sum_type, wrapped}
use Rattle.pipe_model.specs.Aggregate.{addend, counted, exact_sum, extreme, greater, lesser, present, sum_if_any, total, values_in}
use Rattle.pipe_model.specs.Kind as kind
use Rattle.pipe_model.proofs.MergeFacts.{agg-append, sum_if_any-append}
use Rattle.pipe_model.proofs.SumFacts.{exact_sum-append}
use Rattle.pipe_model.proofs.WrapFacts.{wraps_signed, wraps_unsigned, WrapsSums}
use Rattle.pipe_columns.specs.Frame.{value_at}

-- ---- lists of lists

-- lists, joined
abbrev pub joined : {X : Type 0} → List (List X) → List X
joined lists = flat_map (λ xs. xs) lists

-- what goes through joining two lists goes through joining many
pub through-joined : {X Y : Type 0} (f : List X → List Y) → f [] ≡ [] → ((xs ys : List X) → f (xs ++ ys) ≡ f xs ++ f ys) → (lists : List (List X)) → f (joined lists) ≡ joined (map f lists)
through-joined f none both [] = none
through-joined f none both (xs ∷ lists) = both xs (joined lists) ∙ ap (λ (ys : List _). f xs ++ ys) (through-joined f none both lists)

-- ---- sums

-- a sum begins with its first value
pub exact_sum-cons : (v : AnyValue) (vs : List AnyValue) → exact_sum (v ∷ vs) ≡ addend v +ℤ exact_sum vs
exact_sum-cons v vs = exact_sum-append (v ∷ []) vs ∙ ap (λ (n : ℤ). n +ℤ exact_sum vs) (omega (arith, ints))

module _ (wrap : ℤ → ℤ) (w : WrapsSums wrap) where
  -- the wrapped sum of each list
  abbrev sums : List (List AnyValue) → List AnyValue
  sums lists = map (λ vs. av.Int (wrap (exact_sum vs))) lists

  -- parts of a sum may be wrapped on either side
  either_side : (m n k : ℤ) → wrap n ≡ wrap k → wrap (wrap m +ℤ n) ≡ wrap (m +ℤ k)
  either_side m n k e =
      w.adds m n
      ∙ ap wrap (turn m n) ∙ sym (w.adds n m) ∙ ap (λ (z : ℤ). wrap (z +ℤ m)) e ∙ w.adds k m ∙ ap wrap (turn k m)
    where
      turn : (a b : ℤ) → a +ℤ b ≡ b +ℤ a
      turn a b = omega (arith, ints)

  -- a sum of wrapped sums is the sum of all, wrapped
  sum_of_sums : (lists : List (List AnyValue)) → wrap (exact_sum (sums lists)) ≡ wrap (exact_sum (joined lists))
  sum_of_sums [] = refl
  sum_of_sums (vs ∷ lists) =
      ap wrap (exact_sum-cons (av.Int (wrap (exact_sum vs))) (sums lists))
      ∙ either_side (exact_sum vs) (exact_sum (sums lists)) (exact_sum (joined lists)) (sum_of_sums lists)
      ∙ ap wrap (sym (exact_sum-append vs (joined lists)))

  -- as values
  value_of_sums : (lists : List (List AnyValue)) → av.Int (wrap (exact_sum (sums lists))) ≡ av.Int (wrap (exact_sum (joined lists)))
  value_of_sums lists = ap av.Int (sum_of_sums lists)

-- a sum of the sums of lists is that of the lists joined
pub totals : (t : DataType) (lists : List (List AnyValue)) → total (sum_type t) (map (total t) lists) ≡ total t (joined lists)
totals dt.Boolean lists = value_of_sums (wrapped dt.UInt32) (wraps_unsigned w32) lists
totals dt.Int8 lists = value_of_sums (wrapped dt.Int64) (wraps_signed w64) lists
totals dt.Int16 lists = value_of_sums (wrapped dt.Int64) (wraps_signed w64) lists
totals dt.Int32 lists = value_of_sums (wrapped dt.Int32) (wraps_signed w32) lists
totals dt.Int64 lists = value_of_sums (wrapped dt.Int64) (wraps_signed w64) lists
totals dt.UInt8 lists = value_of_sums (wrapped dt.Int64) (wraps_signed w64) lists
totals dt.UInt16 lists = value_of_sums (wrapped dt.Int64) (wraps_signed w64) lists
totals dt.UInt32 lists = value_of_sums (wrapped dt.UInt32) (wraps_unsigned w32) lists
totals dt.UInt64 lists = value_of_sums (wrapped dt.UInt64) (wraps_unsigned w64) lists
totals dt.Int128 lists = value_of_sums (wrapped dt.Int128) (wraps_signed w128) lists
totals dt.Date lists = value_of_sums (wrapped dt.Date) (wraps_signed w32) lists
totals dt.String lists = refl

-- ---- counts

-- a sum of the lengths of lists is the length of the lists joined
pub counts : {X : Type 0} (lists : List (List X)) → av.Int (exact_sum (map (λ xs. counted (length xs)) lists)) ≡ counted (length (joined lists))
counts {X} lists = ap av.Int (numbers lists) where
  more : (m n : ℕ) → pos m +ℤ pos n ≡ pos (m + n)
  more m n = omega (arith, ints)

  numbers : (lists : List (List X)) → exact_sum (map (λ xs. counted (length xs)) lists) ≡ pos (length (joined lists))
  numbers [] = refl
  numbers (xs ∷ lists) =
      exact_sum-cons (counted (length xs)) (map (λ ys. counted (length ys)) lists)
      ∙ ap (λ (n : ℤ). pos (length xs) +ℤ n) (numbers lists)
      ∙ more (length xs) (length (joined lists))
      ∙ ap pos (sym (length-append xs (joined lists)))

-- ---- sums and extremes that are null for none

-- what is no null in joined lists is so in each
pub present-append : (vs ws : List AnyValue) → present (vs ++ ws) ≡ present vs ++ present ws
present-append vs ws = filter-append (λ (v : AnyValue). not (is_null v)) vs ws

module _ (G : List AnyValue → AnyValue)
    (both : (vs ws : List AnyValue) → G (present vs ++ present ws) ≡ G (present (G (present vs) ∷ G (present ws) ∷ [])))
    (once : (vs : List AnyValue) → G (present (G (present vs) ∷ [])) ≡ G (present vs)) where
  -- what two lists come to by what each comes to, many do
  pub of_many : (lists : List (List AnyValue)) → G (present (map (λ vs. G (present vs)) lists)) ≡ G (present (joined lists))
  of_many [] = refl
  of_many (vs ∷ lists) =
      let x : AnyValue = G (present vs) in
      let rest : List AnyValue = map (λ ws. G (present ws)) lists in
      ap G (present-append (x ∷ []) rest)
      ∙ both (x ∷ []) rest
      ∙ (λ i. G (present (once vs i ∷ of_many lists i ∷ [])))
      ∙ sym (both vs (joined lists))
      ∙ ap G (sym (present-append vs (joined lists)))

-- a sum, if any, is that of itself
sum-once : (vs : List AnyValue) → sum_if_any (present (sum_if_any vs ∷ [])) ≡ sum_if_any vs
sum-once [] = refl
sum-once (v ∷ vs) = ap av.Int (from_zero (exact_sum (v ∷ vs))) where
  from_zero : (n : ℤ) → pos 0 +ℤ n ≡ n
  from_zero n = omega (arith, ints)

-- an extreme of one value is that value
extreme-once : (choose : AnyValue → AnyValue → AnyValue) (v : AnyValue) → extreme choose (present (v ∷ [])) ≡ v
extreme-once choose av.Null = refl
extreme-once choose (av.Boolean b) = refl
extreme-once choose (av.Int n) = refl
extreme-once choose (av.Text s) = refl

-- values as entries, all at one place
placed : List AnyValue → List (Place × AnyValue)
placed vs = map (λ v. (record { chunk = 0; row = 0 }, v)) vs

values_of_placed : (vs : List AnyValue) → values_in (placed vs) ≡ vs
unfolding placed
values_of_placed [] = refl
values_of_placed (v ∷ vs) = ap (λ (ws : List AnyValue). v ∷ ws) (values_of_placed vs)

-- those of two lists together are both lists
values_of_both : (vs ws : List AnyValue) → values_in (placed vs ++ placed ws) ≡ vs ++ ws
values_of_both vs ws = map-append (λ (x : Place × AnyValue). x.1) (placed vs) (placed ws) ∙ (λ i. values_of_placed vs i ++ values_of_placed ws i)

-- what is no null in them
present_of_both : (vs ws : List AnyValue) → present vs ++ present ws ≡ present (values_in (placed vs ++ placed ws))
present_of_both vs ws = sym (present-append vs ws) ∙ ap present (sym (values_of_both vs ws))

-- the least of two lists, by that of each
lesser-both : (vs ws : List AnyValue) → extreme lesser (present vs ++ present ws) ≡ extreme lesser (present (extreme lesser (present vs) ∷ extreme lesser (present ws) ∷ []))
lesser-both vs ws =
    ap (extreme lesser) (present_of_both vs ws)
    ∙ ap (λ (l : List AnyValue). value_at l 0) (agg-append kind.min dt.Int64 (placed vs) (placed ws) refl)
    ∙ (λ i. extreme lesser (present (extreme lesser (present (values_of_placed vs i)) ∷ extreme lesser (present (values_of_placed ws i)) ∷ [])))

-- and the greatest
greater-both : (vs ws : List AnyValue) → extreme greater (present vs ++ present ws) ≡ extreme greater (present (extreme greater (present vs) ∷ extreme greater (present ws) ∷ []))
greater-both vs ws =
    ap (extreme greater) (present_of_both vs ws)
    ∙ ap (λ (l : List AnyValue). value_at l 0) (agg-append kind.max dt.Int64 (placed vs) (placed ws) refl)
    ∙ (λ i. extreme greater (present (extreme greater (present (values_of_placed vs i)) ∷ extreme greater (present (values_of_placed ws i)) ∷ [])))

-- a sum, if any, of the sums of lists is that of the lists joined
pub sums_if_any : (lists : List (List AnyValue)) → sum_if_any (present (map (λ vs. sum_if_any (present vs)) lists)) ≡ sum_if_any (present (joined lists))
sums_if_any lists = of_many sum_if_any (λ vs ws. sum_if_any-append (present vs) (present ws)) (λ vs. sum-once (present vs)) lists

-- the least of the least of lists is that of the lists joined
pub leasts : (lists : List (List AnyValue)) → extreme lesser (present (map (λ vs. extreme lesser (present vs)) lists)) ≡ extreme lesser (present (joined lists))
leasts lists = of_many (extreme lesser) lesser-both (λ vs. extreme-once lesser (extreme lesser (present vs))) lists

-- and the greatest
pub greatests : (lists : List (List AnyValue)) → extreme greater (present (map (λ vs. extreme greater (present vs)) lists)) ≡ extreme greater (present (joined lists))
greatests lists = of_many (extreme greater) greater-both (λ vs. extreme-once greater (extreme greater (present vs))) lists
