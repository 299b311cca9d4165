-- Rows that are compared column by column.
use Rattle.std.proofs.Common.{◌≡◌, ◌∙◌, ◌+◌, ◌<◌, ◌≤◌, ◌==◌, ◌++◌, ◌∷◌, [], ℕ, zero, suc, true, false, not, List, length, get_or, drop, refl, sym, ap, arith}
use Rattle.std.specs.List.{range_with_len}
use Rattle.std.specs.declared.cmp.Ordering.{Ordering}
use Rattle.std.specs.declared.cmp.Ordering.TheVariants.{Less, Equal, Greater}
use Rattle.std.specs.Ordering.{ordering_index, ordering_then}
use Rattle.std.proofs.Math.Seq.{drop-cons}
use Rattle.std.proofs.lemmas.List.{drop_all}
use Rattle.pipe_columns.specs.AnyValue.{value_cmp}
use Rattle.pipe_columns.specs.Frame.{ColumnData, row_at, value_at}
use Rattle.pipe_model.specs.Answer.{tuple_cmp}

-- how the rows of the columns from a place on compare
abbrev pub compared_from : List ColumnData → ℕ → ℕ → ℕ → Ordering
compared_from columns i a b = tuple_cmp (row_at (drop i columns) a) (row_at (drop i columns) b)

-- a column, and those behind it
compared_first : (columns : List ColumnData) (i a b : ℕ) (column : ColumnData) → i < length columns → column ≡ get_or columns i column
    → compared_from columns i a b ≡ ordering_then (value_cmp (value_at column.values a) (value_at column.values b)) (compared_from columns (i + 1) a b)
compared_first columns i a b column within is =
    let more : suc i ≡ i + 1 = omega arith in
    let first : drop i columns ≡ column ∷ drop (i + 1) columns = drop-cons columns i column within ∙ ap (λ (c : ColumnData). c ∷ drop (suc i) columns) (sym is) ∙ ap (λ n. column ∷ drop n columns) more in
    ap (λ (cs : List ColumnData). tuple_cmp (row_at cs a) (row_at cs b)) first

-- a column in which rows differ decides
pub compared_apart : (columns : List ColumnData) (i a b : ℕ) (column : ColumnData) (all r : Ordering) → i < length columns → column ≡ get_or columns i column
    → compared_from columns i a b ≡ all → r ≡ value_cmp (value_at column.values a) (value_at column.values b) → (r ≡ Equal → ⊥) → r ≡ all
compared_apart columns i a b column all r within is so_far made apart = decided r (compared_from columns (i + 1) a b) apart ∙ ap (λ o. ordering_then o (compared_from columns (i + 1) a b)) made ∙ sym (compared_first columns i a b column within is) ∙ so_far
  where
    decided : (r rest : Ordering) → (r ≡ Equal → ⊥) → r ≡ ordering_then r rest
    decided Less rest apart = refl
    decided Equal rest apart = absurd (apart refl)
    decided Greater rest apart = refl

-- where they don't the columns behind it decide
pub compared_alike : (columns : List ColumnData) (i a b : ℕ) (column : ColumnData) (all r : Ordering) → i < length columns → column ≡ get_or columns i column
    → compared_from columns i a b ≡ all → r ≡ value_cmp (value_at column.values a) (value_at column.values b) → r ≡ Equal → compared_from columns (i + 1) a b ≡ all
compared_alike columns i a b column all r within is so_far made alike =
    ap (λ o. ordering_then o (compared_from columns (i + 1) a b)) (sym alike ∙ made) ∙ sym (compared_first columns i a b column within is) ∙ so_far

-- rows that are alike in all columns tie
pub compared_all : (columns : List ColumnData) (i a b : ℕ) (all : Ordering) → length columns ≤ i → compared_from columns i a b ≡ all → Equal ≡ all
compared_all columns i a b all past so_far =
    ap (λ (cs : List ColumnData). tuple_cmp (row_at cs a) (row_at cs b)) (sym (drop_all i columns past)) ∙ so_far

-- one number more
pub numbers_more : (a n : ℕ) → range_with_len a (suc n) ≡ range_with_len a n ++ (a + n) ∷ []
numbers_more a zero = ap (λ m. m ∷ []) (omega arith)
numbers_more a (suc n) =
    let next : a + 1 + n ≡ a + suc n = omega arith in
    ap (λ (ns : List ℕ). a ∷ ns) (numbers_more (a + 1) n ∙ ap (λ m. range_with_len (a + 1) n ++ m ∷ []) next)

-- what a test of a tie says
pub no_tie : (r : Ordering) → not (ordering_index r == 1) ≡ true → r ≡ Equal → ⊥
no_tie Less h e = cc
no_tie Equal h e = cc
no_tie Greater h e = cc

pub tie : (r : Ordering) → not (ordering_index r == 1) ≡ false → r ≡ Equal
tie Less h = cc
tie Equal h = refl
tie Greater h = cc
