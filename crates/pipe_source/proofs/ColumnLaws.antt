-- The columns of rows' numbers and of a file's name.
use Rattle.std.proofs.Common.{◌≡◌, ◌≤◌, ◌<◌, ◌+◌, ◌^◌, ℕ, zero, suc, pos, List, [], ◌∷◌, ◌++◌, length, replicate, true, Option, Some, None, refl, ap, arith, eq-eqb}
use Rattle.std.proofs.lemmas.Bool.{and_from}
use Rattle.std.proofs.lemmas.Bool.Decides.{nat_tests}
use Rattle.std.proofs.lemmas.List.{length-replicate}
use Rattle.std.specs.Str.{IsUtf8}
use Rattle.std.proofs.lemmas.List.Elements.{All-cons, All-nil}
use Rattle.std.proofs.lemmas.List.FromFn.{map-range_with_len_more}
use Rattle.pipe_columns.specs.declared.data_type.DataType.TheVariants as dt
use Rattle.pipe_columns.specs.declared.any_value.AnyValue.TheVariants as av
use Rattle.pipe_columns.specs.AnyValue.{fits, HasUtf8}
use Rattle.pipe_columns.specs.Frame.{AllHaveHeight, AreOfType}
use Rattle.pipe_source.specs.CsvChunks.{index_column, numbers_from, with_first, with_last}

-- a number below 2^32 fits
fits-index : (n : ℕ) → n < 2 ^ 32 → fits (av.Int (pos n)) dt.UInt32 ≡ true
fits-index n h = grind (arith, nat_tests)

-- numbers below 2^32 fit
pub numbers-fit : (first count : ℕ) → first + count ≤ 2 ^ 32 → AreOfType dt.UInt32 (numbers_from first count)
numbers-fit first zero h = record { fit = refl; utf8 = All-nil HasUtf8 }
numbers-fit first (suc count) h =
    let rest = numbers-fit (first + 1) count (omega arith) in
    record {
      fit = and_from _ _ (fits-index first (omega arith)) rest.fit;
      utf8 = All-cons HasUtf8 (av.Int (pos first)) (numbers_from (first + 1) count) tt rest.utf8;
    }

-- one more number
pub numbers-more : (first count : ℕ) → numbers_from first (count + 1) ≡ numbers_from first count ++ (av.Int (pos (first + count)) ∷ [])
numbers-more first count = map-range_with_len_more (λ (n : ℕ). av.Int (pos n)) first count (first + count) (omega arith)

-- so many numbers
pub length-numbers : (first count : ℕ) → length (numbers_from first count) ≡ count
length-numbers first zero = refl
length-numbers first (suc count) = ap (λ n. suc n) (length-numbers (first + 1) count)

-- names of files fit
pub names-fit : (count : ℕ) (file : List ℕ) → IsUtf8 file → AreOfType dt.String (replicate count (av.Text file))
names-fit zero file u = record { fit = refl; utf8 = All-nil HasUtf8 }
names-fit (suc count) file u =
    let rest = names-fit count file u in
    record {
      fit = rest.fit;
      utf8 = All-cons HasUtf8 (av.Text file) (replicate count (av.Text file)) u rest.utf8;
    }

-- so many names
pub length-names : (count : ℕ) (file : List ℕ) → length (replicate count (av.Text file)) ≡ count
length-names count file = length-replicate count (av.Text file)

-- a column of so many numbers
pub index-height : (given count : ℕ) (index : List ℕ × ℕ) → AllHaveHeight count (index_column given count index ∷ [])
index-height given count index = and_from _ _ (eq-eqb (length (numbers_from (index.1 + given) count)) count (length-numbers (index.1 + given) count)) refl

-- what stands in front and what stands behind
pub both-ends : {A : Type 0} (first last : Option A) (xs : List A) → with_last (with_first first [] ++ xs) last ≡ with_first first (with_last xs last)
both-ends None None xs = refl
both-ends None (Some y) xs = refl
both-ends (Some x) None xs = refl
both-ends (Some x) (Some y) xs = refl
