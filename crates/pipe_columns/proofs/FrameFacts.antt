-- Columns that are changed one by one.
use Rattle.std.proofs.Common.{◌≡◌, ◌∙◌, ◌+◌, ◌-◌, ◌<◌, ◌≤◌, ◌==◌, ℕ, zero, suc, min, true, false, List, [], ◌∷◌, ◌++◌, map, length, take, drop, get_or, set, refl, ap, arith, sym, take_all}
use Rattle.std.proofs.Math.Seq.{get_or-append_seam}
use Rattle.std.proofs.lemmas.Bool.{and_parts, eq-eqb, eqb-true}
use Rattle.std.proofs.lemmas.List.{append-nil, append_assoc, drop_all, length-append, length-drop, length-take, length-map, set-get_or, take-append-le}
use Rattle.pipe_columns.specs.Frame.{all_have_height, appended, appended_all, ColumnData, columns_from, field_of, fields_of, sliced_column, truncated, unsorted}
use Rattle.pipe_columns.specs.declared.schema.Field.{Field}

-- a list with its first k elements changed
abbrev pub changed : {X : Type 0} → (X → X) → ℕ → List X → List X
changed f zero xs = xs
changed f (suc k) [] = []
changed f (suc k) (x ∷ xs) = f x ∷ changed f k xs

-- an element whose turn has not come is as before
pub changed_get : {X : Type 0} (f : X → X) (k : ℕ) (xs : List X) (d : X) → get_or (changed f k xs) k d ≡ get_or xs k d
changed_get f zero xs d = refl
changed_get f (suc k) [] d = refl
changed_get f (suc k) (x ∷ xs) d = changed_get f k xs d

-- one more is changed
pub changed_more : {X : Type 0} (f : X → X) (k : ℕ) (xs : List X) (d : X) → k < length xs
    → set (changed f k xs) k (f (get_or xs k d)) ≡ changed f (suc k) xs
changed_more f k [] d lt = absurd (omega arith)
changed_more f zero (x ∷ xs) d lt = refl
changed_more f (suc k) (x ∷ xs) d lt = ap (λ ys. f x ∷ ys) (changed_more f k xs d (omega (arith, lt)))

-- at the end all are changed
pub changed_all : {X : Type 0} (f : X → X) (k : ℕ) (xs : List X) → length xs ≤ k → changed f k xs ≡ map f xs
changed_all f zero [] le = refl
changed_all f zero (x ∷ xs) le = absurd (omega arith)
changed_all f (suc k) [] le = refl
changed_all f (suc k) (x ∷ xs) le = ap (λ ys. f x ∷ ys) (changed_all f k xs (omega arith))

-- an element that is changed in its turn
pub changed_step : {X : Type 0} (f : X → X) (old now : List X) (i : ℕ) (d new : X) → i < length old
    → now ≡ changed f i old → new ≡ f (get_or now i d) → set now i new ≡ changed f (i + 1) old
changed_step f old now i d new lt is made =
    let there : get_or now i d ≡ get_or old i d = ap (λ ys. get_or ys i d) is ∙ changed_get f i old d in
    let step : set now i new ≡ set (changed f i old) i new = ap (λ ys. set ys i new) is in
    let more : suc i ≡ i + 1 = omega arith in
    step ∙ ap (λ x. set (changed f i old) i x) (made ∙ ap f there) ∙ changed_more f i old d lt ∙ ap (λ k. changed f k old) more

-- the next column is as before
pub appended_get : (ds cs : List ColumnData) (c : ColumnData) → get_or (appended_all ds cs) (length ds) c ≡ get_or cs (length ds) c
appended_get [] cs c = refl
appended_get (d ∷ ds) [] c = refl
appended_get (d ∷ ds) (x ∷ cs) c = appended_get ds cs c

-- one more column
pub appended_more : (ds cs : List ColumnData) (d c : ColumnData) → length ds < length cs
    → set (appended_all ds cs) (length ds) (appended (get_or cs (length ds) c) d) ≡ appended_all (ds ++ d ∷ []) cs
appended_more ds [] d c lt = absurd (omega arith)
appended_more [] (x ∷ cs) d c lt = refl
appended_more (e ∷ ds) (x ∷ cs) d c lt = ap (λ ys. appended x e ∷ ys) (appended_more ds cs d c (omega (arith, lt)))

-- lists that are the same begin alike
pub first_same : {X : Type 0} (x y : X) (xs ys : List X) → x ∷ xs ≡ y ∷ ys → x ≡ y
first_same x y xs ys e = cc e

-- the fields' types, one by one
pub dtype_get : (ds cs : List ColumnData) (k : ℕ) (c d : ColumnData) → fields_of ds ≡ fields_of cs → k < length ds
    → (get_or ds k d).dtype ≡ (get_or cs k c).dtype
dtype_get [] cs k c d e lt = absurd (omega arith)
dtype_get (x ∷ ds) [] k c d e lt = cc e
dtype_get (x ∷ ds) (y ∷ cs) zero c d e lt = ap (λ f. f.dtype) (first_same (field_of x) (field_of y) (fields_of ds) (fields_of cs) e)
dtype_get (x ∷ ds) (y ∷ cs) (suc k) c d e lt = dtype_get ds cs k c d (cc e) (omega arith)

-- columns of a height that are cut to it are as before
pub cut_back : (n : ℕ) (ds cs : List ColumnData) → all_have_height n cs ≡ true → map (truncated n) (appended_all ds cs) ≡ cs
cut_back n [] [] e = refl
cut_back n (d ∷ ds) [] e = refl
cut_back n [] (c ∷ cs) e =
    let both = and_parts (length c.values == n) (all_have_height n cs) e in
    let tall : length c.values ≡ n = eqb-true (length c.values) n both.0 in
    let here : truncated n c ≡ c = ap (λ vs. record c { values = vs }) (take_all n c.values (omega (arith, tall))) in
    rw here (ap (λ xs. c ∷ xs) (cut_back n [] cs both.1))
cut_back n (d ∷ ds) (c ∷ cs) e =
    let both = and_parts (length c.values == n) (all_have_height n cs) e in
    let tall : length c.values ≡ n = eqb-true (length c.values) n both.0 in
    let kept : take n (c.values ++ d.values) ≡ c.values =
    take-append-le n c.values d.values (omega (arith, tall)) ∙ take_all n c.values (omega (arith, tall)) in
    let here : truncated n (appended c d) ≡ c = ap (λ vs. record c { values = vs }) kept in
    rw here (ap (λ xs. c ∷ xs) (cut_back n ds cs both.1))

-- a column that waits for its partner is of its type
pub pair_type : (done rest others cs now : List ColumnData) (d c : ColumnData)
    → others ≡ done ++ d ∷ rest → fields_of others ≡ fields_of cs → now ≡ appended_all done cs
    → d.dtype ≡ (get_or now (length done) c).dtype
pair_type done rest others cs now d c is e so_far =
    let k : ℕ = length done in
    let there : get_or others k d ≡ d = ap (λ xs. get_or xs k d) is ∙ get_or-append_seam done d rest d in
    let long : length others ≡ length done + suc (length rest) = ap length is ∙ length-append done (d ∷ rest) in
    let same : (get_or others k d).dtype ≡ (get_or cs k c).dtype = dtype_get others cs k c d e (omega (arith, long)) in
    let here : get_or now k c ≡ get_or cs k c = ap (λ xs. get_or xs k c) so_far ∙ appended_get done cs c in
    ap (λ (x : ColumnData). x.dtype) (sym there) ∙ same ∙ ap (λ (x : ColumnData). x.dtype) (sym here)

-- there are as many columns as fields
pub pair_count : (done rest others cs : List ColumnData) (d : ColumnData)
    → others ≡ done ++ d ∷ rest → fields_of others ≡ fields_of cs → length done < length cs
pair_count done rest others cs d is e =
    let long : length others ≡ length done + suc (length rest) = ap length is ∙ length-append done (d ∷ rest) in
    let same : length others ≡ length cs = sym (length-map others field_of) ∙ ap length e ∙ length-map cs field_of in
    omega (arith, long, same)

-- one more pair
pub pair_step : (done cs now : List ColumnData) (d c new : ColumnData) → length done < length cs
    → now ≡ appended_all done cs → new ≡ appended (get_or now (length done) c) d
    → set now (length done) new ≡ appended_all (done ++ d ∷ []) cs
pair_step done cs now d c new lt so_far made =
    let k : ℕ = length done in
    let there : get_or now k c ≡ get_or cs k c = ap (λ xs. get_or xs k c) so_far ∙ appended_get done cs c in
    let step : set now k new ≡ set (appended_all done cs) k new = ap (λ xs. set xs k new) so_far in
    step ∙ ap (λ x. set (appended_all done cs) k x) (made ∙ ap (λ x. appended x d) there) ∙ appended_more done cs d c lt

-- a column that is refused is as before, and so are all once they are cut back
pub pair_undone : (n k : ℕ) (done cs now : List ColumnData) (c new : ColumnData) → all_have_height n cs ≡ true
    → now ≡ appended_all done cs → new ≡ get_or now k c → map (truncated n) (set now k new) ≡ cs
pair_undone n k done cs now c new tall so_far kept =
    let same : set now k new ≡ now = ap (λ x. set now k x) kept ∙ set-get_or now k c in
    ap (map (truncated n)) (same ∙ so_far) ∙ cut_back n done cs tall

-- to drop more than there is drops all
pub drop_min : {X : Type 0} (n : ℕ) (xs : List X) → drop (min n (length xs)) xs ≡ drop n xs
drop_min n [] = drop_all (min n 0) [] (omega arith) ∙ sym (drop_all n [] (omega arith))
drop_min zero (x ∷ xs) =
    let none : min 0 (length (x ∷ xs)) ≡ 0 = omega arith in
    ap (λ k. drop k (x ∷ xs)) none
drop_min (suc n) (x ∷ xs) =
    let less : min (suc n) (length (x ∷ xs)) ≡ suc (min n (length xs)) = omega arith in
    ap (λ k. drop k (x ∷ xs)) less ∙ drop_min n xs

-- one more is done
pub done_more : (done rest others : List ColumnData) (d : ColumnData) (n : ℕ) → n ≡ length done → others ≡ done ++ d ∷ rest
    → (n + 1 ≡ length (done ++ d ∷ [])) × (others ≡ (done ++ d ∷ []) ++ rest)
done_more done rest others d n is all =
    let more : length (done ++ d ∷ []) ≡ length done + 1 = length-append done (d ∷ []) in
    (omega (arith, is, more), all ∙ sym (append_assoc done (d ∷ []) rest))

-- what a slice leaves of a list that it stands for whole
pub whole : {X : Type 0} (n : ℕ) (xs ys : List X) → length xs ≡ length ys → n ≡ length ys → take n (xs ++ drop (length xs) ys) ≡ xs
whole n xs ys e is =
    let none : drop (length xs) ys ≡ [] = drop_all (length xs) ys (omega (arith, e)) in
    ap (λ zs. take n (xs ++ zs)) none ∙ ap (take n) (append-nil xs) ∙ take_all n xs (omega (arith, e, is))

-- a slice of columns of a height has the height of the slice
pub sliced_height : (h offset len : ℕ) (cs : List ColumnData) → all_have_height h cs ≡ true
    → all_have_height (min len (h - offset)) (map (sliced_column offset len) cs) ≡ true
sliced_height h offset len [] e = refl
sliced_height h offset len (c ∷ cs) e =
    let both = and_parts (length c.values == h) (all_have_height h cs) e in
    let tall : length c.values ≡ h = eqb-true (length c.values) h both.0 in
    let left : length (drop offset c.values) ≡ length c.values - offset = length-drop offset c.values in
    let kept : length (take len (drop offset c.values)) ≡ min len (length (drop offset c.values)) = length-take len (drop offset c.values) in
    let here : length (take len (drop offset c.values)) ≡ min len (h - offset) = omega (arith, tall, left, kept) in
    rw (eq-eqb (length (take len (drop offset c.values))) (min len (h - offset)) here) (sliced_height h offset len cs both.1)

-- columns below columns have both heights together
pub stacked_height : (h g : ℕ) (ds cs : List ColumnData) → fields_of ds ≡ fields_of cs → all_have_height h cs ≡ true
    → all_have_height g ds ≡ true → all_have_height (h + g) (map unsorted (appended_all ds cs)) ≡ true
stacked_height h g [] [] same e f = refl
stacked_height h g [] (c ∷ cs) same e f = cc same
stacked_height h g (d ∷ ds) [] same e f = refl
stacked_height h g (d ∷ ds) (c ∷ cs) same e f =
    let tall = and_parts (length c.values == h) (all_have_height h cs) e in
    let more = and_parts (length d.values == g) (all_have_height g ds) f in
    let high : length c.values ≡ h = eqb-true (length c.values) h tall.0 in
    let low : length d.values ≡ g = eqb-true (length d.values) g more.0 in
    let here : length (c.values ++ d.values) ≡ h + g = omega (arith, high, low, length-append c.values d.values) in
    rw (eq-eqb (length (c.values ++ d.values)) (h + g) here) (stacked_height h g ds cs (cc same) tall.1 more.1)

-- one more column without values
pub empty_more : (i : ℕ) (fs : List Field) (f : Field)
    → columns_from i (fs ++ f ∷ []) [] ≡ columns_from i fs [] ++ record { name = f.name; dtype = f.dtype; sorted = false; values = [] } ∷ []
empty_more i [] f = refl
empty_more i (g ∷ fs) f = ap (λ cs. record { name = g.name; dtype = g.dtype; sorted = false; values = [] } ∷ cs) (empty_more (i + 1) fs f)

-- columns without values have no row
pub empty_height : (i : ℕ) (fs : List Field) → all_have_height 0 (columns_from i fs []) ≡ true
empty_height i [] = refl
empty_height i (f ∷ fs) = empty_height (i + 1) fs
