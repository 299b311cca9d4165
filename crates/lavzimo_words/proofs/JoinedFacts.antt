-- Words that are joined, one after another.
use Rattle.std.proofs.Common.{◌≡◌, ◌∙◌, ◌<◌, ◌++◌, ℕ, Bool, true, false, cond, List, [], ◌∷◌, length, Option, Some, None, refl, sym, ap, arith}
use Rattle.std.specs.Prelude.{bytes_eq, codes}
use Rattle.std.proofs.lemmas.List.{append_assoc}
use Rattle.lavzimo_words.specs.Joined.{is_order, joined, next_word}

-- what two words and the rest are, by whether the first is `--`, and whether they are an order
abbrev joined-by : Bool → Bool → List ℕ → List ℕ → List (List ℕ) → List (List ℕ)
joined-by b c w v rest = cond b (w ∷ v ∷ rest) (cond c ((codes "--order=" ++ v) ∷ joined rest) (w ∷ joined (v ∷ rest)))

abbrev next-by : Bool → Bool → List ℕ → List ℕ → List (List ℕ) → Option (List ℕ × List (List ℕ))
next-by b c w v rest = cond b None (cond c (Some (codes "--order=" ++ v, rest)) (Some (w, v ∷ rest)))

-- words of which none is next stay
done-by : (b c : Bool) (w v : List ℕ) (rest : List (List ℕ)) → next-by b c w v rest ≡ None → joined-by b c w v rest ≡ w ∷ v ∷ rest
done-by true c w v rest h = refl
done-by false true w v rest h = absurd cc
done-by false false w v rest h = absurd cc

pub joined-done : (xs : List (List ℕ)) → next_word xs ≡ None → joined xs ≡ xs
joined-done [] h = refl
joined-done (w ∷ []) h = refl
joined-done (w ∷ v ∷ rest) h = done-by (bytes_eq w (codes "--")) (is_order w v) w v rest h

-- the next word, and the others joined
both : (a b c d : List ℕ) (xs ys : List (List ℕ)) → ◌≡◌ {A = Option (List ℕ × List (List ℕ))} (Some (a, xs)) (Some (b, ys)) → (a ≡ b) × (xs ≡ ys)
both a b c d xs ys h = (ap first h, ap second h)
  where
    first : Option (List ℕ × List (List ℕ)) → List ℕ
    first None = a
    first (Some p) = p.0

    second : Option (List ℕ × List (List ℕ)) → List (List ℕ)
    second None = xs
    second (Some p) = p.1

more-by : (b c : Bool) (w v word : List ℕ) (rest after : List (List ℕ)) → next-by b c w v rest ≡ Some (word, after) → joined-by b c w v rest ≡ word ∷ joined after
more-by true c w v word rest after h = absurd cc
more-by false true w v word rest after h = let same = both (codes "--order=" ++ v) word v v rest after h in λ i. same.0 i ∷ joined (same.1 i)
more-by false false w v word rest after h = let same = both w word v v (v ∷ rest) after h in λ i. same.0 i ∷ joined (same.1 i)

joined-more : (xs : List (List ℕ)) (word : List ℕ) (after : List (List ℕ)) → next_word xs ≡ Some (word, after) → joined xs ≡ word ∷ joined after
joined-more [] word after h = absurd cc
joined-more (w ∷ []) word after h = absurd cc
joined-more (w ∷ v ∷ rest) word after h = more-by (bytes_eq w (codes "--")) (is_order w v) w v word rest after h

shorter-by : (b c : Bool) (w v word : List ℕ) (rest after : List (List ℕ)) → next-by b c w v rest ≡ Some (word, after) → length after < length (w ∷ v ∷ rest)
shorter-by true c w v word rest after h = absurd cc
shorter-by false true w v word rest after h =
    let same : length rest ≡ length after = ap (λ (l : List (List ℕ)). length l) (both (codes "--order=" ++ v) word v v rest after h).1 in omega (arith, same)
shorter-by false false w v word rest after h =
    let same : length (v ∷ rest) ≡ length after = ap (λ (l : List (List ℕ)). length l) (both w word v v (v ∷ rest) after h).1 in omega (arith, same)

pub joined-shorter : (xs : List (List ℕ)) (word : List ℕ) (after : List (List ℕ)) → next_word xs ≡ Some (word, after) → length after < length xs
joined-shorter [] word after h = absurd cc
joined-shorter (w ∷ []) word after h = absurd cc
joined-shorter (w ∷ v ∷ rest) word after h = shorter-by (bytes_eq w (codes "--")) (is_order w v) w v word rest after h

-- words that were joined, and one more
pub joined-step : (xs : List (List ℕ)) (word : List ℕ) (after done new all : List (List ℕ)) → next_word xs ≡ Some (word, after) → done ++ joined xs ≡ all → new ≡ done ++ word ∷ [] → new ++ joined after ≡ all
joined-step xs word after done new all next h grew =
    ap (λ ys. ys ++ joined after) grew ∙ append_assoc done (word ∷ []) (joined after) ∙ ap (λ ys. done ++ ys) (sym (joined-more xs word after next)) ∙ h
