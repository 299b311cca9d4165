-- Starts of pieces that are noted row by row.
use Rattle.std.proofs.Common.{◌≡◌, ◌∙◌, ◌≤◌, ◌<◌, ◌+◌, ◌-◌, ◌*◌, ℕ, zero, suc, Bool, true, false, List, [], ◌∷◌, ◌++◌, length, get_or, nat_lt, zero-mul, refl, sym, ap, arith}
use Rattle.std.proofs.lemmas.Bool.Decides.{nat_tests}
use Rattle.std.proofs.lemmas.List.{length-append}
use Rattle.pipe_source.specs.declared.starts.Starts.{Starts}
use Rattle.pipe_source.specs.Rows.{AreStarts, IsStart}
use Rattle.pipe_source.specs.Starts.{AreNoted}

-- an element before the last of a list that grew
get-before : (xs : List ℕ) (y k : ℕ) → k < length xs → get_or (xs ++ (y ∷ [])) k 0 ≡ get_or xs k 0
get-before [] y k h = absurd (omega arith)
get-before (x ∷ xs) y zero h = refl
get-before (x ∷ xs) y (suc k) h = get-before xs y k (omega arith)

-- the last of it
get-last : (xs : List ℕ) (y : ℕ) → get_or (xs ++ (y ∷ [])) (length xs) 0 ≡ y
get-last [] y = refl
get-last (x ∷ xs) y = get-last xs y

-- no row is noted
pub noted-none : (text : List ℕ) (at : ℕ) (s : Starts) → s.until ≡ 0 → s.places.items ≡ [] → AreNoted text at 0 s
noted-none text at s u p =
    let none : length s.places.items ≡ 0 = ap length p in record {
      each = λ k h. absurd (omega arith);
      count =
          let all : 0 + s.until ≡ 0 = omega (arith, u) in
          let zero_pieces : length s.places.items * s.size ≡ 0 = rw none (zero-mul s.size) in
          all ∙ sym zero_pieces;
    }

-- one more row of the last piece
pub noted-same : (text : List ℕ) (at row : ℕ) (old new : Starts) → new.size ≡ old.size → new.places.items ≡ old.places.items → 0 < old.until → new.until ≡ old.until - 1 → AreNoted text at row old → AreNoted text at (row + 1) new
noted-same text at row old new s p u w n = record {
  each = λ k h.
      let here = n.each k (omega (arith, ap length p)) in
      rw (s, p) (omega arith, here.1);
  count =
      let all : row + 1 + new.until ≡ length old.places.items * old.size = omega (arith, n.count) in
      rw (s, p) all;
}

-- one more piece
noted-at : (text : List ℕ) (at row place : ℕ) (places : List ℕ) (size k : ℕ) (b : Bool) → nat_lt k (length places) ≡ b → k < length places + 1 → row ≡ length places * size → ((j : ℕ) → j < length places → (j * size < row) × IsStart text at (j * size) (get_or places j 0)) → IsStart text at row place
    → (k * size < row + 1) × IsStart text at (k * size) (get_or (places ++ (place ∷ [])) k 0)
noted-at text at row place places size k true t h e each start =
    let less : k < length places = grind (arith, nat_tests) in
    let here = each k less in
    (omega arith, rw (get-before places place k less) here.1)
noted-at text at row place places size k false t h e each start =
    let more : length places ≤ k = grind (arith, nat_tests) in
    let same : k ≡ length places = omega arith in
    rw (same, get-last places place, ← e) (omega arith, start)

pub noted-more : (text : List ℕ) (at row place : ℕ) (old new : Starts) → 0 < old.size → new.size ≡ old.size → new.places.items ≡ old.places.items ++ (place ∷ []) → old.until ≡ 0 → new.until ≡ old.size - 1 → AreNoted text at row old → IsStart text at row place → AreNoted text at (row + 1) new
noted-more text at row place old new z s p u w n start =
    let size : length (old.places.items ++ (place ∷ [])) ≡ length old.places.items + 1 = omega (arith, length-append old.places.items (place ∷ [])) in
    let here : row ≡ length old.places.items * old.size = omega (arith, n.count) in record {
      each = λ k h. rw (s, p) (noted-at text at row place old.places.items old.size k _ refl (omega (arith, size, ap length p)) here n.each start);
      count =
          let all : row + 1 + new.until ≡ (length old.places.items + 1) * old.size = omega arith in
          rw (s, p, size) all;
    }

-- all pieces of so many rows have their starts
pub noted-all : (text : List ℕ) (at row size : ℕ) (s : Starts) → s.size ≡ size → AreNoted text at row s → AreStarts text at size row s.places.items
noted-all text at row size s e n = record { each = rw (← e) n.each; all = rw (← e) (omega (arith, n.count)) }
