-- Marks of a text's bytes from a place on, of which the first is taken.
use Rattle.std.proofs.Common.{◌⊎◌, inl, inr, ◌≡◌, ◌≢◌, ◌∙◌, ◌≤◌, ◌<◌, ◌+◌, ◌-◌, ◌^◌, ℕ, List, length, map, get_or, Bool, true, false, refl, sym, ap, arith}
use Rattle.std.specs.Prelude.{cond}
use lib.Bits.{bit_and}
use lib.Count.{count_trailing_zeros}
use lib.Lanes.{chunk}
use Rattle.std.specs.Int.{bit_at}
use Rattle.std.proofs.lemmas.Bool.{cases_eq, cases_lt}
use Rattle.std.proofs.lemmas.List.{get_or-map}
use Rattle.std.proofs.lemmas.Nat.Bits.{bit_at-zero}
use Rattle.std.proofs.lemmas.Simd.{bit_mask_l, get_or-chunk, length-chunk}
use Rattle.pipe_scan.specs.NextStop.{HasNone, IsSeen}
use Rattle.pipe_scan.specs.Stops.{DoMarkFrom, marks}
use Rattle.pipe_scan.proofs.NumberBits.{IsLowest, clear-other, clear-same, lowest}

-- a bit that a test sets
abbrev pub bit_if : Bool → ℕ
bit_if b = cond b 1 0

-- a bit for each byte of a kind
pub mark-bit : (kind : ℕ → Bool) (text : List ℕ) (at i : ℕ) → at + 64 ≤ length text → i < 64 → bit_at (marks kind text at 64) i ≡ bit_if (kind (get_or text (at + i) 0))
mark-bit kind text at i h l =
    let n : length (chunk at 64 text) ≡ 64 = length-chunk at 64 text h in
    bit_mask_l (map kind (chunk at 64 text)) i
    ∙ ap bit_if (get_or-map kind (chunk at 64 text) i 0 false (omega (arith, n, l)) ∙ ap kind (get_or-chunk at 64 text i 0 l))

pub is_set : (b : Bool) → bit_if b ≡ 1 → b ≡ true
is_set true h = refl
is_set false h = absurd (omega (arith, h))

pub is_unset : (b : Bool) → bit_if b ≡ 0 → b ≡ false
is_unset true h = absurd (omega (arith, h))
is_unset false h = refl

-- so 64 bytes are marked
abbrev pub marks-from : (kind : ℕ → Bool) (text : List ℕ) (at : ℕ) → at + 64 ≤ length text → DoMarkFrom kind text at at (marks kind text at 64)
marks-from kind text at h = record {
  count = 64;
  within = h;
  few = omega arith;
  order = omega arith;
  is = λ i l s. (l, omega arith, is_set (kind (get_or text (at + i) 0)) (sym (mark-bit kind text at i h l) ∙ s));
  is_not = λ i l _ s. is_unset (kind (get_or text (at + i) 0)) (sym (mark-bit kind text at i h l) ∙ s);
}

-- no byte is marked
pub none-from : (kind : ℕ → Bool) (text : List ℕ) (low at : ℕ) → low ≤ at → low ≤ length text → DoMarkFrom kind text low at 0
none-from kind text low at o h = record {
  count = 0;
  within = omega (arith, h);
  few = omega arith;
  order = o;
  is = λ i l s. let z = bit_at-zero i in absurd (omega (arith, z, s));
  is_not = λ i l _ s. absurd (omega (arith, l));
}

-- where none is marked, none is of the kind
pub none-marked : (kind : ℕ → Bool) (text : List ℕ) (low at bits : ℕ) (m : DoMarkFrom kind text low at bits) → bits ≡ 0 → HasNone kind text at (low + m.count)
none-marked kind text low at bits m e = λ k a b.
    let j : ℕ = k - low in
    let p : low + j ≡ k = omega (arith, a, m.order) in
    rw p at (m.is_not j (omega (arith, p, b)) (omega (arith, p, a)) (ap (λ (n : ℕ). bit_at n j) e ∙ bit_at-zero j))

-- the lowest mark is that of the first byte of the kind
pub first-marked : (kind : ℕ → Bool) (text : List ℕ) (low at bits : ℕ) → DoMarkFrom kind text low at bits → bits < 2 ^ 64 → 0 < bits → IsSeen kind text at (low + count_trailing_zeros 64 bits)
first-marked kind text low at bits m f s =
    let t : ℕ = count_trailing_zeros 64 bits in
    let z = lowest bits s f in
    let i = m.is t z.0 z.1.set in (
      record {
        low = i.1;
        high = omega (arith, i.0, m.within);
        before = λ k a b.
            let j : ℕ = k - low in
            let p : low + j ≡ k = omega (arith, a, m.order) in
            rw p at (m.is_not j (omega (arith, p, b, i.0)) (omega (arith, p, a)) (z.1.below j (omega (arith, p, b))));
        is = λ _. i.2;
      },
      omega (arith, i.0, m.within),
    )

-- and the others are of those behind it
is_behind : (kind : ℕ → Bool) (text : List ℕ) (low at bits t : ℕ) (m : DoMarkFrom kind text low at bits) → IsLowest bits t → (i : ℕ) → i < 64 → bit_at (bit_and bits (bits - 1)) i ≡ 1 → (i ≡ t) ⊎ (i ≢ t) → (i < t) ⊎ (t ≤ i)
    → (i < m.count) × (low + t + 1 ≤ low + i) × (kind (get_or text (low + i) 0) ≡ true)
is_behind kind text low at bits t m z i l s (inl e) g = let c = ap (λ (j : ℕ). bit_at (bit_and bits (bits - 1)) j) e ∙ clear-same bits t z in absurd (omega (arith, c, s))
is_behind kind text low at bits t m z i l s (inr d) (inl g) = let c = clear-other bits t i z d in let y = z.below i g in absurd (omega (arith, c, y, s))
is_behind kind text low at bits t m z i l s (inr d) (inr g) =
    let x = m.is i l (sym (clear-other bits t i z d) ∙ s) in
    (x.0, omega (arith, d, g), x.2)

pub marks-behind-first : (kind : ℕ → Bool) (text : List ℕ) (low at bits : ℕ) → DoMarkFrom kind text low at bits → bits < 2 ^ 64 → 0 < bits → DoMarkFrom kind text low (low + count_trailing_zeros 64 bits + 1) (bit_and bits (bits - 1))
marks-behind-first kind text low at bits m f s =
    let t : ℕ = count_trailing_zeros 64 bits in
    let z = lowest bits s f in
    let x = m.is t z.0 z.1.set in record {
      count = m.count;
      within = m.within;
      few = m.few;
      order = omega arith;
      is = λ i l h. is_behind kind text low at bits t m z.1 i l h (cases_eq i t) (cases_lt i t);
      is_not = λ i l a h. let d : i ≢ t = omega (arith, a) in m.is_not i l (omega (arith, a, x.1)) (sym (clear-other bits t i z.1 d) ∙ h);
    }
