-- The bits of 64 bytes where a row of short numbers begins.
use Rattle.std.proofs.Common.{◌⊎◌, inl, inr, ◌≡◌, ◌∙◌, ◌≤◌, ◌<◌, ◌+◌, ◌-◌, ◌^◌, ◌==◌, ◌||◌, min, max, ℕ, List, length, get_or, Bool, true, false, refl, sym, ap, subst, arith}
use lib.Bits.{bit_and}
use mir.Syntax.{w64}
use Rattle.std.specs.Int.{bit_at, bit_not}
use Rattle.std.specs.Int.RustNames.{bit_or}
use Rattle.std.proofs.lemmas.Bool.{cases_eq, eqb-true}
use Rattle.std.proofs.lemmas.Nat.Bits.{bit_at_and, bit_at_not, bit_at_or}
use Rattle.pipe_scan.specs.NumberBlock.{AreLegalEnds, AreLines, IsBegin, IsGood, IsLegal, IsNumberBlock, is_end}
use Rattle.pipe_scan.specs.Stops.{is_no_digit, marks}
use Rattle.pipe_scan.proofs.MarkFacts.{bit_if, is_set, is_unset, mark-bit}
use Rattle.pipe_scan.proofs.NumberBits.{both}
use Rattle.pipe_scan.proofs.NumberRows.{end_cases}

either_bit : (a b : Bool) → max (bit_if a) (bit_if b) ≡ bit_if (a || b)
either_bit true true = refl
either_bit true false = refl
either_bit false true = refl
either_bit false false = refl

not_set : (b : Bool) → 1 - bit_if b ≡ 1 → b ≡ false
not_set true h = absurd (omega (arith, h))
not_set false h = refl

-- what bits say of 64 bytes
record AreOf (text : List ℕ) (at digits ends signs : ℕ) : Type 0 where
  digit : (i : ℕ) → i < 64 → bit_at digits i ≡ 1 - bit_if (is_no_digit (get_or text (at + i) 0))
  end : (i : ℕ) → i < 64 → bit_at ends i ≡ bit_if (is_end (get_or text (at + i) 0))
  sign : (i : ℕ) → i < 64 → bit_at signs i ≡ bit_if (get_or text (at + i) 0 == 45)

are-of : (text : List ℕ) (at others : ℕ) → at + 64 ≤ length text → others ≡ marks is_no_digit text at 64 → others < 2 ^ 64
    → AreOf text at (bit_not w64 others) (bit_or (marks (λ c. c == 44) text at 64) (marks (λ c. c == 10) text at 64)) (marks (λ c. c == 45) text at 64)
are-of text at others h e l = record {
  digit = λ i w. bit_at_not w64 others i l w ∙ ap (λ (n : ℕ). 1 - n) (ap (λ (n : ℕ). bit_at n i) e ∙ mark-bit is_no_digit text at i h w);
  end = λ i w.
      bit_at_or (marks (λ c. c == 44) text at 64) (marks (λ c. c == 10) text at 64) i
      ∙ rw (mark-bit (λ c. c == 44) text at i h w, mark-bit (λ c. c == 10) text at i h w) (either_bit (get_or text (at + i) 0 == 44) (get_or text (at + i) 0 == 10));
  sign = λ i w. mark-bit (λ c. c == 45) text at i h w;
}

-- where a bit says so, a field begins
begins : (text : List ℕ) (at digits ends signs i : ℕ) → AreOf text at digits ends signs → i < 64 → (i ≡ 0) ⊎ ((0 < i) × (bit_at ends (i - 1) ≡ 1)) → IsBegin text at (at + i)
begins text at digits ends signs i a l (inl e) = inl (omega (arith, e))
begins text at digits ends signs i a l (inr h) =
    let p : at + i - 1 ≡ at + (i - 1) = omega (arith, h.0) in
    inr (omega (arith, h.0), rw p (is_set (is_end (get_or text (at + (i - 1)) 0)) (sym (a.end (i - 1) (omega (arith, l))) ∙ h.1)))

-- and a byte is where a row of numbers may have it
legal : (text : List ℕ) (at digits ends signs i : ℕ) → AreOf text at digits ends signs → i < 64 → IsGood digits ends signs i → IsLegal text at (at + i)
legal text at digits ends signs i a l (inl d) = inl (not_set (is_no_digit (get_or text (at + i) 0)) (sym (a.digit i l) ∙ d))
legal text at digits ends signs i a l (inr (inl s)) =
    inr (inl (eqb-true (get_or text (at + i) 0) 45 (is_set (get_or text (at + i) 0 == 45) (sym (a.sign i l) ∙ s.0)), begins text at digits ends signs i a l s.1))
legal text at digits ends signs i a l (inr (inr e)) =
    let p : at + i - 1 ≡ at + (i - 1) = omega (arith, e.1) in
    inr (inr (is_set (is_end (get_or text (at + i) 0)) (sym (a.end i l) ∙ e.0), omega (arith, e.1), rw p (not_set (is_no_digit (get_or text (at + (i - 1)) 0)) (sym (a.digit (i - 1) (omega (arith, l))) ∙ e.2))))

block-of : (text : List ℕ) (at digits ends signs below : ℕ) → at + 64 ≤ length text → AreOf text at digits ends signs → AreLegalEnds digits ends signs below → IsNumberBlock text at at below
block-of text at digits ends signs below h a l = record {
  count = l.count;
  few = l.few;
  within = h;
  behind = omega arith;
  before = omega arith;
  begin = inl refl;
  legal = λ k x y.
      let p : at + (k - at) ≡ k = omega (arith, x) in
      let i : k - at < l.count = omega (arith, x, y) in
      subst (λ (j : ℕ). IsLegal text at j) p (legal text at digits ends signs (k - at) a (omega (arith, i, l.few)) (l.good (k - at) i));
  short = λ s k x y n.
      l.short s (k - at) (omega (arith, x, y)) (λ j u v.
      let d : is_no_digit (get_or text (at + j) 0) ≡ false = n (at + j) (omega (arith, u)) (omega (arith, x, v)) in
      a.digit j (omega (arith, v, y, x)) ∙ rw d refl);
  is = λ i w o. let k = l.is i w o in (k.0, omega arith, is_set (is_end (get_or text (at + i) 0)) (sym (a.end i w) ∙ k.1));
  is_not = λ i w _ o. is_unset (is_end (get_or text (at + i) 0)) (sym (a.end i (omega (arith, w, l.few))) ∙ l.is_not i w o);
}

-- the ends of a block where a row begins
pub number-block : (text : List ℕ) (at others below : ℕ) → at + 64 ≤ length text → others ≡ marks is_no_digit text at 64 → others < 2 ^ 64
    → AreLegalEnds (bit_not w64 others) (bit_or (marks (λ c. c == 44) text at 64) (marks (λ c. c == 10) text at 64)) (marks (λ c. c == 45) text at 64) below → IsNumberBlock text at at below
number-block text at others below h e l a =
    block-of text at (bit_not w64 others) (bit_or (marks (λ c. c == 44) text at 64) (marks (λ c. c == 10) text at 64)) (marks (λ c. c == 45) text at 64) below h (are-of text at others h e l) a

-- the ends that are LF
is_line : (c : ℕ) → bit_if (c == 10) ≡ 1 → c ≡ 10
is_line c h = eqb-true c 10 (is_set (c == 10) h)

is_comma_by : (c : ℕ) → (c ≡ 44) ⊎ (c ≡ 10) → bit_if (c == 10) ≡ 0 → c ≡ 44
is_comma_by c (inl e) h = e
is_comma_by c (inr e) h = let n : (c == 10) ≡ false = is_unset (c == 10) h in let x : (10 == 10) ≡ false = rw e at n in absurd cc

pub lines-of : (text : List ℕ) (at below : ℕ) → at + 64 ≤ length text → IsNumberBlock text at at below → AreLines text at below (bit_and below (marks (λ c. c == 10) text at 64))
lines-of text at below h b = record {
  line = λ i l s. let k = both below (marks (λ c. c == 10) text at 64) i s in (k.0, is_line (get_or text (at + i) 0) (sym (mark-bit (λ c. c == 10) text at i h l) ∙ k.1));
  comma = λ i l s n.
      let e : min (bit_at below i) (bit_at (marks (λ c. c == 10) text at 64) i) ≡ 0 = sym (bit_at_and below (marks (λ c. c == 10) text at 64) i) ∙ n in
      let z : bit_at (marks (λ c. c == 10) text at 64) i ≡ 0 = omega (arith, e, s) in
      let k = b.is i l s in
      is_comma_by (get_or text (at + i) 0) (end_cases (get_or text (at + i) 0) k.2 (cases_eq (get_or text (at + i) 0) 44)) (sym (mark-bit (λ c. c == 10) text at i h l) ∙ z);
}
