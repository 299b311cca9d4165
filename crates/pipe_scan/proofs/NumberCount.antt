-- Rows of short numbers by the number of their ends.
use Rattle.std.proofs.Common.{◌⊎◌, inl, inr, ◌≡◌, ◌≢◌, ◌∙◌, ◌≤◌, ◌<◌, ◌+◌, ◌-◌, ◌*◌, ◌/◌, ◌^◌, ℕ, zero, suc, List, length, get_or, Bool, true, refl, sym, ap, arith}
use lib.Bits.{bit_and}
use lib.Count.{count_trailing_zeros, ones}
use Rattle.std.specs.Int.{bit_at}
use Rattle.std.specs.Int.RustNames.{bit_xor}
use Rattle.std.specs.List.{list_all}
use Rattle.std.proofs.Math.Pow.{pow-lt}
use Rattle.std.proofs.lemmas.Bool.{cases_eq, cases_lt}
use Rattle.std.proofs.lemmas.Nat.{and_le_l, ones_cat, pow_pos, zero_from_ones}
use Rattle.std.proofs.lemmas.Nat.Bits.{bit_at-lt, bit_at-zero, bit_at_and, bit_at_cat_high, bit_at_cat_low, bit_at_xor, same_from_bits}
use Rattle.pipe_scan.specs.NumberBlock.{AreLines, GoesRow, IsNumberBlock}
use Rattle.pipe_scan.specs.Plain.{IsPlainRow}
use Rattle.pipe_scan.proofs.NumberBits.{IsLowest, clear-other, clear-same, less-above, less-at, less-below, lowest, lowest-is}
use Rattle.pipe_scan.proofs.NumberRows.{IsInRow, number-end, row-end, row-more, row-start}

-- the bits of 0 and of 1
ones_zero : ones 0 ≡ 0
unfolding ones
ones_zero = refl

ones_one : ones 1 ≡ 1
unfolding ones
ones_one = refl

-- a power of two has one bit
ones_pow : (t : ℕ) → ones (2 ^ t) ≡ 1
ones_pow t =
    let e : 2 ^ t ≡ 1 * 2 ^ t + 0 = omega arith in
    let c : ones (1 * 2 ^ t + 0) ≡ ones 1 + ones 0 = ones_cat t 1 0 (pow_pos t) in
    ap ones e ∙ c ∙ rw (ones_zero, ones_one) refl

-- without its lowest bit, a number is the rest
cleared_by : (n t i : ℕ) → IsLowest n t → (i < t + 1) ⊎ (t + 1 ≤ i) → (i ≡ t) ⊎ (i ≢ t) → bit_at (bit_and n (n - 1)) i ≡ bit_at (n / 2 ^ (t + 1) * 2 ^ (t + 1) + 0) i
cleared_by n t i z (inl l) (inl e) = (ap (λ (j : ℕ). bit_at (bit_and n (n - 1)) j) e ∙ clear-same n t z) ∙ sym (bit_at_cat_low (n / 2 ^ (t + 1)) (t + 1) 0 i l ∙ bit_at-zero i)
cleared_by n t i z (inl l) (inr d) = (clear-other n t i z d ∙ z.below i (omega (arith, l, d))) ∙ sym (bit_at_cat_low (n / 2 ^ (t + 1)) (t + 1) 0 i l ∙ bit_at-zero i)
cleared_by n t i z (inr g) d =
    clear-other n t i z (omega (arith, g))
    ∙ ap (λ (m : ℕ). bit_at m i) (lowest-is n t z)
    ∙ bit_at_cat_high (n / 2 ^ (t + 1)) (t + 1) (2 ^ t) i (pow-lt (omega arith)) g
    ∙ sym (bit_at_cat_high (n / 2 ^ (t + 1)) (t + 1) 0 i (pow_pos (t + 1)) g)

cleared_is : (n t : ℕ) → IsLowest n t → bit_and n (n - 1) ≡ n / 2 ^ (t + 1) * 2 ^ (t + 1) + 0
cleared_is n t z = same_from_bits (bit_and n (n - 1)) (n / 2 ^ (t + 1) * 2 ^ (t + 1) + 0) (λ i. cleared_by n t i z (cases_lt i (t + 1)) (cases_eq i t))

-- so it has one bit fewer
ones_fewer : (n t : ℕ) → IsLowest n t → ones n ≡ ones (bit_and n (n - 1)) + 1
ones_fewer n t z =
    let q : ℕ = n / 2 ^ (t + 1) in
    let a : ones n ≡ ones q + ones (2 ^ t) = ap ones (lowest-is n t z) ∙ ones_cat (t + 1) q (2 ^ t) (pow-lt (omega arith)) in
    let b : ones (bit_and n (n - 1)) ≡ ones q + ones 0 = ap ones (cleared_is n t z) ∙ ones_cat (t + 1) q 0 (pow_pos (t + 1)) in
    let o = ones_pow t in
    let y : ones 0 ≡ 0 = ones_zero in
    omega (arith, a, b, o, y)

-- the bits of a number up to a place
record IsFront (rest t front : ℕ) : Type 0 where
  inside : (j : ℕ) → j ≤ t → bit_at front j ≡ bit_at rest j
  outside : (j : ℕ) → t < j → bit_at front j ≡ 0

-- the bits up to the lowest of another number
up_to : (n t j : ℕ) → IsLowest n t → j ≤ t → (j ≡ t) ⊎ (j ≢ t) → bit_at (bit_xor n (n - 1)) j ≡ 1
up_to n t j z l (inl e) =
    let a : bit_at n j ≡ 1 = rw e z.set in
    let b : bit_at (n - 1) j ≡ 0 = rw e (less-at n t z) in
    bit_at_xor n (n - 1) j ∙ rw (a, b) refl
up_to n t j z l (inr d) =
    let k : j < t = omega (arith, l, d) in
    bit_at_xor n (n - 1) j ∙ rw (z.below j k, less-below n t j z k) refl

none_above : (n t j : ℕ) → IsLowest n t → t < j → bit_at (bit_xor n (n - 1)) j ≡ 0
none_above n t j z l = bit_at_xor n (n - 1) j ∙ rw (less-above n t j z l) (omega arith)

front-of : (rest lines t : ℕ) → IsLowest lines t → IsFront rest t (bit_and rest (bit_xor lines (lines - 1)))
front-of rest lines t z = record {
  inside = λ j l. let g = bit_at-lt rest j in bit_at_and rest (bit_xor lines (lines - 1)) j ∙ omega (arith, up_to lines t j z l (cases_eq j t), g);
  outside = λ j l. bit_at_and rest (bit_xor lines (lines - 1)) j ∙ omega (arith, none_above lines t j z l);
}

-- the bits behind a place
record IsBack (rest t back : ℕ) : Type 0 where
  inside : (j : ℕ) → j ≤ t → bit_at back j ≡ 0
  outside : (j : ℕ) → t < j → bit_at back j ≡ bit_at rest j

back-of : (rest t front : ℕ) → IsFront rest t front → IsBack rest t (bit_xor rest front)
back-of rest t front f = record {
  inside = λ j l. bit_at_xor rest front j ∙ rw (f.inside j l) (omega arith);
  outside = λ j l. let g = bit_at-lt rest j in bit_at_xor rest front j ∙ rw (f.outside j l) (omega (arith, g));
}

-- a number with a bit isn't 0
has_bit : (n t : ℕ) → bit_at n t ≡ 1 → (n ≡ 0) ⊎ (n ≢ 0) → 0 < n
has_bit n t s (inl e) = let z : bit_at n t ≡ 0 = ap (λ (m : ℕ). bit_at m t) e ∙ bit_at-zero t in absurd (omega (arith, z, s))
has_bit n t s (inr d) = omega (arith, d)

-- no bit stands below the lowest
not_below : (n u t : ℕ) → IsLowest n u → bit_at n t ≡ 1 → (t < u) ⊎ (u ≤ t) → u ≤ t
not_below n u t z s (inl l) = let y = z.below t l in absurd (omega (arith, y, s))
not_below n u t z s (inr l) = l

-- bits without their lowest
front_less : (rest t front u : ℕ) → IsFront rest t front → IsLowest rest u → IsLowest front u → u ≤ t → IsFront (bit_and rest (rest - 1)) t (bit_and front (front - 1))
front_less rest t front u f z y l = record {
  inside = λ j a. less_by rest t front u j f z y a (cases_eq j u);
  outside = λ j a. clear-other front u j y (omega (arith, a, l)) ∙ f.outside j a;
} where
  less_by : (rest t front u j : ℕ) → IsFront rest t front → IsLowest rest u → IsLowest front u → j ≤ t → (j ≡ u) ⊎ (j ≢ u) → bit_at (bit_and front (front - 1)) j ≡ bit_at (bit_and rest (rest - 1)) j
  less_by rest t front u j f z y a (inl e) = rw e (clear-same front u y ∙ sym (clear-same rest u z))
  less_by rest t front u j f z y a (inr d) = clear-other front u j y d ∙ f.inside j a ∙ sym (clear-other rest u j z d)

front_lowest : (rest t front u : ℕ) → IsFront rest t front → IsLowest rest u → u ≤ t → IsLowest front u
front_lowest rest t front u f z l = record { set = f.inside u l ∙ z.set; below = λ i a. f.inside i (omega (arith, a, l)) ∙ z.below i a }

-- a row was gone over, and these are the ends behind it
record Goes (text : List ℕ) (at place rest t : ℕ) (numbers : List Bool) : Type 0 where
  row : (start : ℕ) × (ends : List ℕ) × IsPlainRow text place (at + t + 1) start numbers ends
  left : ℕ
  block : IsNumberBlock text at (at + t + 1) left
  back : IsBack rest t left

-- what is known of the bytes of a text and of the fields
record IsKnown (text : List ℕ) (numbers : List Bool) : Type 0 where
  fits : (k : ℕ) → get_or text k 0 < 256
  all : list_all (λ x. x) numbers ≡ true

-- commas, and LF behind them
record AreMarks (text : List ℕ) (at rest t : ℕ) : Type 0 where
  small : rest < 2 ^ 64
  set : bit_at rest t ≡ 1
  line : get_or text (at + t) 0 ≡ 10
  commas : (j : ℕ) → j < t → bit_at rest j ≡ 1 → get_or text (at + j) 0 ≡ 44

-- the lowest end is LF
goes_last : (text : List ℕ) (at place rest : ℕ) (numbers : List Bool) (i t : ℕ) (r : IsInRow text at place rest numbers i) → IsKnown text numbers → AreMarks text at rest t → i + 1 ≡ length numbers → count_trailing_zeros 64 rest ≡ t → Goes text at place rest t numbers
goes_last text at place rest numbers i t r k m n e =
    let s : 0 < rest = has_bit rest t m.set (cases_eq rest 0) in
    let z = lowest rest s m.small in
    let z2 : IsLowest rest t = rw e at z.1 in
    let f = rw e at (number-end text at r.low rest m.small s r.block) in record {
      row = row-end text at place rest numbers i (at + t) (bit_and rest (rest - 1)) r k.fits k.all n s f m.line;
      left = bit_and rest (rest - 1);
      block = f.block;
      back = record { inside = λ j l. last_by rest t j z2 l (cases_eq j t); outside = λ j l. clear-other rest t j z2 (omega (arith, l)) };
    } where
      last_by : (rest t j : ℕ) → IsLowest rest t → j ≤ t → (j ≡ t) ⊎ (j ≢ t) → bit_at (bit_and rest (rest - 1)) j ≡ 0
      last_by rest t j z l (inl e) = rw e (clear-same rest t z)
      last_by rest t j z l (inr d) = clear-other rest t j z d ∙ z.below j (omega (arith, l, d))

-- the bits of a row without the first
front_zero : (rest t front j : ℕ) → IsFront rest t front → IsLowest rest t → IsLowest front t → (j ≡ t) ⊎ (j ≢ t) → (j < t) ⊎ (t ≤ j) → bit_at (bit_and front (front - 1)) j ≡ bit_at 0 j
front_zero rest t front j f z y (inl e) k = rw e (clear-same front t y) ∙ sym (bit_at-zero j)
front_zero rest t front j f z y (inr d) (inl k) = clear-other front t j y d ∙ y.below j k ∙ sym (bit_at-zero j)
front_zero rest t front j f z y (inr d) (inr k) = clear-other front t j y d ∙ f.outside j (omega (arith, d, k)) ∙ sym (bit_at-zero j)

-- one bit, if the lowest is the last
one_bit : (rest t front : ℕ) → IsFront rest t front → IsLowest rest t → ones front ≡ 1
one_bit rest t front f z =
    let y : IsLowest front t = front_lowest rest t front t f z (omega arith) in
    let c : bit_and front (front - 1) ≡ 0 = same_from_bits (bit_and front (front - 1)) 0 (λ j. front_zero rest t front j f z y (cases_eq j t) (cases_lt j t)) in
    let o = ones_fewer front t y in
    let d : ones (bit_and front (front - 1)) ≡ ones 0 = ap ones c in
    let w : ones 0 ≡ 0 = ones_zero in
    omega (arith, o, d, w)

-- more bits, if not
more_bits : (rest t front u : ℕ) → IsFront rest t front → bit_at rest t ≡ 1 → IsLowest rest u → u ≤ t → u ≢ t → (ones (bit_and front (front - 1)) ≡ 0) ⊎ (ones (bit_and front (front - 1)) ≢ 0) → ones front ≢ 1
more_bits rest t front u f s z l d (inl e) =
    let y : IsLowest front u = front_lowest rest t front u f z l in
    let c : bit_and front (front - 1) ≡ 0 = zero_from_ones (bit_and front (front - 1)) e in
    let a : bit_at (bit_and front (front - 1)) t ≡ 0 = ap (λ (m : ℕ). bit_at m t) c ∙ bit_at-zero t in
    let b : bit_at (bit_and front (front - 1)) t ≡ 1 = clear-other front u t y (λ e. d (sym e)) ∙ f.inside t (omega arith) ∙ s in
    absurd (omega (arith, a, b))
more_bits rest t front u f s z l d (inr n) =
    let o = ones_fewer front u (front_lowest rest t front u f z l) in
    λ e. omega (arith, o, e, n)

-- what goes over a row with so many ends behind the first
abbrev Going : ℕ → Type 0
Going n =
    (text : List ℕ) (at place rest : ℕ) (numbers : List Bool) (i t front : ℕ) → IsInRow text at place rest numbers i → IsKnown text numbers → t < 64 → AreMarks text at rest t → IsFront rest t front → ones front ≡ suc n → i + suc n ≡ length numbers → Goes text at place rest t numbers

-- the lowest of one end
goes_one : (text : List ℕ) (at place rest : ℕ) (numbers : List Bool) (i t front u : ℕ) → IsInRow text at place rest numbers i → IsKnown text numbers → AreMarks text at rest t → IsFront rest t front → ones front ≡ 1 → i + 1 ≡ length numbers
    → count_trailing_zeros 64 rest ≡ u → IsLowest rest u → u ≤ t → (u ≡ t) ⊎ (u ≢ t) → Goes text at place rest t numbers
goes_one text at place rest numbers i t front u r k m f o n e z l (inl p) = goes_last text at place rest numbers i t r k m n (e ∙ p)
goes_one text at place rest numbers i t front u r k m f o n e z l (inr d) = absurd (more_bits rest t front u f m.set z l d (cases_eq (ones (bit_and front (front - 1))) 0) o)

-- the bits behind the lowest, as those behind a later one
back_less : (rest u t left : ℕ) → IsLowest rest u → u < t → IsBack (bit_and rest (rest - 1)) t left → IsBack rest t left
back_less rest u t left z l b = record { inside = b.inside; outside = λ j a. b.outside j a ∙ clear-other rest u j z (omega (arith, a, l)) }

marks_less : (text : List ℕ) (at rest t u : ℕ) → AreMarks text at rest t → IsLowest rest u → u < t → AreMarks text at (bit_and rest (rest - 1)) t
marks_less text at rest t u m z l = record {
  small = omega (arith, m.small, and_le_l rest (rest - 1));
  set = clear-other rest u t z (omega (arith, l)) ∙ m.set;
  line = m.line;
  commas = λ j a s. m.commas j a (sym (clear-other rest u j z (other_of j s (cases_eq j u))) ∙ s);
} where
  other_of : (j : ℕ) → bit_at (bit_and rest (rest - 1)) j ≡ 1 → (j ≡ u) ⊎ (j ≢ u) → j ≢ u
  other_of j s (inl e) = let c : bit_at (bit_and rest (rest - 1)) j ≡ 0 = rw e (clear-same rest u z) in absurd (omega (arith, c, s))
  other_of j s (inr d) = d

-- the lowest of more
goes_more : (n : ℕ) (text : List ℕ) (at place rest : ℕ) (numbers : List Bool) (i t front u : ℕ) → Going n → IsInRow text at place rest numbers i → IsKnown text numbers → t < 64 → AreMarks text at rest t → IsFront rest t front → ones front ≡ suc (suc n) → i + suc (suc n) ≡ length numbers
    → count_trailing_zeros 64 rest ≡ u → IsLowest rest u → u ≤ t → (u ≡ t) ⊎ (u ≢ t) → Goes text at place rest t numbers
goes_more n text at place rest numbers i t front u more r k w m f o h e z l (inl p) = let a : ones front ≡ 1 = one_bit rest t front f (rw p at z) in absurd (omega (arith, a, o))
goes_more n text at place rest numbers i t front u more r k w m f o h e z l (inr d) =
    let v : u < t = omega (arith, l, d) in
    let s : 0 < rest = has_bit rest t m.set (cases_eq rest 0) in
    let x = rw e at (number-end text at r.low rest m.small s r.block) in
    let y : IsLowest front u = front_lowest rest t front u f z l in
    let c : ones front ≡ ones (bit_and front (front - 1)) + 1 = ones_fewer front u y in
    let r2 : IsInRow text at place (bit_and rest (rest - 1)) numbers (i + 1) = row-more text at place rest numbers i (at + u) (bit_and rest (rest - 1)) r k.fits k.all (omega (arith, h)) s x (m.commas u v z.set) in
    let g : Goes text at place (bit_and rest (rest - 1)) t numbers = more text at place (bit_and rest (rest - 1)) numbers (i + 1) t (bit_and front (front - 1)) r2 k w (marks_less text at rest t u m z v) (front_less rest t front u f z y l) (omega (arith, o, c)) (omega (arith, h)) in
    record { row = g.row; left = g.left; block = g.block; back = back_less rest u t g.left z v g.back }

-- the ends of a row: as many as its fields
goes : (n : ℕ) → Going n
goes zero = λ text at place rest numbers i t front r k w m f o h.
    let z = lowest rest (has_bit rest t m.set (cases_eq rest 0)) m.small in
    let u : ℕ = count_trailing_zeros 64 rest in
    goes_one text at place rest numbers i t front u r k m f o h refl z.1 (not_below rest u t z.1 m.set (cases_lt t u)) (cases_eq u t)
goes (suc n) = λ text at place rest numbers i t front r k w m f o h.
    let z = lowest rest (has_bit rest t m.set (cases_eq rest 0)) m.small in
    let u : ℕ = count_trailing_zeros 64 rest in
    goes_more n text at place rest numbers i t front u (goes n) r k w m f o h refl z.1 (not_below rest u t z.1 m.set (cases_lt t u)) (cases_eq u t)

-- a block by the bits of its ends
block_same : (text : List ℕ) (at low a b : ℕ) → ((i : ℕ) → i < 64 → bit_at a i ≡ bit_at b i) → IsNumberBlock text at low a → IsNumberBlock text at low b
block_same text at low a b s k = record {
  count = k.count;
  few = k.few;
  within = k.within;
  behind = k.behind;
  before = k.before;
  begin = k.begin;
  legal = k.legal;
  short = k.short;
  is = λ i l h. k.is i l (s i l ∙ h);
  is_not = λ i l g h. k.is_not i l g (s i (omega (arith, l, k.few)) ∙ h);
}

back_same : (rest t a b i : ℕ) → IsBack rest t a → IsBack rest t b → (t < i) ⊎ (i ≤ t) → bit_at a i ≡ bit_at b i
back_same rest t a b i f g (inl l) = f.outside i l ∙ sym (g.outside i l)
back_same rest t a b i f g (inr l) = f.inside i l ∙ sym (g.inside i l)

-- the marks of a row
marks_of : (text : List ℕ) (at ends lines t : ℕ) → ends < 2 ^ 64 → AreLines text at ends lines → t < 64 → IsLowest lines t → AreMarks text at ends t
marks_of text at ends lines t s m l z =
    let k = m.line t l z.set in record {
      small = s;
      set = k.0;
      line = k.1;
      commas = λ j a h. m.comma j (omega (arith, a, l)) h (z.below j a);
    }

-- the lines behind a row
lines_by : (text : List ℕ) (at ends lines t back i : ℕ) → AreLines text at ends lines → IsLowest lines t → IsBack ends t back → i < 64 → bit_at (bit_and lines (lines - 1)) i ≡ 1 → (i ≡ t) ⊎ (i ≢ t) → (i < t) ⊎ (t ≤ i) → (bit_at back i ≡ 1) × (get_or text (at + i) 0 ≡ 10)
lines_by text at ends lines t back i m z b l h (inl e) g = let c : bit_at (bit_and lines (lines - 1)) i ≡ 0 = rw e (clear-same lines t z) in absurd (omega (arith, c, h))
lines_by text at ends lines t back i m z b l h (inr d) (inl g) = let c = clear-other lines t i z d in let y = z.below i g in absurd (omega (arith, c, y, h))
lines_by text at ends lines t back i m z b l h (inr d) (inr g) =
    let k = m.line i l (sym (clear-other lines t i z d) ∙ h) in
    (b.outside i (omega (arith, d, g)) ∙ k.0, k.1)

commas_by : (text : List ℕ) (at ends lines t back i : ℕ) → AreLines text at ends lines → IsLowest lines t → IsBack ends t back → i < 64 → bit_at back i ≡ 1 → bit_at (bit_and lines (lines - 1)) i ≡ 0 → (t < i) ⊎ (i ≤ t) → get_or text (at + i) 0 ≡ 44
commas_by text at ends lines t back i m z b l h n (inl g) = m.comma i l (sym (b.outside i g) ∙ h) (sym (clear-other lines t i z (omega (arith, g))) ∙ n)
commas_by text at ends lines t back i m z b l h n (inr g) = let c = b.inside i g in absurd (omega (arith, c, h))

le_or : (t i : ℕ) → (t < i) ⊎ (i ≤ t)
le_or t i = cases_lt t i

-- the row up to the first line's end, if it has as many ends as fields are to be
pub goes-row : (text : List ℕ) (at place ends lines : ℕ) (numbers : List Bool) → ((k : ℕ) → get_or text k 0 < 256) → list_all (λ x. x) numbers ≡ true → 0 < length numbers → ends < 2 ^ 64 → lines < 2 ^ 64 → 0 < lines → IsNumberBlock text at place ends → AreLines text at ends lines
    → ones (bit_and ends (bit_xor lines (lines - 1))) ≡ length numbers
    → GoesRow text at place (at + count_trailing_zeros 64 lines + 1) (bit_xor ends (bit_and ends (bit_xor lines (lines - 1)))) (bit_and lines (lines - 1)) numbers
goes-row text at place ends lines numbers fits all some s w h b m o =
    let t : ℕ = count_trailing_zeros 64 lines in
    let z = lowest lines h w in
    let front : ℕ = bit_and ends (bit_xor lines (lines - 1)) in
    let f : IsFront ends t front = front-of ends lines t z.1 in
    let a : AreMarks text at ends t = marks_of text at ends lines t s m z.0 z.1 in
    let k : IsKnown text numbers = record { fits = fits; all = all } in
    let n : ℕ = length numbers - 1 in
    let c : ones front ≡ suc n = omega (arith, o, some) in
    let g : Goes text at place ends t numbers = goes n text at place ends numbers 0 t front (row-start text at place ends numbers s b) k z.0 a f c (omega (arith, some)) in
    let back : IsBack ends t (bit_xor ends front) = back-of ends t front f in record {
      row = g.row;
      block = block_same text at (at + t + 1) g.left (bit_xor ends front) (λ i l. back_same ends t g.left (bit_xor ends front) i g.back back (le_or t i)) g.block;
      behind = record {
        line = λ i l h. lines_by text at ends lines t (bit_xor ends front) i m z.1 back l h (cases_eq i t) (cases_lt i t);
        comma = λ i l h n. commas_by text at ends lines t (bit_xor ends front) i m z.1 back l h n (le_or t i);
      };
    }
