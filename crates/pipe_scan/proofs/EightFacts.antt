-- Eight digits at once.
use Rattle.std.proofs.Common.{subst, take, Option, Some, None, IfSome, inl, inr, ◌⊎◌, ◌-◌, drop, ◌≡◌, ◌∙◌, ◌≤◌, ◌<◌, ◌+◌, ◌*◌, ◌%◌, ◌^◌, ℕ, zero, suc, List, [], ◌∷◌, length, map, replicate, Bool, true, false, refl, sym, ap, arith, if◌then◌else◌, nat_le}
use lib.Bits as bits
use lib.Lanes.{mask_l, zip2, fold_l}
use borrow.Rule.Slice.PartMut.{mid_of}
use borrow.Rule.Simd.Lanes.{act1, act2}
use borrow.Table.Row.{s_int}
use mir.Syntax.{bit_and, cast, unsigned, w8, w32, wrap_sub, wrap_add, wrap_mul}
use Rattle.std.proofs.Math.Nat.{pow-suc}
use Rattle.std.proofs.lemmas.Nat.{and_mask}
use mir.Val.{Fits}
use lib.Lanes.{Each1, chunk}
use Rattle.std.specs.List.{fold, list_all}
use Rattle.std.specs.Char.{is_ascii_digit}
use Rattle.std.proofs.lemmas.Bool.{cases_lt, le-leb, leb-true, lt-leb}
use Rattle.pipe_scan.proofs.NumberFacts.{digit_byte, digits_read, is_digit}
use Rattle.std.proofs.lemmas.List.{drop_all, drop-drop, drop-take, length-drop}
use Rattle.pipe_scan.specs.Numbers.{number_of, read_digits}
use Rattle.pipe_scan.specs.Records.{between}
use Rattle.pipe_scan.specs.Eight.{AreDigits, IsEight, used_from, weighed}

-- a fact of eight elements
pub from_eight : (P : List ℕ → Type 0) → ((a b c d e f g h : ℕ) → P (a ∷ b ∷ c ∷ d ∷ e ∷ f ∷ g ∷ h ∷ [])) → (xs : List ℕ) → length xs ≡ 8 → P xs
from_eight P k [] l = absurd (omega (arith, l))
from_eight P k (a ∷ []) l = absurd (omega (arith, l))
from_eight P k (a ∷ b ∷ []) l = absurd (omega (arith, l))
from_eight P k (a ∷ b ∷ c ∷ []) l = absurd (omega (arith, l))
from_eight P k (a ∷ b ∷ c ∷ d ∷ []) l = absurd (omega (arith, l))
from_eight P k (a ∷ b ∷ c ∷ d ∷ e ∷ []) l = absurd (omega (arith, l))
from_eight P k (a ∷ b ∷ c ∷ d ∷ e ∷ f ∷ []) l = absurd (omega (arith, l))
from_eight P k (a ∷ b ∷ c ∷ d ∷ e ∷ f ∷ g ∷ []) l = absurd (omega (arith, l))
from_eight P k (a ∷ b ∷ c ∷ d ∷ e ∷ f ∷ g ∷ h ∷ []) l = k a b c d e f g h
from_eight P k (a ∷ b ∷ c ∷ d ∷ e ∷ f ∷ g ∷ h ∷ i ∷ xs) l = absurd (omega (arith, l))

-- a byte that is used
kept : (c : ℕ) → bits.bit_and ((c + 208) % 256) 255 ≡ (c + 208) % 256
kept c = and_mask ((c + 208) % 256) 8 ∙ omega arith

-- a byte that is left out
dropped : (c : ℕ) → bits.bit_and ((c + 208) % 256) 0 ≡ 0
dropped c = and_mask ((c + 208) % 256) 0 ∙ omega arith

-- lanes leave the last n bytes
abbrev Leaves : ℕ → List ℕ → Type 0
Leaves n xs =
    zip2 (act2 bit_and (s_int w8) (s_int w8) (s_int w8)) (zip2 (act2 wrap_sub (s_int w8) (s_int w8) (s_int w8)) xs (replicate 8 48))
    (chunk 0 8 (mid_of {X = ℕ} n (16 - n) (0 ∷ 0 ∷ 0 ∷ 0 ∷ 0 ∷ 0 ∷ 0 ∷ 0 ∷ 255 ∷ 255 ∷ 255 ∷ 255 ∷ 255 ∷ 255 ∷ 255 ∷ 255 ∷ [])))
    ≡ used_from (8 - n) 0 xs

-- so many of eight
leave_some : (n : ℕ) → n ≤ 8 → (a b c d e f g h : ℕ) → Leaves n (a ∷ b ∷ c ∷ d ∷ e ∷ f ∷ g ∷ h ∷ [])
leave_some zero l a b c d e f g h = λ i. dropped a i ∷ dropped b i ∷ dropped c i ∷ dropped d i ∷ dropped e i ∷ dropped f i ∷ dropped g i ∷ dropped h i ∷ []
leave_some (suc zero) l a b c d e f g h = λ i. dropped a i ∷ dropped b i ∷ dropped c i ∷ dropped d i ∷ dropped e i ∷ dropped f i ∷ dropped g i ∷ kept h i ∷ []
leave_some (suc (suc zero)) l a b c d e f g h = λ i. dropped a i ∷ dropped b i ∷ dropped c i ∷ dropped d i ∷ dropped e i ∷ dropped f i ∷ kept g i ∷ kept h i ∷ []
leave_some (suc (suc (suc zero))) l a b c d e f g h = λ i. dropped a i ∷ dropped b i ∷ dropped c i ∷ dropped d i ∷ dropped e i ∷ kept f i ∷ kept g i ∷ kept h i ∷ []
leave_some (suc (suc (suc (suc zero)))) l a b c d e f g h = λ i. dropped a i ∷ dropped b i ∷ dropped c i ∷ dropped d i ∷ kept e i ∷ kept f i ∷ kept g i ∷ kept h i ∷ []
leave_some (suc (suc (suc (suc (suc zero))))) l a b c d e f g h = λ i. dropped a i ∷ dropped b i ∷ dropped c i ∷ kept d i ∷ kept e i ∷ kept f i ∷ kept g i ∷ kept h i ∷ []
leave_some (suc (suc (suc (suc (suc (suc zero)))))) l a b c d e f g h = λ i. dropped a i ∷ dropped b i ∷ kept c i ∷ kept d i ∷ kept e i ∷ kept f i ∷ kept g i ∷ kept h i ∷ []
leave_some (suc (suc (suc (suc (suc (suc (suc zero))))))) l a b c d e f g h = λ i. dropped a i ∷ kept b i ∷ kept c i ∷ kept d i ∷ kept e i ∷ kept f i ∷ kept g i ∷ kept h i ∷ []
leave_some (suc (suc (suc (suc (suc (suc (suc (suc zero)))))))) l a b c d e f g h = λ i. kept a i ∷ kept b i ∷ kept c i ∷ kept d i ∷ kept e i ∷ kept f i ∷ kept g i ∷ kept h i ∷ []
leave_some (suc (suc (suc (suc (suc (suc (suc (suc (suc n))))))))) l a b c d e f g h = absurd (omega (arith, l))

-- so of any eight bytes
pub lanes_used : (n : ℕ) (xs : List ℕ) → n ≤ 8 → length xs ≡ 8 → Leaves n xs
lanes_used n xs l e = from_eight (Leaves n) (leave_some n l) xs e

-- where all bits are set, each is a digit
full_by : (t : Bool) (m n : ℕ) → (if t then 1 else 0) + 2 * m + 1 ≡ n * 2 → (t ≡ true) × (m + 1 ≡ n)
full_by true m n e = (refl, omega (arith, e))
full_by false m n e = absurd (omega (arith, e))

-- where all bits of a mask are set, each lane is a digit
pub all_digits : (ds : List ℕ) → mask_l (map (λ x. nat_le x 9) ds) + 1 ≡ 2 ^ length ds → AreDigits ds
all_digits [] e = tt
all_digits (d ∷ ds) e =
    let k = full_by (nat_le d 9) (mask_l (map (λ x. nat_le x 9) ds)) (2 ^ length ds) (e ∙ pow-suc 2 (length ds)) in
    (leb-true d 9 k.0, all_digits ds k.1)

-- what fits 32 bits is not wrapped
fits : (n : ℕ) → n < 4294967296 → n % 4294967296 ≡ n
fits n l = omega (arith, l)

-- lanes that are multiplied and added give the number
abbrev Adds : List ℕ → Type 0
Adds ds = AreDigits ds
    → fold_l (act2 wrap_add (s_int w32) (s_int w32) (s_int w32)) 0
    (zip2 (act2 wrap_mul (s_int w32) (s_int w32) (s_int w32)) (map (act1 (cast unsigned unsigned w32) (s_int w8) (s_int w32)) ds)
    (10000000 ∷ 1000000 ∷ 100000 ∷ 10000 ∷ 1000 ∷ 100 ∷ 10 ∷ 1 ∷ [])) ≡ weighed ds

-- so do eight digits, none of whose sums is too great
adds_up : (a b c d e f g h : ℕ) → Adds (a ∷ b ∷ c ∷ d ∷ e ∷ f ∷ g ∷ h ∷ [])
adds_up a b c d e f g h = λ z.
    let la : a ≤ 9 = z.0 in
    let lb : b ≤ 9 = z.1.0 in
    let lc : c ≤ 9 = z.1.1.0 in
    let ld : d ≤ 9 = z.1.1.1.0 in
    let le : e ≤ 9 = z.1.1.1.1.0 in
    let lf : f ≤ 9 = z.1.1.1.1.1.0 in
    let lg : g ≤ 9 = z.1.1.1.1.1.1.0 in
    let lh : h ≤ 9 = z.1.1.1.1.1.1.1.0 in
    rw (
      fits (a * 10000000) (omega (arith, la)),
      fits (b * 1000000) (omega (arith, lb)),
      fits (c * 100000) (omega (arith, lc)),
      fits (d * 10000) (omega (arith, ld)),
      fits (e * 1000) (omega (arith, le)),
      fits (f * 100) (omega (arith, lf)),
      fits (g * 10) (omega (arith, lg)),
      fits (h * 1) (omega (arith, lh)),
      fits (0 + a * 10000000) (omega (arith, la)),
      fits (0 + a * 10000000 + b * 1000000) (omega (arith, la, lb)),
      fits (0 + a * 10000000 + b * 1000000 + c * 100000) (omega (arith, la, lb, lc)),
      fits (0 + a * 10000000 + b * 1000000 + c * 100000 + d * 10000) (omega (arith, la, lb, lc, ld)),
      fits (0 + a * 10000000 + b * 1000000 + c * 100000 + d * 10000 + e * 1000) (omega (arith, la, lb, lc, ld, le)),
      fits (0 + a * 10000000 + b * 1000000 + c * 100000 + d * 10000 + e * 1000 + f * 100) (omega (arith, la, lb, lc, ld, le, lf)),
      fits (0 + a * 10000000 + b * 1000000 + c * 100000 + d * 10000 + e * 1000 + f * 100 + g * 10) (omega (arith, la, lb, lc, ld, le, lf, lg)),
      fits (0 + a * 10000000 + b * 1000000 + c * 100000 + d * 10000 + e * 1000 + f * 100 + g * 10 + h * 1) (omega (arith, la, lb, lc, ld, le, lf, lg, lh)),
    ) (omega arith)

-- their number
pub eight_value : (ds : List ℕ) → length ds ≡ 8 → Adds ds
eight_value ds l = from_eight Adds adds_up ds l

-- as digits are read, from the first on
abbrev adds : ℕ → ℕ → ℕ
adds n x = n * 10 + x

-- as the bytes of digits are read
abbrev reads : ℕ → ℕ → ℕ
reads n d = n * 10 + (d - 48)

-- the number of eight digits, one after the other
pub weighed_is : (ds : List ℕ) → length ds ≡ 8 → weighed ds ≡ fold adds 0 ds
weighed_is ds l = from_eight (λ ds. weighed ds ≡ fold adds 0 ds) (λ a b c d e f g h. omega arith) ds l

-- what the bytes from a place on are
record AreRead (n : ℕ) (ds xs : List ℕ) : Type 0 where
  digits : list_all is_ascii_digit xs ≡ true
  value : fold adds n ds ≡ fold reads n xs

-- a byte that is used
used_step : (s i c : ℕ) (cs : List ℕ) → s ≤ i → used_from s i (c ∷ cs) ≡ (c + 208) % 256 ∷ used_from s (i + 1) cs
used_step s i c cs l = rw (le-leb s i l) refl

-- a byte that is left out
left_step : (s i c : ℕ) (cs : List ℕ) → i < s → used_from s i (c ∷ cs) ≡ 0 ∷ used_from s (i + 1) cs
left_step s i c cs l = rw (lt-leb s i l) refl

-- behind those that were left out
read_all : (s i n : ℕ) (xs : List ℕ) → s ≤ i → Each1 (Fits w8) xs → AreDigits (used_from s i xs) → AreRead n (used_from s i xs) xs
read_all s i n [] l b a = record { digits = refl; value = refl }
read_all s i n (c ∷ cs) l b a =
    let e = used_step s i c cs l in
    let a2 : AreDigits ((c + 208) % 256 ∷ used_from s (i + 1) cs) = subst AreDigits e a in
    let d = digit_byte c b.0.fits a2.0 in
    let r = read_all s (i + 1) (n * 10 + (c - 48)) cs (omega (arith, l)) b.1 a2.1 in
    subst (λ (ds : List ℕ). AreRead n ds (c ∷ cs)) (sym e) (record {
      digits = rw (is_digit c d.0 d.1, r.digits) refl;
      value = rw d.2 r.value;
    })

-- a byte, by whether it is used
read_by : (s i c : ℕ) (cs : List ℕ) → i ≤ s → Each1 (Fits w8) (c ∷ cs) → AreDigits (used_from s i (c ∷ cs))
    → (i + 1 ≤ s → AreDigits (used_from s (i + 1) cs) → AreRead 0 (used_from s (i + 1) cs) (drop (s - (i + 1)) cs)) → (i < s) ⊎ (s ≤ i) → AreRead 0 (used_from s i (c ∷ cs)) (drop (s - i) (c ∷ cs))
read_by s i c cs l b a more (inl h) =
    let e = left_step s i c cs h in
    let k : s - i ≡ suc (s - (i + 1)) = omega (arith, h) in
    let a2 : AreDigits (0 ∷ used_from s (i + 1) cs) = subst AreDigits e a in
    let r = more (omega (arith, h)) a2.1 in
    subst (λ (ds : List ℕ). AreRead 0 ds (drop (s - i) (c ∷ cs))) (sym e) (subst (λ (n : ℕ). AreRead 0 (0 ∷ used_from s (i + 1) cs) (drop n (c ∷ cs))) (sym k) (record { digits = r.digits; value = r.value }))
read_by s i c cs l b a more (inr h) = let z : s - i ≡ 0 = omega (arith, h) in subst (λ (n : ℕ). AreRead 0 (used_from s i (c ∷ cs)) (drop n (c ∷ cs))) (sym z) (read_all s i 0 (c ∷ cs) h b a)

-- with those
read_used : (s i : ℕ) (xs : List ℕ) → i ≤ s → Each1 (Fits w8) xs → AreDigits (used_from s i xs) → AreRead 0 (used_from s i xs) (drop (s - i) xs)
read_used s i [] l b a = let e : List ℕ = [] in let z : drop (s - i) e ≡ e = drop_all (s - i) e (omega arith) in rw z (record { digits = refl; value = refl })
read_used s i (c ∷ cs) l b a = read_by s i c cs l b a (λ h d. read_used s (i + 1) cs h b.1 d) (cases_lt i s)

-- there are as many as bytes
length-used : (s i : ℕ) (xs : List ℕ) → length (used_from s i xs) ≡ length xs
length-used s i [] = refl
length-used s i (c ∷ cs) = ap (λ (n : ℕ). suc n) (length-used s (i + 1) cs)

-- the number of the bytes that are used
pub number_used : (s n : ℕ) (xs : List ℕ) → length xs ≡ 8 → s < 8 → Each1 (Fits w8) xs → IsEight (used_from s 0 xs) n → read_digits (drop s xs) ≡ Some n
number_used s n xs l h b v =
    let r = read_used s 0 xs (omega arith) b v.digits in
    let z : s - 0 ≡ s = omega arith in
    let r2 : AreRead 0 (used_from s 0 xs) (drop s xs) = subst (λ (k : ℕ). AreRead 0 (used_from s 0 xs) (drop k xs)) z r in
    let k : 0 < length (drop s xs) = rw length-drop (omega (arith, l, h)) in
    let w : n ≡ number_of (drop s xs) = v.value ∙ weighed_is (used_from s 0 xs) (length-used s 0 xs ∙ l) ∙ r2.value in
    digits_read (drop s xs) k r2.digits ∙ ap (λ (m : ℕ). Some m) (sym w)

-- those are the bytes between two places
pub last_of_eight : (text : List ℕ) (low high : ℕ) → low < high → high ≤ length text → 8 ≤ high → high - low ≤ 8 → drop (8 - (high - low)) (chunk (high - 8) 8 text) ≡ between text low high
last_of_eight text low high l h m k =
    let s : ℕ = 8 - (high - low) in
    let e : 8 ≡ s + (high - low) = omega (arith, k) in
    let j : high - 8 + s ≡ low = omega (arith, l, m, k) in
    ap (λ (n : ℕ). drop s (take n (drop (high - 8) text))) e ∙ drop-take s (high - low) (drop (high - 8) text) ∙ ap (take (high - low)) (drop-drop s (high - 8) text) ∙ ap (λ (n : ℕ). take (high - low) (drop n text)) j

-- what a value has, where there is one
pub if_some : (o : Option ℕ) (P Q : ℕ → Type 0) → ((n : ℕ) → P n → Q n) → IfSome o P → IfSome o Q
if_some None P Q f h = tt
if_some (Some n) P Q f h = f n h

-- how many bytes stand between two places, as a number that wraps, where it is 1 to 8
pub used_few : (high low : ℕ) → low < 18446744073709551616 → high < 18446744073709551616 → 8 ≤ high → ((high + (18446744073709551616 - low)) % 18446744073709551616 + 18446744073709551615) % 18446744073709551616 ≤ 7
    → (low < high) × (high - low ≤ 8) × ((high + (18446744073709551616 - low)) % 18446744073709551616 ≡ high - low)
used_few high low l h m u = (omega (arith, l, h, m, u), omega (arith, l, h, m, u), omega (arith, l, h, m, u))
