-- Bytes of a kind in a text, as bits.
use Rattle.std.proofs.Common.{◌⊎◌, inl, inr, ◌≡◌, ◌∙◌, ◌≤◌, ◌<◌, ◌+◌, ◌-◌, ◌*◌, ◌/◌, ◌^◌, ℕ, zero, suc, List, [], ◌∷◌, length, map, take, drop, get_or, Bool, true, false, not, refl, sym, ap, subst, arith, if◌then◌else◌}
use lib.Lanes.{mask_l, chunk}
use lib.Count.{count_trailing_zeros}
use Rattle.std.specs.List.{prefix_len}
use Rattle.std.proofs.lemmas.Bool.{cases_lt, leb-false}
use Rattle.pipe_scan.proofs.ByteKinds.{IsOther}
use Rattle.pipe_scan.proofs.MarkFacts.{marks-from, none-from}
use Rattle.pipe_scan.specs.InRecord.{Reads}
use Rattle.pipe_scan.proofs.ScanFacts.{other_above, reads-copies}
use Rattle.std.proofs.Math.Nat.{div-div-eq-div-mul, pow-suc, zero-div}
use Rattle.std.proofs.lemmas.List.{drop_all, drop-drop, drop-map, drop-take, length-take}
use Rattle.std.proofs.lemmas.Simd.{length-chunk, run_in_chunk_fails, run_in_chunk_stops, trailing_mask_l}
use Rattle.pipe_scan.specs.NextStop.{HasNone, IsNext, IsNextStop, IsSeen}
use Rattle.pipe_scan.specs.Stops.{AreMarked, DoMark, is_no_digit, is_stop, marks}

-- where a bit is set, some element passes
prefix_by : {X : Type 0} (p : X → Bool) (x : X) (xs : List X) (b : Bool) → p x ≡ b → 0 < mask_l (map p (x ∷ xs)) → (0 < mask_l (map p xs) → prefix_len (λ y. not (p y)) xs < length xs)
    → prefix_len (λ y. not (p y)) (x ∷ xs) < length (x ∷ xs)
prefix_by p x xs true e h more = rw e (omega arith)
prefix_by p x xs false e h more = let g : 0 < 0 + 2 * mask_l (map p xs) = rw e at h in let k = more (omega (arith, g)) in rw e (omega (arith, k))

-- so the run of elements that fail ends
pub prefix-lt : {X : Type 0} (p : X → Bool) (xs : List X) → 0 < mask_l (map p xs) → prefix_len (λ y. not (p y)) xs < length xs
prefix-lt p [] h = absurd (omega (arith, h))
prefix-lt p (x ∷ xs) h = prefix_by p x xs (p x) refl h (prefix-lt p xs)

-- half of the bits
half_by : (b : Bool) (m : ℕ) → ((if b then 1 else 0) + 2 * m) / 2 ≡ m
half_by true m = omega arith
half_by false m = omega arith

-- a mask without its first bit
mask-half : (ms : List Bool) → mask_l ms / 2 ≡ mask_l (drop 1 ms)
mask-half [] = refl
mask-half (b ∷ ms) = half_by b (mask_l ms)

-- one power of two more
pow-twice : (k : ℕ) → 2 ^ suc k ≡ 2 * 2 ^ k
pow-twice k = rw pow-suc (omega arith)

-- the bits behind the first k
mask-drop : (k : ℕ) (ms : List Bool) → mask_l ms / 2 ^ k ≡ mask_l (drop k ms)
mask-drop zero ms = omega arith
mask-drop (suc k) [] = zero-div (2 ^ suc k)
mask-drop (suc k) (b ∷ ms) =
    ap (λ (n : ℕ). mask_l (b ∷ ms) / n) (pow-twice k) ∙ sym (div-div-eq-div-mul (mask_l (b ∷ ms)) 2 (2 ^ k))
    ∙ ap (λ (n : ℕ). n / 2 ^ k) (mask-half (b ∷ ms)) ∙ mask-drop k ms

-- the marks behind the first k bytes
marks-behind : (kind : ℕ → Bool) (text : List ℕ) (at count k : ℕ) → k ≤ count → marks kind text at count / 2 ^ k ≡ marks kind text (at + k) (count - k)
marks-behind kind text at count k h =
    let m : ℕ = count - k in
    let e : count ≡ k + m = omega (arith, h) in
    let cut : drop k (take count (drop at text)) ≡ take m (drop (at + k) text) =
    ap (λ (n : ℕ). drop k (take n (drop at text))) e ∙ drop-take k m (drop at text) ∙ ap (take m) (drop-drop k at text) in
    mask-drop k (map kind (chunk at count text)) ∙ ap mask_l (drop-map kind k (chunk at count text) ∙ ap (map kind) cut)

-- behind all of them there is none
marks-over : (kind : ℕ → Bool) (text : List ℕ) (at count k : ℕ) → count ≤ k → marks kind text at count / 2 ^ k ≡ 0
marks-over kind text at count k h =
    let l : length (chunk at count text) ≤ k = omega (arith, length-take count (drop at text), h) in
    mask-drop k (map kind (chunk at count text)) ∙ ap mask_l (drop-map kind k (chunk at count text) ∙ ap (map kind) (drop_all k (chunk at count text) l))

-- the first bit is that of the first byte of the kind
first-of : (kind : ℕ → Bool) (text : List ℕ) (at count bits : ℕ) → at + count ≤ length text → count ≤ 64 → bits ≡ marks kind text at count → 0 < bits
    → IsSeen kind text at (at + count_trailing_zeros 64 bits)
first-of kind text at count bits h l e s =
    let xs : List ℕ = chunk at count text in
    let n : length xs ≡ count = length-chunk at count text h in
    let s2 : 0 < mask_l (map kind xs) = rw e at s in
    let r : count_trailing_zeros 64 bits ≡ prefix_len (λ y. not (kind y)) xs = rw e (trailing_mask_l kind 64 xs (omega (arith, n, l)) s2) in
    let lt : count_trailing_zeros 64 bits < count = rw r (omega (arith, prefix-lt kind xs s2, n)) in (
      record {
        low = omega arith;
        high = omega (arith, lt, h);
        before = λ k a b. run_in_chunk_fails kind text at count (count_trailing_zeros 64 bits) 0 h r k a b;
        is = λ _. run_in_chunk_stops kind text at count (count_trailing_zeros 64 bits) 0 h r lt;
      },
      omega (arith, lt, h),
    )

-- so it is of the bits behind some
seen_by : (kind : ℕ → Bool) (text : List ℕ) (low bits skip : ℕ) → DoMark kind text low bits → 0 < bits / 2 ^ skip → (m : ℕ) → (skip ≤ m) ⊎ (m < skip) → (c : ℕ)
    → low + c ≤ length text → c ≤ 64 → bits ≡ marks kind text low c → m ≡ c → IsSeen kind text (low + skip) (low + skip + count_trailing_zeros 64 (bits / 2 ^ skip))
seen_by kind text low bits skip d s m (inl h) c w f e n =
    let k : skip ≤ c = omega (arith, h, n) in
    first-of kind text (low + skip) (c - skip) (bits / 2 ^ skip) (omega (arith, k, w)) (omega (arith, f)) (ap (λ (b : ℕ). b / 2 ^ skip) e ∙ marks-behind kind text low c skip k) s
seen_by kind text low bits skip d s m (inr h) c w f e n =
    let z : bits / 2 ^ skip ≡ 0 = ap (λ (b : ℕ). b / 2 ^ skip) e ∙ marks-over kind text low c skip (omega (arith, h, n)) in
    absurd (omega (arith, z, s))

pub seen : (kind : ℕ → Bool) (text : List ℕ) (low bits at : ℕ) → DoMark kind text low bits → low ≤ at → 0 < bits / 2 ^ (at - low) → IsSeen kind text at (at + count_trailing_zeros 64 (bits / 2 ^ (at - low)))
seen kind text low bits at d l s =
    let e : low + (at - low) ≡ at = omega (arith, l) in
    subst (λ (n : ℕ). IsSeen kind text n (n + count_trailing_zeros 64 (bits / 2 ^ (at - low)))) e
    (seen_by kind text low bits (at - low) d s d.count (cases_le (at - low) d.count) d.count d.within d.few d.are refl) where
      cases_le : (a b : ℕ) → (a ≤ b) ⊎ (b < a)
      cases_le a b = flip (cases_lt b a) where
        flip : (b < a) ⊎ (a ≤ b) → (a ≤ b) ⊎ (b < a)
        flip (inl h) = inr h
        flip (inr h) = inl h

-- nothing is marked of no bytes
pub no_marks : (kind : ℕ → Bool) (text : List ℕ) (at : ℕ) → at ≤ length text → DoMark kind text at 0
no_marks kind text at h = record { count = 0; within = omega (arith, h); few = omega arith; are = refl }

-- past a run of bytes that are none of the four
others_run : (d : ℕ) (text : List ℕ) (at start : ℕ) (ends : List ℕ) (i : ℕ) → Reads text at start ends i → i + d ≤ length text → ((k : ℕ) → i ≤ k → k < i + d → IsOther (get_or text k 0)) → Reads text at start ends (i + d)
others_run zero text at start ends i r l n = let e : i + 0 ≡ i = omega arith in rw e r
others_run (suc d) text at start ends i r l n =
    let e : i + suc d ≡ i + 1 + d = omega arith in
    rw e (others_run d text at start ends (i + 1) (reads-copies text at start ends i r (omega arith) (n i (omega arith) (omega arith))) (omega arith) (λ k a b. n k (omega (arith, a)) (omega (arith, b))))

pub reads-others : (text : List ℕ) (at start : ℕ) (ends : List ℕ) (i j : ℕ) → Reads text at start ends i → i ≤ j → j ≤ length text → ((k : ℕ) → i ≤ k → k < j → IsOther (get_or text k 0)) → Reads text at start ends j
reads-others text at start ends i j r l h n =
    let e : i + (j - i) ≡ j = omega (arith, l) in
    rw e at (others_run (j - i) text at start ends i r (omega (arith, l, h)) (λ k a b. n k a (omega (arith, b, l))))

-- a scan at the next stop
pub reads-stop : (text : List ℕ) (at start : ℕ) (ends : List ℕ) (i stop : ℕ) → Reads text at start ends i → IsNextStop text i stop → Reads text at start ends stop
reads-stop text at start ends i stop r s =
    reads-others text at start ends i stop r s.low s.high (λ k a b. other_above (get_or text k 0) (leb-false (get_or text k 0) 44 (s.before k a b)))

-- none lies before a place, and none from there up to another
none_of : (kind : ℕ → Bool) (text : List ℕ) (low at high k : ℕ) → HasNone kind text low at → HasNone kind text at high → low ≤ k → k < high → (k < at) ⊎ (at ≤ k) → kind (get_or text k 0) ≡ false
none_of kind text low at high k f g a b (inl h) = f k a h
none_of kind text low at high k f g a b (inr h) = g k h b

pub later-none : (kind : ℕ → Bool) (text : List ℕ) (low at high : ℕ) → HasNone kind text low at → HasNone kind text at high → HasNone kind text low high
later-none kind text low at high f g = λ k a b. none_of kind text low at high k f g a b (cases_lt k at)

-- so the next one is that from there on
pub later-seen : (kind : ℕ → Bool) (text : List ℕ) (low at next : ℕ) → low ≤ at → HasNone kind text low at → IsNext kind text at next → IsNext kind text low next
later-seen kind text low at next l f n = record {
  low = omega (arith, l, n.low);
  high = n.high;
  before = later-none kind text low at next f n.before;
  is = n.is;
}

-- where nothing is marked
pub fresh-marked : (text : List ℕ) (at : ℕ) → at ≤ length text → AreMarked text (record { cursor = at; low = at; stops = 0; others = 0 })
fresh-marked text at h = record { within = h; stops = none-from is_stop text at at (omega arith) h; others = no_marks is_no_digit text at h }

-- where the stops from a cursor on are
abbrev pub from-marked : (text : List ℕ) (at : ℕ) → at + 64 ≤ length text → AreMarked text (record { cursor = at; low = at; stops = marks is_stop text at 64; others = 0 })
from-marked text at h = record { within = omega (arith, h); stops = marks-from is_stop text at h; others = no_marks is_no_digit text at (omega (arith, h)) }

-- where a stop stands, it is the next one
stop_by : (text : List ℕ) (at stop : ℕ) → is_stop (get_or text at 0) ≡ true → IsNextStop text at stop → (at < stop) ⊎ (stop ≤ at) → stop ≡ at
stop_by text at stop h s (inl l) = let n : true ≡ false = sym h ∙ s.before at (omega arith) l in absurd cc
stop_by text at stop h s (inr l) = omega (arith, l, s.low)

pub stop-here : (text : List ℕ) (at stop : ℕ) → is_stop (get_or text at 0) ≡ true → IsNextStop text at stop → stop ≡ at
stop-here text at stop h s = stop_by text at stop h s (cases_lt at stop)
