-- Rows of short numbers among 64 bytes.
use Rattle.std.proofs.Common.{add-one, ◌⊎◌, inl, inr, ◌≡◌, ◌≢◌, ◌∙◌, ◌≤◌, ◌<◌, ◌+◌, ◌-◌, ◌^◌, ◌==◌, ℕ, zero, suc, List, length, get_or, Bool, true, false, refl, sym, ap, arith}
use lib.Bits.{bit_and}
use lib.Count.{count_trailing_zeros}
use mir.Val.{bool_byte}
use Rattle.std.specs.Int.{bit_at}
use Rattle.std.specs.List.{list_all}
use Rattle.std.proofs.lemmas.Bool.{cases_eq, cases_lt, eqb-true, ne_eqb}
use Rattle.std.proofs.lemmas.List.Folds.{list_all_at}
use Rattle.pipe_scan.specs.Lines.{ends_line}
use Rattle.pipe_scan.specs.NextStop.{HasNone}
use Rattle.pipe_scan.specs.NumberBlock.{HasNoLongNumber, IsBegin, IsLegal, IsNumberBlock, IsNumberEnd, is_end}
use Rattle.pipe_scan.specs.Plain.{ArePlainRows, IsAsKnown, IsPlainRow, IsShort}
use Rattle.pipe_scan.specs.PlainField.{IsField}
use Rattle.pipe_scan.specs.Records.{between}
use Rattle.pipe_scan.specs.Stops.{is_no_digit}
use Rattle.pipe_scan.proofs.NumberBits.{IsLowest, clear-other, clear-same, lowest}
use Rattle.pipe_scan.proofs.PlainFacts.{GoesOver, goes-end, goes-more, goes-start, number-field, short-seen}
use Rattle.pipe_scan.proofs.ScanFacts.{reads-starts}

-- the end of a field is a comma or LF
pub end_cases : (c : ℕ) → is_end c ≡ true → (c ≡ 44) ⊎ (c ≢ 44) → (c ≡ 44) ⊎ (c ≡ 10)
end_cases c h (inl e) = inl e
end_cases c h (inr n) = inr (eqb-true c 10 (rw (ne_eqb c 44 n) at h))

end_by : (c : ℕ) → (c ≡ 44) ⊎ (c ≡ 10) → (is_no_digit c ≡ true) × (c ≢ 45)
end_by c (inl e) = rw e (refl, omega arith)
end_by c (inr e) = rw e (refl, omega arith)

-- so it is neither a digit nor a sign
is_other : (c : ℕ) → is_end c ≡ true → (is_no_digit c ≡ true) × (c ≢ 45)
is_other c h = end_by c (end_cases c h (cases_eq c 44))

-- a field among the 64 bytes, which an end follows
record Field (text : List ℕ) (at low end : ℕ) : Type 0 where
  behind : at ≤ low
  order : low ≤ end
  begin : IsBegin text at low
  legal : (k : ℕ) → at ≤ k → k ≤ end → IsLegal text at k
  inner : (k : ℕ) → low ≤ k → k < end → is_end (get_or text k 0) ≡ false
  ends : is_end (get_or text end 0) ≡ true

-- a digit stands before the end
last_by : (text : List ℕ) (at end : ℕ) → is_end (get_or text end 0) ≡ true → IsLegal text at end → (at < end) × (is_no_digit (get_or text (end - 1) 0) ≡ false)
last_by text at end h (inl d) = let o = is_other (get_or text end 0) h in absurd cc
last_by text at end h (inr (inl s)) = let o = is_other (get_or text end 0) h in absurd (o.1 s.0)
last_by text at end h (inr (inr b)) = (b.1, b.2)

last_digit : (text : List ℕ) (at low end : ℕ) → Field text at low end → (at < end) × (is_no_digit (get_or text (end - 1) 0) ≡ false)
last_digit text at low end f = last_by text at end f.ends (f.legal end (omega (arith, f.behind, f.order)) (omega arith))

-- so the field isn't empty
some_by : (text : List ℕ) (at low end : ℕ) → at < end → is_no_digit (get_or text (end - 1) 0) ≡ false → low ≡ end → IsBegin text at low → ⊥
some_by text at low end a d e (inl b) = omega (arith, a, e, b)
some_by text at low end a d e (inr b) =
    let h : is_end (get_or text (end - 1) 0) ≡ true = rw e at b.1 in
    let o = is_other (get_or text (end - 1) 0) h in
    let x : true ≡ false = sym o.0 ∙ d in
    absurd cc

some_case : (text : List ℕ) (at low end : ℕ) → Field text at low end → (low ≡ end) ⊎ (low ≢ end) → low < end
some_case text at low end f (inl e) = let d = last_digit text at low end f in absurd (some_by text at low end d.0 d.1 e f.begin)
some_case text at low end f (inr n) = omega (arith, n, f.order)

is_some : (text : List ℕ) (at low end : ℕ) → Field text at low end → low < end
is_some text at low end f = some_case text at low end f (cases_eq low end)

-- no field begins behind its first byte
inside_begin : (text : List ℕ) (at low end k : ℕ) → Field text at low end → low < k → k < end → IsBegin text at k → ⊥
inside_begin text at low end k f a b (inl e) = omega (arith, e, a, f.behind)
inside_begin text at low end k f a b (inr h) = let n = f.inner (k - 1) (omega (arith, a)) (omega (arith, b)) in let x : true ≡ false = sym h.1 ∙ n in absurd cc

-- behind the first byte are digits
inside_by : (text : List ℕ) (at low end k : ℕ) → Field text at low end → low < k → k < end → IsLegal text at k → is_no_digit (get_or text k 0) ≡ false
inside_by text at low end k f a b (inl d) = d
inside_by text at low end k f a b (inr (inl s)) = absurd (inside_begin text at low end k f a b s.1)
inside_by text at low end k f a b (inr (inr e)) = let n = f.inner k (omega (arith, a)) b in let x : true ≡ false = sym e.0 ∙ n in absurd cc

inside : (text : List ℕ) (at low end k : ℕ) → Field text at low end → low < k → k < end → is_no_digit (get_or text k 0) ≡ false
inside text at low end k f a b = inside_by text at low end k f a b (f.legal k (omega (arith, f.behind, a)) (omega (arith, b)))

-- the first byte is a digit or a sign
first_by : (text : List ℕ) (at low end : ℕ) → Field text at low end → low < end → IsLegal text at low → (is_no_digit (get_or text low 0) ≡ false) ⊎ (get_or text low 0 ≡ 45)
first_by text at low end f l (inl d) = inl d
first_by text at low end f l (inr (inl s)) = inr s.0
first_by text at low end f l (inr (inr e)) = let n = f.inner low (omega arith) l in let x : true ≡ false = sym e.0 ∙ n in absurd cc

first_byte : (text : List ℕ) (at low end : ℕ) → Field text at low end → (is_no_digit (get_or text low 0) ≡ false) ⊎ (get_or text low 0 ≡ 45)
first_byte text at low end f = let s = is_some text at low end f in first_by text at low end f s (f.legal low f.behind f.order)

-- digits from a place on, up to the end
record DigitsFrom (text : List ℕ) (first end : ℕ) : Type 0 where
  some : first < end
  digits : HasNone is_no_digit text first end

-- behind a sign
signed_by : (text : List ℕ) (at low end : ℕ) → Field text at low end → get_or text low 0 ≡ 45 → (low + 1 ≡ end) ⊎ (low + 1 ≢ end) → low + 1 < end
signed_by text at low end f s (inl e) =
    let d = last_digit text at low end f in
    let p : end - 1 ≡ low = omega (arith, e) in
    let g : is_no_digit (get_or text low 0) ≡ false = rw p at d.1 in
    let x : is_no_digit 45 ≡ false = rw s at g in
    absurd cc
signed_by text at low end f s (inr n) = let l = is_some text at low end f in omega (arith, l, n)

-- or from the first byte on
plain_by : (text : List ℕ) (at low end k : ℕ) → Field text at low end → is_no_digit (get_or text low 0) ≡ false → low ≤ k → k < end → (k ≡ low) ⊎ (k ≢ low) → is_no_digit (get_or text k 0) ≡ false
plain_by text at low end k f d a b (inl e) = rw e d
plain_by text at low end k f d a b (inr n) = inside text at low end k f (omega (arith, a, n)) b

no_sign : (c : ℕ) → (c == 45) ≡ false → (is_no_digit c ≡ false) ⊎ (c ≡ 45) → is_no_digit c ≡ false
no_sign c n (inl d) = d
no_sign c n (inr e) = let x : (45 == 45) ≡ false = rw e at n in absurd cc

digits_by : (text : List ℕ) (at low end : ℕ) (b : Bool) → (get_or text low 0 == 45) ≡ b → Field text at low end → DigitsFrom text (low + bool_byte b) end
digits_by text at low end true e f = record {
  some = signed_by text at low end f (eqb-true (get_or text low 0) 45 e) (cases_eq (low + 1) end);
  digits = λ k a b. inside text at low end k f (omega (arith, a)) b;
}
digits_by text at low end false e f =
    let d = no_sign (get_or text low 0) e (first_byte text at low end f) in
    let z : low + 0 ≡ low = omega arith in
    rw z (record {
      some = is_some text at low end f;
      digits = λ k a b. plain_by text at low end k f d a b (cases_eq k low);
    })

digits_of : (text : List ℕ) (at low end : ℕ) → Field text at low end → DigitsFrom text (low + bool_byte (get_or text low 0 == 45)) end
digits_of text at low end f = digits_by text at low end (get_or text low 0 == 45) refl f

-- there are few of them
few_by : (text : List ℕ) (at first end : ℕ) → HasNoLongNumber text at → at ≤ first → end < at + 64 → HasNone is_no_digit text first end → (end - first ≤ 18) ⊎ (18 < end - first) → end - first ≤ 18
few_by text at first end s a l h (inl f) = f
few_by text at first end s a l h (inr f) = absurd (s first a (omega (arith, f, l)) (λ k x y. h k x (omega (arith, y, f))))

le_cases : (a b : ℕ) → (a ≤ b) ⊎ (b < a)
le_cases a b = flip (cases_lt b a) where
  flip : (b < a) ⊎ (a ≤ b) → (a ≤ b) ⊎ (b < a)
  flip (inl h) = inr h
  flip (inr h) = inl h

-- the lowest bit of a block, and the field that ends there
field_of : (text : List ℕ) (at low bits t : ℕ) (b : IsNumberBlock text at low bits) → t < 64 → IsLowest bits t → Field text at low (at + t)
field_of text at low bits t b l z =
    let i = b.is t l z.set in record {
      behind = b.behind;
      order = i.1;
      begin = b.begin;
      legal = λ k a e. b.legal k a (omega (arith, e, i.0));
      inner = λ k a e.
          let j : ℕ = k - at in
          let p : at + j ≡ k = omega (arith, a, b.behind) in
          rw p at (b.is_not j (omega (arith, e, i.0, p)) (omega (arith, a, p)) (z.below j (omega (arith, e, p))));
      ends = i.2;
    }

-- the bits behind the lowest
rest_by : (text : List ℕ) (at low bits t : ℕ) (b : IsNumberBlock text at low bits) → t < 64 → IsLowest bits t → (i : ℕ) → i < 64
    → bit_at (bit_and bits (bits - 1)) i ≡ 1 → (i ≡ t) ⊎ (i ≢ t) → (i < t) ⊎ (t ≤ i) → (i < b.count) × (at + t + 1 ≤ at + i) × (is_end (get_or text (at + i) 0) ≡ true)
rest_by text at low bits t b l z i w h (inl e) k =
    let c = ap (λ (j : ℕ). bit_at (bit_and bits (bits - 1)) j) e ∙ clear-same bits t z in absurd (omega (arith, c, h))
rest_by text at low bits t b l z i w h (inr n) (inl k) =
    let c = clear-other bits t i z n in
    let y = z.below i k in
    absurd (omega (arith, c, h, y))
rest_by text at low bits t b l z i w h (inr n) (inr k) =
    let x = b.is i w (sym (clear-other bits t i z n) ∙ h) in
    (x.0, omega (arith, n, k), x.2)

rest_of : (text : List ℕ) (at low bits t : ℕ) → IsNumberBlock text at low bits → t < 64 → IsLowest bits t → IsNumberBlock text at (at + t + 1) (bit_and bits (bits - 1))
rest_of text at low bits t b l z =
    let i = b.is t l z.set in
    let p : at + t + 1 - 1 ≡ at + t = omega arith in record {
      count = b.count;
      few = b.few;
      within = b.within;
      behind = omega arith;
      before = omega (arith, i.0);
      begin = inr (omega arith, rw p i.2);
      legal = b.legal;
      short = b.short;
      is = λ j w h. rest_by text at low bits t b l z j w h (cases_eq j t) (cases_lt j t);
      is_not = λ j w a h.
          let n : j ≢ t = omega (arith, a) in
          b.is_not j w (omega (arith, a, i.1)) (sym (clear-other bits t j z n) ∙ h);
    }

-- so the first end of a block is that of a short number
pub number-end : (text : List ℕ) (at low bits : ℕ) → bits < 2 ^ 64 → 0 < bits → IsNumberBlock text at low bits
    → IsNumberEnd text at low (at + count_trailing_zeros 64 bits) (bit_and bits (bits - 1))
number-end text at low bits fits some b =
    let t : ℕ = count_trailing_zeros 64 bits in
    let z = lowest bits some fits in
    let i = b.is t z.0 z.1.set in
    let f : Field text at low (at + t) = field_of text at low bits t b z.0 z.1 in
    let first : ℕ = low + bool_byte (get_or text low 0 == 45) in
    let d : DigitsFrom text first (at + t) = digits_of text at low (at + t) f in
    let o = is_other (get_or text (at + t) 0) i.2 in record {
      seen = (
        record { low = omega (arith, d.some); high = omega (arith, z.0, b.within); before = d.digits; is = λ _. o.0 },
        omega (arith, z.0, b.within),
      );
      some = omega (arith, d.some);
      few = few_by text at first (at + t) (b.short (omega (arith, i.0))) (omega (arith, b.behind)) (omega (arith, z.0)) d.digits (le_cases (at + t - first) 18);
      block = rest_of text at low bits t b z.0 z.1;
    }

-- a digit or a sign ends no line
digit_no_line : (c : ℕ) → is_no_digit c ≡ false → (c ≢ 13) × (c ≢ 10)
digit_no_line c d = (λ e. let x : is_no_digit 13 ≡ false = rw e at d in absurd cc, λ e. let x : is_no_digit 10 ≡ false = rw e at d in absurd cc)

first_no_line : (c : ℕ) → (is_no_digit c ≡ false) ⊎ (c ≡ 45) → ends_line c ≡ false
first_no_line c (inl d) = let n = digit_no_line c d in rw (ne_eqb c 13 n.0, ne_eqb c 10 n.1) refl
first_no_line c (inr e) = rw e refl

-- so a row begins where a field does
row_begins : (text : List ℕ) (at low bits : ℕ) → bits < 2 ^ 64 → 0 < bits → IsNumberBlock text at low bits → (low < length text) × (ends_line (get_or text low 0) ≡ false)
row_begins text at low bits fits some b =
    let t : ℕ = count_trailing_zeros 64 bits in
    let z = lowest bits some fits in
    let f : Field text at low (at + t) = field_of text at low bits t b z.0 z.1 in
    (omega (arith, is_some text at low (at + t) f, z.0, b.within), first_no_line (get_or text low 0) (first_byte text at low (at + t) f))

-- the first fields of a row were gone over, and these are the ends behind them
pub record IsInRow (text : List ℕ) (at place rest : ℕ) (numbers : List Bool) (i : ℕ) : Type 0 where
  pub low : ℕ
  pub order : place ≤ low
  pub block : IsNumberBlock text at low rest
  pub goes : 0 < rest → GoesOver text place place low numbers i

pub row-start : (text : List ℕ) (at place ends : ℕ) (numbers : List Bool) → ends < 2 ^ 64 → IsNumberBlock text at place ends → IsInRow text at place ends numbers 0
row-start text at place ends numbers fits b = record {
  low = place;
  order = omega arith;
  block = b;
  goes = λ s. let f = row_begins text at place ends fits s b in goes-start text place place numbers (reads-starts text place place refl f.0 f.1);
}

-- each field is to be a number
known_by : (numbers : List Bool) (i : ℕ) (b : Bool) → get_or numbers i false ≡ b → i < length numbers → list_all (λ x. x) numbers ≡ true → get_or numbers i false ≡ true
known_by numbers i true e l h = e
known_by numbers i false e l h = let x : false ≡ true = sym (list_all_at (λ x. x) numbers i false l e) ∙ h in absurd cc

number-known : (text : List ℕ) (at low end rest i : ℕ) (numbers : List Bool) → ((k : ℕ) → get_or text k 0 < 256) → list_all (λ x. x) numbers ≡ true → i < length numbers → IsNumberEnd text at low end rest → IsAsKnown (get_or numbers i false) (between text low end)
number-known text at low end rest i numbers fits h l e =
    let k : get_or numbers i false ≡ true = known_by numbers i (get_or numbers i false) refl l h in
    let s : IsShort (between text low end) = short-seen text low (low + bool_byte (get_or text low 0 == 45)) end fits refl e.seen e.some e.few in
    rw k s

-- one more field, which a comma ends
pub row-more : (text : List ℕ) (at place rest : ℕ) (numbers : List Bool) (i end behind : ℕ) (r : IsInRow text at place rest numbers i) → ((k : ℕ) → get_or text k 0 < 256) → list_all (λ x. x) numbers ≡ true → i < length numbers → 0 < rest
    → IsNumberEnd text at r.low end behind → get_or text end 0 ≡ 44 → IsInRow text at place behind numbers (i + 1)
row-more text at place rest numbers i end behind r fits h l s e c =
    let f : IsField text false r.low end = number-field text false r.low (r.low + bool_byte (get_or text r.low 0 == 45)) end fits refl e.seen c in record {
      low = end + 1;
      order = omega (arith, r.order, f.order);
      block = e.block;
      goes = λ _. goes-more text place place r.low numbers i end (r.goes s) l f (number-known text at r.low end behind i numbers fits h l e);
    }

-- the last field, which LF ends
pub row-end : (text : List ℕ) (at place rest : ℕ) (numbers : List Bool) (i end behind : ℕ) (r : IsInRow text at place rest numbers i) → ((k : ℕ) → get_or text k 0 < 256) → list_all (λ x. x) numbers ≡ true → i + 1 ≡ length numbers → 0 < rest
    → IsNumberEnd text at r.low end behind → get_or text end 0 ≡ 10 → (start : ℕ) × (ends : List ℕ) × IsPlainRow text place (end + 1) start numbers ends
row-end text at place rest numbers i end behind r fits h n s e c =
    let f : IsField text true r.low end = number-field text true r.low (r.low + bool_byte (get_or text r.low 0 == 45)) end fits refl e.seen (inl c) in
    goes-end text place place r.low numbers i end (r.goes s) r.order n f (number-known text at r.low end behind i numbers fits h (omega (arith, n)) e)

-- one more row
pub rows-more : (text : List ℕ) (numbers : List Bool) (at place next count start : ℕ) (ends : List ℕ) → ArePlainRows text numbers at place count → IsPlainRow text place next start numbers ends → ArePlainRows text numbers at next (count + 1)
rows-more text numbers at place next count start ends r p = rw add-one (place, start, ends, r, p)

-- rows, and rows behind them
pub rows-both : (text : List ℕ) (numbers : List Bool) (at place next count more : ℕ) → ArePlainRows text numbers at place count → ArePlainRows text numbers place next more → ArePlainRows text numbers at next (count + more)
rows-both text numbers at place next count zero r s = let e : count + 0 ≡ count = omega arith in rw (e, ← s) r
rows-both text numbers at place next count (suc more) r s =
    let e : count + suc more ≡ suc (count + more) = omega arith in
    rw e (s.0, s.1, s.2, rows-both text numbers at place s.0 count more r s.3, s.4)
