-- Fields and rows without a quote that are looked at once.
use Rattle.std.proofs.Common.{◌⊎◌, inl, inr, ◌≡◌, ◌≢◌, ◌∙◌, ◌≤◌, ◌<◌, ◌+◌, ◌-◌, ◌%◌, ◌==◌, ◌||◌, ℕ, zero, suc, List, [], ◌∷◌, ◌++◌, length, take, get_or, Bool, true, false, Some, refl, sym, ap, subst, arith}
use mir.Val.{bool_byte}
use Rattle.std.specs.List.{list_all}
use Rattle.std.specs.Char.{is_ascii_digit}
use Rattle.std.proofs.lemmas.List.{length-append, length-take-le, take_all, take_more}
use Rattle.std.proofs.lemmas.Bool.{cases_lt, eqb-true, leb-false, ne_eqb}
use Rattle.pipe_scan.specs.NextStop.{IsSeen}
use Rattle.pipe_scan.specs.Numbers.{number_of, read_few_digits, signed}
use Rattle.pipe_scan.specs.Plain.{ArePlainRows, AreAsKnown, IsAsKnown, IsPlainRow, IsShort}
use Rattle.pipe_scan.specs.PlainField.{EndsAs, IsField, is_mark}
use Rattle.pipe_scan.specs.Records.{between, cut}
use Rattle.pipe_scan.specs.Stops.{is_no_digit}
use Rattle.pipe_scan.proofs.NumberFacts.{digit_byte, digits-few, digits_read, field-number, is_digit, sign_byte}
use Rattle.pipe_scan.specs.InRecord.{Reads, from}
use Rattle.pipe_scan.proofs.ScanFacts.{Ends, between_first, between_none, cut-push, from-push, length-between, length-cut, reads-ends, reads-parts}
use Rattle.pipe_scan.proofs.StopFacts.{reads-others}
use Rattle.pipe_scan.proofs.ByteKinds.{IsOther}

-- what is not no digit is a digit
pub a_digit : (c : ℕ) → c < 256 → is_no_digit c ≡ false → (48 ≤ c) × (c ≤ 57)
a_digit c b e = let k : (c + 208) % 256 < 10 = leb-false 10 ((c + 208) % 256) e in let d = digit_byte c b (omega (arith, k)) in (d.0, d.1)

-- bytes that are digits
digits_run : (d : ℕ) (text : List ℕ) (low : ℕ) → low + d ≤ length text → ((k : ℕ) → low ≤ k → k < low + d → (48 ≤ get_or text k 0) × (get_or text k 0 ≤ 57)) → list_all is_ascii_digit (between text low (low + d)) ≡ true
digits_run zero text low l n = let e : low + 0 ≡ low = omega arith in rw (e, between_none text low) refl
digits_run (suc d) text low l n =
    let e : low + suc d ≡ low + 1 + d = omega arith in
    let h = n low (omega arith) (omega arith) in
    let more = digits_run d text (low + 1) (omega (arith, l)) (λ k a b. n k (omega (arith, a)) (omega (arith, b))) in
    rw (between_first text low (low + suc d) (omega arith) l, is_digit (get_or text low 0) h.0 h.1, e) more

-- so is a field of them
digits_between : (text : List ℕ) (low high : ℕ) → low ≤ high → high ≤ length text → ((k : ℕ) → low ≤ k → k < high → (48 ≤ get_or text k 0) × (get_or text k 0 ≤ 57)) → list_all is_ascii_digit (between text low high) ≡ true
digits_between text low high l h n =
    let e : low + (high - low) ≡ high = omega (arith, l) in
    rw e at (digits_run (high - low) text low (omega (arith, l, h)) (λ k a b. n k a (omega (arith, b, l))))

-- digits behind a sign are a short number
pub short-seen : (text : List ℕ) (low first end : ℕ) → ((k : ℕ) → get_or text k 0 < 256) → first ≡ low + bool_byte (get_or text low 0 == 45) → IsSeen is_no_digit text first end → end ≢ first → end - first ≤ 18 → IsShort (between text low end)
short-seen text low first end fits e s n few =
    let l : first ≤ end = s.0.low in
    let b : Bool = get_or text low 0 == 45 in
    let w : end ≤ length text = s.0.high in
    let ds : List ℕ = between text first end in
    let size : length ds ≡ end - first = length-between text first end l w in
    let all : list_all is_ascii_digit ds ≡ true = digits_between text first end l w (λ k a h. a_digit (get_or text k 0) (fits k) (s.0.before k a h)) in
    let m : ℕ = number_of ds in
    let r : read_few_digits ds ≡ Some m = digits-few ds m (omega (arith, size, few)) (digits_read ds (omega (arith, size, l, n)) all) in
    let r2 : Some m ≡ read_few_digits (between text (low + bool_byte b) end) = subst (λ (i : ℕ). Some m ≡ read_few_digits (between text i end)) e (sym r) in
    (signed b m, sym (field-number text low end (Some m) (omega (arith, e, sign_byte b, l, n)) w r2))

-- a digit ends no field
digit_inner : (c : ℕ) → (48 ≤ c) × (c ≤ 57) → is_mark c ≡ false
digit_inner c d = rw (ne_eqb c 44 (omega (arith, d.0)), ne_eqb c 34 (omega (arith, d.0)), ne_eqb c 13 (omega (arith, d.0)), ne_eqb c 10 (omega (arith, d.0))) refl

-- nor does a byte before the first digit
before_by : (text : List ℕ) (low first k : ℕ) (b : Bool) → (get_or text low 0 == 45) ≡ b → first ≡ low + bool_byte b → low ≤ k → k < first → is_mark (get_or text k 0) ≡ false
before_by text low first k true h e a l =
    let is : k ≡ low = omega (arith, e, a, l) in
    let c : get_or text k 0 ≡ 45 = ap (λ (n : ℕ). get_or text n 0) is ∙ nat_is (get_or text low 0) h in
    rw c refl where
      nat_is : (c : ℕ) → (c == 45) ≡ true → c ≡ 45
      nat_is c h = eqb-true c 45 h
before_by text low first k false h e a l = absurd (omega (arith, e, a, l))

-- so they are a field
inner_by : (text : List ℕ) (low first end k : ℕ) → ((k : ℕ) → get_or text k 0 < 256) → first ≡ low + bool_byte (get_or text low 0 == 45) → IsSeen is_no_digit text first end → low ≤ k → k < end → (k < first) ⊎ (first ≤ k) → is_mark (get_or text k 0) ≡ false
inner_by text low first end k fits e s a b (inl h) = before_by text low first k (get_or text low 0 == 45) refl e a h
inner_by text low first end k fits e s a b (inr h) = digit_inner (get_or text k 0) (a_digit (get_or text k 0) (fits k) (s.0.before k h b))

pub number-field : (text : List ℕ) (is_last : Bool) (low first end : ℕ) → ((k : ℕ) → get_or text k 0 < 256) → first ≡ low + bool_byte (get_or text low 0 == 45) → IsSeen is_no_digit text first end → EndsAs is_last (get_or text end 0) → IsField text is_last low end
number-field text is_last low first end fits e s h = record {
  order = omega (arith, e, s.0.low);
  within = s.1;
  inner = λ k a b. inner_by text low first end k fits e s a b (cases_lt k first);
  ends = h;
}

-- a byte that ends no field is only read
other_by : (c : ℕ) (a b d e : Bool) → (c == 44) ≡ a → (c == 34) ≡ b → (c == 13) ≡ d → (c == 10) ≡ e → (a || b || (d || e)) ≡ false → IsOther c
other_by c false false false false ha hb hd he n = record { comma = ha; quote = hb; cr = hd; lf = he }
other_by c true b d e ha hb hd he n = cc
other_by c false true d e ha hb hd he n = cc
other_by c false false true e ha hb hd he n = cc
other_by c false false false true ha hb hd he n = cc

inner_other : (c : ℕ) → is_mark c ≡ false → IsOther c
inner_other c n = other_by c (c == 44) (c == 34) (c == 13) (c == 10) refl refl refl refl n

-- a scan at the end of a field
reads-field : (text : List ℕ) (is_last : Bool) (at start : ℕ) (ends : List ℕ) (low end : ℕ) → Reads text at start ends low → IsField text is_last low end → Reads text at start ends end
reads-field text is_last at start ends low end r f = reads-others text at start ends low end r f.order (omega (arith, f.within)) (λ k a b. inner_other (get_or text k 0) (f.inner k a b))

-- one more field that is as known
known-push : (ks : List Bool) (fs : List (List ℕ)) (k : Bool) (f : List ℕ) → length ks ≡ length fs → AreAsKnown ks fs → IsAsKnown k f → AreAsKnown (ks ++ (k ∷ [])) (fs ++ (f ∷ []))
known-push [] [] k f l a h = (h, tt)
known-push [] (g ∷ fs) k f l a h = absurd (omega (arith, l))
known-push (j ∷ ks) [] k f l a h = absurd (omega (arith, l))
known-push (j ∷ ks) (g ∷ fs) k f l a h = (a.0, known-push ks fs k f (omega (arith, l)) a.1 h)

-- the first fields of a row were gone over, and the next one begins at a place
pub record GoesOver (text : List ℕ) (at start low : ℕ) (numbers : List Bool) (i : ℕ) : Type 0 where
  pub ends : List ℕ
  pub count : length ends ≡ i
  pub reads : Reads text at start ends low
  pub here : from start ends ≡ low
  pub known : AreAsKnown (take i numbers) (cut text start ends)

pub goes-start : (text : List ℕ) (at start : ℕ) (numbers : List Bool) → Reads text at start [] start → GoesOver text at start start numbers 0
goes-start text at start numbers r = record { ends = []; count = refl; reads = r; here = refl; known = tt }

-- so the first fields with one more are as known
goes-known : (text : List ℕ) (at start low : ℕ) (numbers : List Bool) (i end : ℕ) (g : GoesOver text at start low numbers i) → i < length numbers → IsAsKnown (get_or numbers i false) (between text low end)
    → AreAsKnown (take (i + 1) numbers) (cut text start (g.ends ++ (end ∷ [])))
goes-known text at start low numbers i end g h k =
    let n : length (take i numbers) ≡ i = length-take-le i numbers (omega (arith, h)) in
    let m : length (cut text start g.ends) ≡ i = length-cut text start g.ends ∙ g.count in
    let k2 : IsAsKnown (get_or numbers i false) (between text (from start g.ends) end) = rw g.here k in
    rw (take_more numbers i false h, cut-push text start g.ends end)
    (known-push (take i numbers) (cut text start g.ends) (get_or numbers i false) (between text (from start g.ends) end) (omega (arith, n, m)) g.known k2)

-- one more field, which a comma ends
pub goes-more : (text : List ℕ) (at start low : ℕ) (numbers : List Bool) (i end : ℕ) → GoesOver text at start low numbers i → i < length numbers → IsField text false low end → IsAsKnown (get_or numbers i false) (between text low end)
    → GoesOver text at start (end + 1) numbers (i + 1)
goes-more text at start low numbers i end g h f k = record {
  ends = g.ends ++ (end ∷ []);
  count = omega (arith, length-append {A = ℕ}, g.count);
  reads = reads-parts text at start g.ends end (reads-field text false at start g.ends low end g.reads f) f.within f.ends;
  here = from-push start g.ends end;
  known = goes-known text at start low numbers i end g h k;
}

-- CR or LF
pub turned : (c : ℕ) → EndsAs true c → (c ≡ 13) ⊎ (c ≡ 10)
turned c (inl e) = inr e
turned c (inr e) = inl e

-- the last field, which the end of a line ends
pub goes-end : (text : List ℕ) (at start low : ℕ) (numbers : List Bool) (i end : ℕ) → GoesOver text at start low numbers i → at ≤ low → i + 1 ≡ length numbers → IsField text true low end → IsAsKnown (get_or numbers i false) (between text low end)
    → (start : ℕ) × (ends : List ℕ) × IsPlainRow text at (end + 1) start numbers ends
goes-end text at start low numbers i end g o n f k =
    let all : List ℕ = g.ends ++ (end ∷ []) in
    let is : Ends text at start all (end + 1) = reads-ends text at start g.ends end (reads-field text true at start g.ends low end g.reads f) f.within (turned (get_or text end 0) f.ends) in
    let size : length all ≡ length numbers = omega (arith, length-append {A = ℕ}, g.count, n) in
    let whole : take (i + 1) numbers ≡ numbers = take_all (i + 1) numbers (omega (arith, n)) in
    let same : take (length all) all ≡ all = take_all (length all) all (omega arith) in (
      start,
      all,
      record {
        row = record {
          takes = (rw same is.records, omega (arith, o, f.order), omega (arith, f.within));
          order = rw same is.order;
          few = omega arith;
        };
        some = omega (arith, n);
        width = size;
        known = rw whole at (goes-known text at start low numbers i end g (omega (arith, n)) k);
      },
    )

-- so many and so many behind them
pub rows-join : (text : List ℕ) (numbers : List Bool) (at mid next front count : ℕ) → ArePlainRows text numbers at mid front → ArePlainRows text numbers mid next count → ArePlainRows text numbers at next (front + count)
rows-join text numbers at mid next front zero r q = let e : front + 0 ≡ front = omega arith in rw (e, sym q) r
rows-join text numbers at mid next front (suc count) r q =
    let e : front + suc count ≡ suc (front + count) = omega arith in
    subst (λ (n : ℕ). ArePlainRows text numbers at next n) (sym e) (q.0, q.1, q.2, rows-join text numbers at mid q.0 front count r q.3, q.4)
