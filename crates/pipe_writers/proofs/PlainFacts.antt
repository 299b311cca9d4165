-- Bytes that a JSON string has as they are.
use Rattle.std.proofs.Common.{◌≡◌, ◌∙◌, ◌∷◌, ◌++◌, ◌||◌, ◌&&◌, ◌==◌, ◌+◌, ◌-◌, ◌*◌, ◌%◌, ◌^◌, ◌≤◌, [], ℕ, zero, suc, List, Bool, true, false, cond, not, map, take, drop, length, replicate, nat_lt, bit_or, refl, sym, ap, arith, append_assoc, take-append-drop}
use Rattle.std.proofs.lemmas.Bool.{and_parts, or_parts, not-true, eqb-false, ltb-false, ne_eqb}
use Rattle.std.proofs.lemmas.List.{drop-drop, length-drop, length-map, take_all}
use Rattle.std.proofs.lemmas.List.Folds.{list_all-append}
use Rattle.std.proofs.lemmas.Simd.{chunk-drop, length-chunk, map-map, mask_l-mod, zip2_of_maps, zip2_splat}
use lib.Lanes.{chunk, mask_l, top, zip2}
use Rattle.json.specs.Print.{escape}
use Rattle.json.proofs.Printed.Strings.{escape_byte_plain}
use Rattle.pipe_writers.specs.JsonText.{json_string}
use Rattle.pipe_writers.specs.PlainBytes.{are_plain, has_escape}

-- they are escaped as they are
escape_plain : (s : List ℕ) → are_plain s ≡ true → escape s ≡ s
escape_plain [] plain = refl
escape_plain (x ∷ xs) plain =
    let both = and_parts (not (has_escape x)) (are_plain xs) plain in
    let tests = or_parts ((x == 34) || (x == 92)) (nat_lt x 32) (not-true (has_escape x) both.0) in
    let marks = or_parts (x == 34) (x == 92) tests.0 in
    let rest = escape_plain xs both.1 in
    λ i. escape_byte_plain x (eqb-false x 34 marks.0) (eqb-false x 92 marks.1) (ltb-false x 32 tests.1) i ++ rest i

-- what is put around them
pub plain_string : (s before : List ℕ) → are_plain s ≡ true → ((before ++ 34 ∷ []) ++ s) ++ 34 ∷ [] ≡ before ++ json_string s
plain_string s before plain =
    append_assoc (before ++ 34 ∷ []) s (34 ∷ []) ∙ append_assoc before (34 ∷ []) (s ++ 34 ∷ [])
    ∙ ap (λ (bs : List ℕ). before ++ 34 ∷ (bs ++ 34 ∷ [])) (sym (escape_plain s plain))

-- a lane in which a test holds has all its bits
abbrev lane : Bool → ℕ
lane b = cond b 255 0

any_lane : (p q r : Bool) → top 7 (bit_or (bit_or (lane p) (lane q)) (lane r)) ≡ (p || q || r)
any_lane true true true = refl
any_lane true true false = refl
any_lane true false true = refl
any_lane true false false = refl
any_lane false true true = refl
any_lane false true false = refl
any_lane false false true = refl
any_lane false false false = refl

doubled : (m : ℕ) → (0 + 2 * m == 0) ≡ (m == 0)
doubled zero = refl
doubled (suc m) = ne_eqb (0 + 2 * suc m) 0 (λ e. omega (arith, e)) ∙ sym (ne_eqb (suc m) 0 (λ e. omega (arith, e)))

set_by : (b : Bool) (m : ℕ) (rest : Bool) → (m == 0) ≡ rest → (cond b 1 0 + 2 * m == 0) ≡ (not b && rest)
set_by true m rest e = ne_eqb (1 + 2 * m) 0 (λ e. omega (arith, e))
set_by false m rest e = doubled m ∙ e

-- no lane is set where none has an escape
none_set : (s : List ℕ) → (mask_l (map has_escape s) == 0) ≡ are_plain s
none_set [] = refl
none_set (x ∷ xs) = set_by (has_escape x) (mask_l (map has_escape xs)) (are_plain xs) (none_set xs)

-- the tests of eight bytes, as the code makes them
pub eight_plain : (s : List ℕ) (at : ℕ) → at + 8 ≤ length s
    → (mask_l (map (top 7) (zip2 bit_or (zip2 bit_or (zip2 (λ a b. lane (a == b)) (chunk at 8 s) (replicate 8 34)) (zip2 (λ a b. lane (a == b)) (chunk at 8 s) (replicate 8 92)))
    (zip2 (λ a b. lane (nat_lt a b)) (chunk at 8 s) (replicate 8 32)))) % 2 ^ 64 == 0) ≡ are_plain (chunk at 8 s)
eight_plain s at room =
    let v : List ℕ = chunk at 8 s in
    let long = length-chunk at 8 s room in
    let few : length (map has_escape v) ≤ 64 = omega (arith, long, length-map v has_escape) in
    let quotes = zip2_splat (λ (a b : ℕ). lane (a == b)) v 8 34 long in
    let slashes = zip2_splat (λ (a b : ℕ). lane (a == b)) v 8 92 long in
    let controls = zip2_splat (λ (a b : ℕ). lane (nat_lt a b)) v 8 32 long in
    let marks = zip2_of_maps bit_or (λ (x : ℕ). lane (x == 34)) (λ (x : ℕ). lane (x == 92)) v quotes slashes in
    let lanes = zip2_of_maps bit_or (λ (x : ℕ). bit_or (lane (x == 34)) (lane (x == 92))) (λ (x : ℕ). lane (nat_lt x 32)) v marks controls in
    let all = ap (map (top 7)) lanes ∙ map-map (top 7) (λ (x : ℕ). bit_or (bit_or (lane (x == 34)) (lane (x == 92))) (lane (nat_lt x 32))) v
    ∙ (λ i. map (λ (x : ℕ). any_lane (x == 34) (x == 92) (nat_lt x 32) i) v) in
    ap (λ (bs : List Bool). mask_l bs % 2 ^ 64 == 0) all ∙ ap (λ (n : ℕ). n == 0) (mask_l-mod (map has_escape v) 64 few) ∙ none_set v

-- eight bytes and those behind them
pub eight_first : (s : List ℕ) (at : ℕ) → are_plain (drop at s) ≡ (are_plain (chunk at 8 s) && are_plain (drop (at + 8) s))
eight_first s at = ap are_plain (chunk-drop at 8 s) ∙ list_all-append (λ (x : ℕ). not (has_escape x)) (chunk at 8 s) (drop (at + 8) s)

-- those behind a place are, so all are as the last are
overlap : (a m r : Bool) → (a && (m && r)) ≡ r → (m && r) ≡ (a && (m && r))
overlap true m r e = refl
overlap false true r e = sym e
overlap false false r e = refl

halves : (n : ℕ) (s : List ℕ) → are_plain s ≡ (are_plain (take n s) && are_plain (drop n s))
halves n s = ap are_plain (sym (take-append-drop n s)) ∙ list_all-append (λ (x : ℕ). not (has_escape x)) (take n s) (drop n s)

-- the last eight bytes, where some of them are known
pub last_eight : (s : List ℕ) (last at : ℕ) → last + 8 ≡ length s → last ≤ at → are_plain s ≡ are_plain (drop at s) → are_plain (chunk last 8 s) ≡ are_plain s
last_eight s last at room le known =
    let over : last + (at - last) ≡ at = omega (arith, le) in
    let short : length (drop last s) ≤ 8 = omega (arith, room, length-drop last s) in
    let behind : drop (at - last) (drop last s) ≡ drop at s = drop-drop (at - last) last s ∙ ap (λ (n : ℕ). drop n s) over in
    let some = halves (at - last) (drop last s) ∙ ap (λ (bs : List ℕ). are_plain (take (at - last) (drop last s)) && are_plain bs) behind in
    let every = halves last s ∙ ap (λ (b : Bool). are_plain (take last s) && b) some in
    ap are_plain (take_all 8 (drop last s) short) ∙ some ∙ overlap (are_plain (take last s)) (are_plain (take (at - last) (drop last s))) (are_plain (drop at s)) (sym every ∙ known) ∙ sym every
