-- A text's code is read byte by byte.
use Rattle.std.proofs.Common.{◌≡◌, ◌==◌, Bool, true, false, ◌||◌, ◌≢◌, ◌++◌, ℕ, zero, suc, List, [], ◌∷◌, Option, Some, None, refl, sym, ◌∙◌, ap, arith, append_assoc, length, drop, get_or, ◌+◌, ◌<◌, ◌≤◌}
use Rattle.std.specs.List.{list_any}
use Rattle.std.proofs.lemmas.List.{append-nil, drop_more, length-drop}
use Rattle.pipe_columns.specs.Key.{text_code}
use Rattle.pipe_spill.proofs.CodeOrder.{text_code-more}

-- the text after what was seen of it, and the bytes after its end
abbrev pub read_on : List ℕ → List ℕ → Option (List ℕ × List ℕ)
read_on seen [] = None
read_on seen (zero ∷ []) = None
read_on seen (zero ∷ zero ∷ rest) = Some (seen, rest)
read_on seen (zero ∷ suc zero ∷ rest) = read_on (seen ++ 0 ∷ []) rest
read_on seen (zero ∷ suc (suc b) ∷ rest) = None
read_on seen (suc b ∷ rest) = read_on (seen ++ suc b ∷ []) rest

-- two bytes at a place
two_at : (xs : List ℕ) (i : ℕ) → i + 1 < length xs → drop i xs ≡ get_or xs i 0 ∷ get_or xs (i + 1) 0 ∷ drop (i + 2) xs
two_at xs i h =
    let p : i < length xs = omega arith in
    let e : i + 1 + 1 ≡ i + 2 = omega arith in
    drop_more xs i 0 p ∙ ap (λ ys. get_or xs i 0 ∷ ys) (drop_more xs (i + 1) 0 h ∙ ap (λ k. get_or xs (i + 1) 0 ∷ drop k xs) e)

-- the end of a text
pub at_end : (seen xs : List ℕ) (i : ℕ) → i + 1 < length xs → get_or xs i 0 ≡ 0 → get_or xs (i + 1) 0 ≡ 0
    → read_on seen (drop i xs) ≡ Some (seen, drop (i + 2) xs)
at_end seen xs i h e f = rw (two_at xs i h, e, f) refl

-- an escaped 0
pub at_zero : (seen xs : List ℕ) (i : ℕ) → i + 1 < length xs → get_or xs i 0 ≡ 0 → get_or xs (i + 1) 0 ≡ 1
    → read_on seen (drop i xs) ≡ read_on (seen ++ 0 ∷ []) (drop (i + 2) xs)
at_zero seen xs i h e f = rw (two_at xs i h, e, f) refl

-- a byte that is no 0 stands for itself
byte_on : (seen : List ℕ) (b : ℕ) (rest : List ℕ) → b ≢ 0 → read_on seen (b ∷ rest) ≡ read_on (seen ++ b ∷ []) rest
byte_on seen zero rest h = absurd (h refl)
byte_on seen (suc b) rest h = refl

-- any other byte
pub at_byte : (seen xs : List ℕ) (i : ℕ) → i < length xs → get_or xs i 0 ≢ 0
    → read_on seen (drop i xs) ≡ read_on (seen ++ get_or xs i 0 ∷ []) (drop (i + 1) xs)
at_byte seen xs i h n = rw (drop_more xs i 0 h) (byte_on seen (get_or xs i 0) (drop (i + 1) xs) n)

-- behind a 0 comes 0 or 1
mark_on : (seen : List ℕ) (b : ℕ) (rest : List ℕ) → b ≢ 0 → b ≢ 1 → read_on seen (0 ∷ b ∷ rest) ≡ None
mark_on seen zero rest h k = absurd (h refl)
mark_on seen (suc zero) rest h k = absurd (k refl)
mark_on seen (suc (suc b)) rest h k = refl

-- a 0 before anything else
pub at_mark : (seen xs : List ℕ) (i : ℕ) → i + 1 < length xs → get_or xs i 0 ≡ 0 → get_or xs (i + 1) 0 ≢ 0 → get_or xs (i + 1) 0 ≢ 1
    → read_on seen (drop i xs) ≡ None
at_mark seen xs i h e n k = rw (two_at xs i h, e) (mark_on seen (get_or xs (i + 1) 0) (drop (i + 2) xs) n k)

-- too few bytes
pub at_last : (seen xs : List ℕ) (i : ℕ) → length xs ≤ i + 1 → read_on seen (drop i xs) ≡ None
at_last seen xs i h = short seen (drop i xs) (rw length-drop (omega arith))
  where
    short : (seen ys : List ℕ) → length ys ≤ 1 → read_on seen ys ≡ None
    short seen [] l = refl
    short seen (zero ∷ []) l = refl
    short seen (suc b ∷ []) l = refl
    short seen (b ∷ c ∷ ys) l = absurd (omega arith)

-- what is read of a code
read_on-code : (text seen rest : List ℕ) → read_on seen (text_code text ++ rest) ≡ Some (seen ++ text, rest)
read_on-code [] seen rest = rw append-nil refl
read_on-code (zero ∷ text) seen rest = rw (← append_assoc seen (0 ∷ []) text) (read_on-code text (seen ++ 0 ∷ []) rest)
read_on-code (suc b ∷ text) seen rest =
    rw (text_code-more b text, ← append_assoc seen (suc b ∷ []) text) (read_on-code text (seen ++ suc b ∷ []) rest)

-- results are one where both parts are
same_parts : (a b c d : List ℕ) → ◌≡◌ {A = Option (List ℕ × List ℕ)} (Some (a, b)) (Some (c, d)) → (a ≡ c) × (b ≡ d)
same_parts a b c d e =
    let p : ◌≡◌ {A = List ℕ × List ℕ} (a, b) (c, d) = cc in
    (ap (λ (x : List ℕ × List ℕ). x.0) p, ap (λ (x : List ℕ × List ℕ). x.1) p)

-- the code of what is read
record IsRead (seen bytes text rest : List ℕ) : Type 0 where
  more : List ℕ
  whole : text ≡ seen ++ more
  code : text_code more ++ rest ≡ bytes

-- what is read has this code
read_on-is : (bytes seen text rest : List ℕ) → read_on seen bytes ≡ Some (text, rest) → IsRead seen bytes text rest
read_on-is [] seen text rest e = absurd cc
read_on-is (zero ∷ []) seen text rest e = absurd cc
read_on-is (zero ∷ zero ∷ bytes) seen text rest e =
    let p = same_parts seen bytes text rest e in
    record { more = []; whole = rw append-nil (sym p.0); code = ap (λ xs. 0 ∷ 0 ∷ xs) (sym p.1) }
read_on-is (zero ∷ suc zero ∷ bytes) seen text rest e =
    let f = read_on-is bytes (seen ++ 0 ∷ []) text rest e in
    record { more = 0 ∷ f.more; whole = f.whole ∙ append_assoc seen (0 ∷ []) f.more; code = ap (λ xs. 0 ∷ 1 ∷ xs) f.code }
read_on-is (zero ∷ suc (suc b) ∷ bytes) seen text rest e = absurd cc
read_on-is (suc b ∷ bytes) seen text rest e =
    let f = read_on-is bytes (seen ++ suc b ∷ []) text rest e in
    record { more = suc b ∷ f.more; whole = f.whole ∙ append_assoc seen (suc b ∷ []) f.more; code = rw text_code-more (ap (λ xs. suc b ∷ xs) f.code) }

-- what is read from the front has the code that stands there
pub code_from_read : (bytes text rest : List ℕ) → read_on [] bytes ≡ Some (text, rest) → text_code text ++ rest ≡ bytes
code_from_read bytes text rest e =
    let f = read_on-is bytes [] text rest e in
    rw f.whole f.code

-- where nothing is read, no code stands in front
pub none_from_read : (bytes : List ℕ) → read_on [] bytes ≡ None → (text rest : List ℕ) → text_code text ++ rest ≢ bytes
none_from_read bytes e text rest f = absurd_some (sym (read_on-code text [] rest) ∙ rw f e)
  where
    absurd_some : ◌≡◌ {A = Option (List ℕ × List ℕ)} (Some (text, rest)) None → ⊥
    absurd_some h = cc

-- a text without a zero byte stands as it is
pub plain : (text : List ℕ) → list_any (λ byte. byte == 0) text ≡ false → text_code text ≡ text ++ 0 ∷ 0 ∷ []
plain [] h = refl
plain (zero ∷ text) h = absurd cc
plain (suc b ∷ text) h = rw text_code-more (ap (λ xs. suc b ∷ xs) (plain text (second_false (suc b == 0) (list_any (λ byte. byte == 0) text) h)))
  where
    second_false : (x y : Bool) → (x || y) ≡ false → y ≡ false
    second_false true y e = absurd cc
    second_false false y e = e
