-- A text is in UTF-8 exactly where its escaped form is: each 0 is a character of one byte, and so is the 1 behind it.
use Rattle.std.proofs.Common.{◌≡◌, ◌==◌, false, ◌++◌, ◌+◌, ◌<◌, ℕ, zero, suc, List, [], ◌∷◌, refl, sym, ◌∙◌, ap, subst, length, length-append, take, drop, get_or, append_assoc, arith}
use Rattle.std.specs.Str.{IsCharBoundary, IsUtf8}
use Rattle.std.proofs.lemmas.Bool.Decides.{nat_tests}
use Rattle.std.proofs.lemmas.List.{drop_at, take_at}
use Rattle.std.proofs.lemmas.Str.{IsCharBoundary-after_ascii, IsUtf8-append, IsUtf8-drop, IsUtf8-from_ascii, IsUtf8-take}
use Rattle.pipe_spill.specs.Reading.{escaped}

-- a byte that isn't 0 stands as it is
pub escaped-more : (b : ℕ) (bs : List ℕ) → escaped (suc b ∷ bs) ≡ suc b ∷ escaped bs
escaped-more b bs = let h : (suc b == 0) ≡ false = grind (arith, nat_tests) in rw h refl

-- the escaped form of texts one behind the other
pub escaped-append : (text more : List ℕ) → escaped (text ++ more) ≡ escaped text ++ escaped more
escaped-append [] more = refl
escaped-append (zero ∷ text) more = ap (λ xs. 0 ∷ 1 ∷ xs) (escaped-append text more)
escaped-append (suc b ∷ text) more = rw (escaped-more b (text ++ more), escaped-more b text) (ap (λ xs. suc b ∷ xs) (escaped-append text more))

-- the byte behind a front
byte_behind : (front rest : List ℕ) (b : ℕ) → get_or (front ++ b ∷ rest) (length front) 0 ≡ b
byte_behind [] rest b = refl
byte_behind (x ∷ front) rest b = byte_behind front rest b

-- a text is cut behind a byte that is a character
module _ (front rest : List ℕ) (b : ℕ) (low : b < 128) (u : IsUtf8 (front ++ b ∷ rest)) where
  -- the byte ends a character
  boundary : IsCharBoundary (front ++ b ∷ rest) (length front + 1)
  boundary = IsCharBoundary-after_ascii (front ++ b ∷ rest) (length front) u
      (omega (arith, length-append front (b ∷ rest))) (rw (byte_behind front rest b) low)

  -- the front up to this byte
  size : length (front ++ b ∷ []) ≡ length front + 1
  size = length-append front (b ∷ [])

  -- the part up to this byte is a text
  pub cut_front : IsUtf8 (front ++ b ∷ [])
  cut_front = subst IsUtf8
      (ap (λ xs. take (length front + 1) xs) (sym (append_assoc front (b ∷ []) rest)) ∙ take_at (front ++ b ∷ []) rest (length front + 1) size)
      (IsUtf8-take (front ++ b ∷ rest) (length front + 1) u boundary)

  -- the part behind this byte is a text
  pub cut_rest : IsUtf8 rest
  cut_rest = subst IsUtf8
      (ap (λ xs. drop (length front + 1) xs) (sym (append_assoc front (b ∷ []) rest)) ∙ drop_at (front ++ b ∷ []) rest (length front + 1) size)
      (IsUtf8-drop (front ++ b ∷ rest) (length front + 1) u boundary)

-- the character 1 alone
one_utf8 : IsUtf8 (1 ∷ [])
one_utf8 = IsUtf8-from_ascii (1 ∷ []) one
  where
    one : (i : ℕ) → get_or (1 ∷ []) i 0 < 128
    one zero = omega arith
    one (suc i) = omega arith

-- the text is in UTF-8 where its escaped form is
from_escaped : (text front : List ℕ) → IsUtf8 (front ++ escaped text) → IsUtf8 (front ++ text)
from_escaped [] front u = u
from_escaped (zero ∷ text) front u =
    subst IsUtf8 (append_assoc front (0 ∷ []) text)
    (IsUtf8-append (front ++ 0 ∷ []) text (cut_front front (1 ∷ escaped text) 0 (omega arith) u)
    (from_escaped text [] (cut_rest [] (escaped text) 1 (omega arith) (cut_rest front (1 ∷ escaped text) 0 (omega arith) u))))
from_escaped (suc b ∷ text) front u =
    let behind : List ℕ = front ++ suc b ∷ [] in
    subst IsUtf8 (append_assoc front (suc b ∷ []) text)
    (from_escaped text behind (subst IsUtf8 (ap (λ xs. front ++ xs) (escaped-more b text) ∙ sym (append_assoc front (suc b ∷ []) (escaped text))) u))

-- the escaped form of a text is in UTF-8 where the text is
to_escaped : (text front : List ℕ) → IsUtf8 (front ++ text) → IsUtf8 (front ++ escaped text)
to_escaped [] front u = u
to_escaped (zero ∷ text) front u =
    subst IsUtf8 (append_assoc front (0 ∷ []) (1 ∷ escaped text))
    (IsUtf8-append (front ++ 0 ∷ []) (1 ∷ escaped text) (cut_front front text 0 (omega arith) u)
    (IsUtf8-append (1 ∷ []) (escaped text) one_utf8 (to_escaped text [] (cut_rest front text 0 (omega arith) u))))
to_escaped (suc b ∷ text) front u =
    let behind : List ℕ = front ++ suc b ∷ [] in
    subst IsUtf8 (append_assoc front (suc b ∷ []) (escaped text) ∙ ap (λ xs. front ++ xs) (sym (escaped-more b text)))
    (to_escaped text behind (subst IsUtf8 (sym (append_assoc front (suc b ∷ []) text)) u))

-- a text from its escaped form
pub utf8_from_escaped : (text : List ℕ) → IsUtf8 (escaped text) → IsUtf8 text
utf8_from_escaped text u = from_escaped text [] u

-- the escaped form of a text
pub escaped_is_utf8 : (text : List ℕ) → IsUtf8 text → IsUtf8 (escaped text)
escaped_is_utf8 text u = to_escaped text [] u
