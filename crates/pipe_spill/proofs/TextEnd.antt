-- The end of a text's code is looked for byte by byte.
use Rattle.std.proofs.Common.{◌≡◌, ◌≢◌, true, false, ◌++◌, ◌+◌, ◌<◌, ◌≤◌, ℕ, zero, suc, List, [], ◌∷◌, refl, sym, ◌∙◌, ap, subst, length, take, drop, get_or, append_assoc, arith}
use Rattle.std.proofs.lemmas.List.{take_more}
use Rattle.std.specs.Str.{IsUtf8}
use Rattle.pipe_columns.specs.declared.data_type.DataType.TheVariants as dt
use Rattle.pipe_columns.specs.declared.any_value.AnyValue.TheVariants as av
use Rattle.pipe_spill.specs.KeyTypes.{BeginsNoValue}
use Rattle.pipe_spill.specs.Reading.{BeginsNoText, BeginsText, BeginsValue, escaped}
use Rattle.pipe_spill.proofs.CodeOrder.{text_once}
use Rattle.pipe_spill.proofs.Escapes.{at_byte, at_end, at_last, at_mark, at_zero, code_from_read, none_from_read, read_on}
use Rattle.pipe_spill.proofs.EscapedText.{escaped-append, escaped-more, escaped_is_utf8, utf8_from_escaped}

-- the bytes so far are the escaped form of a text, behind which the whole is read
pub record IsScanned (body : List ℕ) (at : ℕ) : Type 0 where
  pub within : at ≤ length body
  pub seen : List ℕ
  pub before : escaped seen ≡ take at body
  pub same : read_on seen (drop at body) ≡ read_on [] body

-- nothing is seen yet
pub none_scanned : (body : List ℕ) → IsScanned body 0
none_scanned body = record { within = omega arith; seen = []; before = refl; same = refl }

-- the end
pub end_scanned : (body : List ℕ) (at : ℕ) → IsScanned body at → at + 1 < length body → get_or body at 0 ≡ 0 → get_or body (at + 1) 0 ≡ 0 → BeginsText body at
end_scanned body at h b e f = record {
  text = h.seen;
  before = h.before;
  front = code_from_read body h.seen (drop (at + 2) body) (sym h.same ∙ at_end h.seen body at b e f);
}

-- an escaped 0
pub zero_scanned : (body : List ℕ) (at : ℕ) → IsScanned body at → at + 1 < length body → get_or body at 0 ≡ 0 → get_or body (at + 1) 0 ≡ 1 → IsScanned body (at + 2)
zero_scanned body at h b e f =
    let two : at + 1 + 1 ≡ at + 2 = omega arith in
    let within : at < length body = omega arith in
    let more : take (at + 2) body ≡ (take at body ++ 0 ∷ []) ++ 1 ∷ [] =
    ap (λ n. take n body) (sym two) ∙ take_more body (at + 1) 0 b
    ∙ ap (λ x. take (at + 1) body ++ x ∷ []) f
    ∙ ap (λ xs. xs ++ 1 ∷ []) (take_more body at 0 within ∙ ap (λ x. take at body ++ x ∷ []) e) in
    record {
      within = omega arith;
      seen = h.seen ++ 0 ∷ [];
      before = escaped-append h.seen (0 ∷ []) ∙ ap (λ xs. xs ++ 0 ∷ 1 ∷ []) h.before ∙ sym (more ∙ append_assoc (take at body) (0 ∷ []) (1 ∷ []));
      same = sym (at_zero h.seen body at b e f) ∙ h.same;
    }

-- any other byte stands as it is
bare : (b : ℕ) → b ≢ 0 → escaped (b ∷ []) ≡ b ∷ []
bare zero n = absurd (n refl)
bare (suc b) n = escaped-more b []

-- another byte
pub byte_scanned : (body : List ℕ) (at : ℕ) → IsScanned body at → at < length body → get_or body at 0 ≢ 0 → IsScanned body (at + 1)
byte_scanned body at h b n = record {
  within = omega arith;
  seen = h.seen ++ get_or body at 0 ∷ [];
  before = escaped-append h.seen (get_or body at 0 ∷ []) ∙ ap (λ xs. xs ++ escaped (get_or body at 0 ∷ [])) h.before
      ∙ ap (λ xs. take at body ++ xs) (bare (get_or body at 0) n) ∙ sym (take_more body at 0 b);
  same = sym (at_byte h.seen body at b n) ∙ h.same;
}

-- a 0 before anything else
pub mark_scanned : (body : List ℕ) (at : ℕ) → IsScanned body at → at + 1 < length body → get_or body at 0 ≡ 0 → get_or body (at + 1) 0 ≢ 0 → get_or body (at + 1) 0 ≢ 1 → BeginsNoText body
mark_scanned body at h b e n k = none_from_read body (sym h.same ∙ at_mark h.seen body at b e n k)

-- too few bytes
pub last_scanned : (body : List ℕ) (at : ℕ) → IsScanned body at → length body ≤ at + 1 → BeginsNoText body
last_scanned body at h b = none_from_read body (sym h.same ∙ at_last h.seen body at b)

-- a text whose escaped form is in UTF-8 is one that a program can hold
pub text_skipped : (body : List ℕ) (end : ℕ) → BeginsText body end → IsUtf8 (take end body) → BeginsValue dt.String (1 ∷ body) (drop (end + 2) body)
text_skipped body end h u = record {
  value = av.Text h.text;
  is_value = record { fits = refl; utf8 = utf8_from_escaped h.text (subst IsUtf8 (sym h.before) u) };
  front = ap (λ xs. 1 ∷ xs) h.front;
}

-- a text whose escaped form isn't in UTF-8 is none that a program can hold
pub no_utf8 : (body : List ℕ) (end : ℕ) → BeginsText body end → (IsUtf8 (take end body) → ⊥) → BeginsNoValue dt.String (1 ∷ body)
no_utf8 body end h n av.Null rest p e = absurd cc
no_utf8 body end h n (av.Boolean b) rest p e = let f : false ≡ true = p.fits in absurd cc
no_utf8 body end h n (av.Int z) rest p e = let f : false ≡ true = p.fits in absurd cc
no_utf8 body end h n (av.Text text) rest p e =
    let once = text_once text h.text rest (drop (end + 2) body) (ap (λ (l : List ℕ). drop 1 l) e ∙ sym h.front) in
    n (subst IsUtf8 (ap escaped once ∙ h.before) (escaped_is_utf8 text p.utf8))
