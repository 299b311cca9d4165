-- Codes of values of the one key, and their secret hashes.
use Rattle.std.proofs.Common.{◌≡◌, ◌≢◌, ◌∙◌, ◌+◌, ◌<◌, ◌==◌, ℕ, zero, suc, false, List, [], ◌∷◌, Option, drop, get_or, length, refl, sym, ap}
use Rattle.std.specs.Hash.DefaultHasher.{finish, write}
use Rattle.std.specs.List.{list_any}
use Rattle.std.specs.declared.hash.DefaultHasher.{DefaultHasher}
use Rattle.std.specs.declared.hash.RandomState.{RandomState}
use Rattle.std.proofs.lemmas.List.{append-nil, drop_more}
use Rattle.std.proofs.Math.Seq.{drop-length}
use Rattle.pipe_chains.specs.Hash.{secret_hash_of, secret_start}
use Rattle.pipe_chains.proofs.HashFacts.{write-pieces}
use Rattle.pipe_columns.specs.declared.any_value.AnyValue.TheVariants as av
use Rattle.pipe_columns.specs.declared.data_type.DataType.{DataType}
use Rattle.pipe_columns.specs.Key.{text_code}
use Rattle.pipe_spill.proofs.CodeOrder.{text_code-more}
use Rattle.pipe_spill.proofs.Escapes.{plain}
use Rattle.pipe_sinks.specs.Marks.{IsTextKey, sole_code}

-- a zero byte is written with a one behind it
pub wrote-zero : (s t : DefaultHasher) (b : ℕ) (rest : List ℕ) → b ≡ 0 → t ≡ write s (0 ∷ 1 ∷ []) → write t (text_code rest) ≡ write s (text_code (b ∷ rest))
wrote-zero s t b rest z e =
    ap (λ (h : DefaultHasher). write h (text_code rest)) e ∙ sym (write-pieces s (0 ∷ 1 ∷ []) (text_code rest)) ∙ ap (λ (n : ℕ). write s (text_code (n ∷ rest))) (sym z)

-- another byte as it is
pub wrote-byte : (s t : DefaultHasher) (b : ℕ) (rest : List ℕ) → b ≢ 0 → t ≡ write s (b ∷ []) → write t (text_code rest) ≡ write s (text_code (b ∷ rest))
wrote-byte s t zero rest h e = absurd (h refl)
wrote-byte s t (suc b) rest h e =
    ap (λ (h : DefaultHasher). write h (text_code rest)) e ∙ sym (write-pieces s (suc b ∷ []) (text_code rest)) ∙ ap (write s) (sym (text_code-more b rest))

module _ (old : DefaultHasher) (text : List ℕ) where
  -- the next byte
  pub wrote-next : (s t : DefaultHasher) (i n : ℕ) → i < length text → write s (text_code (drop i text)) ≡ write old (text_code text)
      → ((rest : List ℕ) → write t (text_code rest) ≡ write s (text_code (get_or text i 0 ∷ rest))) → n ≡ i + 1 → write t (text_code (drop n text)) ≡ write old (text_code text)
  wrote-next s t i n l h step more =
      ap (λ (k : ℕ). write t (text_code (drop k text))) more ∙ step (drop (i + 1) text) ∙ ap (λ (xs : List ℕ). write s (text_code xs)) (sym (drop_more text i 0 l)) ∙ h

  -- the end
  pub wrote-all : (s : DefaultHasher) (i : ℕ) → i ≡ length text → write s (text_code (drop i text)) ≡ write old (text_code text) → write s (0 ∷ 0 ∷ []) ≡ write old (text_code text)
  wrote-all s i e h =
      ap (λ (xs : List ℕ). write s (text_code xs)) (sym (ap (λ (k : ℕ). drop k text) e ∙ drop-length text)) ∙ h

  -- a text without a zero byte is written whole
  pub wrote-plain : (s : DefaultHasher) → list_any (λ byte. byte == 0) text ≡ false → s ≡ write old text → write s (0 ∷ 0 ∷ []) ≡ write old (text_code text)
  wrote-plain s none e =
      ap (λ (h : DefaultHasher). write h (0 ∷ 0 ∷ [])) e ∙ sym (write-pieces old text (0 ∷ 0 ∷ [])) ∙ ap (write old) (sym (plain text none))

-- what is written of a text is its code
pub secret-text : (hash_keys : Option RandomState) (text : List ℕ) (a b c d : DefaultHasher) (n : ℕ) → a ≡ secret_start hash_keys → b ≡ write a (1 ∷ [])
    → write c (0 ∷ 0 ∷ []) ≡ write b (text_code text) → d ≡ write c (0 ∷ 0 ∷ []) → n ≡ finish d → n ≡ secret_hash_of hash_keys (1 ∷ text_code text)
unfolding secret_hash_of
secret-text hash_keys text a b c d n start first body end is =
    is ∙ ap finish (end ∙ body ∙ ap (λ (h : DefaultHasher). write h (text_code text)) (first ∙ ap (λ (h : DefaultHasher). write h (1 ∷ [])) start)
    ∙ sym (write-pieces (secret_start hash_keys) (1 ∷ []) (text_code text)))

module _ (types : List DataType) (one : IsTextKey types) where
  pub null-secret : 0 ∷ [] ≡ sole_code types av.Null
  null-secret = ap (λ (ts : List DataType). sole_code ts av.Null) (sym one)

  pub text-secret : (s : List ℕ) → 1 ∷ text_code s ≡ sole_code types (av.Text s)
  text-secret s = sym (append-nil (1 ∷ text_code s)) ∙ ap (λ (ts : List DataType). sole_code ts (av.Text s)) (sym one)
