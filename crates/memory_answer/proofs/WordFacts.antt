-- Bytes that are the word of a query, and others.
use Rattle.std.proofs.Common.{◌≡◌, ℕ, Bool, true, false, List, if◌then◌else◌, Err, refl, ap}
use Rattle.std.specs.Str.{IsUtf8, is_utf8}
use Rattle.std.proofs.lemmas.Str.{IsUtf8-from_is_utf8, is_utf8-from_IsUtf8}
use Rattle.tool_query.specs.QueryWord.{word_query}
use Rattle.tool_query.specs.declared.no_query.NoQuery.TheVariants as no_query
use Rattle.memory_answer.specs.Answers.{bytes_query}

-- bytes of UTF-8 are the query that their word is
pub word-query : (bytes : List ℕ) → IsUtf8 bytes → bytes_query bytes ≡ word_query bytes
word-query bytes utf8 = ap (λ (b : Bool). if b then word_query bytes else Err no_query.NotJson) (is_utf8-from_IsUtf8 bytes utf8)

-- others are no JSON
pub no-word : (bytes : List ℕ) → ¬ (IsUtf8 bytes) → bytes_query bytes ≡ Err no_query.NotJson
no-word bytes none = by_case (is_utf8 bytes) refl where
  by_case : (b : Bool) → is_utf8 bytes ≡ b → bytes_query bytes ≡ Err no_query.NotJson
  by_case true is = absurd (none (IsUtf8-from_is_utf8 bytes is))
  by_case false is = ap (λ (b : Bool). if b then word_query bytes else Err no_query.NotJson) is
