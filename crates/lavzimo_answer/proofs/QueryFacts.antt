-- The query of a file.
use Rattle.std.proofs.Common.{◌≡◌, ◌∙◌, ℕ, Bool, true, false, List, refl, sym, ap, if◌then◌else◌, Result, Ok, Err}
use Rattle.std.specs.Prelude.{IfErr, IfOk}
use Rattle.std.specs.Str.{IsUtf8, is_utf8}
use Rattle.std.proofs.lemmas.Str.{IsUtf8-from_is_utf8, is_utf8-from_IsUtf8}
use Rattle.pipe_aggs.specs.declared.query.Query.{Query}
use Rattle.pipe_aggs.specs.QueryTrees.{query_tree}
use Rattle.tool_query.specs.QueryWord.{IsNoQuery, word_query}
use Rattle.tool_query.specs.declared.no_query.NoQuery.TheVariants as no_query
use Rattle.tool_query.specs.declared.no_query.QueryError.{QueryError}
use Rattle.tool_query.specs.declared.no_query.QueryError.TheVariants as query_error
use Rattle.lavzimo_answer.specs.Asking.{file_query}
use Rattle.lavzimo_answer.specs.Reading.{IsNoQueryOf}

-- of a text it is that of the word
text-query : (text : List ℕ) → IsUtf8 text → file_query text ≡ word_query text
text-query text is = ap (λ (b : Bool). if b then word_query text else Err no_query.NotJson) (is_utf8-from_IsUtf8 text is)

-- what is no text is no query
pub not-text : (text : List ℕ) → (IsUtf8 text → ⊥) → file_query text ≡ Err no_query.NotJson
not-text text other = by (is_utf8 text) refl where
  by : (b : Bool) → is_utf8 text ≡ b → file_query text ≡ Err no_query.NotJson
  by true e = absurd (other (IsUtf8-from_is_utf8 text e))
  by false e = ap (λ (b : Bool). if b then word_query text else Err no_query.NotJson) e

pub word-gives : (text word : List ℕ) (r : Result Query QueryError) → word ≡ text → IsUtf8 word → IfOk r (λ q. word_query word ≡ Ok (query_tree q)) → IfOk r (λ q. file_query text ≡ Ok (query_tree q))
word-gives text word (Ok q) same is h = ap file_query (sym same) ∙ text-query word is ∙ h
word-gives text word (Err e) same is h = tt

pub word-refused : (text word : List ℕ) (r : Result Query QueryError) → word ≡ text → IsUtf8 word → IfErr r (λ e. IsNoQuery e (word_query word)) → IfErr r (λ e. IsNoQueryOf e text)
word-refused text word (Ok q) same is h = tt
word-refused text word (Err (query_error.Refused why)) same is h = ap file_query (sym same) ∙ text-query word is ∙ h
word-refused text word (Err query_error.Memory) same is h = tt
