-- Bytes that name key columns, and others.
use Rattle.std.proofs.Common.{◌≡◌, ℕ, Bool, true, false, List, Option, Some, None, Result, Ok, Err, IfOk, Vec, if◌then◌else◌, refl, ap}
use Rattle.std.specs.declared.alloc.Global.{Global}
use Rattle.std.specs.Str.{IsUtf8, is_utf8}
use Rattle.std.proofs.lemmas.Str.{IsUtf8-from_is_utf8, is_utf8-from_IsUtf8}
use Rattle.pipe_model.specs.Query.{QueryTree}
use Rattle.pipe_states.specs.Together.{AreKept}
use Rattle.rollup_words.specs.Keys.{kept_positions}
use Rattle.rollup_words.specs.declared.refusal.AskError.{AskError}
use Rattle.rollup_words.proofs.AskedFacts.{kept_can}
use Rattle.memory_states.specs.Calls.{bytes_kept}

-- bytes of UTF-8 name the columns that their word does
pub word-kept : (q : QueryTree) (bytes : List ℕ) → IsUtf8 bytes → bytes_kept q bytes ≡ kept_positions q bytes
word-kept q bytes utf8 = ap (λ (b : Bool). if b then kept_positions q bytes else None) (is_utf8-from_IsUtf8 bytes utf8)

-- others name none
pub none-kept : (q : QueryTree) (bytes : List ℕ) → ¬ (IsUtf8 bytes) → bytes_kept q bytes ≡ None
none-kept q bytes none = by_case (is_utf8 bytes) refl where
  by_case : (b : Bool) → is_utf8 bytes ≡ b → bytes_kept q bytes ≡ None
  by_case true is = absurd (none (IsUtf8-from_is_utf8 bytes is))
  by_case false is = ap (λ (b : Bool). if b then kept_positions q bytes else None) is

-- columns that a word names can be kept
pub keys-can : (q : QueryTree) (word : List ℕ) (answer : Result (Vec ℕ Global) AskError) → IfOk answer (λ v. kept_positions q word ≡ Some v.items) → IfOk answer (λ v. AreKept q v.items)
keys-can q word (Ok v) is = kept_can q word v.items is
keys-can q word (Err e) is = tt
