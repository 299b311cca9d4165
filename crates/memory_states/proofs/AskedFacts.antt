-- What a call to roll states up asks, once its parts are looked at.
use Rattle.std.proofs.Common.{◌≡◌, ◌∙◌, ℕ, Bool, true, false, List, length, Option, Some, Result, Ok, if◌then◌else◌, ap}
use Rattle.memory_answer.specs.Answers.{bytes_query}
use Rattle.memory_states.specs.Calls.{are_lengths, bytes_kept, keys_asked, number_names, roll_asked}
use Rattle.pipe_model.specs.Query.{QueryTree}
use Rattle.rollup_words.specs.Asked.{refused, rolls, rolls_by, whole_query}
use Rattle.rollup_words.specs.declared.refusal.Refusal.{Refusal}
use Rattle.rollup_words.specs.declared.refusal.Refusal.TheVariants as refusal

module _ (query keys lengths states : List ℕ) where
  -- other lengths are refused
  pub other-lengths : are_lengths lengths states ≡ false → roll_asked query keys lengths states ≡ refused refusal.Words
  other-lengths is = ap (λ (b : Bool). if b then keys_asked keys (length lengths) (whole_query (bytes_query query)) else refused refusal.Words) is

  -- with those of the states the query is looked at
  pub their-lengths : are_lengths lengths states ≡ true → roll_asked query keys lengths states ≡ keys_asked keys (length lengths) (whole_query (bytes_query query))
  their-lengths is = ap (λ (b : Bool). if b then keys_asked keys (length lengths) (whole_query (bytes_query query)) else refused refusal.Words) is

  module _ (q : QueryTree) (whole : are_lengths lengths states ≡ true) (is : whole_query (bytes_query query) ≡ Ok q) where
    -- and then the keys
    pub by-keys : roll_asked query keys lengths states ≡ rolls_by q (number_names (length lengths)) (bytes_kept q keys)
    by-keys = their-lengths whole ∙ ap (keys_asked keys (length lengths)) is

    -- and then the states
    pub by-kept : (keep : List ℕ) → bytes_kept q keys ≡ Some keep → roll_asked query keys lengths states ≡ rolls q keep (number_names (length lengths))
    by-kept keep kept = by-keys ∙ ap (rolls_by q (number_names (length lengths))) kept
