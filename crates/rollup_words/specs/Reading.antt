-- Why there is no query, and why there are no keys.
use Rattle.std.specs.Prelude.{◌≡◌, ℕ, List, Option, None, Result, Err, ⊤}
use Rattle.pipe_model.specs.Query.{QueryTree}
use Rattle.rollup_words.specs.declared.refusal.AskError.{AskError}
use Rattle.rollup_words.specs.declared.refusal.AskError.TheVariants as ask_error
use Rattle.rollup_words.specs.declared.refusal.Refusal.{Refusal}
use Rattle.rollup_words.specs.declared.refusal.Refusal.TheVariants as refusal

-- there is no query for this; nothing is said of want of memory
abbrev pub IsNoWhole : AskError → Result QueryTree Refusal → Type 0
IsNoWhole (ask_error.Refused r) q = q ≡ Err r
IsNoWhole ask_error.Memory q = ⊤

-- there are no keys; nothing is said of want of memory
abbrev pub AreNoKeys : AskError → Option (List ℕ) → Type 0
AreNoKeys (ask_error.Refused r) kept = (r ≡ refusal.Keys) × (kept ≡ None)
AreNoKeys ask_error.Memory kept = ⊤
