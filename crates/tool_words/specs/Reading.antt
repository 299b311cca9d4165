-- Of the proofs alone: why there is no query.
use Rattle.std.specs.Prelude.{◌≡◌, Result, Err, ⊤}
use Rattle.pipe_model.specs.Query.{QueryTree}
use Rattle.tool_words.specs.declared.refusal.AskError.{AskError}
use Rattle.tool_words.specs.declared.refusal.AskError.TheVariants as ask_error
use Rattle.tool_words.specs.declared.refusal.Refusal.{Refusal}

-- there is no query for this; nothing is said of want of memory
abbrev pub IsNoQuery : AskError → Result QueryTree Refusal → Type 0
IsNoQuery (ask_error.Refused r) q = q ≡ Err r
IsNoQuery ask_error.Memory q = ⊤
