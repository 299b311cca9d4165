use Rattle.std.proofs.Common.{◌∙◌, ◌∷◌, List, ℕ, ap}
use Rattle.std.specs.Str.{bytes_eq}
use Rattle.pipe_columns.specs.Key.{text_code}
use Rattle.pipe_sinks.proofs.MarkedFacts.{null-code, text-code}
use Rattle.pipe_sinks.proofs.sole_mark.is_code_of.Goals as goal

pub returns-in-Null : goal.returns-in-Null
returns-in-Null c = λ types v sole fit own code mark. rw c.in-Null.is (c.begins.ensures ∙ null-code types sole v c.args.code.now code)

pub returns-in-Text : goal.returns-in-Text
returns-in-Text c = λ types v sole fit own code mark.
    rw c.in-Text.is (c.is_text_code.ensures ∙ ap (λ (s : List ℕ). bytes_eq c.args.code.now (1 ∷ text_code s)) c.as_bytes.ensures.bytes ∙ text-code types sole c.in-Text.text c.args.code.now)
