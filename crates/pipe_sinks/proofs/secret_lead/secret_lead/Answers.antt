use Rattle.std.proofs.Common.{◌∙◌, ◌∷◌, List, ℕ, ap}
use Rattle.pipe_chains.specs.Hash.{secret_hash_of}
use Rattle.pipe_columns.specs.Key.{text_code}
use Rattle.pipe_sinks.proofs.SecretFacts.{null-secret, text-secret}
use Rattle.pipe_sinks.proofs.secret_lead.secret_lead.Goals as goal

pub returns-in-Null : goal.returns-in-Null
returns-in-Null c = λ types mark one sought. rw c.in-Null.is (c.secret_hash.ensures ∙ ap (secret_hash_of c.args.hash_keys) (null-secret types one))

pub returns-in-Text : goal.returns-in-Text
returns-in-Text c = λ types mark one sought.
    rw c.in-Text.is (c.secret_text.ensures ∙ ap (λ (s : List ℕ). secret_hash_of c.args.hash_keys (1 ∷ text_code s)) c.as_bytes.ensures.bytes ∙ ap (secret_hash_of c.args.hash_keys) (text-secret types one c.in-Text.text))
