-- What is written, and what is left, make the text's code.
use Rattle.std.proofs.Common.{◌≡◌, drop}
use Rattle.std.specs.Hash.DefaultHasher.{write}
use Rattle.pipe_columns.specs.Key.{text_code}
use Rattle.pipe_sinks.proofs.secret_lead.write_escaped.Given as goal

abbrev pub invariant-loop-byte : goal.invariant-loop-byte
invariant-loop-byte l = write l.hasher (text_code (drop l.byte-index l.text)) ≡ write l.initial.hasher (text_code l.text)
