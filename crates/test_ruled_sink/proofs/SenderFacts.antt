-- Senders of a sink, as a list.
use Rattle.std.proofs.Common.{◌≡◌, ◌∙◌, ◌++◌, ◌∷◌, ℕ, List, [], Option, ap, subst, sym}
use Rattle.pipe_columns.specs.declared.schema.Field.{Field}
use Rattle.pipe_writer.specs.Sender.{SenderSeen, WriterChannel}
use Rattle.pipe_writer.specs.Sink.{AreFrom}

-- one sender is all of a sink that has one
pub one-is-all : (channel : Option WriterChannel) (fields : List Field) (senders : ℕ) (none items : List SenderSeen) (s : SenderSeen) → items ≡ none ++ s ∷ [] → none ≡ []
    → s.number ≡ 0 → s.channel ≡ channel → s.fields ≡ fields → senders ≡ 1 → AreFrom channel fields senders 0 items
one-is-all channel fields senders none items s pushed empty number at fit one =
    subst (λ (xs : List SenderSeen). AreFrom channel fields senders 0 xs) (sym (pushed ∙ ap (λ (xs : List SenderSeen). xs ++ s ∷ []) empty)) (number, at, fit, sym one)

-- two senders are all of a sink that has two
pub two-are-all : (channel : Option WriterChannel) (fields : List Field) (senders : ℕ) (none items : List SenderSeen) (s t : SenderSeen) → items ≡ (none ++ s ∷ []) ++ t ∷ [] → none ≡ []
    → (s.number ≡ 0) × (t.number ≡ 1) → (s.channel ≡ channel) × (t.channel ≡ channel) → (s.fields ≡ fields) × (t.fields ≡ fields) → senders ≡ 2 → AreFrom channel fields senders 0 items
two-are-all channel fields senders none items s t pushed empty numbers at fit two =
    subst (λ (xs : List SenderSeen). AreFrom channel fields senders 0 xs) (sym (pushed ∙ ap (λ (xs : List SenderSeen). (xs ++ s ∷ []) ++ t ∷ []) empty))
    (numbers.0, at.0, fit.0, (numbers.1, at.1, fit.1, sym two))
