-- The senders of a sink as it is made.
use Rattle.std.proofs.Common.{◌≡◌, ◌∙◌, ◌∷◌, ℕ, List, Option, None, Some, length, sym, refl, ap, subst}
use Rattle.std.specs.Prelude.{IfSome, option_map}
use Rattle.pipe_columns.specs.declared.schema.Field.{Field}
use Rattle.pipe_writer.specs.Arrivals.{list_of}
use Rattle.pipe_writer.specs.Line.{new_sender}
use Rattle.pipe_writer.specs.Sender.{SenderSeen, WriterChannel, without_channel}
use Rattle.pipe_writer.specs.Sink.{AreFrom, AreUnused}

module _ (fields : List Field) (senders : ℕ) (channel : Option WriterChannel) where
  -- senders that lost their ways
  unled-all : (first : SenderSeen) (second : Option SenderSeen) → first ≡ new_sender 0 fields channel → IfSome second (λ s. s ≡ new_sender 1 fields channel)
      → senders ≡ length (first ∷ list_of second)
      → AreFrom None fields senders 0 (without_channel first ∷ list_of (option_map without_channel second)) × AreUnused (without_channel first ∷ list_of (option_map without_channel second))
  unled-all first None one two many =
      ((ap (λ s. s.number) one, refl, ap (λ s. s.fields) one, sym many), (ap (λ s. s.sent) one, ap (λ s. s.list) one, tt))
  unled-all first (Some s) one two many = (
    (ap (λ s. s.number) one, refl, ap (λ s. s.fields) one, (ap (λ s. s.number) two, refl, ap (λ s. s.fields) two, sym many)),
    (ap (λ s. s.sent) one, ap (λ s. s.list) one, (ap (λ s. s.sent) two, ap (λ s. s.list) two, tt)),
  )

  pub unled-are : (first : SenderSeen) (second : Option SenderSeen) → first ≡ new_sender 0 fields channel → IfSome second (λ s. s ≡ new_sender 1 fields channel)
      → senders ≡ length (first ∷ list_of second) → (one : SenderSeen) (two : Option SenderSeen) (all : List SenderSeen)
      → one ≡ without_channel first → two ≡ option_map without_channel second → all ≡ one ∷ list_of two → (same : List Field) → same ≡ fields
      → AreFrom None same senders 0 all × AreUnused all
  unled-are first second is_one is_two many one two all one_is two_is all_is same same_is =
      let these : one ∷ list_of two ≡ without_channel first ∷ list_of (option_map without_channel second) = λ i. one_is i ∷ list_of (two_is i) in
      subst (λ (fs : List Field). AreFrom None fs senders 0 all × AreUnused all) (sym same_is)
      (subst (λ (xs : List SenderSeen). AreFrom None fields senders 0 xs × AreUnused xs) (sym (all_is ∙ these)) (unled-all first second is_one is_two many))
