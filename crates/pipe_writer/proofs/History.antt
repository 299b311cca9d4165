-- What was sent by each sender, chunk by chunk.
use Rattle.std.proofs.Common.{◌≡◌, ◌≢◌, ◌∙◌, ◌++◌, ◌∷◌, ◌+◌, ◌==◌, ℕ, List, [], length, sym, refl, ap, arith, append-nil, if◌then◌else◌}
use Rattle.std.proofs.lemmas.Bool.{eq-eqb, ne_eqb}
use Rattle.std.proofs.lemmas.List.Elements.{filter-append}
use Rattle.pipe_columns.specs.declared.data_chunk.DataChunk.{DataChunk}
use Rattle.pipe_writer.specs.Sent.{numbered, of_sender}
use Rattle.pipe_writer.specs.declared.message.SentChunk.{SentChunk}
use native.Mathlib.Decide.{ℕ_discrete}

-- one chunk more
pub numbered-more : (sender first : ℕ) (xs : List DataChunk) (x : DataChunk) → numbered sender first (xs ++ x ∷ []) ≡ numbered sender first xs ++ record { sender = sender; number = first + length xs; chunk = x } ∷ []
numbered-more sender first [] x = let e : first ≡ first + 0 = omega arith in ap (λ (k : ℕ). record { sender = sender; number = k; chunk = x } ∷ []) e
numbered-more sender first (y ∷ ys) x =
    let e : (first + 1) + length ys ≡ first + length (y ∷ ys) = omega arith in
    let front : SentChunk = record { sender = sender; number = first; chunk = y } in
    ap (λ (l : List SentChunk). front ∷ l) (numbered-more sender (first + 1) ys x
    ∙ ap (λ (k : ℕ). numbered sender (first + 1) ys ++ record { sender = sender; number = k; chunk = x } ∷ []) e)

-- what each sender sent, one chunk of one of them longer
abbrev pub with_one : (ℕ → List DataChunk) → SentChunk → ℕ → List DataChunk
with_one sent c sender = if sender == c.sender then sent sender ++ c.chunk ∷ [] else sent sender

pub with_one-here : (sent : ℕ → List DataChunk) (c : SentChunk) (sender : ℕ) → sender ≡ c.sender → with_one sent c sender ≡ sent sender ++ c.chunk ∷ []
with_one-here sent c sender e = rw (eq-eqb sender c.sender e) refl

pub with_one-else : (sent : ℕ → List DataChunk) (c : SentChunk) (sender : ℕ) → sender ≢ c.sender → with_one sent c sender ≡ sent sender
with_one-else sent c sender n = rw (ne_eqb sender c.sender n) refl

module _ (sent : ℕ → List DataChunk) (history : List SentChunk) (c : SentChunk) (whole : (sender : ℕ) → of_sender sender history ≡ numbered sender 0 (sent sender))
    (next : c.number ≡ length (sent c.sender)) where
  at-sender : (sender : ℕ) → Dec (sender ≡ c.sender) → of_sender sender (history ++ c ∷ []) ≡ numbered sender 0 (with_one sent c sender)
  at-sender sender (yes e) =
      let one : of_sender sender (c ∷ []) ≡ c ∷ [] = rw (eq-eqb c.sender sender (sym e)) refl in
      let size : c.number ≡ length (sent sender) = next ∙ ap (λ (s : ℕ). length (sent s)) (sym e) in
      let number : c.number ≡ 0 + length (sent sender) = omega (arith, size) in
      let is : c ≡ record { sender = sender; number = 0 + length (sent sender); chunk = c.chunk } = λ i. record { sender = sym e i; number = number i; chunk = c.chunk } in
      filter-append (λ (x : SentChunk). x.sender == sender) history (c ∷ [])
      ∙ ap (λ (l : List SentChunk). l ++ of_sender sender (c ∷ [])) (whole sender)
      ∙ ap (λ (l : List SentChunk). numbered sender 0 (sent sender) ++ l) (one ∙ ap (λ (x : SentChunk). x ∷ []) is)
      ∙ sym (numbered-more sender 0 (sent sender) c.chunk)
      ∙ ap (λ (l : List DataChunk). numbered sender 0 l) (sym (with_one-here sent c sender e))
  at-sender sender (no n) =
      let none : of_sender sender (c ∷ []) ≡ [] = rw (ne_eqb c.sender sender (λ e. n (sym e))) refl in
      filter-append (λ (x : SentChunk). x.sender == sender) history (c ∷ [])
      ∙ ap (λ (l : List SentChunk). l ++ of_sender sender (c ∷ [])) (whole sender)
      ∙ ap (λ (l : List SentChunk). numbered sender 0 (sent sender) ++ l) none
      ∙ append-nil (numbered sender 0 (sent sender))
      ∙ ap (λ (l : List DataChunk). numbered sender 0 l) (sym (with_one-else sent c sender n))

  -- a sender's next chunk stands behind what was sent before
  pub whole-more : (sender : ℕ) → of_sender sender (history ++ c ∷ []) ≡ numbered sender 0 (with_one sent c sender)
  whole-more sender = at-sender sender (ℕ_discrete sender c.sender)

-- where no sender sent anything, nothing was sent
pub none-sent : (history : List SentChunk) → ((sender : ℕ) → of_sender sender history ≡ []) → history ≡ []
none-sent [] none = refl
none-sent (c ∷ history) none =
    let here : of_sender c.sender (c ∷ history) ≡ c ∷ of_sender c.sender history = rw (eq-eqb c.sender c.sender refl) refl in
    absurd (cc (here, none c.sender))

-- the back of a list without elements
pub back-none : {X : Type 0} (xs ys : List X) → xs ++ ys ≡ [] → ys ≡ []
back-none [] ys none = none
back-none (x ∷ xs) ys none = absurd (cc none)
