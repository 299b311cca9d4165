use Rattle.std.proofs.Common.{◌≡◌, ◌∙◌, List, ℕ, Bor, map, ap, subst}
use Rattle.std.proofs.lemmas.Result.{IfOk-weaker}
use Rattle.lavzimo_words.specs.Askable.{HasAskable}
use Rattle.lavzimo_words.specs.Asked.{IsReading, asked_of, words_by}
use Rattle.lavzimo_words.specs.Command.{found_in}
use Rattle.lavzimo_words.specs.Joined.{joined}
use Rattle.lavzimo_words.specs.declared.words.Reading.{Reading}
use Rattle.lavzimo_words.proofs.AskableFacts.{found-askable, reading-askable}
use Rattle.lavzimo_words.proofs.words.read_words.Goals as goal

pub returns : goal.returns
returns c =
    let words : List (List ℕ) = map (λ (w : Bor (List ℕ)). w.now) c.deref-2.result.now in
    let same : words ≡ joined c.args.words.now =
    ap (map (λ (w : Bor (List ℕ)). w.now)) c.deref-2.ensures.value ∙ c.in_ok-lent.ensures ∙ c.deref.ensures.value ∙ c.in_ok-words.ensures in
    record {
      words = IfOk-weaker c.read_lent.result (λ (r : Reading). IsReading r (words_by (found_in words))) (λ (r : Reading). IsReading r (asked_of c.args.words.now))
          (λ r h. subst (λ (ws : List (List ℕ)). IsReading r (words_by (found_in ws))) same h) c.read_lent.ensures;
      askable = IfOk-weaker c.read_lent.result (λ (r : Reading). IsReading r (words_by (found_in words))) HasAskable
          (λ r h. reading-askable r (words_by (found_in words)) h (found-askable (found_in words))) c.read_lent.ensures;
    }
