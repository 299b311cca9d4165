use Rattle.std.proofs.Common.{◌≡◌, ◌∙◌, ◌++◌, ◌∷◌, [], List, ℕ, ap, ap₂}
use Rattle.json.specs.Print.{print}
use Rattle.json.specs.Token.{Token, string}
use Rattle.pipe_writers.specs.JsonText.{json_string}
use Rattle.pipe_writers.proofs.JsonFacts.{print-string}
use Rattle.lavzimo_rows.proofs.json_rows.append_string.Goals as goal

pub returns : goal.returns
returns c =
    let w = c.in_ok-string.ensures in
    let s : List ℕ = c.args.string.now in
    let none = w.room.0 ∙ c.new-writer.ensures.before ∙ c.clear.ensures.items in
    let alone : c.into_inner.result.items ≡ json_string s =
    c.into_inner.ensures.items
    ∙ ap₂ (λ (bs : List ℕ) (ts : List Token). bs ++ print ts) none (w.ok ∙ ap (λ (ts : List Token). ts ++ string s ∷ []) c.new-writer.ensures.tokens)
    ∙ print-string s in
    let more = ap (λ (bs : List ℕ). c.args.text.now.items ++ bs) (c.deref.ensures.value ∙ alone) in
    c.in_ok-extend_from_slice.ensures.items ∙ more
