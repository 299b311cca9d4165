use Rattle.std.proofs.Common.{◌≡◌, ℕ, List, Bor, option_map, ap, arith, rules}
use Rattle.lavzimo_words.proofs.CutFacts.{cut-last}
use Rattle.lavzimo_words.specs.Items.{titled, titled_by}
use Rattle.lavzimo_words.proofs.cut.titled.Goals as goal

pub returns-in-Some : goal.returns-in-Some
returns-in-Some c =
    let split = cut-last 61 c.args.text.now _ c.rsplit_once.ensures.cases (omega arith) in
    let cut : titled_by c.args.text.now (option_map (λ (x : Bor (List ℕ) × Bor (List ℕ)). (x.0.now, x.1.now)) c.rsplit_once.result) ≡ titled c.args.text.now = ap (titled_by c.args.text.now) split in
    rw (← cut) (grind rules)

pub returns-in-None : goal.returns-in-None
returns-in-None c =
    let split = cut-last 61 c.args.text.now _ c.rsplit_once.ensures.cases (omega arith) in
    let cut : titled_by c.args.text.now (option_map (λ (x : Bor (List ℕ) × Bor (List ℕ)). (x.0.now, x.1.now)) c.rsplit_once.result) ≡ titled c.args.text.now = ap (titled_by c.args.text.now) split in
    rw (← cut) (grind rules)
