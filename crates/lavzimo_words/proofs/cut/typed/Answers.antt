use Rattle.std.proofs.Common.{◌≡◌, ℕ, List, Bor, option_map, ap, arith, rules}
use Rattle.lavzimo_words.proofs.CutFacts.{cut-last}
use Rattle.lavzimo_words.specs.Items.{typed, typed_by}
use Rattle.lavzimo_words.proofs.cut.typed.Goals as goal

pub returns-in_default : goal.returns-in_default
returns-in_default c =
    let split = cut-last 58 c.args.text.now _ c.rsplit_once.ensures.cases (omega arith) in
    let cut : typed_by c.args.text.now (option_map (λ (x : Bor (List ℕ) × Bor (List ℕ)). (x.0.now, x.1.now)) c.rsplit_once.result) ≡ typed c.args.text.now = ap (typed_by c.args.text.now) split in
    rw (← cut) (grind rules)

pub returns-in-Some-type_named : goal.returns-in-Some-type_named
returns-in-Some-type_named c =
    let split = cut-last 58 c.args.text.now _ c.rsplit_once.ensures.cases (omega arith) in
    let cut : typed_by c.args.text.now (option_map (λ (x : Bor (List ℕ) × Bor (List ℕ)). (x.0.now, x.1.now)) c.rsplit_once.result) ≡ typed c.args.text.now = ap (typed_by c.args.text.now) split in
    rw (← cut) (grind rules)

pub returns-in-None : goal.returns-in-None
returns-in-None c =
    let split = cut-last 58 c.args.text.now _ c.rsplit_once.ensures.cases (omega arith) in
    let cut : typed_by c.args.text.now (option_map (λ (x : Bor (List ℕ) × Bor (List ℕ)). (x.0.now, x.1.now)) c.rsplit_once.result) ≡ typed c.args.text.now = ap (typed_by c.args.text.now) split in
    rw (← cut) (grind rules)
