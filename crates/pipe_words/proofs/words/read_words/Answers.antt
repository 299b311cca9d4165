use Rattle.std.proofs.Common.{◌≡◌, ◌∙◌, List, ℕ, Bor, Option, map, option_map, ap}
use Rattle.std.proofs.lemmas.Result.{IfOk-weaker}
use Rattle.pipe_words.specs.declared.plan.Plan.{Plan}
use Rattle.pipe_words.specs.Plans.{plan_of, plan_seen}
use Rattle.pipe_words.proofs.words.read_words.Goals as goal

pub returns-clause-plan : goal.returns-clause-plan
returns-clause-plan c =
    let same : map (λ (w : Bor (List ℕ)). w.now) c.deref.result.now ≡ c.args.words.now = ap (map (λ (w : Bor (List ℕ)). w.now)) c.deref.ensures.value ∙ c.in_ok-lent.ensures in
    IfOk-weaker c.read_lent.result (λ (o : Option Plan). option_map plan_seen o ≡ plan_of (map (λ (w : Bor (List ℕ)). w.now) c.deref.result.now)) (λ (o : Option Plan). option_map plan_seen o ≡ plan_of c.args.words.now)
    (λ o h. h ∙ ap plan_of same) c.read_lent.ensures.plan
