use Rattle.std.proofs.Common.{◌≡◌, ◌∙◌, List, ℕ, Bor, Option, Some, None, map, option_map, sym, ap, refl}
use Rattle.std.proofs.lemmas.Result.{IfOk-weaker}
use Rattle.clap.specs.Words.{found_of, rows_of}
use Rattle.clap.specs.declared.parser.matches.ArgMatches.{ArgMatches}
use Rattle.pipe_words.specs.declared.plan.Plan.{Plan}
use Rattle.pipe_words.specs.Command.{found_in}
use Rattle.pipe_words.specs.Plans.{plan_of, plan_seen, rows_plan}
use Rattle.pipe_words.proofs.words.read_lent.Goals as goal

pub returns-in-Some-clause-plan : goal.returns-in-Some-clause-plan
returns-in-Some-clause-plan c =
    let words : List (List ℕ) = map (λ (w : Bor (List ℕ)). w.now) c.args.words.now in
    let found : found_in words ≡ Some (rows_of (found_of c.in-Some.matches)) =
    sym c.in_ok-matches.ensures ∙ ap (option_map (λ (m : ArgMatches). rows_of (found_of m))) c.in-Some.is in
    IfOk-weaker c.read_matches.result (λ (o : Option Plan). option_map plan_seen o ≡ rows_plan (rows_of (found_of c.in-Some.matches))) (λ (o : Option Plan). option_map plan_seen o ≡ plan_of words)
    (λ o h. rw found h) c.read_matches.ensures.plan

pub returns-in-None-clause-plan : goal.returns-in-None-clause-plan
returns-in-None-clause-plan c =
    let found : found_in (map (λ (w : Bor (List ℕ)). w.now) c.args.words.now) ≡ None =
    sym c.in_ok-matches.ensures ∙ ap (option_map (λ (m : ArgMatches). rows_of (found_of m))) c.in-None.is in
    rw found refl
