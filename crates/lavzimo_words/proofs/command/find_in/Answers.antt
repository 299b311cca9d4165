use Rattle.std.proofs.Common.{ℕ, List, Bor, map}
use Rattle.std.proofs.lemmas.Result.{IfOk-weaker}
use Rattle.clap.specs.Values.{kind_of}
use Rattle.clap.specs.Words.{app_of}
use Rattle.lavzimo_words.specs.Command.{found_in}
use Rattle.lavzimo_words.specs.Finding.{IsEnd, IsFinding}
use Rattle.lavzimo_words.specs.declared.command.Finding.{Finding}
use Rattle.lavzimo_words.proofs.CommandFacts.{words-ended, words-taken}
use Rattle.lavzimo_words.proofs.command.find_in.Goals as goal

pub returns-in-Ok : goal.returns-in-Ok
returns-in-Ok c =
    words-taken (app_of c.in_ok-command.command) (map (λ (w : Bor (List ℕ)). w.now) c.args.words.now) c.in-Ok.matches c.in_ok-command.ensures c.in-Ok.ensures.kinds c.in-Ok.ensures.matches

pub returns-in-Err : goal.returns-in-Err
returns-in-Err c =
    let words : List (List ℕ) = map (λ (w : Bor (List ℕ)). w.now) c.args.words.now in
    IfOk-weaker c.end_of.result (λ (f : Finding). IsEnd f (kind_of c.in-Err.error)) (λ (f : Finding). IsFinding f (found_in words))
    (λ f h. words-ended (app_of c.in_ok-command.command) words c.in-Err.error f c.in_ok-command.ensures c.in-Err.ensures.kinds h) c.end_of.ensures
