use Rattle.std.proofs.Common.{◌∙◌, ℕ, List, Bor, map, sym}
use Rattle.clap.specs.Words.{app_of}
use Rattle.pipe_words.proofs.CommandFacts.{words-refused, words-taken}
use Rattle.pipe_words.proofs.command.find_in.Goals as goal

pub returns-in-Ok : goal.returns-in-Ok
returns-in-Ok c =
    words-taken (app_of c.in_ok-command.command) (map (λ (w : Bor (List ℕ)). w.now) c.args.words.now) c.in-Ok.matches c.in_ok-command.ensures c.in-Ok.ensures.kinds c.in-Ok.ensures.matches

pub returns : goal.returns
returns c =
    sym (words-refused (app_of c.in_ok-command.command) (map (λ (w : Bor (List ℕ)). w.now) c.args.words.now) c.in-Err.error c.in_ok-command.ensures c.in-Err.ensures.kinds (λ e. c.in_default.not-OutOfMemory (c.kind.ensures ∙ e)))
