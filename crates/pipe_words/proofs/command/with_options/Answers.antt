use Rattle.std.proofs.Common.{◌≡◌, ◌∙◌, ◌+◌, ◌<◌, ◌≤◌, ℕ, List, [], Bor, map, drop, get_or, length, sym, ap, arith}
use Rattle.std.specs.Prelude.{fold}
use Rattle.std.proofs.Math.ListN.{drop_of_length-le}
use Rattle.std.proofs.lemmas.List.{drop_more}
use Rattle.clap.specs.Words.{App, app_of}
use Rattle.pipe_words.specs.Command.{with_option}
use Rattle.pipe_words.proofs.command.with_options.Goals as goal

-- what a list of options makes of a command
abbrev with_all : App → List (Bor (List ℕ)) → App
with_all app names = fold with_option app (map (λ (n : Bor (List ℕ)). n.now) names)

-- the first of the options that are left
first-taken : (app : App) (names : List (Bor (List ℕ))) (i : ℕ) (d : Bor (List ℕ)) → i < length names
    → with_all app (drop i names) ≡ with_all (with_option app (get_or names i d).now) (drop (i + 1) names)
first-taken app names i d few = ap (with_all app) (drop_more names i d few)

pub loop-name-preserved : goal.loop-name-preserved
loop-name-preserved c =
    let left = drop (c.loop-name.name-index + 1) c.args.names.now in
    ap (λ (a : App). with_all a left) c.in_ok-command.ensures
    ∙ sym (first-taken (app_of c.loop-name.command) c.args.names.now c.loop-name.name-index _ c.loop-name-test.true) ∙ c.loop-name.invariant

pub returns : goal.returns
returns c =
    let past : length c.args.names.now ≤ c.loop-name.name-index = omega arith in
    let none : drop c.loop-name.name-index c.args.names.now ≡ [] = drop_of_length-le c.args.names.now past in
    sym (ap (with_all (app_of c.loop-name.command)) none) ∙ c.loop-name.invariant
