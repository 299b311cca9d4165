use Rattle.std.proofs.Common.{◌≡◌, ◌∙◌, ◌+◌, ◌<◌, ◌≤◌, ℕ, List, [], drop, get_or, length, sym, ap, arith}
use Rattle.std.proofs.Math.ListN.{drop_of_length-le}
use Rattle.std.proofs.lemmas.List.{drop_more}
use Rattle.clap.specs.Words.{App, app_of, with_rule}
use Rattle.clap.specs.declared.builder.action.ArgAction.{ArgAction}
use Rattle.lavzimo_words.specs.Command.{option_rule, with_options}
use Rattle.lavzimo_words.specs.Finding.{option_names}
use Rattle.lavzimo_words.specs.declared.command.OptionText.{OptionText}
use Rattle.lavzimo_words.proofs.command.with_options.Goals as goal

-- what a list of options makes of a command
abbrev with_all : ArgAction → App → List OptionText → App
with_all action app options = with_options action app (option_names options)

-- the first of the options that are left
first-taken : (action : ArgAction) (app : App) (options : List OptionText) (i : ℕ) (d : OptionText) → i < length options
    → with_all action app (drop i options) ≡ with_all action (with_rule app (option_rule action (get_or options i d).name.now)) (drop (i + 1) options)
first-taken action app options i d few = ap (with_all action app) (drop_more options i d few)

pub loop-option-preserved : goal.loop-option-preserved
loop-option-preserved c =
    let left = drop (c.loop-option.option-index + 1) c.args.options.now in
    ap (λ (a : App). with_all c.args.action a left) c.in_ok-command.ensures
    ∙ sym (first-taken c.args.action (app_of c.loop-option.command) c.args.options.now c.loop-option.option-index _ c.loop-option-test.true) ∙ c.loop-option.invariant

pub returns : goal.returns
returns c =
    let past : length c.args.options.now ≤ c.loop-option.option-index = omega arith in
    let none : drop c.loop-option.option-index c.args.options.now ≡ [] = drop_of_length-le c.args.options.now past in
    sym (ap (with_all c.args.action (app_of c.loop-option.command)) none) ∙ c.loop-option.invariant
