use Rattle.std.proofs.Common.{◌≡◌, drop}
use Rattle.clap.specs.Words.{app_of}
use Rattle.lavzimo_words.specs.Command.{with_options}
use Rattle.lavzimo_words.specs.Finding.{option_names}
use Rattle.lavzimo_words.proofs.command.with_options.Given as goal

-- the options that are left lead to the same command
abbrev pub invariant-loop-option : goal.invariant-loop-option
invariant-loop-option l =
    with_options l.action (app_of l.command) (option_names (drop l.option-index l.options))
    ≡ with_options l.action (app_of l.initial.command) (option_names l.options)
