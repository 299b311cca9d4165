use Rattle.std.proofs.Common.{◌≡◌, drop, map}
use Rattle.std.specs.Prelude.{fold}
use Rattle.clap.specs.Words.{app_of}
use Rattle.pipe_words.specs.Command.{with_option}
use Rattle.pipe_words.proofs.command.with_options.Given as goal

-- the options that are left lead to the same command
abbrev pub invariant-loop-name : goal.invariant-loop-name
invariant-loop-name l =
    fold with_option (app_of l.command) (map (λ n. n.now) (drop l.name-index l.names))
    ≡ fold with_option (app_of l.initial.command) (map (λ n. n.now) l.names)
