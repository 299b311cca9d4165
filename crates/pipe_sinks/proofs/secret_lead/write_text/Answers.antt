use Rattle.std.proofs.Common.{rules, ◌≡◌, ◌==◌, false}
use Rattle.std.specs.List.{list_any}
use Rattle.pipe_sinks.proofs.SecretFacts.{wrote-plain}
use Rattle.pipe_sinks.proofs.secret_lead.write_text.Goals as goal

pub returns-else-contains : goal.returns-else-contains
returns-else-contains c =
    let none : list_any (λ byte. byte == 0) c.args.text.now ≡ false = search rules in
    wrote-plain _ _ _ none c.write.ensures
