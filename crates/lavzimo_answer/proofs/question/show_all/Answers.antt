use Rattle.std.proofs.Common.{◌≡◌, length, rules, sym}
use Rattle.std.proofs.lemmas.List.{length-map}
use Rattle.pipe_aggs.specs.QueryTrees.{query_tree}
use Rattle.lavzimo_answer.proofs.question.show_all.Goals as goal

pub returns-clause-showing : goal.returns-clause-showing
returns-clause-showing c =
    let keys : length c.args.query.keys.items ≡ length (query_tree c.args.query).keys = sym (length-map c.args.query.keys.items _) in
    c.in_ok-showing-in-Ok.ensures c.args.name.now (query_tree c.args.query) (search (rules, keys)) (search rules)
