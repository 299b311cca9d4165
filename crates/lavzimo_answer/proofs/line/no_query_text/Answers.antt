use Rattle.std.proofs.Common.{◌≡◌, ◌++◌, ℕ, List, IfOk, codes, rules, subst}
use Rattle.std.specs.Prelude.{string_bytes}
use Rattle.tool_query.specs.Names.{no_query_name}
use Rattle.lavzimo_answer.specs.Lines.{told_name}
use Rattle.lavzimo_answer.proofs.line.no_query_text.Goals as goal

pub returns : goal.returns
returns c =
    let named : c.told_name-name.result.now ≡ told_name c.args.name.now = search rules in
    let why : c.no_query_name-why.result.now ≡ no_query_name c.args.why = search rules in
    subst (λ (p : List ℕ × List ℕ). IfOk c.format.result (λ s. string_bytes s ≡ p.0 ++ (codes ": query refused: " ++ p.1))) (λ i. (named i, why i)) c.format.ensures.ok
