use Rattle.std.proofs.Common.{◌≡◌, ◌∙◌, ◌<◌, ◌+◌, List, ℕ, [], drop, get_or, length, rules, sym}
use Rattle.std.proofs.lemmas.List.{get_or_default}
use Rattle.pipe_io.proofs.TriedFacts.{tried-more}
use Rattle.pipe_source.proofs.file_load.find_rows.Goals as goal

pub returns-then-found-gt0-clause-tried : goal.returns-then-found-gt0-clause-tried
returns-then-found-gt0-clause-tried g c =
    let names : List (List ℕ) = c.args.names.now in
    let i : ℕ = c.loop-i.i in
    let within : i < length names = search rules in
    let name : get_or names i [] ≡ c.index-names-i.result = get_or_default names i [] c.index-names-i.result within ∙ sym c.index-names-i.is in
    (drop (i + 1) names, tried-more _ _ _ _ names i c.index-names-i.result c.loop-i.invariant.tried within name c.in-Ok.ensures.tried)

pub returns-in-Err-clause-tried : goal.returns-in-Err-clause-tried
returns-in-Err-clause-tried g c =
    let names : List (List ℕ) = c.args.names.now in
    let i : ℕ = c.loop-i.i in
    let within : i < length names = search rules in
    let name : get_or names i [] ≡ c.index-names-i.result = get_or_default names i [] c.index-names-i.result within ∙ sym c.index-names-i.is in
    (drop (i + 1) names, tried-more _ _ _ _ names i c.index-names-i.result c.loop-i.invariant.tried within name c.in-Err.ensures.tried)
