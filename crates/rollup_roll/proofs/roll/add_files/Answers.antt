use Rattle.std.proofs.Common.{rules, ◌≡◌, ◌∙◌, ◌<◌, ◌+◌, List, ℕ, [], drop, get_or, length, Option, sym, subst, take}
use Rattle.std.proofs.lemmas.List.{get_or_default}
use Rattle.pipe_aggs.specs.QueryTrees.{query_tree}
use Rattle.pipe_io.specs.Files.{Files}
use Rattle.pipe_io.proofs.TriedFacts.{tried-more}
use Rattle.pipe_states.specs.States.{StateSeen}
use Rattle.rollup_roll.specs.Reading.{IsUnread}
use Rattle.rollup_roll.specs.Told.{TellsState, TellStates}
use Rattle.rollup_roll.proofs.TellFacts.{tell-more, unread-at}
use Rattle.rollup_roll.proofs.roll.add_files.Goals as goal

pub returns-in-Err-clause-unread : goal.returns-in-Err-clause-unread
returns-in-Err-clause-unread g c =
    let q = query_tree c.args.query.now in
    let names : List (List ℕ) = c.args.names.now in
    let i : ℕ = c.loop-i.i in
    let name : List ℕ = c.index-names-i.result in
    let within : i < length names = search rules in
    let is : get_or names i [] ≡ name = get_or_default names i [] name within ∙ sym c.index-names-i.is in
    let unread = subst (λ (t : Option Files). IsUnread c.in-Err.error q t name (i + 1)) c.loop-i.invariant.told c.in-Err.ensures.unread in
    unread-at q (g.I.InputFiles.told c.args.input.now) names c.loop-i.regrouping.files i name within is c.loop-i.invariant.tell c.in-Err.error unread

pub returns-in-Err-clause-tried : goal.returns-in-Err-clause-tried
returns-in-Err-clause-tried g c =
    let names : List (List ℕ) = c.args.names.now in
    let i : ℕ = c.loop-i.i in
    let name : List ℕ = c.index-names-i.result in
    let within : i < length names = search rules in
    let is : get_or names i [] ≡ name = get_or_default names i [] name within ∙ sym c.index-names-i.is in
    (drop (i + 1) names, tried-more _ _ _ _ names i name c.loop-i.invariant.tried within is c.in-Err.ensures.tried)

pub returns-in_err-regrouping-in-Ok-clause-tried : goal.returns-in_err-regrouping-in-Ok-clause-tried
returns-in_err-regrouping-in-Ok-clause-tried g c =
    let names : List (List ℕ) = c.args.names.now in
    let i : ℕ = c.loop-i.i in
    let name : List ℕ = c.index-names-i.result in
    let within : i < length names = search rules in
    let is : get_or names i [] ≡ name = get_or_default names i [] name within ∙ sym c.index-names-i.is in
    (drop (i + 1) names, tried-more _ _ _ _ names i name c.loop-i.invariant.tried within is c.in-Ok.ensures.tried)

pub loop-i-preserved : goal.loop-i-preserved
loop-i-preserved g c =
    let q = query_tree c.args.query.now in
    let told : Option Files = g.I.InputFiles.told c.args.input.now in
    let names : List (List ℕ) = c.args.names.now in
    let i : ℕ = c.loop-i.i in
    let name : List ℕ = c.index-names-i.result in
    let within : i < length names = search rules in
    let is : get_or names i [] ≡ name = get_or_default names i [] name within ∙ sym c.index-names-i.is in
    let tells = subst (λ (t : Option Files). TellsState q t name c.in-Ok.state) c.loop-i.invariant.told c.in-Ok.ensures.tells in
    let more = tell-more q told names c.loop-i.regrouping.files i name within is c.loop-i.invariant.tell c.in-Ok.state tells in
    record {
      told = search rules;
      later = search rules;
      tried = tried-more _ _ _ _ names i name c.loop-i.invariant.tried within is c.in-Ok.ensures.tried;
      query = search rules;
      keep = search rules;
      tell = subst (λ (ss : List StateSeen). TellStates q told (take (i + 1) names) ss) (sym c.in_ok-regrouping-in-Ok.ensures.files) more;
    }
