use Rattle.std.proofs.Common.{rules, ◌≡◌, ◌∙◌, ◌<◌, ◌^◌, List, ℕ, length, refl, ap, arith}
use Rattle.std.proofs.lemmas.Slice.Zip.{AllZip-long}
use Rattle.pipe_aggs.specs.QueryTrees.{query_tree}
use Rattle.pipe_io.proofs.TriedFacts.{front-none}
use Rattle.pipe_regroup.specs.Added.{RegroupingSeen}
use Rattle.pipe_states.specs.Regrouped.{regrouped}
use Rattle.pipe_states.specs.States.{StateSeen}
use Rattle.pipe_states.specs.Together.{IsFirstOverlap}
use Rattle.rollup_roll.specs.Told.{TellsState}
use Rattle.rollup_roll.proofs.OverlapFacts.{first-within}
use Rattle.rollup_roll.proofs.roll.roll_files.Goals as goal

pub returns-in_err-begun-clause-tried : goal.returns-in_err-begun-clause-tried
returns-in_err-begun-clause-tried g c = front-none _ _ c.args.names.now refl

pub overflow_add-result : goal.overflow_add-result
overflow_add-result g c =
    let q = query_tree c.args.query.now in
    let names : List (List ℕ) = c.args.names.now in
    let states : List StateSeen = c.in_ok-regrouping.regrouping.files in
    let first : IsFirstOverlap states c.in-Err-Overlap.file = search rules in
    let within : c.in-Err-Overlap.file < length states = first-within states c.in-Err-Overlap.file first in
    let long : length states ≡ length names = AllZip-long (TellsState q (g.I.InputFiles.told c.args.input.now)) names states c.in_ok-regrouping.ensures.tell in
    let few : length names < 2 ^ 64 = search rules in
    omega (arith, within, long, few)

pub returns-in-Err-Overlap-clause-refused : goal.returns-in-Err-Overlap-clause-refused
returns-in-Err-Overlap-clause-refused g c = record {
  states = c.in_ok-regrouping.regrouping.files;
  tell = c.in_ok-regrouping.ensures.tell;
  place = c.in-Err-Overlap.file;
  number = refl;
  overlap = search rules;
}

pub returns-in-Ok-clause-rolled : goal.returns-in-Ok-clause-rolled
returns-in-Ok-clause-rolled g c =
    let states : List StateSeen = c.in_ok-regrouping.regrouping.files in
    let query = c.in_ok-regrouping.ensures.query in
    let keep = c.in_ok-regrouping.ensures.keep ∙ ap (λ (r : RegroupingSeen). r.keep) c.in_ok-begun.ensures in
    record {
      states = states;
      tell = c.in_ok-regrouping.ensures.tell;
      apart = c.in-Ok.ensures.ok.apart;
      few = c.in-Ok.ensures.ok.few;
      frame_is = c.in-Ok.ensures.frame ∙ (λ i. regrouped (query_tree (query i)) states (keep i));
    }
