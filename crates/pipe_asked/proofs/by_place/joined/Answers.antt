use Rattle.std.proofs.Common.{rules, ◌≡◌, ◌∙◌, ◌+◌, ◌∷◌, [], ◌++◌, List, ap, arith, sym, subst, take, take_all, length}
use Rattle.std.proofs.lemmas.List.Elements.{All-get_or, All-take}
use Rattle.pipe_aggs.specs.QueryTrees.{query_tree}
use Rattle.pipe_columns.specs.declared.place.Place.{Place}
use Rattle.pipe_columns.specs.Frame.{fields_of, FrameData, stacked}
use Rattle.pipe_model.specs.Output.{output_schema}
use Rattle.pipe_model.specs.Query.{QueryTree}
use Rattle.pipe_groups.specs.declared.placed_groups.PlacedGroups.{PlacedGroups}
use Rattle.pipe_asked.specs.Sources.{IsPlacedFrame}
use Rattle.pipe_asked.specs.Stacking.{all_firsts, all_frames}
use Rattle.pipe_asked.proofs.ByPlace.{all-frames, all_firsts-push, all_frames-push, copy-below, unsorted-fields}
use Rattle.pipe_asked.proofs.Lists.{take-more}
use Rattle.pipe_asked.proofs.by_place.joined.Goals as goal

pub put_below-requires : goal.put_below-requires
put_below-requires c =
    let q : QueryTree = query_tree c.args.query.now in
    let i = c.loop-groups.groups-index in
    let gs : List PlacedGroups = c.args.placed.now in
    let g : PlacedGroups = c.groups-item.result in
    let so_far = all-frames q (take i gs) (All-take (IsPlacedFrame q) i gs c.requires) in
    let own : IsPlacedFrame q g = subst (IsPlacedFrame q) (sym c.groups-item.is) (All-get_or (IsPlacedFrame q) gs i g (omega arith) c.requires) in
    ap (λ (f : FrameData). fields_of f.columns) c.in_ok-copy.ensures ∙ unsorted-fields g.frame.columns ∙ own.fields ∙ sym so_far.fields ∙ ap (λ (f : FrameData). fields_of f.columns) (sym c.loop-groups.invariant.0)

pub loop-groups-preserved : goal.loop-groups-preserved
loop-groups-preserved c =
    let q : QueryTree = query_tree c.args.query.now in
    let i = c.loop-groups.groups-index in
    let gs : List PlacedGroups = c.args.placed.now in
    let g : PlacedGroups = c.groups-item.result in
    let more : take (i + 1) gs ≡ take i gs ++ g ∷ [] = take-more i gs g (omega arith) ∙ ap (λ (x : PlacedGroups). take i gs ++ x ∷ []) (sym c.groups-item.is) in
    let frame : c.put_below.new.frame ≡ stacked c.loop-groups.frame c.in_ok-copy.copy = search rules in
    let firsts : c.extend_from_slice.new.self.items ≡ c.loop-groups.firsts.items ++ g.firsts = search rules in (
      frame
          ∙ ap (stacked c.loop-groups.frame) c.in_ok-copy.ensures
          ∙ copy-below c.loop-groups.frame g.frame
          ∙ ap (λ (f : FrameData). stacked f g.frame) c.loop-groups.invariant.0
          ∙ sym (ap (all_frames (output_schema q)) more ∙ all_frames-push (output_schema q) (take i gs) g),
      firsts ∙ ap (λ (l : List Place). l ++ g.firsts) c.loop-groups.invariant.1 ∙ sym (ap all_firsts more ∙ all_firsts-push (take i gs) g),
    )

pub returns-clause-is : goal.returns-clause-is
returns-clause-is c =
    let q : QueryTree = query_tree c.args.query.now in
    let gs : List PlacedGroups = c.args.placed.now in
    let all : take c.loop-groups.groups-index gs ≡ gs = take_all c.loop-groups.groups-index gs (omega (arith, c.loop-groups-test.false)) in
    let is = all-frames q gs c.requires in
    let frame : c.loop-groups.frame ≡ all_frames (output_schema q) gs = c.loop-groups.invariant.0 ∙ ap (all_frames (output_schema q)) all in
    let firsts : c.loop-groups.firsts.items ≡ all_firsts gs = c.loop-groups.invariant.1 ∙ ap all_firsts all in record {
      fields = ap (λ (f : FrameData). fields_of f.columns) frame ∙ is.fields;
      places = ap (λ (l : List Place). length l) (c.new-places.ensures ∙ firsts) ∙ is.places ∙ ap (λ (f : FrameData). f.height) (sym frame);
    }
