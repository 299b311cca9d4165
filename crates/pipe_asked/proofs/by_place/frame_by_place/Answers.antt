use Rattle.std.proofs.Common.{rules, ◌≡◌, ◌∙◌, List, ap, false, subst, sym}
use Rattle.std.specs.List.{IsDistinct}
use Rattle.std.specs.Ordering.{eq_by_cmp}
use Rattle.std.proofs.lemmas.Bool.{false≢true}
use Rattle.pipe_aggs.specs.QueryTrees.{query_tree}
use Rattle.pipe_columns.specs.Frame.{fields_of, frame_of, FrameData}
use Rattle.pipe_columns.specs.Place.{place_cmp}
use Rattle.pipe_columns.specs.Slice.{sliced}
use Rattle.pipe_model.specs.Output.{output_schema}
use Rattle.pipe_model.specs.Query.{QueryTree}
use Rattle.pipe_groups.specs.declared.placed_groups.PlacedGroups.{PlacedGroups}
use Rattle.pipe_groups.specs.Placed.{rows_by_place}
use Rattle.pipe_groups.proofs.FrameRows.{frame-fields}
use Rattle.pipe_asked.specs.Stacking.{all_firsts, all_frames}
use Rattle.pipe_asked.proofs.ByPlace.{all-apart, all-by-place, all-frames}
use Rattle.pipe_asked.proofs.by_place.frame_by_place.Goals as goal

pub returns-then-not-apart-clause-frame : goal.returns-then-not-apart-clause-frame
returns-then-not-apart-clause-frame c =
    let q : QueryTree = query_tree c.args.query.now in
    let gs : List PlacedGroups = c.args.placed.now in
    λ rs some kept distinct typed parts.
    let apart : IsDistinct (eq_by_cmp place_cmp) c.as_slice.result.now = subst (IsDistinct (eq_by_cmp place_cmp)) (sym (c.as_slice.ensures ∙ c.in_ok-all.ensures.firsts)) (all-apart q rs gs some kept distinct typed parts) in
    let no : c.in_ok-apart.apart ≡ false = search rules in
    absurd (false≢true (sym no ∙ c.in_ok-apart.ensures.1 apart))

pub returns-clause-fields : goal.returns-clause-fields
returns-clause-fields c =
    ap (λ (f : FrameData). fields_of f.columns) c.in_ok-frame.ensures.frame ∙ frame-fields 0 _ _ ∙ c.in_ok-all.ensures.is.fields

pub returns-clause-frame : goal.returns-clause-frame
returns-clause-frame c =
    let q : QueryTree = query_tree c.args.query.now in
    let gs : List PlacedGroups = c.args.placed.now in
    let frame : c.in_ok-all.all.frame ≡ all_frames (output_schema q) gs = c.in_ok-all.ensures.frame in
    let firsts : c.in_ok-all.all.firsts ≡ all_firsts gs = c.in_ok-all.ensures.firsts in
    λ rs some kept distinct typed parts. all-by-place q rs gs some kept distinct typed parts c.args.slice c.in_ok-frame.frame (all-frames q gs c.requires).fields
    (c.in_ok-frame.ensures.frame ∙ (λ i. frame_of (fields_of (frame i).columns) (sliced c.args.slice (rows_by_place (firsts i) (frame i)))))
