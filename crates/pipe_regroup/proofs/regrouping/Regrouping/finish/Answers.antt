use Rattle.std.proofs.Common.{rules, ◌≡◌, ◌∙◌, List, map, Err, sym, ap, subst}
use Rattle.pipe_aggs.specs.QueryTrees.{query_tree}
use Rattle.pipe_columns.specs.Frame.{frame_of}
use Rattle.pipe_states.specs.Regrouped.{regrouped}
use Rattle.pipe_states.specs.States.{StateSeen}
use Rattle.pipe_regroup.specs.declared.group.Group.{Group}
use Rattle.pipe_regroup.specs.declared.regroup_error.RegroupError.TheVariants as fault
use Rattle.pipe_regroup.specs.Covered.{IsCoverageOf}
use Rattle.pipe_regroup.specs.Frames.{AreRowsOf, values_of}
use Rattle.pipe_regroup.proofs.AddedFacts.{frame-is, none-told, rows-typed, same-fault, sound-can, tuples-apart}
use Rattle.pipe_regroup.proofs.regrouping.Regrouping.finish.Goals as goal

pub returns-in_err-check-clause-overlap : goal.returns-in_err-check-clause-overlap
returns-in_err-check-clause-overlap c = λ i.
    let covered : IsCoverageOf c.args.self.files c.self.inside.coverage =
    subst (λ (l : List StateSeen). IsCoverageOf l c.self.inside.coverage) (ap (λ v. v.files) c.self.view_is) c.self.invariant.covered in
    same-fault c.in_err-check.field-0.0 (fault.Overlap i) c.check.result c.from_residual.result (search rules) (search rules) (c.check.ensures.overlap c.args.self.files i covered)

pub sorted-sorted-requires : goal.sorted-sorted-requires
sorted-sorted-requires c =
    tuples-apart (query_tree c.self.inside.query.now) (map (λ m. m.value) c.self.inside.added.items) c.self.inside.schema c.self.inside.groups c.self.inside.coverage c.self.invariant c.in_ok-check.ensures.ok

pub frame_of_groups-requires : goal.frame_of_groups-requires
frame_of_groups-requires c =
    subst (λ (gs : List Group). AreRowsOf c.self.inside.schema gs) (sym c.deref_mut.ensures.value)
    (rows-typed (query_tree c.self.inside.query.now) (map (λ m. m.value) c.self.inside.added.items) c.self.inside.schema c.self.inside.groups c.self.inside.coverage c.self.invariant c.in_ok-check.ensures.ok
    c.sorted-sorted.result.items c.sorted-sorted.ensures)

pub returns-in_err-frame_of_groups-clause-overlap : goal.returns-in_err-frame_of_groups-clause-overlap
returns-in_err-frame_of_groups-clause-overlap c = λ i.
    let covered : IsCoverageOf c.args.self.files c.self.inside.coverage =
    subst (λ (l : List StateSeen). IsCoverageOf l c.self.inside.coverage) (ap (λ v. v.files) c.self.view_is) c.self.invariant.covered in
    let memory : c.from_residual-in_err-frame_of_groups.result ≡ Err fault.Memory = search rules in
    none-told c.args.self.files i _ (λ e. cc (sym memory ∙ e)) (sound-can c.args.self.files c.self.inside.coverage covered c.in_ok-check.ensures.ok).apart

pub returns-clause-frame : goal.returns-clause-frame
returns-clause-frame c =
    c.in_ok-frame_of_groups.ensures
    ∙ ap (λ (gs : List Group). frame_of c.self.inside.schema (map values_of gs)) c.deref_mut.ensures.value
    ∙ frame-is (query_tree c.self.inside.query.now) (map (λ m. m.value) c.self.inside.added.items) c.self.inside.schema c.self.inside.groups c.self.inside.coverage c.self.invariant c.in_ok-check.ensures.ok
    c.sorted-sorted.result.items c.sorted-sorted.ensures
    ∙ (λ i. regrouped (query_tree (c.self.view_is i).query) (c.self.view_is i).files (c.self.view_is i).keep)

pub returns-clause-overlap : goal.returns-clause-overlap
returns-clause-overlap c = λ i.
    let covered : IsCoverageOf c.args.self.files c.self.inside.coverage =
    subst (λ (l : List StateSeen). IsCoverageOf l c.self.inside.coverage) (ap (λ v. v.files) c.self.view_is) c.self.invariant.covered in
    none-told c.args.self.files i _ (λ e. cc) (sound-can c.args.self.files c.self.inside.coverage covered c.in_ok-check.ensures.ok).apart

pub returns-clause-ok : goal.returns-clause-ok
returns-clause-ok c =
    let covered : IsCoverageOf c.args.self.files c.self.inside.coverage =
    subst (λ (l : List StateSeen). IsCoverageOf l c.self.inside.coverage) (ap (λ v. v.files) c.self.view_is) c.self.invariant.covered in
    sound-can c.args.self.files c.self.inside.coverage covered c.in_ok-check.ensures.ok

pub returns-in_err-frame_of_groups-clause-memory : goal.returns-in_err-frame_of_groups-clause-memory
returns-in_err-frame_of_groups-clause-memory c = λ e.
    let covered : IsCoverageOf c.args.self.files c.self.inside.coverage =
    subst (λ (l : List StateSeen). IsCoverageOf l c.self.inside.coverage) (ap (λ v. v.files) c.self.view_is) c.self.invariant.covered in
    sound-can c.args.self.files c.self.inside.coverage covered c.in_ok-check.ensures.ok
