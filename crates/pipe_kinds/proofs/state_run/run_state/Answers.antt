use Rattle.std.proofs.Common.{◌∙◌, ◌+◌, ap, sym, subst}
use Rattle.pipe_columns.specs.declared.place.Place.{Place}
use Rattle.pipe_kinds.proofs.RunFacts.{after-plain, fed-turn, FedTo}
use Rattle.pipe_kinds.proofs.state_run.run_state.Goals as goal

pub loop-index-preserved : goal.loop-index-preserved
loop-index-preserved g c =
    let f = g.A.AsFunction.as_function in
    let s = c.loop-index.state in
    let i = c.loop-index.index in
    let v = c.index-values-index.result in
    let p : Place = record { chunk = c.args.chunk; row = c.args.first_row + i } in
    let turn = fed-turn c.args.chunk c.args.first_row c.args.values.now (f c.args.state.now) i v (f s) c.loop-index-test.true c.index-values-index.is c.loop-index.invariant in
    let made = ap f (rw c.plain_value.ensures at c.pre_agg.ensures) ∙ after-plain g.met.A.KindState.is_kind s (g.met.A.PlainState.keeps_none s) p v in
    subst (FedTo c.args.chunk c.args.first_row c.args.values.now (f c.args.state.now) (i + 1)) (sym made) turn.next
