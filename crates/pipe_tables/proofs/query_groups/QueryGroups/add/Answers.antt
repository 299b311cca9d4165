use Rattle.std.proofs.Common.{arith, ◌∙◌, [], ◌∷◌, ◌++◌, length, ap}
use Rattle.std.proofs.lemmas.List.{length-map}
use Rattle.pipe_tables.specs.Taken.{QueryRun}
use Rattle.pipe_tables.proofs.query_groups.QueryGroups.add.Goals as goal

pub take_chunk-requires-clause-number : goal.take_chunk-requires-clause-number
take_chunk-requires-clause-number c =
    let same = ap (λ (r : QueryRun). length r.taken) c.self.view_is in
    omega (arith, same, length-map c.self.inside.taken.items (λ s. s.value), c.requires.number)

pub take_chunk-requires-clause-few : goal.take_chunk-requires-clause-few
take_chunk-requires-clause-few c = rw (ap (λ (r : QueryRun). r.taken) c.self.view_is) c.requires.few

pub take_chunk-requires-clause-fits : goal.take_chunk-requires-clause-fits
take_chunk-requires-clause-fits c = rw (ap (λ (r : QueryRun). r.query) c.self.view_is) c.requires.fits

pub returns-clause-taken : goal.returns-clause-taken
returns-clause-taken c = c.in_ok-take_chunk.ensures.taken ∙ ap (λ (r : QueryRun). r.taken ++ (c.args.chunk.now ∷ [])) c.self.view_is
