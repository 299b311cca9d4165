use Rattle.std.proofs.Common.{◌≡◌, ◌∙◌, ◌∷◌, [], List, arith, ap, length, subst, sym}
use Rattle.std.specs.Vec.Iter.{into_iter_items}
use Rattle.pipe_aggs.specs.QueryTrees.{query_tree}
use Rattle.pipe_columns.specs.declared.schema.Field.{Field}
use Rattle.pipe_columns.specs.Frame.{frame_of}
use Rattle.pipe_asked.proofs.Lists.{none-left}
use Rattle.pipe_asked.proofs.Wholes.{stacked-alike, stacked-end, stacked-more, stacked-none}
use Rattle.pipe_asked.proofs.side_by_side.stacked_parts.Goals as goal

pub none-requires : goal.none-requires
none-requires g c = subst (g.F.Form.takes c.args.form.now) (sym c.output_schema.ensures.schema) c.requires.takes

pub loop-more-init : goal.loop-more-init
loop-more-init g c =
    let is = g.F.Form.is c.args.form.now in
    let first = subst (λ (fields : List Field). is c.in-Ok.whole (frame_of fields [])) c.output_schema.ensures.schema c.in-Ok.ensures in
    record {
      goes_on = tt;
      ends = tt;
      stacked = λ gs those. stacked-none is (query_tree c.args.query.now) gs c.in-Ok.whole (into_iter_items c.into_iter-more-iterator.result) c.args.wholes.items first c.into_iter-more-iterator.ensures.into_iter_gives.0 those;
    }

pub put_below-requires : goal.put_below-requires
put_below-requires g c =
    let one = c.requires.kept in
    stacked-alike (g.F.Form.is c.args.form.now) (query_tree c.args.query.now) one.0 c.loop-more.whole c.in-Some.more (into_iter_items c.loop-more.more-iterator) (into_iter_items c.next.new.self) c.in-Some.ensures.steps.0 (c.loop-more.invariant.stacked one.0 one.1)

pub loop-more-preserved : goal.loop-more-preserved
loop-more-preserved g c = record {
  goes_on = tt;
  ends = tt;
  stacked = λ gs those.
      stacked-more (g.F.Form.is c.args.form.now) (query_tree c.args.query.now) gs c.loop-more.whole c.in-Some.more (into_iter_items c.loop-more.more-iterator) (into_iter_items c.next.new.self) c.in-Some.ensures.steps.0 (c.loop-more.invariant.stacked gs those) c.put_below.new.whole c.in-Ok-put_below.ensures;
}

pub loop-more-smaller : goal.loop-more-smaller
loop-more-smaller g c = omega (arith, ap (λ l. length l) c.in-Some.ensures.steps.0, c.next.new.self.rest.ok.0, c.loop-more.more-iterator.rest.ok.0)

pub returns-clause-whole : goal.returns-clause-whole
returns-clause-whole g c =
    let none : into_iter_items c.loop-more.more-iterator ≡ [] = none-left (into_iter_items c.loop-more.more-iterator) (sym c.loop-more.more-iterator.rest.ok.0 ∙ c.in-None.ensures.steps.0) in
    λ gs those. stacked-end (g.F.Form.is c.args.form.now) (query_tree c.args.query.now) gs c.loop-more.whole (into_iter_items c.loop-more.more-iterator) none (c.loop-more.invariant.stacked gs those)
