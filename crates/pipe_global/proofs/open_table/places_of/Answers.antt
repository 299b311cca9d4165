use Rattle.std.proofs.Common.{rules, ◌≡◌, ◌∷◌, ◌++◌, [], arith, sym, subst}
use Rattle.std.specs.List.{All}
use Rattle.std.proofs.lemmas.List.Elements.{All-push}
use Rattle.pipe_aggs.specs.QueryTrees.{query_tree}
use Rattle.pipe_global.specs.declared.place.Place.{Place}
use Rattle.pipe_global.specs.Opening.{IsEmptyPlace}
use Rattle.pipe_global.proofs.open_table.places_of.Goals as goal

pub loop-number-preserved : goal.loop-number-preserved
loop-number-preserved c =
    let P : Place → Type 0 = IsEmptyPlace (query_tree c.args.query.now) c.args.workers in
    let place : Place = record { table = c.in_ok-table.table; book = c.in_ok-book.book } in
    let items : c.push_reserved.new.self.items ≡ c.loop-number.places.items ++ place ∷ [] = c.push_reserved.ensures.items in
    let own : P place = record { shape = c.in_ok-table.ensures.shape; limit = c.in_ok-table.ensures.limit; groups = c.in_ok-table.ensures.groups; book = search rules } in (
      omega (arith, c.push_reserved.ensures.len, c.loop-number.invariant.0),
      subst (All P) (sym items) (All-push P c.loop-number.places.items place c.loop-number.invariant.1 own),
      omega (arith, c.push_reserved.ensures.capacity, c.loop-number.invariant.2),
    )
