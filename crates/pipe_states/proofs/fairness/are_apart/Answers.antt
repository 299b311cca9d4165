use Rattle.std.proofs.Common.{◌∙◌, ◌≤◌, ◌<◌, List, arith, length, refl, sym}
use Rattle.std.specs.List.Sorted.{IsPermutation}
use Rattle.std.proofs.lemmas.Bool.{false≢true}
use Rattle.pipe_columns.specs.declared.place.Place.{Place}
use Rattle.pipe_states.proofs.Apart.{apart-all, neighbours-more, tie-found}
use Rattle.pipe_states.proofs.fairness.are_apart.Goals as goal

pub returns-then-eq : goal.returns-then-eq
returns-then-eq c =
    let sorted : List Place = c.sort_unstable.new.self.items in
    let moved : IsPermutation c.args.places.now.items sorted = c.sort_unstable.ensures.permutation in
    let low : 1 ≤ c.loop-i.i = omega arith in
    let high : c.loop-i.i < length sorted = omega (arith, c.loop-i-test.true, c.len-i-end.ensures, c.sort_unstable.new.self.ok.0) in (
      λ e. absurd (false≢true e),
      λ distinct. absurd (tie-found sorted c.loop-i.i c.index.result.now c.index-in-loop-i.result.now low high c.index.ensures c.index-in-loop-i.ensures c.args.places.now.items moved (sym c.eq.ensures ∙ c.if-eq.true) distinct),
    )

pub loop-i-preserved : goal.loop-i-preserved
loop-i-preserved c =
    let sorted : List Place = c.sort_unstable.new.self.items in
    let low : 1 ≤ c.loop-i.i = omega arith in
    let high : c.loop-i.i < length sorted = omega (arith, c.loop-i-test.true, c.len-i-end.ensures, c.sort_unstable.new.self.ok.0) in
    neighbours-more sorted c.loop-i.i c.index.result.now c.index-in-loop-i.result.now low high c.index.ensures c.index-in-loop-i.ensures (sym c.eq.ensures ∙ c.if-eq.false) c.loop-i.invariant

pub returns : goal.returns
returns c =
    let sorted : List Place = c.sort_unstable.new.self.items in
    let moved : IsPermutation c.args.places.now.items sorted = c.sort_unstable.ensures.permutation in
    let long : length sorted ≤ c.loop-i.i = omega (arith, c.loop-i-test.false, c.len-i-end.ensures, c.sort_unstable.new.self.ok.0) in (
      λ e. apart-all c.args.places.now.items sorted moved c.sort_unstable.ensures.sorted c.loop-i.i long c.loop-i.invariant,
      λ distinct. refl,
    )
