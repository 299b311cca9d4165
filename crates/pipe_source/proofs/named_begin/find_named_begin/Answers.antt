use Rattle.std.proofs.Common.{◌≡◌, ℕ, subst, sym}
use Rattle.pipe_source.specs.Layout.{ArePlacedIn}
use Rattle.pipe_source.proofs.LaidFacts.{names-read}
use Rattle.pipe_source.proofs.LayoutFacts.{places-fit}
use Rattle.pipe_source.proofs.named_begin.find_named_begin.Goals as goal

pub returns-in-Ok-clause-fit : goal.returns-in-Ok-clause-fit
returns-in-Ok-clause-fit c =
    let P : ℕ → Type 0 = λ n. ArePlacedIn c.args.columns.now n c.in-Ok.layout.places.items in
    subst P (sym c.in-Ok.ensures.count) (places-fit c.args.file 1 c.args.columns.now _ c.in-Ok.layout.places.items c.in-Ok.ensures.places)

pub returns-in-Ok-clause-rows : goal.returns-in-Ok-clause-rows
returns-in-Ok-clause-rows c = λ wanted.
    let takes = rw c.in-Some.is at c.in_ok-begin.ensures in
    let P : ℕ → Type 0 = λ n. ArePlacedIn c.args.columns.now n c.in-Ok.layout.places.items in
    let fit : P c.in-Ok.layout.count = subst P (sym c.in-Ok.ensures.count) (places-fit c.args.file 1 c.args.columns.now _ c.in-Ok.layout.places.items c.in-Ok.ensures.places) in
    names-read c.args.file wanted c.args.columns.now c.args.text.now c.text_start-start.result c.in-Some.begin _ c.in-Ok.layout c.text_start-start.ensures.records takes c.in-Ok.ensures.places c.in-Ok.ensures.count fit c.requires.small
