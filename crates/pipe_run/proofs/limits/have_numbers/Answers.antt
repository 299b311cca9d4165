use Rattle.std.proofs.Common.{◌≡◌, ◌∙◌, ◌^◌, ◌&&◌, Bool, true, false, ap, refl, sym}
use Rattle.std.specs.Prelude.{nat_lt}
use Rattle.std.specs.List.{list_all}
use Rattle.std.proofs.lemmas.List.Folds.{list_all-map}
use Rattle.pipe_asked.proofs.Lists.{drop-past}
use Rattle.pipe_run.proofs.limits.have_numbers.Goals as goal

and_true : (b : Bool) → b ≡ (b && true)
and_true true = refl
and_true false = refl

pub returns : goal.returns
returns g c =
    and_true c.loop-store.fit
    ∙ ap (λ l. c.loop-store.fit && list_all (λ s. nat_lt (g.S.SpillStore.held s) (2 ^ 63)) l) (sym (drop-past c.loop-store.store-index c.args.stores.now c.loop-store-test.false))
    ∙ c.loop-store.invariant
    ∙ sym (list_all-map (λ n. nat_lt n (2 ^ 63)) (λ s. g.S.SpillStore.held s) c.args.stores.now)
