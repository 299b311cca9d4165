-- What limits that fit give.
use Rattle.std.proofs.Common.{arith, ◌≡◌, ◌∙◌, ◌<◌, ◌^◌, ◌==◌, ◌&&◌, ℕ, Bool, true, false, List, ap, length, map, refl, sym}
use Rattle.std.specs.Prelude.{nat_le, nat_lt}
use Rattle.std.specs.List.{All, list_all, slice_index_or}
use Rattle.std.proofs.lemmas.Bool.{eqb-true, false≢true, leb-true, ltb-true}
use Rattle.pipe_global.proofs.Gathered.{all-tested}
use Rattle.pipe_plan.specs.declared.limits.Limits.{Limits}
use Rattle.pipe_plan.specs.Run.{AreLimits}
use Rattle.pipe_run.specs.Refusals.{lies_between, limits_fit}

both : (a b : Bool) → (a && b) ≡ true → (a ≡ true) × (b ≡ true)
both true b e = (refl, e)
both false b e = absurd (false≢true e)

six : (a b c d e f : Bool) → (a && b && c && d && e && f) ≡ true → (a ≡ true) × (b ≡ true) × (c ≡ true) × (d ≡ true) × (e ≡ true) × (f ≡ true)
six a b c d e f all =
    let five = both (a && b && c && d && e) f all in
    let four = both (a && b && c && d) e five.0 in
    let three = both (a && b && c) d four.0 in
    let two = both (a && b) c three.0 in
    let one = both a b two.0 in
    (one.0, one.1, two.1, three.1, four.1, five.1)

module _ (l : Limits) (actions : ℕ) (held : List ℕ) (fit : limits_fit l actions held ≡ true) where
  parts : (lies_between 1 256 l.workers ≡ true) × (lies_between 1 4096 l.partitions ≡ true) × (nat_lt 0 l.buffer_size ≡ true) × ((actions == l.workers) ≡ true) × ((length held == l.partitions) ≡ true)
      × (list_all (λ n. nat_lt n (2 ^ 63)) held ≡ true)
  parts = six (lies_between 1 256 l.workers) (lies_between 1 4096 l.partitions) (nat_lt 0 l.buffer_size) (actions == l.workers) (length held == l.partitions) (list_all (λ n. nat_lt n (2 ^ 63)) held) fit

  pub fit-limits : AreLimits l
  fit-limits = record {
    workers = leb-true 1 l.workers (both (nat_le 1 l.workers) (nat_le l.workers 256) parts.0).0;
    partitions = leb-true 1 l.partitions (both (nat_le 1 l.partitions) (nat_le l.partitions 4096) parts.1).0;
    buffer = ltb-true 0 l.buffer_size parts.2;
  }

  pub fit-few : l.partitions < 2 ^ 32
  fit-few = omega (arith, leb-true l.partitions 4096 (both (nat_le 1 l.partitions) (nat_le l.partitions 4096) parts.1).1)

  pub fit-count : length held ≡ l.partitions
  fit-count = eqb-true (length held) l.partitions parts.4

  pub fit-former : All (λ n. n < 2 ^ 63) held
  fit-former k n lt = ltb-true (slice_index_or held k n) (2 ^ 63) (all-tested (λ n. nat_lt n (2 ^ 63)) held parts.5 k n lt)

-- whether limits fit is what was asked of the same lists under other names
pub fit-as : {A : Type 0} (held : A → ℕ) (l : Limits) (b : Bool) (n actions : ℕ) (seen stores : List A) → b ≡ limits_fit l n (map held seen) → n ≡ actions → seen ≡ stores → limits_fit l actions (map held stores) ≡ b
fit-as held l b n actions seen stores is same alike = sym (is ∙ ap (λ m. limits_fit l m (map held seen)) same ∙ ap (λ s. limits_fit l actions (map held s)) alike)

pub fit-same : {A : Type 0} (held : A → ℕ) (l : Limits) (n actions : ℕ) (seen stores : List A) → n ≡ actions → seen ≡ stores → limits_fit l actions (map held stores) ≡ limits_fit l n (map held seen)
fit-same held l n actions seen stores same alike = fit-as held l (limits_fit l n (map held seen)) n actions seen stores refl same alike
