-- Rows that are put in order by their ranks.
use Rattle.std.proofs.Common.{◌≡◌, ◌∙◌, ◌<◌, ◌++◌, ◌∷◌, [], ℕ, ℤ, pos, ◌+ℤ◌, ◌*ℤ◌, Bool, true, false, List, map, refl, sym, ap, arith}
use Rattle.std.specs.Cmp.{IsTotalOrder, on_total, then_total, nat_cmp_total}
use Rattle.std.specs.declared.cmp.Ordering.{Ordering}
use Rattle.std.specs.declared.cmp.Ordering.TheVariants.{Less, Equal, Greater}
use Rattle.std.specs.Ordering.{int_cmp, nat_cmp, ordering_reverse, ordering_then}
use Rattle.std.proofs.lemmas.Bool.Decides.{nat_tests}
use Rattle.std.proofs.lemmas.Int.{ints}
use Rattle.std.proofs.lemmas.List.{map-append}
use Rattle.std.proofs.lemmas.List.Elements.{All-push}
use Rattle.pipe_columns.specs.declared.any_value.AnyValue.{AnyValue}
use Rattle.pipe_columns.specs.AnyValue.{value_cmp}
use Rattle.pipe_columns.proofs.ValueOrder.{value_cmp_total}
use Rattle.lavzimo_rows.specs.declared.by_column.Rank.{Rank}
use Rattle.lavzimo_rows.specs.declared.by_column.Rank.TheVariants as rank
use Rattle.lavzimo_rows.specs.declared.by_column.RankedRow.{RankedRow}
use Rattle.lavzimo_rows.specs.declared.mean.Millionths.{Millionths}
use Rattle.lavzimo_rows.specs.Ranks.{AreRanked, IsNumberRank, IsRankOf, rank_cmp, rank_parts}
use Rattle.lavzimo_rows.specs.Shown.{turned}
use Rattle.lavzimo_rows.specs.StableOrder.{in_order}
use Rattle.lavzimo_rows.proofs.OrderFacts.{in_order-same, map-in_order}

-- ---- the order of ranks

-- it is total
pub ranks_total : IsTotalOrder rank_cmp
ranks_total = then_total (on_total (λ (r : Rank). (rank_parts r).0) value_cmp_total) (on_total (λ (r : Rank). (rank_parts r).1) nat_cmp_total)

less_turned : (r : Ordering) → ordering_reverse r ≡ Less → r ≡ Greater
less_turned Less e = cc
less_turned Equal e = cc
less_turned Greater e = refl

tie_turned : (r : Ordering) → ordering_reverse r ≡ Equal → r ≡ Equal
tie_turned Less e = cc
tie_turned Equal e = refl
tie_turned Greater e = cc

-- so is it the other way round
pub turned_total : {X : Type 0} (R : X → X → Ordering) (descending : Bool) → IsTotalOrder R → IsTotalOrder (λ (a b : X). turned descending (R a b))
turned_total R false o = o
turned_total R true o = record {
  antisymm = λ x y. ap ordering_reverse (o.antisymm x y);
  trans = λ x y z e f.
      let first : R y x ≡ Less = o.antisymm y x ∙ ap ordering_reverse (less_turned (R x y) e) in
      let second : R z y ≡ Less = o.antisymm z y ∙ ap ordering_reverse (less_turned (R y z) f) in
      sym (o.antisymm z x) ∙ o.trans z y x second first;
  congr = λ x y z e. ap ordering_reverse (o.congr x y z (tie_turned (R x y) e));
}

-- ---- ranks of values

-- numbers of millionths are in the order of their whole numbers, and then of what is above these
millionths_cmp : (w x : ℤ) (r s : ℕ) → r < 1000000 → s < 1000000
    → ordering_then (int_cmp w x) (nat_cmp r s) ≡ int_cmp ((w *ℤ pos 1000000) +ℤ pos r) ((x *ℤ pos 1000000) +ℤ pos s)
millionths_cmp w x r s p q = grind (arith, ints, nat_tests)

-- a tie decides nothing
then_tie : (o : Ordering) (r s : ℕ) → r ≡ 0 → s ≡ 0 → ordering_then o (nat_cmp r s) ≡ o
then_tie Less r s e f = refl
then_tie Equal r s e f = rw (e, f) refl
then_tie Greater r s e f = refl

number_ranks : (mean : Bool) (n o : ℤ) (r s : Millionths) → IsNumberRank mean n r → IsNumberRank mean o s
    → ordering_then (int_cmp r.whole s.whole) (nat_cmp r.rest s.rest) ≡ int_cmp n o
number_ranks false n o r s p q = then_tie (int_cmp r.whole s.whole) r.rest s.rest p.1 q.1 ∙ (λ i. int_cmp (p.0 i) (q.0 i))
number_ranks true n o r s p q = millionths_cmp r.whole s.whole r.rest s.rest p.rest q.rest ∙ (λ i. int_cmp (p.number i) (q.number i))

-- ranks are in the order of their values
ranks_agree : (mean : Bool) (v w : AnyValue) (r s : Rank) → IsRankOf mean v r → IsRankOf mean w s → rank_cmp r s ≡ value_cmp v w
ranks_agree mean v w rank.Nothing rank.Nothing p q = rw (p, q) refl
ranks_agree mean v w rank.Nothing (rank.Truth b) p q = rw (p, q) refl
ranks_agree mean v w rank.Nothing (rank.Number m) p q = rw (p, q.1) refl
ranks_agree mean v w rank.Nothing (rank.Text s) p q = rw (p, q) refl
ranks_agree mean v w (rank.Truth a) rank.Nothing p q = rw (p, q) refl
ranks_agree mean v w (rank.Truth true) (rank.Truth true) p q = rw (p, q) refl
ranks_agree mean v w (rank.Truth true) (rank.Truth false) p q = rw (p, q) refl
ranks_agree mean v w (rank.Truth false) (rank.Truth true) p q = rw (p, q) refl
ranks_agree mean v w (rank.Truth false) (rank.Truth false) p q = rw (p, q) refl
ranks_agree mean v w (rank.Truth a) (rank.Number m) p q = rw (p, q.1) refl
ranks_agree mean v w (rank.Truth a) (rank.Text s) p q = rw (p, q) refl
ranks_agree mean v w (rank.Number l) rank.Nothing p q = rw (p.1, q) refl
ranks_agree mean v w (rank.Number l) (rank.Truth b) p q = rw (p.1, q) refl
ranks_agree mean v w (rank.Number l) (rank.Number m) p q = number_ranks mean p.0 q.0 l m p.2 q.2 ∙ (λ i. value_cmp (sym p.1 i) (sym q.1 i))
ranks_agree mean v w (rank.Number l) (rank.Text s) p q = rw (p.1, q) refl
ranks_agree mean v w (rank.Text a) rank.Nothing p q = rw (p, q) refl
ranks_agree mean v w (rank.Text a) (rank.Truth b) p q = rw (p, q) refl
ranks_agree mean v w (rank.Text a) (rank.Number m) p q = rw (p, q.1) refl
ranks_agree mean v w (rank.Text a) (rank.Text b) p q = rw (p, q) (then_tie _ 0 0 refl refl)

-- ---- rows with their ranks

-- no rows
pub none_ranked : (mean : Bool) (value : ℕ → AnyValue) → AreRanked mean value [] []
none_ranked mean value = record { numbers = refl; each = λ i d within. absurd (omega arith) }

-- one row more
pub ranked_more : (mean : Bool) (value : ℕ → AnyValue) (rows : List ℕ) (ranked : List RankedRow) (r : RankedRow) → AreRanked mean value rows ranked
    → IsRankOf mean (value r.row) r.rank → AreRanked mean value (rows ++ r.row ∷ []) (ranked ++ r ∷ [])
ranked_more mean value rows ranked r are is = record {
  numbers = map-append (λ (q : RankedRow). q.row) ranked (r ∷ []) ∙ ap (λ (ns : List ℕ). ns ++ r.row ∷ []) are.numbers;
  each = All-push (λ (q : RankedRow). IsRankOf mean (value q.row) q.rank) ranked r are.each is;
}

-- rows that are put in order by their ranks are in that of their values
pub ranked_order : (mean : Bool) (value : ℕ → AnyValue) (rows : List ℕ) (ranked : List RankedRow) (descending : Bool) → AreRanked mean value rows ranked
    → map (λ (r : RankedRow). r.row) (in_order (λ (a b : RankedRow). turned descending (rank_cmp a.rank b.rank)) ranked)
    ≡ in_order (λ (a b : ℕ). turned descending (value_cmp (value a) (value b))) rows
ranked_order mean value rows ranked descending are =
    let P : RankedRow → Type 0 = λ r. IsRankOf mean (value r.row) r.rank in
    let R : RankedRow → RankedRow → Ordering = λ a b. turned descending (rank_cmp a.rank b.rank) in
    let Q : ℕ → ℕ → Ordering = λ a b. turned descending (value_cmp (value a) (value b)) in
    let same : (a b : RankedRow) → P a → P b → R a b ≡ Q a.row b.row = λ a b p q. ap (turned descending) (ranks_agree mean (value a.row) (value b.row) a.rank b.rank p q) in
    ap (map (λ (r : RankedRow). r.row)) (in_order-same P R (λ a b. Q a.row b.row) same ranked are.each)
    ∙ map-in_order (λ (r : RankedRow). r.row) Q ranked ∙ ap (in_order Q) are.numbers
