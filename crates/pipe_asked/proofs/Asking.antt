-- Partitions that are asked one after another: what waits of them, what they are after that, and why one refused.
use Rattle.std.proofs.Common.{◌≡◌, ◌≢◌, ◌∙◌, ◌+◌, ◌<◌, ◌≤◌, ℕ, List, [], ◌∷◌, ◌++◌, length, refl, sym, ap, subst, arith, length-append, ◌⊎◌, inl, inr, zero, suc}
use Rattle.std.specs.List.{All, slice_index_or}
use Rattle.std.proofs.lemmas.Bool.{cases_eq}
use Rattle.std.proofs.lemmas.List.Elements.{All-push}
use Rattle.pipe_columns.specs.Causes.{Rose}
use Rattle.pipe_columns.specs.Row.{Row}
use Rattle.pipe_aggs.specs.QueryTrees.{query_tree}
use Rattle.pipe_model.specs.Partitions.{groups_in}
use Rattle.pipe_model.specs.Query.{QueryTree}
use Rattle.pipe_groups.specs.declared.placed_groups.PlacedGroups.{PlacedGroups}
use Rattle.pipe_groups.specs.QueryRows.{ArePlacedRows}
use Rattle.pipe_global.specs.declared.batch_error.BatchError.{BatchError}
use Rattle.pipe_global.specs.declared.batch_error.BatchError.TheVariants as batch_error
use Rattle.pipe_global.specs.Finishing.{IsCause, KeepsRest}
use Rattle.pipe_global.specs.Partition.{PartitionSeen}
use Rattle.pipe_asked.specs.Left.{AreSamePartitions, CountOn}
use Rattle.pipe_asked.specs.Given.{HasRows, IsSource, KeepsSource, SourceSeen}
use Rattle.pipe_asked.specs.Sources.{ArePlacedParts, IsGiveCause, IsPlacedFrame, KeepsAsked, LeavesOthers}
use Rattle.pipe_asked.proofs.SourceFacts.{keeps-itself}

-- ---- partitions that are kept

rest-trans : (a b c : PartitionSeen) → KeepsRest a b → KeepsRest b c → KeepsRest a c
rest-trans a b c x y = record {
  shape = (y.shape.0 ∙ x.shape.0, y.shape.1 ∙ x.shape.1);
  store = record {
    told = y.store.told ∙ x.store.told;
    held = y.store.held ∙ x.store.held;
    sure = y.store.sure ∙ x.store.sure;
    path = y.store.path ∙ x.store.path;
    faults = omega (arith, x.store.faults, y.store.faults);
  };
  others = y.others ∙ ap (λ (s : PartitionSeen). record s { table = c.table; waiting = c.waiting; store = c.store; marks = c.marks }) x.others;
}

pub kept-same : (ps : List PartitionSeen) → AreSamePartitions ps ps
kept-same ps = record { count = refl; each = λ p d lt. keeps-itself (slice_index_or ps p d) }

pub kept-trans : (ps qs rs : List PartitionSeen) → AreSamePartitions ps qs → AreSamePartitions qs rs → AreSamePartitions ps rs
kept-trans ps qs rs x y = record {
  count = y.count ∙ x.count;
  each = λ p d lt. rest-trans (slice_index_or ps p d) (slice_index_or qs p d) (slice_index_or rs p d) (x.each p d lt) (y.each p d (omega (arith, lt, x.count)));
}

-- ---- calls one after another

pub asked-same : (s : SourceSeen) → KeepsAsked s s
asked-same s = record { query = refl; partitions = kept-same s.partitions; given = omega arith }

pub asked-trans : (a b c : SourceSeen) → KeepsAsked a b → KeepsAsked b c → KeepsAsked a c
asked-trans a b c x y = record {
  query = y.query ∙ x.query;
  partitions = kept-trans a.partitions b.partitions c.partitions x.partitions y.partitions;
  given = omega (arith, x.given, y.given);
}

-- one call keeps what it didn't ask
pub asked-one : (s new : SourceSeen) (given : ℕ) → s.given ≤ given → KeepsSource s new given → KeepsAsked s new
asked-one s new given le keeps = record { query = keeps.query; partitions = keeps.partitions; given = omega (arith, le, keeps.given_is) }

pub others-one : (s new : SourceSeen) → KeepsSource s new (s.given + 1) → CountOn s.partitions new.partitions → LeavesOthers s new
others-one s new keeps calm = record { others = λ p d from. keeps.others p d (λ e. absurd (omega (arith, e, from, keeps.given_is))); calm = calm }

pub others-same : (s : SourceSeen) → LeavesOthers s s
others-same s = record { others = λ p d from. refl; calm = λ p d lt. refl }

pub others-trans : (a b c : SourceSeen) → KeepsAsked a b → KeepsAsked b c → LeavesOthers a b → LeavesOthers b c → LeavesOthers a c
others-trans a b c before keeps x y = record {
  others = λ p d from. y.others p d from ∙ x.others p d (omega (arith, from, keeps.given));
  calm = λ p d lt. y.calm p d (omega (arith, lt, before.partitions.count)) ∙ x.calm p d lt;
}

-- a refusal of the next partition is one of a partition that was still to be asked
pub cause-one : (s new : SourceSeen) (e : BatchError) → IsSource s → s.given < length s.partitions
    → KeepsSource s new s.given → ((d : PartitionSeen) → IsCause (slice_index_or s.partitions s.given d) (slice_index_or new.partitions s.given d) e) → IsGiveCause s new e
cause-one s new (batch_error.Store p) is lt keeps cause =
    let at : (d : PartitionSeen) → p ≡ s.given = λ d. (cause d).0 ∙ (is.each s.given d lt).number in
    by s.partitions refl at
  where
    by : (ps : List PartitionSeen) → s.partitions ≡ ps → ((d : PartitionSeen) → p ≡ s.given) → IsGiveCause s new (batch_error.Store p)
    by [] e at = absurd (omega (arith, lt, ap (λ (l : List PartitionSeen). length l) e))
    by (x ∷ ps) e at =
        let here : p ≡ s.given = at x in (
          omega (arith, here),
          record {
            exists = omega (arith, here, lt);
            rose = λ d. subst (λ k. Rose (slice_index_or s.partitions k d).store.faults (slice_index_or new.partitions k d).store.faults) (sym here) (cause d).1;
            least = λ k d less. ap (λ (x : PartitionSeen). x.store.faults) (keeps.others k d (λ e. absurd (omega (arith, e, less, here))));
          },
        )
cause-one s new (batch_error.Damaged p n) is lt keeps cause =
    let at : (d : PartitionSeen) → p ≡ s.given = λ d. (cause d).0 ∙ (is.each s.given d lt).number in
    by s.partitions refl at
  where
    by : (ps : List PartitionSeen) → s.partitions ≡ ps → ((d : PartitionSeen) → p ≡ s.given) → IsGiveCause s new (batch_error.Damaged p n)
    by [] e at = absurd (omega (arith, lt, ap (λ (l : List PartitionSeen). length l) e))
    by (x ∷ ps) e at =
        let here : p ≡ s.given = at x in (
          omega (arith, here),
          omega (arith, here, lt),
          λ d.
              let c = cause d in
              subst (λ k. ((slice_index_or s.partitions k d).store.told ≡ Rattle.std.specs.Prelude.None) × Rattle.std.specs.List.Contains (Rattle.std.specs.Prelude.map (λ m. m.number) (slice_index_or s.partitions k d).marks) n) (sym here) (c.1, c.2),
        )
cause-one s new batch_error.Memory is lt keeps cause = tt

-- a refusal after other calls is one of a partition that was still to be asked before them
pub cause-later : (a b c : SourceSeen) (e : BatchError) → KeepsAsked a b → LeavesOthers a b → IsGiveCause b c e → IsGiveCause a c e
cause-later a b c (batch_error.Store p) keeps same cause = (
  omega (arith, cause.0, keeps.given),
  (let lt : p < length a.partitions = omega (arith, cause.1.exists, keeps.partitions.count) in
      record {
        exists = lt;
        rose = λ d. subst (λ n. Rose n (slice_index_or c.partitions p d).store.faults) (same.calm p d lt) (cause.1.rose d);
        least = λ k d less. cause.1.least k d less ∙ same.calm k d (omega (arith, less, lt));
      }),
)
cause-later a b c (batch_error.Damaged p n) keeps same cause = (
  omega (arith, cause.0, keeps.given),
  omega (arith, cause.1, keeps.partitions.count),
  λ d. subst (λ (x : PartitionSeen). (x.store.told ≡ Rattle.std.specs.Prelude.None) × Rattle.std.specs.List.Contains (Rattle.std.specs.Prelude.map (λ m. m.number) x.marks) n) (same.others p d cause.0) (cause.2 d),
)
cause-later a b c batch_error.Memory keeps same cause = tt

-- ---- what waits

-- partitions were asked, and what they gave waits behind what waited
pub record HasAsked (s : SourceSeen) (placed : List PlacedGroups) (new : SourceSeen) (now : List PlacedGroups) : Type 0 where
  pub waiting : length now ≡ new.given
  pub frames : All (IsPlacedFrame (query_tree s.query)) now
  pub stands : (rs : List Row) → HasRows rs s → ArePlacedParts (query_tree s.query) rs (length s.partitions) placed
      → HasRows rs new × ArePlacedParts (query_tree s.query) rs (length s.partitions) now
  pub slice : new.slice ≡ s.slice
  pub kept : KeepsAsked s new

pub asked-none : (s : SourceSeen) (placed : List PlacedGroups) → length placed ≡ s.given → All (IsPlacedFrame (query_tree s.query)) placed → HasAsked s placed s placed
asked-none s placed waiting frames = record {
  waiting = waiting;
  frames = frames;
  stands = λ rs rows parts. (rows, parts);
  slice = refl;
  kept = asked-same s;
}

-- placed groups with those of the next partition
parts-more : (q : QueryTree) (rs : List Row) (n : ℕ) (placed : List PlacedGroups) (g : PlacedGroups) → ArePlacedParts q rs n placed → ArePlacedRows q rs (groups_in n q (length placed) rs) g.frame g.firsts
    → ArePlacedParts q rs n (placed ++ g ∷ [])
parts-more q rs n placed g parts own p d lt = by (cases_eq p (length placed)) where
  front : (xs : List PlacedGroups) (k : ℕ) → k < length xs → slice_index_or (xs ++ g ∷ []) k d ≡ slice_index_or xs k d
  front [] k less = absurd (omega (arith, less))
  front (x ∷ xs) zero less = refl
  front (x ∷ xs) (suc k) less = front xs k (omega (arith, less))

  last : (xs : List PlacedGroups) → slice_index_or (xs ++ g ∷ []) (length xs) d ≡ g
  last [] = refl
  last (x ∷ xs) = last xs

  by : (p ≡ length placed) ⊎ (p ≢ length placed) → ArePlacedRows q rs (groups_in n q p rs) (slice_index_or (placed ++ g ∷ []) p d).frame (slice_index_or (placed ++ g ∷ []) p d).firsts
  by (inl e) = subst (λ k. ArePlacedRows q rs (groups_in n q k rs) (slice_index_or (placed ++ g ∷ []) k d).frame (slice_index_or (placed ++ g ∷ []) k d).firsts) (sym e)
      (subst (λ (x : PlacedGroups). ArePlacedRows q rs (groups_in n q (length placed) rs) x.frame x.firsts) (sym (last placed)) own)
  by (inr apart) =
      let less : p < length placed = omega (arith, lt, apart, length-append placed (g ∷ [])) in
      subst (λ (x : PlacedGroups). ArePlacedRows q rs (groups_in n q p rs) x.frame x.firsts) (sym (front placed p less)) (parts p d less)

module _ (s mid new : SourceSeen) (placed now : List PlacedGroups) (h : HasAsked s placed mid now) (slice : new.slice ≡ mid.slice) (stands : (rs : List Row) → HasRows rs mid → HasRows rs new) where
  -- one gave its groups
  pub asked-more : (g : PlacedGroups) → KeepsSource mid new (mid.given + 1)
      → ((rs : List Row) → HasRows rs mid → ArePlacedRows (query_tree mid.query) rs (groups_in (length mid.partitions) (query_tree mid.query) mid.given rs) g.frame g.firsts)
      → IsPlacedFrame (query_tree mid.query) g → HasAsked s placed new (now ++ g ∷ [])
  asked-more g keeps own frame = record {
    waiting = length-append now (g ∷ []) ∙ omega (arith, h.waiting, keeps.given_is);
    frames = All-push (IsPlacedFrame (query_tree s.query)) now g h.frames (subst (λ q. IsPlacedFrame (query_tree q) g) h.kept.query frame);
    stands = λ rs rows parts.
        let before = h.stands rs rows parts in
        let mine = own rs before.0 in
        let of_query = subst (λ q. ArePlacedRows (query_tree q) rs (groups_in (length mid.partitions) (query_tree q) mid.given rs) g.frame g.firsts) h.kept.query mine in
        let of_count = subst (λ n. ArePlacedRows (query_tree s.query) rs (groups_in n (query_tree s.query) mid.given rs) g.frame g.firsts) h.kept.partitions.count of_query in
        (stands rs before.0, parts-more (query_tree s.query) rs (length s.partitions) now g before.1 (subst (λ k. ArePlacedRows (query_tree s.query) rs (groups_in (length s.partitions) (query_tree s.query) k rs) g.frame g.firsts) (sym h.waiting) of_count));
    slice = slice ∙ h.slice;
    kept = asked-trans s mid new h.kept (asked-one mid new (mid.given + 1) (omega arith) keeps);
  }

  -- or refused
  pub asked-refused : KeepsSource mid new mid.given → HasAsked s placed new now
  asked-refused keeps = record {
    waiting = h.waiting ∙ sym keeps.given_is;
    frames = h.frames;
    stands = λ rs rows parts. let before = h.stands rs rows parts in (stands rs before.0, before.1);
    slice = slice ∙ h.slice;
    kept = asked-trans s mid new h.kept (asked-one mid new mid.given (omega arith) keeps);
  }
