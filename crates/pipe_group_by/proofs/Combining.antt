-- Sinks of workers that are combined, one after another.
use Rattle.std.proofs.Common.{◌≡◌, ◌∙◌, ◌+◌, ◌<◌, ℕ, zero, suc, List, [], ◌∷◌, ◌++◌, length, drop, refl, sym, ap, subst, arith}
use Rattle.std.specs.List.{slice_index_or}
use Rattle.pipe_columns.specs.declared.data_chunk.DataChunk.{DataChunk}
use Rattle.pipe_columns.specs.Frame.{FrameData}
use Rattle.pipe_aggs.specs.declared.query.Query.{Query}
use Rattle.pipe_aggs.specs.QueryTrees.{query_tree}
use Rattle.pipe_model.specs.Answer.{answer}
use Rattle.pipe_model.specs.Rows.{AreChunksOf}
use Rattle.pipe_sinks.specs.Runs.{IsAnswer, MayCombine, purpose_of, Run, with_taken}
use Rattle.pipe_group_by.specs.Taken.{HaveTaken, sink_after}
use Rattle.pipe_group_by.proofs.Dealt.{turns-answer, turns-apart, turns-few, turns-next, turns_to}

-- the first of what is left of a list
front-at : {A : Type 0} (k : ℕ) (xs rest : List A) (x : A) → drop k xs ≡ x ∷ rest → (k < length xs) × ((d : A) → slice_index_or xs k d ≡ x) × (drop (k + 1) xs ≡ rest)
front-at zero [] rest x is = cc
front-at zero (y ∷ xs) rest x is = (omega arith, λ d. cc, cc)
front-at (suc k) [] rest x is = cc
front-at (suc k) (y ∷ xs) rest x is =
    let r = front-at k xs rest x is in
    (omega (arith, r.0), r.1, ap (λ j. drop j (y ∷ xs)) {x = suc k + 1} {y = suc (k + 1)} (omega arith) ∙ r.2)

-- the sinks of the first workers, combined
abbrev pub combined_to : Query → ℕ → ℕ → List DataChunk → ℕ → Run
combined_to q partitions n chunks k = record { query = q; partitions = partitions; taken = turns_to n k chunks }

module _ (q : Query) (partitions n : ℕ) (chunks : List DataChunk) (sinks : List Run) (taken : HaveTaken q partitions n chunks sinks) (k : ℕ) (left rest : List Run) (next : Run)
    (at : left ≡ drop k sinks) (items : left ≡ next ∷ rest) where
  here : (k < length sinks) × ((d : Run) → slice_index_or sinks k d ≡ next) × (drop (k + 1) sinks ≡ rest)
  here = front-at k sinks rest next (sym at ∙ items)

  -- the next has taken its turns
  pub next-is : next ≡ sink_after q partitions n chunks k
  next-is = sym (here.1 next) ∙ taken.each k next here.0

  pub next-query : q ≡ next.query
  next-query = ap (λ (r : Run). r.query) (sym next-is)

  pub next-left : rest ≡ drop (k + 1) sinks
  next-left = sym here.2

  pub next-below : k < n
  next-below = omega (arith, here.0, taken.count)

  -- the first is combined with none
  pub first-combined : (all : Run) → all ≡ next → k ≡ 0 → all ≡ combined_to q partitions n chunks 1
  first-combined all same none =
      same
      ∙ next-is
      ∙ ap (sink_after q partitions n chunks) none
      ∙ ap {B = Run} (λ (l : List DataChunk). record { query = q; partitions = partitions; taken = l }) (sym (turns-next n 0 chunks))

  module _ (all : Run) (before : all ≡ combined_to q partitions n chunks k) (other : Run) (same : other ≡ next) where
    other-is : other ≡ sink_after q partitions n chunks k
    other-is = same ∙ next-is

    pub may-combine : AreChunksOf (query_tree q) chunks → MayCombine all other
    may-combine asked = subst (λ (r : Run). MayCombine r other) (sym before) (subst (MayCombine (combined_to q partitions n chunks k)) (sym other-is) (record {
      same = refl;
      apart = turns-apart n k chunks;
      few = omega (arith, turns-few n k chunks next-below, asked.rows);
    }))

    pub next-combined : (new : Run) → new ≡ with_taken (all.taken ++ other.taken) all → new ≡ combined_to q partitions n chunks (k + 1)
    next-combined new made =
        made
        ∙ ap (λ (r : Run). with_taken (r.taken ++ other.taken) r) before
        ∙ ap {B = Run} (λ (r : Run). record { query = q; partitions = partitions; taken = turns_to n k chunks ++ r.taken }) other-is
        ∙ ap {B = Run} (λ (l : List DataChunk). record { query = q; partitions = partitions; taken = l }) (sym (turns-next n k chunks))

-- what all of them combined give is the answer
pub combined-answer : (q : Query) (partitions n : ℕ) (chunks : List DataChunk) (all : Run) (f : FrameData) → 0 < n → all ≡ combined_to q partitions n chunks n → IsAnswer (purpose_of all) all.taken f
    → f ≡ answer chunks (query_tree q) partitions
combined-answer q partitions n chunks all f some is given =
    subst (λ (r : Run). IsAnswer (purpose_of r) r.taken f) is given ∙ turns-answer (query_tree q) n partitions chunks some
