-- Partitions that are emptied one by one.
use Rattle.std.proofs.Common.{◌≡◌, ◌<◌, ◌≤◌, ◌+◌, ◌∙◌, ℕ, suc, List, [], ◌∷◌, ◌++◌, length, take, get_or, set, filter, map, refl, ap, sym, arith}
use Rattle.std.specs.Prelude.{if◌then◌else◌}
use Rattle.std.specs.List.{enumerate_from}
use Rattle.std.proofs.lemmas.Bool.{lt-ltb}
use Rattle.std.proofs.lemmas.List.{append-nil, length-take-le, take_more}
use Rattle.std.proofs.lemmas.List.Elements.{filter-append}
use Rattle.pipe_spill.specs.declared.spill_row.SpillRow.{SpillRow}
use Rattle.pipe_columns.proofs.FrameFacts.{changed, changed_all, changed_get, changed_more}
use Rattle.pipe_tables.specs.Buffers.{no_rows, waits}

-- the first k of some buffers emptied
abbrev pub emptied_to : ℕ → List (List SpillRow) → List (List SpillRow)
emptied_to k rows = changed (λ b. []) k rows

-- one more is emptied
pub emptied_more : (k : ℕ) (rows now : List (List SpillRow)) → k < length rows → now ≡ emptied_to k rows → set now k [] ≡ emptied_to (k + 1) rows
emptied_more k rows now lt is =
    ap (λ (l : List (List SpillRow)). set l k []) is ∙ changed_more (λ b. []) k rows [] lt ∙ ap (λ i. emptied_to i rows) {x = suc k} {y = k + 1} (omega arith)

-- in the end nothing waits
pub emptied_all : (k : ℕ) (rows : List (List SpillRow)) → length rows ≤ k → emptied_to k rows ≡ no_rows (length rows)
emptied_all k rows le = changed_all (λ b. []) k rows le ∙ none rows
  where
    none : (rows : List (List SpillRow)) → map (λ b. []) rows ≡ no_rows (length rows)
    none [] = refl
    none (b ∷ rows) = ap (λ (l : List (List SpillRow)). [] ∷ l) (none rows)

-- what waits in the first k of some buffers
abbrev pub rests_to : ℕ → List (List SpillRow) → List (ℕ × List SpillRow)
rests_to k rows = filter waits (enumerate_from 0 (take k rows))

-- numbers go on behind a list
enumerate-append : (n : ℕ) (xs ys : List (List SpillRow)) → enumerate_from n (xs ++ ys) ≡ enumerate_from n xs ++ enumerate_from (n + length xs) ys
enumerate-append n [] ys = ap (λ k. enumerate_from k ys) (omega arith)
enumerate-append n (x ∷ xs) ys = ap (λ (l : List (ℕ × List SpillRow)). (n, x) ∷ l) (enumerate-append (n + 1) xs ys ∙ ap (λ k. enumerate_from (n + 1) xs ++ enumerate_from k ys) (omega arith))

-- what waits in one more
pub rests_more : (k : ℕ) (rows : List (List SpillRow)) → k < length rows → rests_to (k + 1) rows ≡ rests_to k rows ++ filter waits ((k, get_or rows k []) ∷ [])
rests_more k rows lt =
    ap (λ (l : List (List SpillRow)). filter waits (enumerate_from 0 l)) (take_more rows k [] lt)
    ∙ ap (λ (l : List (ℕ × List SpillRow)). filter waits l) (enumerate-append 0 (take k rows) (get_or rows k [] ∷ []))
    ∙ filter-append waits (enumerate_from 0 (take k rows)) (enumerate_from (0 + length (take k rows)) (get_or rows k [] ∷ []))
    ∙ ap (λ i. rests_to k rows ++ filter waits ((i, get_or rows k []) ∷ [])) (omega (arith, length-take-le k rows (omega arith)))

-- a partition whose turn comes is as it was
as_it_was : (k : ℕ) (rows now : List (List SpillRow)) → now ≡ emptied_to k rows → get_or now k [] ≡ get_or rows k []
as_it_was k rows now is = ap (λ (l : List (List SpillRow)). get_or l k []) is ∙ changed_get (λ b. []) k rows []

-- its rows come next
pub rests_some : (k : ℕ) (rows now : List (List SpillRow)) (b : List SpillRow) → k < length rows → now ≡ emptied_to k rows → b ≡ get_or now k [] → (get_or now k [] ≡ [] → ⊥)
    → rests_to (k + 1) rows ≡ rests_to k rows ++ (k, b) ∷ []
rests_some k rows now b lt is b_is some =
    let these : b ≡ get_or rows k [] = b_is ∙ as_it_was k rows now is in
    rests_more k rows lt ∙ ap (λ (l : List SpillRow). rests_to k rows ++ filter waits ((k, l) ∷ [])) (sym these) ∙ ap (λ l. rests_to k rows ++ l) (one b (λ e. some (sym b_is ∙ e)))
  where
    one : (b : List SpillRow) → (b ≡ [] → ⊥) → filter waits ((k, b) ∷ []) ≡ (k, b) ∷ []
    one [] some = absurd (some refl)
    one (r ∷ b) some = ap (λ c. let kept : List (ℕ × List SpillRow) = if c then (k, r ∷ b) ∷ [] else [] in kept) (lt-ltb 0 (length (r ∷ b)) (omega arith))

-- or nothing does
pub rests_none : (k : ℕ) (rows now : List (List SpillRow)) → k < length rows → now ≡ emptied_to k rows → get_or now k [] ≡ [] → rests_to (k + 1) rows ≡ rests_to k rows
rests_none k rows now lt is none =
    rests_more k rows lt ∙ ap (λ (l : List SpillRow). rests_to k rows ++ filter waits ((k, l) ∷ [])) (sym (as_it_was k rows now is) ∙ none) ∙ append-nil (rests_to k rows)
