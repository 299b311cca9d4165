-- Where the turns of a worker stand, and the rows that it takes in them.
use Rattle.std.proofs.Common.{◌≡◌, ℕ, zero, suc, ◌+◌, ◌-◌, ◌*◌, ◌/◌, ◌%◌, ◌<◌, ◌≤◌, ◌==◌, true, List, [], ◌∷◌, ◌++◌, length, Some, slice_get, refl, ap, sym, ◌∙◌, arith, ⊎_elim}
use Rattle.std.specs.List.{filter, flat_map, range_with_len}
use Rattle.std.specs.Option.{option_map_or}
use Rattle.std.proofs.lemmas.Bool.{cases_Bool, cases_order, eq-eqb, eqb-true, ne_eqb}
use Rattle.std.proofs.lemmas.List.{append-nil}
use Rattle.std.proofs.lemmas.Nat.{div-add-mod', div-mul-add, mod-mul-add}
use Rattle.std.proofs.Math.Nat.{mod-eq_of_lt, mul-le-mul_right}
use Rattle.std.proofs.lemmas.Grind.{flat_map-append}
use Rattle.pipe_columns.specs.Row.{Row}
use Rattle.pipe_model.specs.Rows.{chunk_rows}
use Rattle.pipe_plan.specs.Rounds.{run_until}
use Rattle.pipe_plan.specs.Plan.{turns_before}
use Rattle.pipe_plan.specs.Progress.{turn_rows}
use Rattle.pipe_plan.specs.Run.{is_turn_of, of_worker, Run}
use Rattle.pipe_plan.proofs.ChunkRows.{each-at, range-at, range-before, range-behind}
use Rattle.pipe_plan.proofs.Filtering.{filter-none}
use Rattle.pipe_plan.proofs.Planning.{turns-no, turns-yes}
use Rattle.pipe_plan.proofs.Reaching.{worker-no, worker-yes}
use Rattle.pipe_plan.proofs.Turning.{turns-append}

-- ---- positions

-- two positions of one worker that are less than a round apart are one
same-turn : (n i k : ℕ) → 0 < n → k % n ≡ i % n → i ≤ k → k < i + n → k ≡ i
same-turn n i k some same low high =
    let here = div-add-mod' k n in
    let there = div-add-mod' i n in
    ⊎_elim
    (λ is. omega (arith, here, there, same, ap (λ q. q * n) is))
    (λ apart. ⊎_elim
    (λ less. absurd (omega (arith, here, there, same, low, mul-le-mul_right {m = k / n + 1} {n = i / n} n (omega arith))))
    (λ more. absurd (omega (arith, here, there, same, high, mul-le-mul_right {m = i / n + 1} {n = k / n} n (omega arith))))
    apart)
    (cases_order (k / n) (i / n))

-- the turn j of a worker
pub turn-at : (r : Run) (w j : ℕ) → w < r.limits.workers → is_turn_of r w (w + j * r.limits.workers) ≡ true
turn-at r w j lt = eq-eqb ((w + j * r.limits.workers) % r.limits.workers) w (ap (λ k. k % r.limits.workers) {x = w + j * r.limits.workers} {y = j * r.limits.workers + w} (omega arith) ∙ mod-mul-add j r.limits.workers w lt)

-- has the number j
pub turn-number : (r : Run) (w j : ℕ) → w < r.limits.workers → (w + j * r.limits.workers) / r.limits.workers ≡ j
turn-number r w j lt = ap (λ k. k / r.limits.workers) {x = w + j * r.limits.workers} {y = j * r.limits.workers + w} (omega arith) ∙ div-mul-add j r.limits.workers w lt

-- the next turn stands as many positions further as there are workers
pub turn-next : (r : Run) (w i : ℕ) → 0 < r.limits.workers → is_turn_of r w i ≡ true → is_turn_of r w (i + r.limits.workers) ≡ true
turn-next r w i some turn =
    let n = r.limits.workers in
    let low : i % n < n = omega arith in
    let same : (i + n) % n ≡ i % n = ap (λ k. k % n) {x = i + n} {y = (i / n + 1) * n + i % n} (omega (arith, div-add-mod' i n)) ∙ mod-mul-add (i / n + 1) n (i % n) low in
    ap (λ k. k == w) same ∙ turn

-- between two turns there is none
pub turns-after : (r : Run) (w i n : ℕ) → 0 < r.limits.workers → is_turn_of r w i ≡ true → i < n → n ≤ i + r.limits.workers → turns_before r w n ≡ turns_before r w i ++ i ∷ []
turns-after r w i n some turn low high =
    let gap = range_with_len (0 + (i + 1)) (n - (i + 1)) in
    let none : filter (is_turn_of r w) gap ≡ [] = filter-none (is_turn_of r w) gap
    (λ front back k is.
    let least : 0 + (i + 1) ≤ k = each-at (λ k. 0 + (i + 1) ≤ k) gap front back k (range-behind (0 + (i + 1)) (n - (i + 1))) is in
    let most : k < 0 + (i + 1) + (n - (i + 1)) = each-at (λ k. k < 0 + (i + 1) + (n - (i + 1))) gap front back k (range-before (0 + (i + 1)) (n - (i + 1))) is in
    ne_eqb (k % r.limits.workers) w (λ at. absurd (omega (arith, least, same-turn r.limits.workers i k some (at ∙ sym (eqb-true (i % r.limits.workers) w turn)) (omega (arith, least)) (omega (arith, most, high, low)))))) in
    ap (λ k. turns_before r w k) {x = n} {y = (i + 1) + (n - (i + 1))} (omega arith)
    ∙ turns-append r w (i + 1) (n - (i + 1))
    ∙ ap (λ (l : List ℕ). turns_before r w (i + 1) ++ l) none
    ∙ append-nil (turns_before r w (i + 1))
    ∙ turns-yes r w i turn

-- before the first there is none
pub turns-first : (r : Run) (w n : ℕ) → w < r.limits.workers → n ≤ w → turns_before r w n ≡ []
turns-first r w n lt le =
    filter-none (is_turn_of r w) (range_with_len 0 n)
    (λ front back k is.
    let below = range-at n front back k is in
    ne_eqb (k % r.limits.workers) w (λ at. absurd (omega (arith, at, below, mod-eq_of_lt {n = k} {m = r.limits.workers} (omega (arith, below))))))

-- ---- rows

-- a position of a list has an element
element-at : {A : Type 0} (xs : List A) (n : ℕ) → n < length xs → (x : A) × (slice_get xs n ≡ Some x)
element-at [] n lt = absurd (omega arith)
element-at (x ∷ xs) zero lt = (x, refl)
element-at (x ∷ xs) (suc n) lt = element-at xs n (omega arith)

-- a worker's rows are those of its turns
pub rows-by-turn : (r : Run) (w n : ℕ) → n ≤ length r.chunks → of_worker (run_until r n) w ≡ flat_map (turn_rows r) (turns_before r w n)
rows-by-turn r w zero le = refl
rows-by-turn r w (suc n) le =
    let before = rows-by-turn r w n (omega arith) in
    let e = element-at r.chunks n (omega arith) in
    let here : turn_rows r n ≡ chunk_rows r.query n e.0.frame = ap (λ c. option_map_or (λ c. chunk_rows r.query n c.frame) c []) e.1 in
    let step : of_worker (run_until r (n + 1)) w ≡ flat_map (turn_rows r) (turns_before r w (n + 1)) = ⊎_elim
    (λ turn.
    worker-yes r w n e.0 e.1 turn
    ∙ ap (λ (l : List Row). l ++ chunk_rows r.query n e.0.frame) before
    ∙ ap (λ (l : List Row). flat_map (turn_rows r) (turns_before r w n) ++ l) (sym here ∙ sym (append-nil (turn_rows r n)))
    ∙ sym (ap (λ (l : List ℕ). flat_map (turn_rows r) l) (turns-yes r w n turn) ∙ flat_map-append (turn_rows r) (turns_before r w n) (n ∷ [])))
    (λ other. worker-no r w n e.0 e.1 other ∙ before ∙ sym (ap (λ (l : List ℕ). flat_map (turn_rows r) l) (turns-no r w n other)))
    (cases_Bool (is_turn_of r w n)) in
    ap (λ k. of_worker (run_until r k) w) {x = suc n} {y = n + 1} (omega arith) ∙ step ∙ ap (λ k. flat_map (turn_rows r) (turns_before r w k)) {x = n + 1} {y = suc n} (omega arith)
