-- The last uses of nodes, as they are noted from the root on.
use Rattle.std.proofs.Common.{◌≡◌, ◌∙◌, ◌+◌, ◌<◌, ◌≤◌, ◌&&◌, ℕ, zero, suc, List, [], ◌∷◌, ◌++◌, length, Bool, true, false, get_or, replicate, Some, refl, arith, inl, inr}
use Rattle.std.specs.Prelude.{nat_lt, slice_get}
use Rattle.std.specs.List.{All, list_all}
use Rattle.std.proofs.lemmas.List.Elements.{All-cons, All-head, All-nil, All-tail, All-weaker}
use mathlib.Core.Logic.{◌⊎◌}
use Rattle.std.proofs.lemmas.Bool.{and_parts, cases_lt, lt-ltb}
use Rattle.std.proofs.lemmas.Grind.{common_steps}
use Rattle.pipe_exprs.specs.declared.expression.Node.{Node}
use Rattle.pipe_exprs.specs.declared.expression.AExpr.{AExpr}
use Rattle.pipe_exprs.specs.Trees.{IsArena, arena_from, children, children_below}
use Rattle.pipe_exprs.specs.Uses.{AreLastUses, noted, noted_all}

-- each expression of an arena names nodes before its own alone
below_from : (n : ℕ) (es : List AExpr) (i : ℕ) (e : AExpr) → arena_from n es ≡ true → slice_get es i ≡ Some e → children_below (n + i) e ≡ true
below_from n [] i e is at = cc at
below_from n (x ∷ es) zero e is at =
    let same : x ≡ e = cc at in
    let there : n + zero ≡ n = omega arith in
    rw (there, ← same) (and_parts (children_below n x) (arena_from (n + 1) es) is).0
below_from n (x ∷ es) (suc i) e is at =
    let there : n + suc i ≡ (n + 1) + i = omega arith in
    rw there (below_from (n + 1) es i e (and_parts (children_below n x) (arena_from (n + 1) es) is).1 at)

pub below : (es : List AExpr) (i : ℕ) (e : AExpr) → IsArena es → slice_get es i ≡ Some e → children_below i e ≡ true
below es i e is at =
    let there : zero + i ≡ i = omega arith in
    rw (← there) (below_from zero es i e is at)

-- a test of children that passes below a number
abbrev pub AreBelow : ℕ → List Node → Type 0
AreBelow n nodes = All (λ c. c.0 < n) nodes

-- ---- one node

noted-length : (user : ℕ) (us : List ℕ) (n : Node) → length (noted user us n) ≡ length us
noted-length user us n = grind (arith, common_steps)

noted-grows : (user : ℕ) (us : List ℕ) (n : Node) (k : ℕ) → get_or us k 0 ≤ get_or (noted user us n) k 0
noted-grows user us n k = grind (arith, common_steps)

noted-here : (user : ℕ) (us : List ℕ) (n : Node) → n.0 < length us → user ≤ get_or (noted user us n) n.0 0
noted-here user us n h = grind (arith, common_steps)

noted-above : (user : ℕ) (us : List ℕ) (n : Node) (k : ℕ) → n.0 < k → get_or (noted user us n) k 0 ≡ get_or us k 0
noted-above user us n k h = grind (arith, common_steps)

noted-from : (test : ℕ → Bool) (user : ℕ) (us : List ℕ) (n : Node) (k : ℕ) → test n.0 ≡ true → (0 < get_or us k 0 → test k ≡ true) → 0 < get_or (noted user us n) k 0 → test k ≡ true
noted-from test user us n k t old h = grind (arith, common_steps)

-- ---- the nodes that an expression names

pub all_noted-length : (user : ℕ) (us : List ℕ) (ns : List Node) → length (noted_all user us ns) ≡ length us
all_noted-length user us [] = refl
all_noted-length user us (n ∷ ns) = all_noted-length user (noted user us n) ns ∙ noted-length user us n

pub all_noted-grows : (user : ℕ) (us : List ℕ) (ns : List Node) (k : ℕ) → get_or us k 0 ≤ get_or (noted_all user us ns) k 0
all_noted-grows user us [] k = omega arith
all_noted-grows user us (n ∷ ns) k = omega (arith, all_noted-grows user (noted user us n) ns k, noted-grows user us n k)

pub all_noted-here : (user : ℕ) (us : List ℕ) (ns : List Node) → AreBelow (length us) ns → All (λ c. user ≤ get_or (noted_all user us ns) c.0 0) ns
all_noted-here user us [] h = All-nil (λ (c : Node). user ≤ get_or us c.0 0)
all_noted-here user us (n ∷ ns) h =
    let after : List ℕ = noted_all user (noted user us n) ns in
    let P : Node → Type 0 = λ c. user ≤ get_or after c.0 0 in
    let low : Node → Type 0 = λ c. c.0 < length us in
    let here : P n = omega (arith, all_noted-grows user (noted user us n) ns n.0, noted-here user us n (All-head low n ns h)) in
    let rest : AreBelow (length (noted user us n)) ns = rw (noted-length user us n) (All-tail low n ns h) in
    All-cons P n ns here (all_noted-here user (noted user us n) ns rest)

pub all_noted-above : (user : ℕ) (us : List ℕ) (ns : List Node) (k : ℕ) → user ≤ k → AreBelow user ns → get_or (noted_all user us ns) k 0 ≡ get_or us k 0
all_noted-above user us [] k le h = refl
all_noted-above user us (n ∷ ns) k le h =
    let low : Node → Type 0 = λ c. c.0 < user in
    let here : n.0 < user = All-head low n ns h in
    all_noted-above user (noted user us n) ns k le (All-tail low n ns h) ∙ noted-above user us n k (omega arith)

pub all_noted-from : (test : ℕ → Bool) (user : ℕ) (us : List ℕ) (ns : List Node) (k : ℕ) → All (λ c. test c.0 ≡ true) ns → (0 < get_or us k 0 → test k ≡ true) → 0 < get_or (noted_all user us ns) k 0 → test k ≡ true
all_noted-from test user us [] k h old now = old now
all_noted-from test user us (n ∷ ns) k h old now =
    let T : Node → Type 0 = λ c. test c.0 ≡ true in
    all_noted-from test user (noted user us n) ns k (All-tail T n ns h) (noted-from test user us n k (All-head T n ns h) old) now

-- ---- all nodes

below-all : (n : ℕ) (ns : List Node) → list_all (λ c. nat_lt c.0 n) ns ≡ true → AreBelow n ns
below-all n [] h = All-nil (λ (c : Node). c.0 < n)
below-all n (c ∷ cs) h =
    let parts = and_parts (nat_lt c.0 n) (list_all (λ c. nat_lt c.0 n) cs) h in
    let here : c.0 < n = grind (arith, parts.0) in
    All-cons (λ (c : Node). c.0 < n) c cs here (below-all n cs parts.1)

pub children_are_below : (es : List AExpr) (i : ℕ) (e : AExpr) → IsArena es → slice_get es i ≡ Some e → AreBelow i (children e)
children_are_below es i e is at = below-all i (children e) (below es i e is at)

-- the root alone is used at first
pub first_uses : (es : List AExpr) (root : Node) (end from : ℕ) (us : List ℕ) → us ≡ replicate root.0 0 ++ (end ∷ []) → root.0 < end → root.0 + 1 ≤ from → AreLastUses es root from us
first_uses es root end from us is h le =
    let size : length us ≡ root.0 + 1 = rw is (grind (arith, common_steps)) in
    let here : get_or us root.0 0 ≡ end = rw is (grind (arith, common_steps)) in
    let before : (k : ℕ) → k < root.0 → get_or us k 0 ≡ 0 = λ k l. rw is (grind (arith, common_steps)) in
    let past : (k : ℕ) → root.0 < k → get_or us k 0 ≡ 0 = λ k l. grind (arith, common_steps, size) in
    record {
      size = size;
      last = omega (arith, here);
      named = λ k e l at used. absurd (omega (arith, past k (omega arith)));
      reached = λ test spreads k used. rw (root_alone root.0 k us used before past) spreads.begins;
    } where
      root_alone : (r k : ℕ) (us : List ℕ) → 0 < get_or us k 0 → ((k : ℕ) → k < r → get_or us k 0 ≡ 0) → ((k : ℕ) → r < k → get_or us k 0 ≡ 0) → k ≡ r
      root_alone r k us used before past = by_order (cases_lt k r) (cases_lt r k) where
        by_order : (k < r) ⊎ (r ≤ k) → (r < k) ⊎ (k ≤ r) → k ≡ r
        by_order (inl l) m = absurd (omega (arith, before k l))
        by_order (inr l) (inl m) = absurd (omega (arith, past k m))
        by_order (inr l) (inr m) = omega arith

-- a node that is not reached uses none
pub unused : (es : List AExpr) (root : Node) (i : ℕ) (us : List ℕ) → get_or us i 0 ≡ 0 → AreLastUses es root (i + 1) us → AreLastUses es root i us
unused es root i us none h = record {
  size = h.size;
  last = h.last;
  named = λ k e l at used. h.named k e (apart k l used) at used;
  reached = h.reached;
} where
  apart : (k : ℕ) → i ≤ k → 0 < get_or us k 0 → i + 1 ≤ k
  apart k l used = by_order (cases_lt i k) where
    by_order : (i < k) ⊎ (k ≤ i) → i + 1 ≤ k
    by_order (inl m) = omega arith
    by_order (inr m) =
        let same : k ≡ i = omega arith in
        absurd (omega (arith, rw same at used))

-- the last uses of what earlier and later nodes name
named_now : (es : List AExpr) (root : Node) (i : ℕ) (e : AExpr) (us : List ℕ) → slice_get es i ≡ Some e → AreBelow i (children e) → i ≤ length us → AreLastUses es root (i + 1) us
    → (k : ℕ) (x : AExpr) → i ≤ k → slice_get es k ≡ Some x → 0 < get_or (noted_all i us (children e)) k 0 → All (λ c. k ≤ get_or (noted_all i us (children e)) c.0 0) (children x)
named_now es root i e us at low le h k x l there used = by_order (cases_lt i k) where
  now : List ℕ
  now = noted_all i us (children e)

  by_order : (i < k) ⊎ (k ≤ i) → All (λ c. k ≤ get_or (noted_all i us (children e)) c.0 0) (children x)
  by_order (inl m) =
      let P : Node → Type 0 = λ c. k ≤ get_or us c.0 0 in
      let Q : Node → Type 0 = λ c. k ≤ get_or (noted_all i us (children e)) c.0 0 in
      let before : 0 < get_or us k 0 = rw (← all_noted-above i us (children e) k l low) used in
      All-weaker P Q (λ c p. omega (arith, p, all_noted-grows i us (children e) c.0)) (children x) (h.named k x (omega arith) there before)
  by_order (inr m) =
      let same : k ≡ i = omega arith in
      let one : x ≡ e = cc (rw same at there, at) in
      let L : Node → Type 0 = λ c. c.0 < i in
      let M : Node → Type 0 = λ c. c.0 < length us in
      rw (same, one) (all_noted-here i us (children e) (All-weaker L M (λ c p. omega (arith, p, le)) (children e) low))

-- a node that is reached uses those that it names
pub used : (es : List AExpr) (root : Node) (i : ℕ) (e : AExpr) (us : List ℕ) → IsArena es → slice_get es i ≡ Some e → 0 < get_or us i 0 → i ≤ length us
    → AreLastUses es root (i + 1) us → AreLastUses es root i (noted_all i us (children e))
used es root i e us is at reached le h =
    let ns : List Node = children e in
    let low : AreBelow i ns = children_are_below es i e is at in
    record {
      size = all_noted-length i us ns ∙ h.size;
      last = omega (arith, h.last, all_noted-grows i us ns root.0);
      named = named_now es root i e us at low le h;
      reached = λ test spreads k used. all_noted-from test i us ns k (spreads.named i e at (h.reached test spreads i reached)) (h.reached test spreads k) used;
    }

both : (a b : Bool) → a ≡ true → b ≡ true → (a && b) ≡ true
both true b e h = h
both false b e h = cc e

below_wider : (i n : ℕ) (ns : List Node) → i ≤ n → list_all (λ c. nat_lt c.0 i) ns ≡ true → list_all (λ c. nat_lt c.0 n) ns ≡ true
below_wider i n [] le h = refl
below_wider i n (c ∷ cs) le h =
    let parts = and_parts (nat_lt c.0 i) (list_all (λ c. nat_lt c.0 i) cs) h in
    let here : c.0 < i = grind (arith, parts.0) in
    both (nat_lt c.0 n) (list_all (λ c. nat_lt c.0 n) cs) (lt-ltb c.0 n (omega arith)) (below_wider i n cs le parts.1)

-- what an expression names is there, where its own place is
pub there : (es : List AExpr) (i n : ℕ) (e : AExpr) → IsArena es → slice_get es i ≡ Some e → i ≤ n → children_below n e ≡ true
there es i n e is at le = below_wider i n (children e) le (below es i e is at)

-- one more node is seen to
pub one_more : (es : List AExpr) (root : Node) (i from : ℕ) (us : List ℕ) → from ≡ i → AreLastUses es root from us → AreLastUses es root i us
one_more es root i from us e h = rw (← e) h
