use Rattle.std.proofs.Common.{rules, arith, ◌≡◌, ◌∙◌, ◌<◌, ◌≤◌, ◌||◌, ℕ, false, not, List, length, get_or, sym, ap, subst}
use Rattle.pipe_states.specs.Ranges.{share_number}
use Rattle.pipe_regroup.specs.declared.ranges.Range.{Range}
use Rattle.pipe_regroup.specs.Spread.{AreSpread, meets}
use Rattle.pipe_regroup.proofs.RangeOrder.{meets-no_range, meets-none, meets-range, numbers-insert, spread-insert}
use Rattle.pipe_regroup.proofs.ranges.Ranges.add.Goals as goal

pub returns-then-first-end-clause-free : goal.returns-then-first-end-clause-free
returns-then-first-end-clause-free c =
    sym (ap not (subst (λ (e : ℕ). meets c.args.self.now c.args.first e ≡ false) c.if-first-end.true (meets-none c.args.self.now c.args.first)))

pub returns-then-begins_before-clause-free : goal.returns-then-begins_before-clause-free
returns-then-begins_before-clause-free c =
    let xs : List Range = c.self.inside.items.items in
    let i = c.count_before-place.result in
    let found = subst (λ (l : List Range). (i < length l) × ((d : Range) → (get_or l i d).first < c.args.end)) c.deref-2.ensures.value (c.begins_before.ensures.yes c.if-begins_before.true) in
    let behind = subst (λ (l : List Range). (d : Range) → i < length l → c.args.first < (get_or l i d).end) c.deref.ensures.value c.count_before-place.ensures.behind in
    let some : c.args.first < c.args.end = search (rules, arith) in
    sym (ap not (ap (λ (l : List Range). meets l c.args.first c.args.end) (sym c.self.view_is) ∙ meets-range 0 xs i c.args.first c.args.end c.self.invariant found.0 behind found.1 some))

pub invariant_of-self-2 : goal.invariant_of-self-2
invariant_of-self-2 c =
    let xs : List Range = c.self.inside.items.items in
    let i = c.count_before-place.result in
    let some : c.args.first < c.args.end = search (rules, arith) in
    let within = subst (λ (l : List Range). i ≤ length l) c.deref.ensures.value c.count_before-place.ensures.bound in
    let before = subst (λ (l : List Range). (k : ℕ) (d : Range) → k < i → k < length l → (get_or l k d).end ≤ c.args.first) c.deref.ensures.value c.count_before-place.ensures.before in
    let behind = subst (λ (l : List Range). (d : Range) → i < length l → c.args.end ≤ (get_or l i d).first) c.deref-2.ensures.value (c.begins_before.ensures.no c.if-begins_before.false) in
    subst (AreSpread 0) (sym c.in_ok-insert.ensures.items) (spread-insert 0 xs i (record { first = c.args.first; end = c.args.end }) c.self.invariant (omega arith) some within before behind)

pub returns-clause-free : goal.returns-clause-free
returns-clause-free c =
    let xs : List Range = c.self.inside.items.items in
    let i = c.count_before-place.result in
    let before = subst (λ (l : List Range). (k : ℕ) (d : Range) → k < i → k < length l → (get_or l k d).end ≤ c.args.first) c.deref.ensures.value c.count_before-place.ensures.before in
    let behind = subst (λ (l : List Range). (d : Range) → i < length l → c.args.end ≤ (get_or l i d).first) c.deref-2.ensures.value (c.begins_before.ensures.no c.if-begins_before.false) in
    sym (ap not (ap (λ (l : List Range). meets l c.args.first c.args.end) (sym c.self.view_is) ∙ meets-no_range 0 xs i c.args.first c.args.end c.self.invariant before behind))

pub returns-clause-added : goal.returns-clause-added
returns-clause-added c = λ yes f e.
    let xs : List Range = c.self.inside.items.items in
    let r : Range = record { first = c.args.first; end = c.args.end } in
    ap (λ (l : List Range). meets l f e) c.in_ok-insert.ensures.items
    ∙ numbers-insert xs c.count_before-place.result r f e
    ∙ ap (λ (l : List Range). share_number c.args.first c.args.end f e || meets l f e) c.self.view_is
