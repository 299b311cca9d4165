-- Room for more groups.
use Rattle.std.proofs.Common.{◌≡◌, ℕ, ◌-◌, ◌≤◌, length, sym, subst, arith, vec_capacity}
use Rattle.std.proofs.Math.Nat.{mul-le-mul_right}
use Rattle.pipe_groups.specs.declared.groups.Groups.TheInside.{Inside}
use Rattle.pipe_groups.specs.Groups.{Covers, KeepsRoom, Seen}
use Rattle.pipe_groups.specs.Layout.{lesser, view_of}

-- what is no more than two numbers is no more than the lesser one
lesser-of : (n a b : ℕ) → n ≤ a → n ≤ b → n ≤ lesser a b
lesser-of n a b h k = omega (arith, h, k)

-- and so for the other way
of-lesser : (n a b : ℕ) → n ≤ lesser a b → (n ≤ a) × (n ≤ b)
of-lesser n a b h = (omega (arith, h), omega (arith, h))

-- what is covered fits into each
pub covered-parts : (a : Inside) (t : Seen) (g kb : ℕ) → view_of a ≡ t → Covers t g kb
    → (g ≤ vec_capacity a.entries - length a.entries.items) × (g ≤ a.states.room) × (kb ≤ vec_capacity a.bytes - length a.bytes.items)
covered-parts a t g kb view_is h =
    let w : Covers (view_of a) g kb = subst (λ (s : Seen). Covers s g kb) (sym view_is) h in
    let both = of-lesser g (vec_capacity a.entries - length a.entries.items) a.states.room w.0 in
    (both.0, both.1, w.2)

-- and what fits into each is covered
pub parts-covered : (b : Inside) (g kb : ℕ) → g ≤ vec_capacity b.entries - length b.entries.items → g ≤ b.states.room → kb ≤ vec_capacity b.bytes - length b.bytes.items → Covers (view_of b) g kb
parts-covered b g kb e s k = (lesser-of g (vec_capacity b.entries - length b.entries.items) b.states.room e s, mul-le-mul_right {m = g} {n = b.states.room} (length b.prototypes.items) s, k)

-- where there is no less memory for each, no room is lost
pub room-kept : (a b : Inside) (t : Seen) → view_of a ≡ t → vec_capacity a.entries - length a.entries.items ≤ vec_capacity b.entries - length b.entries.items → a.states.room ≤ b.states.room
    → vec_capacity a.bytes - length a.bytes.items ≤ vec_capacity b.bytes - length b.bytes.items → KeepsRoom t (view_of b)
room-kept a b t view_is e s k = λ g kb h.
    let parts = covered-parts a t g kb view_is h in
    parts-covered b g kb (omega (arith, parts.0, e)) (omega (arith, parts.1, s)) (omega (arith, parts.2, k))
