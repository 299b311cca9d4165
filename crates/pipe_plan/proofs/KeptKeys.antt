-- The keys that a generic worker holds, row by row.
use Rattle.std.proofs.Common.{◌≡◌, ℕ, ◌+◌, ◌<◌, ◌≤◌, true, false, ◌||◌, List, [], ◌∷◌, ◌++◌, length, ap, sym, ◌∙◌, subst, arith}
use Rattle.std.specs.Prelude.{if◌then◌else◌, nat_le, nat_lt}
use Rattle.std.specs.Set.{is_member}
use Rattle.std.proofs.lemmas.Bool.Decides.{nat_tests}
use Rattle.std.proofs.lemmas.List.{map-append}
use Rattle.pipe_columns.specs.declared.any_value.AnyValue.{AnyValue}
use Rattle.pipe_columns.specs.Row.{Row}
use Rattle.pipe_model.specs.Rows.{keys_of}
use Rattle.pipe_plan.specs.declared.limits.Limits.{Limits}
use Rattle.pipe_plan.specs.Kept.{distinct, first_distinct, is_kept, kept_keys, same_key}
use Rattle.pipe_plan.specs.Progress.{IsAtRow}
use Rattle.pipe_plan.specs.Run.{is_generic, Run, Spills}
use Rattle.pipe_plan.proofs.AtRow.{kept-row}
use Rattle.pipe_plan.proofs.Keeping.{full_or_all, held-full, held-known, held-new, length-first}
use Rattle.pipe_plan.proofs.Longer.{keys_exact}

-- the keys held are the first distinct ones
held-are : (l : Limits) (rows : List Row) → is_generic l.sink ≡ true → kept_keys l rows ≡ first_distinct same_key (l.spill_size + 1) (keys_of rows)
held-are l rows generic = ap (λ b. if b then first_distinct same_key (l.spill_size + 1) (keys_of rows) else distinct same_key (keys_of rows)) generic

-- with one row more
one-more : (l : Limits) (taken : List Row) (x : Row) → is_generic l.sink ≡ true → kept_keys l (taken ++ x ∷ []) ≡ first_distinct same_key (l.spill_size + 1) (keys_of taken ++ x.key ∷ [])
one-more l taken x generic = held-are l (taken ++ x ∷ []) generic ∙ ap (λ (ks : List (List AnyValue)). first_distinct same_key (l.spill_size + 1) ks) (map-append (λ (x : Row). x.key) taken (x ∷ []))

-- a key that is held changes nothing
pub kept-known : (l : Limits) (taken : List Row) (x : Row) → is_generic l.sink ≡ true → is_member same_key (kept_keys l taken) x.key ≡ true → kept_keys l (taken ++ x ∷ []) ≡ kept_keys l taken
kept-known l taken x generic held =
    let are = held-are l taken generic in
    one-more l taken x generic
    ∙ held-known same_key keys_exact (l.spill_size + 1) (keys_of taken) x.key (sym (ap (λ (ks : List (List AnyValue)). is_member same_key ks x.key) are) ∙ held)
    ∙ sym are

-- another one is held where there is room
pub kept-new : (l : Limits) (taken : List Row) (x : Row) → is_generic l.sink ≡ true → is_member same_key (kept_keys l taken) x.key ≡ false → length (kept_keys l taken) ≤ l.spill_size
    → kept_keys l (taken ++ x ∷ []) ≡ kept_keys l taken ++ x.key ∷ []
kept-new l taken x generic new room =
    let are = held-are l taken generic in
    one-more l taken x generic
    ∙ held-new same_key keys_exact (l.spill_size + 1) (keys_of taken) x.key (sym (ap (λ (ks : List (List AnyValue)). is_member same_key ks x.key) are) ∙ new)
    (omega (arith, room, ap (λ (ks : List (List AnyValue)). length ks) are))
    ∙ ap (λ (ks : List (List AnyValue)). ks ++ x.key ∷ []) (sym are)

-- and not where there is none
pub kept-full : (l : Limits) (taken : List Row) (x : Row) → is_generic l.sink ≡ true → l.spill_size < length (kept_keys l taken) → kept_keys l (taken ++ x ∷ []) ≡ kept_keys l taken
kept-full l taken x generic full =
    let n = l.spill_size + 1 in
    let are = held-are l taken generic in
    one-more l taken x generic
    ∙ held-full same_key n (keys_of taken) (x.key ∷ []) (full_or_all same_key n (keys_of taken) (omega (arith, full, ap (λ (ks : List (List AnyValue)). length ks) are)))
    ∙ sym are

-- no more than one above spill_size are held
pub kept-most : (l : Limits) (taken : List Row) → is_generic l.sink ≡ true → length (kept_keys l taken) ≤ l.spill_size + 1
kept-most l taken generic = omega (arith, ap (λ (ks : List (List AnyValue)). length ks) (held-are l taken generic), length-first same_key (l.spill_size + 1) (keys_of taken))

-- whether a key is kept shows as its row comes
pub kept-at-once : (r : Run) (w i : ℕ) (taken : List Row) (x : Row) → Spills r → IsAtRow r w i taken x
    → is_kept r w x ≡ (is_member same_key (kept_keys r.limits taken) x.key || nat_le (length (kept_keys r.limits taken)) r.limits.spill_size)
kept-at-once r w i taken x spills at =
    kept-row r w i taken x at spills.generic
    ∙ ap (λ b. is_member same_key (kept_keys r.limits taken) x.key || b) (at_most (length (kept_keys r.limits taken)) r.limits.spill_size)
  where
    at_most : (a b : ℕ) → nat_lt a (b + 1) ≡ nat_le a b
    at_most a b = grind (arith, nat_tests)

-- keys are one exactly where they are equal
pub keys-equal : (a b : List AnyValue) → (same_key a b ≡ true → a ≡ b) × (a ≡ b → same_key a b ≡ true)
keys-equal a b = (keys_exact.apart a b, λ is. subst (λ (k : List AnyValue). same_key a k ≡ true) is (keys_exact.itself a))
