-- An arena with one more expression.
use Rattle.std.proofs.Common.{◌≡◌, ◌+◌, ◌&&◌, ℕ, List, [], ◌∷◌, ◌++◌, length, Bool, true, false, if◌then◌else◌, refl, arith, add-zero}
use Rattle.std.proofs.lemmas.Bool.{and_parts}
use Rattle.std.proofs.lemmas.List.Elements.{All-push}
use Rattle.pipe_exprs.specs.declared.expression.AExpr.{AExpr}
use Rattle.pipe_exprs.specs.Literals.{HasUtf8Literal, HaveUtf8Literals}
use Rattle.pipe_exprs.specs.Trees.{IsArena, arena_from, children_below}

-- expressions from a place on are an arena, and so they are with one that names only nodes below it
arena_added : (n : ℕ) (es : List AExpr) (e : AExpr)
    → arena_from n es ≡ true → children_below (n + length es) e ≡ true → arena_from n (es ++ (e ∷ [])) ≡ true
arena_added n [] e h c =
    let here : children_below n e ≡ true = rw add-zero at c in
    rw here refl
arena_added n (x ∷ es) e h c =
    let both = and_parts (children_below n x) (arena_from (n + 1) es) h in
    let size : n + length (x ∷ es) ≡ (n + 1) + length es = omega arith in
    rw (both.0) (arena_added (n + 1) es e both.1 (rw (← size) c))

-- what a push leaves is an arena
pub arena_pushed : (b : Bool) (es new : List AExpr) (e : AExpr)
    → new ≡ (if b then es ++ (e ∷ []) else es) → IsArena es → children_below (length es) e ≡ true → IsArena new
arena_pushed true es new e is h c =
    rw is (arena_added 0 es e h (let zero_more : 0 + length es ≡ length es = omega arith in rw zero_more c))
arena_pushed false es new e is h c = rw is h

-- its literals are in UTF-8
pub literals_pushed : (b : Bool) (es new : List AExpr) (e : AExpr)
    → new ≡ (if b then es ++ (e ∷ []) else es) → HaveUtf8Literals es → HasUtf8Literal e → HaveUtf8Literals new
literals_pushed true es new e is h l = rw is (All-push HasUtf8Literal es e h l)
literals_pushed false es new e is h l = rw is h
