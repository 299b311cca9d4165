-- Where the group of a row stands that was taken in.
use Rattle.std.proofs.Common.{◌≡◌, ◌∙◌, ℕ, List, [], ◌∷◌, ◌++◌, length, set, refl, get_or-set_same, sym, ap, subst, arith}
use Rattle.std.proofs.lemmas.List.{get_or_push, length_push, length-set}
use Rattle.pipe_groups.specs.Groups.{Group, group_of, no_group}
use Rattle.pipe_keyed.specs.Keyed.{IsAt}
use Rattle.pipe_tables.specs.declared.beside.LentAt.{LentAt}
use Rattle.pipe_tables.specs.declared.beside.LentAt.TheVariants.{Done}

-- an end tells one index
pub same_index : (gs : List Group) (key : List ℕ) (i j : ℕ) → Done i ≡ Done j → IsAt gs key i → IsAt gs key j
same_index gs key i j e at = let same : i ≡ j = cc in subst (IsAt gs key) same at

-- a group that is put in the place of one of its key stands there
pub at-set : (gs : List Group) (key : List ℕ) (i : ℕ) (g : Group) → IsAt gs key i → g.key ≡ (group_of gs i).key → (new : List Group) → new ≡ set gs i g → IsAt new key i
at-set gs key i g at same new e =
    let here : group_of (set gs i g) i ≡ g = get_or-set_same gs i g no_group at.0 in
    subst (λ (l : List Group). IsAt l key i) (sym e) (omega (arith, at.0, length-set gs i g), ap (λ (x : Group). x.key) here ∙ same ∙ at.1)

-- one behind all others stands there
pub at-last : (gs new : List Group) (key : List ℕ) (i : ℕ) (g : Group) → g.key ≡ key → new ≡ gs ++ g ∷ [] → i ≡ length gs → IsAt new key i
at-last gs new key i g is e at =
    subst (λ (l : List Group). IsAt l key i) (sym e)
    (omega (arith, at, length_push gs g), ap (λ (n : ℕ). (group_of (gs ++ g ∷ []) n).key) at ∙ ap (λ (x : Group). x.key) (get_or_push gs g no_group (length gs) refl) ∙ is)
