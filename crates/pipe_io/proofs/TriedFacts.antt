-- Names that are tried one after another.
use Rattle.std.proofs.Common.{◌≡◌, ◌∙◌, ◌<◌, ◌+◌, ℕ, List, [], ◌∷◌, ◌++◌, length, drop, get_or, refl, sym, ap, append_assoc}
use Rattle.std.proofs.lemmas.List.{append-nil, drop_more}
use Rattle.pipe_io.specs.Tried.{AreTried, TriedFront}

-- names of files
abbrev Names : Type 0
Names = List (List ℕ)

-- none is tried yet
pub tried-none : (before now names : Names) → now ≡ before → AreTried before now names names
tried-none before now names same = record { some = []; more = same ∙ sym (append-nil before); front = refl }

-- so none of the first is
pub front-none : (before now names : Names) → now ≡ before → TriedFront before now names
front-none before now names same = (names, tried-none before now names same)

-- some are tried, and then more
pub tried-then : (a b c names mid left : Names) → AreTried a b names mid → AreTried b c mid left → AreTried a c names left
tried-then a b c names mid left one two = record {
  some = one.some ++ two.some;
  more = two.more ∙ ap (λ (t : Names). t ++ two.some) one.more ∙ append_assoc a one.some two.some;
  front = one.front ∙ ap (λ (t : Names). one.some ++ t) two.front ∙ sym (append_assoc one.some two.some left);
}

pub front-then : (a b c names mid : Names) → AreTried a b names mid → TriedFront b c mid → TriedFront a c names
front-then a b c names mid one two = (two.0, tried-then a b c names mid two.0 one two.1)

-- the first name is tried
pub tried-one : (before now : Names) (name : List ℕ) (left : Names) → now ≡ before ++ name ∷ [] → AreTried before now (name ∷ left) left
tried-one before now name left more = record { some = name ∷ []; more = more; front = refl }

-- the next of a list from a place on
pub tried-next : (before now all : Names) (i : ℕ) (name : List ℕ) → i < length all → get_or all i [] ≡ name → now ≡ before ++ name ∷ [] → AreTried before now (drop i all) (drop (i + 1) all)
tried-next before now all i name within is more =
    let split : drop i all ≡ name ∷ drop (i + 1) all = drop_more all i [] within ∙ ap (λ (n : List ℕ). n ∷ drop (i + 1) all) is in
    record { some = name ∷ []; more = more; front = split }

-- a name more, behind those that were tried
pub tried-more : (a b c names all : Names) (i : ℕ) (name : List ℕ) → AreTried a b names (drop i all) → i < length all → get_or all i [] ≡ name → c ≡ b ++ name ∷ [] → AreTried a c names (drop (i + 1) all)
tried-more a b c names all i name one within is more = tried-then a b c names (drop i all) (drop (i + 1) all) one (tried-next b c all i name within is more)
