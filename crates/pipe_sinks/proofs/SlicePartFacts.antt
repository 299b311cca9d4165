-- The parts of a slice, list by list.
use Rattle.std.proofs.Common.{◌≡◌, ◌∙◌, ℕ, ◌+◌, ◌<◌, List, [], ◌∷◌, ◌++◌, Option, length, drop, get_or, sym, ap}
use Rattle.std.proofs.lemmas.List.{append_assoc, append-nil, drop_more}
use Rattle.pipe_groups.specs.Given.{slice_after}
use Rattle.pipe_sinks.specs.Slices.{part_in, parts_of}

-- some parts are there, and with those of the rest they are all
abbrev pub Parting : List ℕ → Option (ℕ × ℕ) → List (Option (ℕ × ℕ)) → Option (ℕ × ℕ) → ℕ → Type 0
Parting lens slice parts left i = parts ++ parts_of (drop i lens) left ≡ parts_of lens slice

-- one list more
pub parting-next : (lens : List ℕ) (slice : Option (ℕ × ℕ)) (parts more : List (Option (ℕ × ℕ))) (left next : Option (ℕ × ℕ)) (i len : ℕ) (part : Option (ℕ × ℕ))
    → Parting lens slice parts left i → i < length lens → len ≡ get_or lens i 0 → part ≡ part_in len left → next ≡ slice_after len left → more ≡ parts ++ part ∷ []
    → Parting lens slice more next (i + 1)
parting-next lens slice parts more left next i len part h lt is part_is next_is more_is =
    let rest : drop i lens ≡ len ∷ drop (i + 1) lens = drop_more lens i 0 lt ∙ ap (λ (x : ℕ). x ∷ drop (i + 1) lens) (sym is) in
    rw (more_is, part_is, next_is) (append_assoc parts (part_in len left ∷ []) (parts_of (drop (i + 1) lens) (slice_after len left)))
    ∙ ap (λ (l : List ℕ). parts ++ parts_of l left) (sym rest) ∙ h

-- all lists
pub parting-end : (lens : List ℕ) (slice : Option (ℕ × ℕ)) (parts : List (Option (ℕ × ℕ))) (left : Option (ℕ × ℕ)) (i : ℕ) → Parting lens slice parts left i → drop i lens ≡ []
    → parts ≡ parts_of lens slice
parting-end lens slice parts left i h e =
    sym (append-nil parts) ∙ ap (λ (l : List ℕ). parts ++ parts_of l left) (sym e) ∙ h
