-- Where the stores of a run lie, one after another.
use Rattle.std.proofs.Common.{◌≡◌, ◌∙◌, ◌+◌, ◌++◌, ℕ, List, [], ◌∷◌, Option, add-one, ap, append-nil, append_assoc, sym}
use Rattle.tool_stores.specs.StorePath.{store_path, store_paths}

-- one store more at its path
pub paths-more : (folder : Option (List ℕ)) (partition : ℕ) (first before now : List (Option (List ℕ))) (path : Option (List ℕ))
    → before ≡ first ++ store_paths folder partition → path ≡ store_path folder partition → now ≡ before ++ path ∷ []
    → now ≡ first ++ store_paths folder (partition + 1)
paths-more folder partition first before now path were at is =
    let one : List (Option (List ℕ)) = store_path folder partition ∷ [] in
    is ∙ (λ i. were i ++ at i ∷ []) ∙ append_assoc first (store_paths folder partition) one ∙ ap (λ n. first ++ store_paths folder n) (sym (add-one partition))

-- none yet
pub paths-none : (folder : Option (List ℕ)) (first : List (Option (List ℕ))) → first ≡ first ++ store_paths folder 0
paths-none folder first = sym (append-nil first)
