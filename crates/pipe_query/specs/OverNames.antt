-- Of the proofs alone: the names of what is made of one expression.
use Rattle.std.specs.Prelude.{ℕ, List, [], ◌∷◌, codes, map, Option}
use Rattle.pipe_query.specs.JsonNames.{named}
use Rattle.pipe_query.specs.declared.json_names.Form.{Form}
use Rattle.pipe_query.specs.declared.json_names.Form.TheVariants as form
use Rattle.pipe_query.specs.declared.json_names.Over.{Over}
use Rattle.pipe_query.specs.declared.json_names.Over.TheVariants as over

-- what is made, by its name
abbrev pub overs : List (List ℕ × Over)
overs =
    (codes "sum", over.Sum) ∷ (codes "first", over.First) ∷ (codes "last", over.Last)
    ∷ (codes "mean", over.Mean) ∷ (codes "min", over.Min) ∷ (codes "max", over.Max)
    ∷ (codes "count", over.Count) ∷ (codes "count_all", over.CountAll)
    ∷ (codes "median", over.Median) ∷ (codes "n_unique", over.NUnique)
    ∷ (codes "sort", over.Sort) ∷ []

-- what a name makes
abbrev pub over_named : List ℕ → Option Over
over_named = named overs

-- the form of such a name
abbrev pub form_over : List ℕ → Option Form
form_over = named (map (λ entry. (entry.0, form.Of entry.1)) overs)
