use Rattle.std.proofs.Common.{◌≡◌, ◌∙◌, ℕ, Bool, true, false, List, [], ◌∷◌, Option, Some, option_map, if◌then◌else◌, refl, sym, ap}
use Rattle.std.specs.Prelude.{bytes_eq, map}
use Rattle.pipe_query.specs.JsonNames.{named}
use Rattle.pipe_query.specs.OverNames.{form_over, over_named, overs}
use Rattle.pipe_query.specs.declared.json_names.Form.{Form}
use Rattle.pipe_query.specs.declared.json_names.Form.TheVariants as form
use Rattle.pipe_query.specs.declared.json_names.Over.{Over}
use Rattle.pipe_query.proofs.json_names.form_over.Goals as goal

-- one entry of a table before the others
one-more : (b : Bool) (o : Over) (rest : Option Over) (more : Option Form) → option_map form.Of rest ≡ more
    → option_map form.Of (if b then Some o else rest) ≡ (if b then Some (form.Of o) else more)
one-more true o rest more e = refl
one-more false o rest more e = e

-- a table of what is made has the same names
named-over : (table : List (List ℕ × Over)) (name : List ℕ) → option_map form.Of (named table name) ≡ named (map (λ entry. (entry.0, form.Of entry.1)) table) name
named-over [] name = refl
named-over (entry ∷ table) name = one-more (bytes_eq name entry.0) entry.1 (named table name) _ (named-over table name)

-- the names of forms that are made so
same : (name : List ℕ) → option_map form.Of (over_named name) ≡ form_over name
same name = named-over overs name

pub returns-in-Some : goal.returns-in-Some
returns-in-Some c = ap (option_map form.Of) (sym c.in-Some.is ∙ c.over_named.ensures) ∙ same c.args.name.now

pub returns-in-None : goal.returns-in-None
returns-in-None c = ap (option_map form.Of) (sym c.in-None.is ∙ c.over_named.ensures) ∙ same c.args.name.now
