use Rattle.std.proofs.Common.{rules, ◌≡◌, ◌∙◌, ℕ, Bool, false, cond, List, [], ◌∷◌, ◌++◌, Vec, Global, refl, sym, ap}
use Rattle.std.specs.List.{list_any}
use Rattle.std.specs.Str.{bytes_eq}
use Rattle.pipe_columns.specs.Key.{code}
use Rattle.pipe_states.specs.Regrouped.{kept}
use Rattle.pipe_regroup.specs.declared.row_groups.RowGroups.{RowGroups}
use Rattle.pipe_regroup.specs.Groups.{group_row, started}
use Rattle.pipe_regroup.proofs.RowGroupFacts.{begun}
use Rattle.pipe_regroup.proofs.row_groups.RowGroups.start.Goals as goal

pub returns : goal.returns
returns c =
    let a : RowGroups = c.args.self.now in
    let v : Vec ℕ Global = c.in_ok-code.code in
    let keys : List (Vec ℕ Global) = a.codes.keys in
    let coded : v.items ≡ code a.types.items (kept a.keep.items c.args.row.now.key) = c.in_ok-code.ensures.items ∙ c.requires.code in
    let absent : list_any (λ k. bytes_eq v.items k.items) keys ≡ false = ap (λ (b : List ℕ). list_any (λ k. bytes_eq b k.items) keys) c.in_ok-code.ensures.items ∙ c.requires.absent in
    let added : c.insert.new.self.keys ≡ keys ++ v ∷ [] = c.in_ok-insert.ensures.keys ∙ ap (λ (b : Bool). cond b keys (keys ++ v ∷ [])) absent in
    let is : group_row c.in_ok-group.group ≡ started a.keep.items c.args.row.now = search rules in
    begun a c.requires.found c.args.row.now c.requires.joinable _ v c.in_ok-group.group refl refl refl added c.in_ok-push.ensures.items is coded
    (ap (λ (b : List ℕ). list_any (λ k. bytes_eq b k.items) keys) (sym coded) ∙ absent)
