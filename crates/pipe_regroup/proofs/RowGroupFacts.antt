-- Groups that are found by codes, with one more row.
use Rattle.std.proofs.Common.{◌≡◌, ◌∙◌, ℕ, ◌<◌, ◌≤◌, ◌||◌, Bool, false, List, [], ◌∷◌, ◌++◌, length, map, get_or, set, All, Vec, Global, Some, refl, sym, ap, subst, arith}
use Rattle.std.specs.List.{list_any, position}
use Rattle.std.specs.Str.{bytes_eq}
use Rattle.std.proofs.lemmas.List.{get_or-map, length-map, map-append}
use Rattle.std.proofs.lemmas.List.Elements.{All-append, All-cons, All-get_or, All-nil, All-set}
use Rattle.std.proofs.lemmas.List.Quantifiers.{position-Some}
use Rattle.pipe_columns.specs.declared.data_type.DataType.{DataType}
use Rattle.pipe_columns.specs.Key.{code}
use Rattle.pipe_states.specs.Regrouped.{kept}
use Rattle.pipe_states.specs.declared.state_row.StateRow.{StateRow}
use Rattle.pipe_regroup.specs.declared.group.Group.{Group}
use Rattle.pipe_regroup.specs.declared.row_groups.RowGroups.{RowGroups}
use Rattle.pipe_regroup.specs.declared.rule.Rule.{Rule}
use Rattle.pipe_regroup.specs.Groups.{AreFound, count_rows, group_row, groups_of, HasAdded, IsGroupOf, IsJoinable, joined_row, started}
use Rattle.pipe_regroup.proofs.FindFacts.{joined-group, map-set, rows-below, set-same, started-group, with_row-found, with_row-new}

-- codes as such
abbrev pub items_of : List (Vec ℕ Global) → List (List ℕ)
items_of codes = map (λ c. c.items) codes

any-items : (test : List ℕ → Bool) (codes : List (Vec ℕ Global)) → list_any test (items_of codes) ≡ list_any (λ c. test c.items) codes
any-items test [] = refl
any-items test (c ∷ codes) = ap (λ (b : Bool). test c.items || b) (any-items test codes)

module _ (a : RowGroups) (f : AreFound a) where
  -- a code for each group
  pub as-many : length a.codes.keys ≡ length a.groups.items
  as-many =
      sym (length-map a.codes.keys (λ (c : Vec ℕ Global). c.items)) ∙ ap length f.codes
      ∙ length-map (groups_of a) (λ (g : StateRow). code a.types.items g.key) ∙ length-map a.groups.items group_row

  module _ (row : StateRow) (j : IsJoinable a.keep.items a.types.items a.rules.items row) where
    -- a row whose tuple has no code begins a group
    pub begun : (new : RowGroups) (v : Vec ℕ Global) (group : Group) → new.keep ≡ a.keep → new.types ≡ a.types → new.rules ≡ a.rules → new.codes.keys ≡ a.codes.keys ++ v ∷ []
        → new.groups.items ≡ a.groups.items ++ group ∷ [] → group_row group ≡ started a.keep.items row → v.items ≡ code a.types.items (kept a.keep.items row.key)
        → list_any (λ c. bytes_eq (code a.types.items (kept a.keep.items row.key)) c.items) a.codes.keys ≡ false → HasAdded a new (row ∷ [])
    begun new v group k t r codes items is coded absent =
        let groups : groups_of new ≡ groups_of a ++ started a.keep.items row ∷ [] =
        ap (map group_row) items ∙ map-append group_row a.groups.items (group ∷ []) ∙ ap (λ (g : StateRow). groups_of a ++ g ∷ []) is in
        let none : list_any (λ c. bytes_eq (code a.types.items (kept a.keep.items row.key)) c) (map (λ g. code a.types.items g.key) (groups_of a)) ≡ false =
        ap (list_any (λ c. bytes_eq (code a.types.items (kept a.keep.items row.key)) c)) (sym f.codes)
        ∙ any-items (λ c. bytes_eq (code a.types.items (kept a.keep.items row.key)) c) a.codes.keys ∙ absent in
        let Q : List DataType → List Rule → Type 0 = λ ts rs. All (IsGroupOf ts rs) (groups_of new) in
        record {
          keep = k;
          types = t;
          rules = r;
          found = record {
            codes = ap items_of codes ∙ map-append (λ (c : Vec ℕ Global). c.items) a.codes.keys (v ∷ [])
                ∙ (λ i. f.codes i ++ coded i ∷ [])
                ∙ sym (map-append (λ (g : StateRow). code a.types.items g.key) (groups_of a) (started a.keep.items row ∷ []))
                ∙ sym (ap (map (λ (g : StateRow). code a.types.items g.key)) groups)
                ∙ (λ i. map (λ (g : StateRow). code (sym t i).items g.key) (groups_of new));
            groups = subst (λ (ts : List DataType). Q ts new.rules.items) (λ i. (sym t i).items) (subst (Q a.types.items) (λ i. (sym r i).items)
                (subst (All (IsGroupOf a.types.items a.rules.items)) (sym groups)
                (All-append (IsGroupOf a.types.items a.rules.items) (groups_of a) (started a.keep.items row ∷ []) f.groups
                (All-cons (IsGroupOf a.types.items a.rules.items) (started a.keep.items row) [] (started-group a.keep.items a.types.items a.rules.items row j.typed j) (All-nil (IsGroupOf a.types.items a.rules.items))))));
          };
          groups = groups ∙ sym (with_row-new a.keep.items a.types.items a.rules.items row j.typed (groups_of a) f.groups none);
        }

    module _ (i : ℕ) (g : Group) (lt : i < length a.codes.keys) (is : g ≡ get_or a.groups.items i g) where
      within : i < length (groups_of a)
      within = let same = as-many in let long = length-map a.groups.items group_row in omega (arith, lt, same, long)

      at : group_row g ≡ get_or (groups_of a) i (group_row g)
      at = let same = as-many in ap group_row is ∙ sym (get_or-map group_row a.groups.items i g (group_row g) (omega (arith, lt, same)))

      -- the group at a place is of no more rows than all
      pub below : g.rows ≤ count_rows (groups_of a)
      below = rows-below (groups_of a) i (group_row g) within at

      group-at : IsGroupOf a.types.items a.rules.items (group_row g)
      group-at = subst (IsGroupOf a.types.items a.rules.items) (sym at) (All-get_or (IsGroupOf a.types.items a.rules.items) (groups_of a) i (group_row g) within f.groups)

      -- and has a result for each rule
      pub long : length g.results.items ≡ length a.rules.items
      long = group-at.results

      -- a row whose tuple has its code joins it
      pub joins : (new : RowGroups) (h : Group) (d : Vec ℕ Global) → new.keep ≡ a.keep → new.types ≡ a.types → new.rules ≡ a.rules → new.codes ≡ a.codes
          → new.groups.items ≡ set a.groups.items i h → group_row h ≡ joined_row a.rules.items (group_row g) row
          → position (λ c. bytes_eq (code a.types.items (kept a.keep.items row.key)) c.items) a.codes.keys ≡ Some i → HasAdded a new (row ∷ [])
      joins new h d k t r codes items is-joined found =
          let after : StateRow = joined_row a.rules.items (group_row g) row in
          let groups : groups_of new ≡ set (groups_of a) i after = ap (map group_row) items ∙ map-set group_row a.groups.items i h ∙ ap (set (groups_of a) i) is-joined in
          let test = position-Some (λ (c : Vec ℕ Global). bytes_eq (code a.types.items (kept a.keep.items row.key)) c.items) a.codes.keys i d found in
          let code_at : (n : ℕ) → n < length a.codes.keys → get_or (map (λ s. code a.types.items s.key) (groups_of a)) n d.items ≡ (get_or a.codes.keys n d).items =
          λ n less. ap (λ (l : List (List ℕ)). get_or l n d.items) (sym f.codes) ∙ get_or-map (λ (c : Vec ℕ Global). c.items) a.codes.keys n d d.items less in
          let Q : List DataType → List Rule → Type 0 = λ ts rs. All (IsGroupOf ts rs) (groups_of new) in
          record {
            keep = k;
            types = t;
            rules = r;
            found = record {
              codes = (λ n. items_of (codes n).keys) ∙ f.codes
                  ∙ sym (set-same (map (λ s. code a.types.items s.key) (groups_of a)) i (code a.types.items g.key.items)
                  (let l = length-map (groups_of a) (λ (s : StateRow). code a.types.items s.key) in let w = within in omega (arith, l, w))
                  (ap (λ (s : StateRow). code a.types.items s.key) at ∙ sym (get_or-map (λ (s : StateRow). code a.types.items s.key) (groups_of a) i (group_row g) (code a.types.items g.key.items) within)))
                  ∙ sym (map-set (λ (s : StateRow). code a.types.items s.key) (groups_of a) i after)
                  ∙ sym (ap (map (λ (s : StateRow). code a.types.items s.key)) groups)
                  ∙ (λ n. map (λ (s : StateRow). code (sym t n).items s.key) (groups_of new));
              groups = subst (λ (ts : List DataType). Q ts new.rules.items) (λ n. (sym t n).items) (subst (Q a.types.items) (λ n. (sym r n).items)
                  (subst (All (IsGroupOf a.types.items a.rules.items)) (sym groups)
                  (All-set (IsGroupOf a.types.items a.rules.items) (groups_of a) i after (joined-group a.types.items a.rules.items (group_row g) row group-at) f.groups)));
            };
            groups = groups ∙ sym (with_row-found a.keep.items a.types.items a.rules.items row j.typed (groups_of a) i d.items (group_row g) f.groups within at
                (ap (bytes_eq (code a.types.items (kept a.keep.items row.key))) (code_at i lt) ∙ test.1)
                (λ n less. ap (bytes_eq (code a.types.items (kept a.keep.items row.key))) (code_at n (omega (arith, less, lt))) ∙ test.2 n less));
          }
