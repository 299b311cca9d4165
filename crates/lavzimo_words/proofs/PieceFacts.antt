-- Lists that grow behind others, and the pieces of options.
use Rattle.std.proofs.Common.{◌≡◌, ◌∙◌, ◌+◌, ◌<◌, ◌≤◌, ◌++◌, ℕ, Bool, false, cond, List, [], ◌∷◌, Bor, length, drop, take, get_or, map, Option, Some, None, refl, sym, ap, arith}
use Rattle.std.specs.Prelude.{filter_map, flat_map, slice_get}
use Rattle.std.specs.List.{cons_option}
use Rattle.std.proofs.lemmas.Grind.{flat_map-append}
use Rattle.std.proofs.lemmas.List.{append-nil, append_assoc, map-append, map_more, take_all, take_more}
use Rattle.clap.specs.Facts.{Entry}
use Rattle.clap.specs.Walk.{Row, all_of, row_of}
use Rattle.lavzimo_words.specs.Items.{counts_rows, pieces_for, pieces_of}
use Rattle.lavzimo_words.specs.Pieces.{pieces_as}
use Rattle.lavzimo_words.specs.Roles.{is_rows, option_of, role_named}
use Rattle.lavzimo_words.specs.declared.role.Role.{Role}

-- one element more behind a list
pub behind-more : {X Y : Type 0} (f : X → Y) (first now next : List Y) (xs : List X) (i : ℕ) (d : X) → i < length xs
    → now ≡ first ++ map f (take i xs) → next ≡ now ++ f (get_or xs i d) ∷ [] → next ≡ first ++ map f (take (i + 1) xs)
behind-more f first now next xs i d few h grew =
    grew ∙ ap (λ ys. ys ++ f (get_or xs i d) ∷ []) h ∙ append_assoc first (map f (take i xs)) (f (get_or xs i d) ∷ []) ∙ ap (λ ys. first ++ ys) (sym (map_more f xs i d few))

pub behind-all : {X Y : Type 0} (f : X → Y) (first now : List Y) (xs : List X) (i : ℕ) → length xs ≤ i → now ≡ first ++ map f (take i xs) → now ≡ first ++ map f xs
behind-all f first now xs i past h = h ∙ ap (λ ys. first ++ map f ys) (take_all i xs past)

-- the elements that one gives, behind a list
pub flat-more : {X Y : Type 0} (f : X → List Y) (first now next : List Y) (xs : List X) (i : ℕ) (d : X) → i < length xs
    → now ≡ first ++ flat_map f (take i xs) → next ≡ now ++ f (get_or xs i d) → next ≡ first ++ flat_map f (take (i + 1) xs)
flat-more f first now next xs i d few h grew =
    let one : flat_map f (get_or xs i d ∷ []) ≡ f (get_or xs i d) = append-nil (f (get_or xs i d)) in
    let whole : flat_map f (take (i + 1) xs) ≡ flat_map f (take i xs) ++ f (get_or xs i d) =
    ap (flat_map f) (take_more xs i d few) ∙ flat_map-append f (take i xs) (get_or xs i d ∷ []) ∙ ap (λ ys. flat_map f (take i xs) ++ ys) one in
    grew ∙ ap (λ ys. ys ++ f (get_or xs i d)) h ∙ append_assoc first (flat_map f (take i xs)) (f (get_or xs i d)) ∙ ap (λ ys. first ++ ys) (sym whole)

pub flat-all : {X Y : Type 0} (f : X → List Y) (first now : List Y) (xs : List X) (i : ℕ) → length xs ≤ i → now ≡ first ++ flat_map f (take i xs) → now ≡ first ++ flat_map f xs
flat-all f first now xs i past h = h ∙ ap (λ ys. first ++ flat_map f ys) (take_all i xs past)

-- a text in a role, and one that is lent
abbrev pub in_role : Role → List ℕ → Role × List ℕ
in_role r p = (r, p)

abbrev pub lent_in_role : Role → Bor (List ℕ) → Role × List ℕ
lent_in_role r x = (r, x.now)

-- texts that are lent, in a role
pub in-role : (r : Role) (xs : List (Bor (List ℕ))) → map (lent_in_role r) xs ≡ map (in_role r) (map (λ (x : Bor (List ℕ)). x.now) xs)
in-role r [] = refl
in-role r (x ∷ xs) = ap (λ ys. lent_in_role r x ∷ ys) (in-role r xs)

-- the pieces of a value, in a role
abbrev pub value_in_role : Role → (List ℕ → List (List ℕ)) → Bor (List ℕ) → List (Role × List ℕ)
value_in_role r cut v = map (in_role r) (cut v.now)

pub values-in-role : (r : Role) (cut : List ℕ → List (List ℕ)) (vs : List (Bor (List ℕ)))
    → flat_map (value_in_role r cut) vs ≡ map (in_role r) (flat_map cut (map (λ (v : Bor (List ℕ)). v.now) vs))
values-in-role r cut [] = refl
values-in-role r cut (v ∷ vs) =
    ap (λ ys. value_in_role r cut v ++ ys) (values-in-role r cut vs) ∙ sym (map-append (in_role r) (cut v.now) (flat_map cut (map (λ (v : Bor (List ℕ)). v.now) vs)))

-- the pieces of a role whose option has values, or none
abbrev option_pieces : Role → List (Role × List ℕ) → Bool → Option (List (List ℕ)) → List (Role × List ℕ)
option_pieces r counted b values = cond b counted (map (in_role r) (pieces_of values))

pub pieces-found : (rows : List Row) (r : Role) (id : List ℕ) (o : Option (List (List ℕ))) → is_rows r ≡ false → id ≡ option_of r → o ≡ all_of id rows → map (in_role r) (pieces_of o) ≡ pieces_for rows r
pieces-found rows r id o n same lent =
    let found : o ≡ all_of (option_of r) rows = lent ∙ ap (λ i. all_of i rows) same in
    λ i. option_pieces r (cond (counts_rows rows) ((r, []) ∷ []) []) (sym n i) (found i)

-- the roles of ids are those of rows
pub id-roles : (es : List Entry) → filter_map role_named (map (λ e. e.0.now) es) ≡ filter_map (λ (r : Row). role_named r.id) (map row_of es)
id-roles [] = refl
id-roles (e ∷ es) = ap (cons_option (role_named e.0.now)) (id-roles es)

-- what a role's option gives, and those behind it
given-by : (rows : List Row) (o : Option Role) (rs : List Role) → flat_map (pieces_for rows) (cons_option o rs) ≡ pieces_as rows o ++ flat_map (pieces_for rows) rs
given-by rows None rs = refl
given-by rows (Some r) rs = refl

-- ids that are left, of which the first is taken
pub ids-more : (rows : List Row) (xs ys : List (List ℕ)) (x : List ℕ) → Some x ≡ slice_get xs 0 → ys ≡ drop 1 xs
    → flat_map (pieces_for rows) (filter_map role_named xs) ≡ pieces_as rows (role_named x) ++ flat_map (pieces_for rows) (filter_map role_named ys)
ids-more rows [] ys x one rest = absurd cc
ids-more rows (z ∷ zs) ys x one rest =
    let first : Some x ≡ Some z = one in
    let same : x ≡ z = cc in
    let left : ys ≡ zs = rest in
    given-by rows (role_named z) (filter_map role_named zs)
    ∙ (λ i. pieces_as rows (role_named (sym same i)) ++ flat_map (pieces_for rows) (filter_map role_named (sym left i)))

pub ids-none : (xs : List (List ℕ)) → None ≡ slice_get xs 0 → xs ≡ []
ids-none [] h = refl
ids-none (x ∷ xs) h = absurd cc

pub ids-shorter : (xs ys : List (List ℕ)) (x : List ℕ) → Some x ≡ slice_get xs 0 → ys ≡ drop 1 xs → length ys < length xs
ids-shorter [] ys x one rest = absurd cc
ids-shorter (z ∷ zs) ys x one rest = let same : length ys ≡ length zs = ap (λ (l : List (List ℕ)). length l) rest in omega (arith, same)
