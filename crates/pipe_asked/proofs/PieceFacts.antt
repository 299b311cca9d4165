-- Groups that become a whole piece by piece.
use Rattle.std.proofs.Common.{◌≡◌, ◌∙◌, ◌+◌, ◌<◌, ℕ, true, List, [], ◌∷◌, ◌++◌, length, map, take, drop, Option, Some, None, refl, sym, ap, subst, append_assoc, is_some, arith}
use Rattle.std.specs.Prelude.{IfSome, unwrap_or}
use Rattle.std.specs.List.{All, IsDistinct}
use Rattle.std.specs.Str.{bytes_eq}
use Rattle.std.proofs.lemmas.Bool.{eq-eqb}
use Rattle.std.proofs.lemmas.List.{append-nil, length-drop, length-map, take-append-drop}
use Rattle.std.proofs.lemmas.List.Elements.{All-head, All-map, All-tail, All-weaker}
use Rattle.pipe_columns.specs.declared.any_value.AnyValue.{AnyValue}
use Rattle.pipe_columns.specs.declared.place.Place.{Place}
use Rattle.pipe_columns.specs.declared.schema.Field.{Field}
use Rattle.pipe_columns.specs.Frame.{AllHaveHeight, columns_from, fields_of, FrameData, stacked, value_at}
use Rattle.pipe_columns.specs.Groups.{sorted_keys}
use Rattle.pipe_columns.proofs.AscendingFacts.{sorted-holds}
use Rattle.pipe_columns.proofs.ElementFacts.{all_has, Has}
use Rattle.pipe_spill.specs.declared.spill_row.SpillRow.{SpillRow}
use Rattle.pipe_groups.specs.Given.{in_order, IsFrameOfGroups, key_cmp}
use Rattle.pipe_groups.specs.Pieces.{PiecesSeen}
use Rattle.pipe_groups.specs.Groups.{Group, group_keys, has_rows, held_at, held_groups, is_held, no_group}
use Rattle.pipe_groups.specs.Shape.{Shape}
use Rattle.pipe_groups.proofs.FrameRows.{frame-fields}
use Rattle.pipe_groups.proofs.GiveFacts.{first-there}
use Rattle.pipe_groups.proofs.KeyFacts.{found-is, has-held}
use Rattle.pipe_groups.proofs.PiecesFacts.{pieces-stacked}
use Rattle.pipe_keyed.specs.Tables.{Table}
use Rattle.pipe_global.specs.Finishing.{GivesOwnPieces, GivesPieces, GivesPlaced, HasNoFault, own_rows, StandFor}
use Rattle.pipe_global.specs.Partition.{PartitionSeen}
use Rattle.pipe_asked.specs.Tasks.{GaveKept}
use Rattle.pipe_asked.specs.Wholes.{AreAlike, IsWholeOfGroups}

-- ---- frames of groups

-- columns of rows have a value for each row
rows-height : (j : ℕ) (fields : List Field) (rows : List (List AnyValue)) → AllHaveHeight (length rows) (columns_from j fields rows)
rows-height j [] rows = refl
rows-height j (f ∷ fs) rows = rw (eq-eqb (length (map (λ row. value_at row j) rows)) (length rows) (length-map rows (λ (row : List AnyValue). value_at row j))) (rows-height (j + 1) fs rows)

module _ (s : Shape) (gs : List Group) (f : FrameData) (is : IsFrameOfGroups s gs f) where
  -- so has a frame of groups, and the columns of their shape
  pub groups-tall : AllHaveHeight f.height f.columns
  groups-tall = subst (λ (g : FrameData). AllHaveHeight g.height g.columns) (sym is.frame_is) (rows-height 0 s.fields is.rows)

  pub groups-fields : fields_of f.columns ≡ s.fields
  groups-fields = ap (λ (g : FrameData). fields_of g.columns) is.frame_is ∙ frame-fields 0 s.fields is.rows

-- ---- piece by piece

-- a whole is that of the first of some groups, and these are left
pub record IsFront {W : Type 0} (Is : W → FrameData → Type 0) (p now : PiecesSeen) (whole : W) : Type 0 where
  pub shape : now.shape ≡ p.shape
  pub done : List Group
  pub of : IsWholeOfGroups Is p.shape done whole
  pub all : done ++ now.left ≡ p.left

module _ {W : Type 0} (Is : W → FrameData → Type 0) (p : PiecesSeen) (most : ℕ) where
  -- the first piece
  pub front-first : (now : PiecesSeen) (whole : W) (f : FrameData) → IsFrameOfGroups p.shape (take most p.left) f → now ≡ record p { left = drop most p.left } → Is whole f → IsFront Is p now whole
  front-first now whole f of moved is = record {
    shape = ap (λ (x : PiecesSeen). x.shape) moved;
    done = take most p.left;
    of = record { frame = f; is = is; groups = of };
    all = ap (λ (x : PiecesSeen). take most p.left ++ x.left) moved ∙ take-append-drop most p.left;
  }

  module _ (now : PiecesSeen) (whole : W) (h : IsFront Is p now whole) where
    -- a further piece is of the same columns
    piece-of : (f : FrameData) → IsFrameOfGroups now.shape (take most now.left) f → IsFrameOfGroups p.shape (take most now.left) f
    piece-of f of = subst (λ (s : Shape). IsFrameOfGroups s (take most now.left) f) h.shape of

    pub piece-taken : (Takes : List Field → Type 0) (f : FrameData) → IsFrameOfGroups now.shape (take most now.left) f → Takes p.shape.fields → Takes (fields_of f.columns)
    piece-taken Takes f of takes = subst Takes (sym (groups-fields p.shape (take most now.left) f (piece-of f of))) takes

    pub piece-alike : (more : W) (f : FrameData) → IsFrameOfGroups now.shape (take most now.left) f → Is more f → AreAlike Is whole more
    piece-alike more f of is = record {
      frame = h.of.frame;
      other = f;
      is = h.of.is;
      other_is = is;
      fields = groups-fields p.shape (take most now.left) f (piece-of f of) ∙ sym (groups-fields p.shape h.done h.of.frame h.of.groups);
    }

    -- and one more
    pub front-more : (new : PiecesSeen) (more next : W) (f : FrameData) → IsFrameOfGroups now.shape (take most now.left) f → Is more f → new ≡ record now { left = drop most now.left }
        → ((g d : FrameData) → fields_of d.columns ≡ fields_of g.columns → AllHaveHeight g.height g.columns → Is whole g → Is more d → Is next (stacked g d)) → IsFront Is p new next
    front-more new more next f of more_is moved below =
        let g : FrameData = h.of.frame in
        let same : fields_of f.columns ≡ fields_of g.columns = groups-fields p.shape (take most now.left) f (piece-of f of) ∙ sym (groups-fields p.shape h.done g h.of.groups) in record {
          shape = ap (λ (x : PiecesSeen). x.shape) moved ∙ h.shape;
          done = h.done ++ take most now.left;
          of = record {
            frame = stacked g f;
            is = below g f same (groups-tall p.shape h.done g h.of.groups) h.of.is more_is;
            groups = pieces-stacked p.shape h.done (take most now.left) g f h.of.groups (piece-of f of);
          };
          all =
              ap (λ (x : PiecesSeen). (h.done ++ take most now.left) ++ x.left) moved
              ∙ append_assoc h.done (take most now.left) (drop most now.left)
              ∙ ap (λ l. h.done ++ l) (take-append-drop most now.left)
              ∙ h.all;
        }

    -- and where none is left, all
    pub front-all : now.left ≡ [] → IsWholeOfGroups Is p.shape p.left whole
    front-all none = subst (λ (gs : List Group). IsWholeOfGroups Is p.shape gs whole) (sym (append-nil h.done) ∙ ap (λ l. h.done ++ l) (sym none) ∙ h.all) h.of

-- where a piece was given, some were left
pub some-left : (o : Option FrameData) (f : FrameData) (P : Type 0) → o ≡ Some f → (P → o ≡ None) → P → ⊥
some-left o f P is none p = let both : Some f ≡ None = sym is ∙ none p in cc

-- it is one of groups
pub piece-in : (o : Option FrameData) (f : FrameData) (s : Shape) (gs : List Group) → o ≡ Some f → IfSome o (IsFrameOfGroups s gs) → IsFrameOfGroups s gs f
piece-in o f s gs is h = subst (λ x. IfSome x (IsFrameOfGroups s gs)) is h

-- and less is left
fewer-left : {X : Type 0} (most : ℕ) (xs : List X) → 0 < most → (xs ≡ [] → ⊥) → length (drop most xs) < length xs
fewer-left most [] some there = absurd (there refl)
fewer-left most (x ∷ xs) some there = omega (arith, some, length-drop most (x ∷ xs))

pub rest-fewer : (now new : PiecesSeen) (most : ℕ) → 0 < most → new ≡ record now { left = drop most now.left } → (now.left ≡ [] → ⊥) → length new.left < length now.left
rest-fewer now new most some moved there = omega (arith, fewer-left most now.left some there, ap (λ (x : PiecesSeen). length x.left) moved)

-- ---- what a partition gives

-- the least place of a group's rows
abbrev pub place_of : Group → Place
place_of g = unwrap_or g.first (record { chunk = 0; row = 0 })

-- groups that hold rows have one each
places-there : (gs : List Group) → All (λ g. has_rows g ≡ true) gs → map Some (map place_of gs) ≡ map (λ g. g.first) gs
places-there [] h = refl
places-there (g ∷ gs) h =
    let first = first-there g (All-head (λ g. has_rows g ≡ true) g gs h) in
    let here : Some (place_of g) ≡ g.first = ap (λ (o : Option Place). Some (unwrap_or o (record { chunk = 0; row = 0 }))) first.1 ∙ sym first.1 in
    let rest = places-there gs (All-tail (λ g. has_rows g ≡ true) g gs h) in
    λ i. here i ∷ rest i

-- those in order hold rows
held-rows : (gs : List Group) (k : List ℕ) → is_held k gs ≡ true → has_rows (unwrap_or (held_at k gs) no_group) ≡ true
held-rows gs k h = by (held_at k gs) refl h where
  by : (o : Option Group) → held_at k gs ≡ o → is_some o ≡ true → has_rows (unwrap_or o no_group) ≡ true
  by None e h = cc
  by (Some g) e h = (found-is k gs g e).rows

ordered-rows : (gs : List Group) → IsDistinct bytes_eq (group_keys gs) → All (λ g. has_rows g ≡ true) (in_order gs)
ordered-rows gs apart =
    let keys : List (List ℕ) = group_keys (held_groups gs) in
    let held : All (λ k. is_held k gs ≡ true) keys = All-weaker (λ k. Has k keys) (λ k. is_held k gs ≡ true) (λ k m. has-held k gs apart m) keys (all_has keys) in
    All-map (λ g. has_rows g ≡ true) (λ k. unwrap_or (held_at k gs) no_group) (sorted_keys key_cmp keys)
    (All-weaker (λ k. is_held k gs ≡ true) (λ k. has_rows (unwrap_or (held_at k gs) no_group) ≡ true) (held-rows gs) (sorted_keys key_cmp keys) (sorted-holds (λ k. is_held k gs ≡ true) key_cmp keys held))

-- a frame of groups that were to be given piece by piece, with these places, is one of placed groups
pieces-placed : (sh : Shape) (left : Option (ℕ × ℕ)) (rows : List SpillRow) (p : PiecesSeen) (f : FrameData) → GivesPieces sh None left rows p → IsFrameOfGroups p.shape p.left f
    → GivesPlaced sh rows f (map place_of p.left)
pieces-placed sh left rows p f gives of = record {
  groups = gives.groups;
  apart = gives.apart;
  holds = gives.holds;
  placed = record {
    frame_is = subst (λ (x : PiecesSeen). IsFrameOfGroups x.shape x.left f) gives.pieces_are of;
    firsts_are = ap (λ (x : PiecesSeen). map Some (map place_of x.left)) gives.pieces_are ∙ places-there (in_order gives.groups) (ordered-rows gives.groups gives.apart);
  };
}

-- so a whole of them is kept of a partition
pub whole-kept : {W : Type 0} (Is : W → FrameData → Type 0) (s new : PartitionSeen) (local : Table) (left : Option (ℕ × ℕ)) (p : PiecesSeen) (whole : W)
    → ((rows locals : List SpillRow) → StandFor s local rows locals → GivesPieces s.table.shape None left (rows ++ own_rows s locals) p) → GivesOwnPieces s None left p → HasNoFault s new
    → IsWholeOfGroups Is p.shape p.left whole → GaveKept (λ w g. Is w g.frame) s local new whole
whole-kept Is s new local left p whole gives own calm h = record {
  groups = record { frame = h.frame; firsts = map place_of p.left };
  is = h.is;
  placed = λ rows locals both. pieces-placed s.table.shape left (rows ++ own_rows s locals) p h.frame (gives rows locals both) h.groups;
  own = record { rows = own.rows; own = own.own; gives = pieces-placed s.table.shape left own.rows p h.frame own.gives h.groups };
  tall = groups-tall p.shape p.left h.frame h.groups;
  calm = calm;
}
