-- Wholes of parts that are put below one another.
use Rattle.std.proofs.Common.{◌≡◌, ◌∙◌, ◌+◌, ◌<◌, ℕ, suc, List, [], ◌∷◌, length, fold, refl, sym, ap, subst, arith}
use Rattle.std.specs.List.{slice_index_or}
use Rattle.std.proofs.lemmas.List.Elements.{All-head, All-tail}
use Rattle.pipe_columns.specs.Frame.{AllHaveHeight, fields_of, FitsSchema, frame_of, FrameData, stacked}
use Rattle.pipe_columns.proofs.FrameFacts.{empty_height, stacked_height}
use Rattle.pipe_model.specs.Output.{output_schema}
use Rattle.pipe_model.specs.Query.{QueryTree}
use Rattle.pipe_groups.specs.declared.placed_groups.PlacedGroups.{PlacedGroups}
use Rattle.pipe_groups.proofs.FrameRows.{frame-fields}
use Rattle.pipe_asked.specs.Sources.{IsPlacedFrame}
use Rattle.pipe_asked.specs.Stacking.{all_frames}
use Rattle.pipe_asked.specs.Tasks.{AreKeptOf}
use Rattle.pipe_asked.specs.Wholes.{AreAlike}
use Rattle.pipe_asked.proofs.ByPlace.{stacked-fields}

-- ---- what is kept of groups, one by one

module _ {K : Type 0} (Is : K → PlacedGroups → Type 0) (q : QueryTree) (k : K) (ks : List K) (g : PlacedGroups) (gs : List PlacedGroups) (h : AreKeptOf Is q (k ∷ ks) (g ∷ gs)) where
  kept-head : Is k g
  kept-head = h.each 0 k g (omega arith)

  kept-tail : AreKeptOf Is q ks gs
  kept-tail = record {
    count = omega (arith, h.count);
    each = λ p l d lt. h.each (suc p) l d (omega (arith, lt));
    frames = All-tail (IsPlacedFrame q) g gs h.frames;
    tall = All-tail (λ x. AllHaveHeight x.frame.height x.frame.columns) g gs h.tall;
  }

-- ---- wholes below one another

-- a whole is that of a frame which, with those below it of which wholes are left, is that of all
pub record IsStacked {W : Type 0} (Is : W → FrameData → Type 0) (q : QueryTree) (all : List PlacedGroups) (whole : W) (left : List W) : Type 0 where
  pub frame : FrameData
  pub is : Is whole frame
  pub fields : FitsSchema (output_schema q) frame
  pub tall : AllHaveHeight frame.height frame.columns
  pub rest : List PlacedGroups
  pub those : AreKeptOf (λ w g. Is w g.frame) q left rest
  pub below : fold (λ f g. stacked f g.frame) frame rest ≡ all_frames (output_schema q) all

module _ {W : Type 0} (Is : W → FrameData → Type 0) (q : QueryTree) (all : List PlacedGroups) where
  -- before the first
  pub stacked-none : (whole : W) (left wholes : List W) → Is whole (frame_of (output_schema q) []) → left ≡ wholes → AreKeptOf (λ w g. Is w g.frame) q wholes all → IsStacked Is q all whole left
  stacked-none whole left wholes is same those = record {
    frame = frame_of (output_schema q) [];
    is = is;
    fields = frame-fields 0 (output_schema q) [];
    tall = empty_height 0 (output_schema q);
    rest = all;
    those = subst (λ (l : List W). AreKeptOf (λ w g. Is w g.frame) q l all) (sym same) those;
    below = refl;
  }

  module _ (whole more : W) (old new : List W) (is : old ≡ more ∷ new) (h : IsStacked Is q all whole old) where
    -- the next is of the same columns
    pub stacked-alike : AreAlike Is whole more
    stacked-alike = by h.rest (subst (λ (l : List W). AreKeptOf (λ w g. Is w g.frame) q l h.rest) is h.those) where
      by : (rest : List PlacedGroups) → AreKeptOf (λ w g. Is w g.frame) q (more ∷ new) rest → AreAlike Is whole more
      by [] those = absurd (omega (arith, those.count))
      by (g ∷ gs) those = record {
        frame = h.frame;
        other = g.frame;
        is = h.is;
        other_is = kept-head (λ w g. Is w g.frame) q more new g gs those;
        fields = (All-head (IsPlacedFrame q) g gs those.frames).fields ∙ sym h.fields;
      }

    -- one more
    pub stacked-more : (next : W) → ((f g : FrameData) → fields_of g.columns ≡ fields_of f.columns → AllHaveHeight f.height f.columns → Is whole f → Is more g → Is next (stacked f g)) → IsStacked Is q all next new
    stacked-more next step = by h.rest (subst (λ (l : List W). AreKeptOf (λ w g. Is w g.frame) q l h.rest) is h.those) h.below where
      by : (rest : List PlacedGroups) → AreKeptOf (λ w g. Is w g.frame) q (more ∷ new) rest → fold (λ f g. stacked f g.frame) h.frame rest ≡ all_frames (output_schema q) all → IsStacked Is q all next new
      by [] those below = absurd (omega (arith, those.count))
      by (g ∷ gs) those below =
          let same : fields_of g.frame.columns ≡ fields_of h.frame.columns = (All-head (IsPlacedFrame q) g gs those.frames).fields ∙ sym h.fields in
          let tall : AllHaveHeight g.frame.height g.frame.columns = All-head (λ x. AllHaveHeight x.frame.height x.frame.columns) g gs those.tall in record {
            frame = stacked h.frame g.frame;
            is = step h.frame g.frame same h.tall h.is (kept-head (λ w g. Is w g.frame) q more new g gs those);
            fields = stacked-fields g.frame.columns h.frame.columns ∙ h.fields;
            tall = stacked_height h.frame.height g.frame.height g.frame.columns h.frame.columns same h.tall tall;
            rest = gs;
            those = kept-tail (λ w g. Is w g.frame) q more new g gs those;
            below = below;
          }

  -- and at the end all of them
  pub stacked-end : (whole : W) (left : List W) → left ≡ [] → IsStacked Is q all whole left → Is whole (all_frames (output_schema q) all)
  stacked-end whole left none h = by h.rest h.those h.below where
    by : (rest : List PlacedGroups) → AreKeptOf (λ w g. Is w g.frame) q left rest → fold (λ f g. stacked f g.frame) h.frame rest ≡ all_frames (output_schema q) all → Is whole (all_frames (output_schema q) all)
    by [] those below = subst (Is whole) below h.is
    by (g ∷ gs) those below = absurd (omega (arith, those.count, ap (λ (l : List W). length l) none))
