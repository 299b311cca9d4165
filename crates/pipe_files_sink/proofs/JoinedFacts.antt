-- What a writer stands for to which frames go joined.
use Rattle.std.proofs.Common.{◌≡◌, ◌∙◌, ◌++◌, ◌∷◌, ℕ, List, [], Option, Some, None, IfSome, Result, Ok, Err, OnErr, sym, ap, arith, refl, append_assoc, append-nil, nat_le, inl, inr, leb-false}
use Rattle.std.proofs.lemmas.Bool.{cases_Bool}
use Rattle.std.proofs.lemmas.Grind.{flat_map-append, fold-append}
use Rattle.pipe_columns.specs.declared.data_chunk.DataChunk.{DataChunk}
use Rattle.pipe_columns.specs.declared.schema.Field.{Field}
use Rattle.pipe_columns.specs.Frame.{FitsSchema, FrameData}
use Rattle.pipe_writers.proofs.KeptFacts.{fields-stacked}
use Rattle.pipe_writers.specs.Kept.{with_frame_below}
use Rattle.pipe_lines.specs.Rows.{Row, frame_rows}
use Rattle.pipe_writers.specs.Vstacker.{VstackerData, completed, left_waiting}
use Rattle.pipe_writers.specs.Waiting.{waiting_rows}
use Rattle.pipe_writers.specs.WriteOrder.{rows_of_chunks}
use Rattle.pipe_files_sink.specs.Joined.{HasPut, then_waits, waits_after}
use Rattle.pipe_files_sink.specs.JoinedState.{AwaitsMore, HasPutFront}

-- what holds anyway holds where a call is refused
pub on-err : {T E : Type 0} {P : Type 0} (r : Result T E) → P → OnErr r P
on-err (Ok x) p = tt
on-err (Err e) p = p

-- a frame below what waits fits
pub with-fits : (fields : List Field) (waiting : Option FrameData) (frame : FrameData) → IfSome waiting (FitsSchema fields) → FitsSchema fields frame
    → FitsSchema fields (with_frame_below waiting frame)
with-fits fields None frame waits fits = fits
with-fits fields (Some first) frame waits fits = fields-stacked frame.columns first.columns ∙ waits

-- the frame that is complete fits
pub completed-fits : (fields : List Field) (rows : VstackerData) (frame all : FrameData) → AwaitsMore fields rows → FitsSchema fields frame
    → Some all ≡ completed rows frame → FitsSchema fields all
completed-fits fields rows frame all waits fits is = elim (cases_Bool (nat_le rows.rows (with_frame_below rows.waiting frame).height)) [
  | inl enough ↦ let same : all ≡ with_frame_below rows.waiting frame = cc (rw enough at is) in rw same (with-fits fields rows.waiting frame waits.fits fits)
  | inr fewer ↦ cc (rw fewer at is)
]

module _ (Stands : List Row → List ℕ → Type 0) (waiting : Option FrameData) (rows : List Row) (since : List ℕ) (put : HasPut Stands waiting rows since) where
  -- what has put rows has put a front of more
  pub put-front : (more : List Row) → HasPutFront Stands (rows ++ more) since
  put-front more = (put.0, (waiting_rows waiting ++ more, put.1, sym (append_assoc put.0 (waiting_rows waiting) more) ∙ ap (λ rs. rs ++ more) put.2))

  -- where all that waits is written too, all is put
  pub put-written : (After : List Row → List ℕ → Type 0) (more all : List Row) → ((done : List Row) → Stands done since → After (done ++ all) since) → all ≡ waiting_rows waiting ++ more
      → HasPutFront After (rows ++ more) since
  put-written After more all written is =
      (put.0 ++ all, ([], written put.0 put.1, append-nil (put.0 ++ all) ∙ ap (λ rs. put.0 ++ rs) is ∙ sym (append_assoc put.0 (waiting_rows waiting) more) ∙ ap (λ rs. rs ++ more) put.2))

-- what waits then awaits more, where nothing was written
pub still-awaits : (fields : List Field) (rows new : VstackerData) (frame : FrameData) → AwaitsMore fields rows → FitsSchema fields frame
    → new ≡ record rows { waiting = left_waiting rows frame } → AwaitsMore fields new
still-awaits fields rows new frame waits fits is = elim (cases_Bool (nat_le rows.rows (with_frame_below rows.waiting frame).height)) [
  | inl enough ↦
      let none : new ≡ record rows { waiting = None } = is ∙ rw enough refl in
      rw none (record { fits = tt; few = tt; least = waits.least })
  | inr fewer ↦
      let some : new ≡ record rows { waiting = Some (with_frame_below rows.waiting frame) } = is ∙ rw fewer refl in
      rw some (record { fits = with-fits fields rows.waiting frame waits.fits fits; few = omega (arith, leb-false _ _ fewer); least = waits.least })
]

-- a front of rows is one of more rows
pub front-more : (Stands : List Row → List ℕ → Type 0) (rows more all : List Row) (since : List ℕ) → HasPutFront Stands rows since → rows ++ more ≡ all → HasPutFront Stands all since
front-more Stands rows more all since front is =
    let left = front.1 in
    (front.0, (left.0 ++ more, left.1, sym (append_assoc front.0 left.0 more) ∙ ap (λ rs. rs ++ more) left.2 ∙ is))

-- ---- chunks, one by one

-- the rows of chunks in two parts
pub rows-both : (xs ys : List DataChunk) → rows_of_chunks (xs ++ ys) ≡ rows_of_chunks xs ++ rows_of_chunks ys
rows-both xs ys = flat_map-append (λ (c : DataChunk). frame_rows c.frame) xs ys

-- one more chunk behind rows and chunks
pub rows-more : (rows : List Row) (xs : List DataChunk) (c : DataChunk) → (rows ++ rows_of_chunks xs) ++ frame_rows c.frame ≡ rows ++ rows_of_chunks (xs ++ c ∷ [])
rows-more rows xs c =
    append_assoc rows (rows_of_chunks xs) (frame_rows c.frame)
    ∙ ap (λ rs. rows ++ (rows_of_chunks xs ++ rs)) (sym (append-nil (frame_rows c.frame)))
    ∙ ap (λ rs. rows ++ rs) (sym (rows-both xs (c ∷ [])))

-- what waits after chunks in two parts
pub waits-both : (least : ℕ) (waiting : Option FrameData) (xs ys : List DataChunk) → waits_after least waiting (xs ++ ys) ≡ waits_after least (waits_after least waiting xs) ys
waits-both least waiting xs ys = fold-append (λ (before : Option FrameData) (chunk : DataChunk). then_waits least before chunk.frame) waiting xs ys
