-- Of the proofs alone: the laws of writers of lines.
use Rattle.std.specs.Prelude.{◌≡◌, ◌++◌, ◌||◌, ℕ, List, [], Bool, true, false, Option, Some, None, flat_map, length, take, refl}
use Rattle.std.proofs.Common.{◌∙◌, sym, ap, append_assoc, append-nil}
use Rattle.std.proofs.Math.Seq.{take-append_seam, take-length}
use Rattle.std.proofs.lemmas.Grind.{flat_map-append}
use Rattle.pipe_writers.specs.declared.sink_writer.WriterCalls.{WriterCalls}
use Rattle.pipe_lines.specs.Rows.{Row}
use Rattle.pipe_lines.specs.Lines.{LineText, text_of_lines}
use Rattle.pipe_writers.specs.Writers.{HasPutOut, PutOutBy, TellsAfter, TellsFront, has_begun}

-- bytes that are the same are told alike
pub told_alike : (told : Option (List ℕ)) (since xs ys : List ℕ) → xs ≡ ys → TellsAfter told since xs → TellsAfter told since ys
told_alike None since xs ys same told = tt
told_alike (Some all) since xs ys same told = told ∙ ap (λ bs. since ++ bs) same

starts_by : (told : Option (List ℕ)) (begun refused : Bool) (t : LineText) (since : List ℕ) → begun ≡ false → told ≡ Some since
    → PutOutBy begun refused told t [] since
starts_by told true refused t since begun is = cc
starts_by None false refused t since begun is = cc
starts_by (Some all) false refused t since begun is =
    let same : all ≡ since = cc in (refl, same ∙ sym (append-nil since))

-- before the first call nothing is put out
pub starts_lines : (told : Option (List ℕ)) (c : WriterCalls) (t : LineText) (since : List ℕ) → c.begun ≡ false → c.finished ≡ false
    → told ≡ Some since → HasPutOut told c t [] since
starts_lines told c t since begun finished is = starts_by told (has_begun c) c.refused t since (rw (begun, finished) refl) is

front_by : (told : Option (List ℕ)) (begun refused : Bool) (t : LineText) (rows : List Row) (since : List ℕ) → PutOutBy begun refused told t rows since
    → TellsFront told since (text_of_lines t rows)
front_by told false refused t rows since put = (0, put.1)
front_by told true false t rows since put =
    (length (text_of_lines t rows), told_alike told since _ _ (sym (take-length (text_of_lines t rows))) put)
front_by told true true t rows since put = put

-- what is put out is a front of the text
pub front_lines : (told : Option (List ℕ)) (c : WriterCalls) (t : LineText) (rows : List Row) (since : List ℕ) → HasPutOut told c t rows since
    → TellsFront told since (text_of_lines t rows)
front_lines told c t rows since put = front_by told (has_begun c) c.refused t rows since put

whole_by : (told : Option (List ℕ)) (begun finished refused : Bool) (t : LineText) (rows : List Row) (since : List ℕ) → PutOutBy (begun || finished) refused told t rows since
    → finished ≡ true → refused ≡ false → TellsAfter told since (text_of_lines t rows)
whole_by told begun false refused t rows since put finished unrefused = cc
whole_by told begun true true t rows since put finished unrefused = cc
whole_by told false true false t rows since put finished unrefused = put
whole_by told true true false t rows since put finished unrefused = put

-- after the finish it is the whole text
pub whole_lines : (told : Option (List ℕ)) (c : WriterCalls) (t : LineText) (rows : List Row) (since : List ℕ) → HasPutOut told c t rows since
    → c.finished ≡ true → c.refused ≡ false → TellsAfter told since (text_of_lines t rows)
whole_lines told c t rows since put finished unrefused = whole_by told c.begun c.finished c.refused t rows since put finished unrefused

-- the text of more rows goes on with their lines
pub text_more : (t : LineText) (rows more : List Row) → text_of_lines t (rows ++ more) ≡ text_of_lines t rows ++ flat_map t.line more
text_more t rows more = ap (λ bs. t.head ++ bs) (flat_map-append t.line rows more) ∙ sym (append_assoc t.head (flat_map t.line rows) (flat_map t.line more))

-- the text of the first rows is a front of that of all
pub grows_lines : (t : LineText) (rows more : List Row) → (n : ℕ) × (text_of_lines t rows ≡ take n (text_of_lines t (rows ++ more)))
grows_lines t rows more =
    let front = text_of_lines t rows in
    (length front, sym (ap (take (length front)) (text_more t rows more) ∙ take-append_seam front (flat_map t.line more)))
