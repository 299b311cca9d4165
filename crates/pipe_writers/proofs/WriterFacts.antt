-- What a call of a writer of lines leaves.
use Rattle.std.proofs.Common.{◌≡◌, ◌∙◌, ◌++◌, ◌||◌, ℕ, List, [], Bool, true, false, Option, Some, None, Result, Ok, Err, OnOk, OnErr, is_err, is_some, flat_map, length, take, drop, cond, refl, sym, ap, subst, append_assoc, append-nil, take-append-drop}
use Rattle.std.proofs.Math.Seq.{take-append_seam}
use Rattle.std.specs.Io.KnownBytes.{Appends}
use Rattle.pipe_io.specs.Output.{WroteFront}
use Rattle.pipe_writers.specs.declared.sink_writer.WriterCalls.{WriterCalls}
use Rattle.pipe_lines.specs.Rows.{Row}
use Rattle.pipe_writers.specs.WriterLaws.{text_more, told_alike}
use Rattle.pipe_lines.specs.Lines.{LineText, text_of_lines}
use Rattle.pipe_writers.specs.Writers.{HasPutOut, PutOutBy, TellsAfter, head_due}

-- some more bytes are told
told_more : (a b : Option (List ℕ)) (since xs ys : List ℕ) → is_some b ≡ is_some a → TellsAfter a since xs → Appends a b ys → TellsAfter b since (xs ++ ys)
told_more None None since xs ys alike told more = tt
told_more None (Some y) since xs ys alike told more = cc
told_more (Some x) None since xs ys alike told more = absurd more
told_more (Some x) (Some y) since xs ys alike told more = more ∙ ap (λ bs. bs ++ ys) told ∙ append_assoc since xs ys

or_false : (b f : Bool) → f ≡ false → (b || f) ≡ b
or_false true f e = refl
or_false false f e = e

or_true : (b : Bool) → (b || true) ≡ true
or_true true = refl
or_true false = refl

module _ (a b : Option (List ℕ)) (t : LineText) (rows more : List Row) (since : List ℕ) (alike : is_some b ≡ is_some a) where
  -- what is put out before a call
  abbrev before : Bool → List ℕ
  before begun = cond begun (text_of_lines t rows) []

  -- what the call is to put out
  abbrev piece : Bool → List ℕ
  piece begun = head_due begun t ++ flat_map t.line more

  told_before : (begun : Bool) → PutOutBy begun false a t rows since → TellsAfter a since (before begun)
  told_before true put = put
  told_before false put = put.1

  whole : (begun : Bool) → PutOutBy begun false a t rows since → before begun ++ piece begun ≡ text_of_lines t (rows ++ more)
  whole true put = sym (text_more t rows more)
  whole false put = rw put.0 refl

  put_by : {E : Type 0} (r : Result (Unit {0}) E) (begun : Bool) → PutOutBy begun false a t rows since → OnOk r (Appends a b (piece begun)) → OnErr r (WroteFront a b (piece begun))
      → PutOutBy true (is_err r) b t (rows ++ more) since
  put_by (Ok x) begun put ok err = told_alike b since _ _ (whole begun put) (told_more a b since (before begun) (piece begun) alike (told_before begun put) ok)
  put_by (Err e) begun put ok err =
      let n = err.0 in
      let front = before begun ++ take n (piece begun) in
      let joined : front ++ drop n (piece begun) ≡ text_of_lines t (rows ++ more) =
      append_assoc (before begun) (take n (piece begun)) (drop n (piece begun)) ∙ ap (λ bs. before begun ++ bs) (take-append-drop n (piece begun)) ∙ whole begun put in
      let first : front ≡ take (length front) (text_of_lines t (rows ++ more)) = sym (ap (take (length front)) (sym joined) ∙ take-append_seam front (drop n (piece begun))) in
      (length front, told_alike b since _ _ first (told_more a b since (before begun) (take n (piece begun)) alike (told_before begun put) err.1))

  -- after a batch, where the writer was open
  pub batch_stands : {E : Type 0} (c : WriterCalls) (r : Result (Unit {0}) E) (e : Bool) → c.refused ≡ false → c.finished ≡ false → e ≡ is_err r
      → OnOk r (Appends a b (piece c.begun)) → OnErr r (WroteFront a b (piece c.begun)) → HasPutOut a c t rows since → PutOutBy true e b t (rows ++ more) since
  batch_stands c r e unrefused unfinished is ok err put =
      let P : Bool → Bool → Type 0 = λ begun refused. PutOutBy begun refused a t rows since in
      let here : P c.begun false = subst (λ (x : Bool). P x false) (or_false c.begun c.finished unfinished) (subst (P (c.begun || c.finished)) unrefused put) in
      rw is (put_by r c.begun here ok err)

-- after a finish, where the writer was open
pub finish_stands : {E : Type 0} (a b : Option (List ℕ)) (t : LineText) (rows : List Row) (since : List ℕ) (c : WriterCalls) (r : Result (Unit {0}) E) (e begun : Bool) → is_some b ≡ is_some a
    → c.refused ≡ false → c.finished ≡ false → e ≡ is_err r
    → OnOk r (Appends a b (head_due c.begun t)) → OnErr r (WroteFront a b (head_due c.begun t)) → HasPutOut a c t rows since → PutOutBy (begun || true) e b t rows since
finish_stands a b t rows since c r e begun alike unrefused unfinished is ok err put =
    let none : head_due c.begun t ≡ head_due c.begun t ++ [] = sym (append-nil (head_due c.begun t)) in
    let done : PutOutBy true e b t (rows ++ []) since =
    batch_stands a b t rows [] since alike c r e unrefused unfinished is (subst (λ (bs : List ℕ). OnOk r (Appends a b bs)) none ok) (subst (λ (bs : List ℕ). OnErr r (WroteFront a b bs)) none err) put in
    let same : PutOutBy true e b t rows since = subst (λ (rs : List Row). PutOutBy true e b t rs since) (append-nil rows) done in
    subst (λ (x : Bool). PutOutBy x e b t rows since) (sym (or_true begun)) same
