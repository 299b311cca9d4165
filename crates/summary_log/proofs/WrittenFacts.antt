-- Bytes that are written one behind another, and cut off again.
use Rattle.std.proofs.Common.{◌≡◌, ◌∙◌, ◌≤◌, ◌+◌, ℕ, false, true, List, [], ◌++◌, length, take, drop, Option, Some, None, Result, Ok, Err, OnOk, OnErr, refl, sym, ap, subst, append_assoc, length-append, arith}
use Rattle.std.specs.Prelude.{is_err}
use Rattle.std.proofs.lemmas.List.{drop_at, drop-drop, length-take, length-take-le, take_all, take_at, take-take}
use Rattle.std.proofs.lemmas.Bool.{false≢true}
use Rattle.pipe_spill.specs.FileStore.{next_start}
use Rattle.summary_log.specs.KeptFile.{IsUndone, LogEnds}
use Rattle.summary_log.specs.LogFile.{HasFront, IsCutAt, IsWrittenAt, written_at}

module _ (at : ℕ) (one two old : List ℕ) (reaches : at ≤ length old) where
  -- what stands before the second bytes
  abbrev before : List ℕ
  before = take at old ++ one

  abbrev behind : List ℕ
  behind = drop (at + length one) old

  size : length before ≡ at + length one
  size = length-append (take at old) one ∙ ap (λ n. n + length one) (length-take-le at old reaches)

  front-is : take (at + length one) (written_at at one old) ≡ before
  front-is = take_at before behind (at + length one) size

  behind-is : drop (at + length one + length two) (written_at at one old) ≡ drop (at + (length one + length two)) old
  behind-is =
      sym (drop-drop (length two) (at + length one) (before ++ behind))
      ∙ ap (drop (length two)) (drop_at before behind (at + length one) size)
      ∙ drop-drop (length two) (at + length one) old
      ∙ ap (λ n. drop n old) (omega arith)

  -- two writes are one
  joined : written_at (at + length one) two (written_at at one old) ≡ written_at at (one ++ two) old
  joined =
      ap (λ l. l ++ two ++ drop (at + length one + length two) (written_at at one old)) front-is
      ∙ ap (λ l. before ++ two ++ l) behind-is
      ∙ ap (λ l. l ++ drop (at + (length one + length two)) old) (append_assoc (take at old) one two)
      ∙ ap (λ n. take at old ++ (one ++ two) ++ drop (at + n) old) (sym (length-append one two))

  reaches-on : at + length one ≤ length (written_at at one old)
  reaches-on = omega (arith, size, length-append before behind)

-- bytes that were written, and others behind them
pub written-on : (at : ℕ) (one two : List ℕ) (a b c : Option (List ℕ)) → IsWrittenAt at one a b → IsWrittenAt (at + length one) two b c → IsWrittenAt at (one ++ two) a c
written-on at one two None b c first second = tt
written-on at one two (Some old) b c first second = λ reaches.
    (subst (λ o. IsWrittenAt (at + length one) two o c) (first reaches) second) (reaches-on at one two old reaches)
    ∙ ap (λ l. Some l) (joined at one two old reaches)

front-of : (at : ℕ) (one old : List ℕ) → at ≤ length old → take at (written_at at one old) ≡ take at old
front-of at one old reaches =
    ap (take at) (append_assoc (take at old) one (drop (at + length one) old))
    ∙ take_at (take at old) (one ++ drop (at + length one) old) at (length-take-le at old reaches)

-- what was written at a place leaves the bytes before it
pub written-front : (at : ℕ) (one : List ℕ) (a b : Option (List ℕ)) → IsWrittenAt at one a b → HasFront at a b
written-front at one None b written = tt
written-front at one (Some old) b written = λ reaches. (written_at at one old, written reaches, front-of at one old reaches)

-- and so does what a refused write behind them wrote
pub begun-front : (at : ℕ) (one : List ℕ) (a b c : Option (List ℕ)) → IsWrittenAt at one a b → HasFront (at + length one) b c → HasFront at a c
begun-front at one None b c written begun = tt
begun-front at one (Some old) b c written begun = λ reaches.
    let front = (subst (λ o. HasFront (at + length one) o c) (written reaches) begun) (reaches-on at one [] old reaches) in (
      front.0,
      front.1,
      sym (take-take at (at + length one) front.0 (omega arith))
          ∙ ap (take at) front.2
          ∙ take-take at (at + length one) (written_at at one old) (omega arith)
          ∙ front-of at one old reaches,
    )

still-reaches : (at : ℕ) (old now : List ℕ) → at ≤ length old → take at now ≡ take at old → at ≤ length now
still-reaches at old now reaches same = omega (arith, length-take at now, ap length same, length-take-le at old reaches)

-- what was cut off at a place leaves the bytes before it
pub cut-front : (at : ℕ) (a b c : Option (List ℕ)) → HasFront at a b → IsCutAt at b c → HasFront at a c
cut-front at None b c front cut = tt
cut-front at (Some old) b c front cut = λ reaches.
    let had = front reaches in (
      take at had.0,
      (subst (λ o. IsCutAt at o c) had.1 cut) (still-reaches at old had.0 reaches had.2),
      take-take at at had.0 (omega arith) ∙ had.2,
    )

-- what stood up to a place stands again where it was cut off there
pub cut-back : (before now : LogEnds) (a b c : Option (List ℕ)) → HasFront (next_start before.ends) a b → IsCutAt (next_start before.ends) b c → IsUndone before now a c
cut-back before now None b c front cut = tt
cut-back before now (Some old) b c front cut = λ whole kept.
    let reaches : next_start before.ends ≤ length old = omega (arith, whole) in
    let had = front reaches in
    (subst (λ o. IsCutAt (next_start before.ends) o c) had.1 cut) (still-reaches (next_start before.ends) old had.0 reaches had.2)
    ∙ ap (λ l. Some l) (had.2 ∙ take_all (next_start before.ends) old (omega (arith, whole)))

-- of bytes that couldn't be cut off nothing is said
pub torn-undone : (before now : LogEnds) (a b : Option (List ℕ)) → now.torn ≡ true → IsUndone before now a b
torn-undone before now None b torn = tt
torn-undone before now (Some old) b torn = λ whole kept. absurd (false≢true (sym kept ∙ torn))

-- cut off or not, the bytes before stay
pub cut-front-by : {X E : Type 0} (r : Result X E) (at : ℕ) (a b c : Option (List ℕ)) → OnOk r (IsCutAt at b c) → OnErr r (c ≡ b) → HasFront at a b → HasFront at a c
cut-front-by (Ok x) at a b c cut kept front = cut-front at a b c front cut
cut-front-by (Err e) at a b c cut kept front = subst (HasFront at a) (sym kept) front

pub cut-back-by : {X E : Type 0} (r : Result X E) (before now : LogEnds) (a b c : Option (List ℕ)) → OnOk r (IsCutAt (next_start before.ends) b c) → now.torn ≡ is_err r → HasFront (next_start before.ends) a b → IsUndone before now a c
cut-back-by (Ok x) before now a b c cut torn front = cut-back before now a b c front cut
cut-back-by (Err e) before now a b c cut torn front = torn-undone before now a c torn
