-- Where entries end, found one after another.
use Rattle.std.proofs.Common.{◌≡◌, ◌∙◌, ◌^◌, ◌<◌, ◌≤◌, ◌+◌, ◌-◌, ℕ, suc, List, [], ◌∷◌, ◌++◌, length, take, drop, Option, Some, None, refl, sym, ap, subst, inl, inr, false, append_assoc, length-append, append-nil, take-append-drop, arith}
use Rattle.std.specs.Prelude.{IfSome, slice_index, ◌==◌}
use Rattle.std.proofs.lemmas.Bool.{cond-false}
use Rattle.std.proofs.lemmas.Bool.Decides.{eqb_tells}
use Rattle.std.specs.Int.{bytes_high_first}
use Rattle.std.proofs.lemmas.List.{drop_at, drop-drop, get_or_push, length-drop, length-take-le}
use Rattle.pipe_spill.specs.FileStore.{next_start, start_of}
use Rattle.summary_log.specs.Ends.{AreEndsIn, ends_from, ends_of}
use Rattle.summary_log.specs.Finding.{EndsEntry, HasFound, IsEntryTo, IsSize}
use Rattle.summary_log.specs.Log.{AreFramesOf, BeginsNone, entry, log}
use Rattle.summary_log.specs.LogFile.{bytes_at}
use Rattle.summary_log.proofs.LogFacts.{log-more, none-long, none-short}

-- ---- the ends so far

ends-more : (start : ℕ) (frames : List (List ℕ)) (frame : List ℕ) → ends_from start (frames ++ frame ∷ []) ≡ ends_from start frames ++ (start + length (log frames) + length (entry frame)) ∷ []
ends-more start [] frame = ap (λ n. n ∷ []) (omega arith)
ends-more start (f ∷ fs) frame =
    ap (λ l. (start + length (entry f)) ∷ l)
    (ends-more (start + length (entry f)) fs frame
    ∙ ap (λ n. ends_from (start + length (entry f)) fs ++ n ∷ []) (omega (arith, length-append (entry f) (log fs))))

pub found-none : (bytes : List ℕ) → HasFound bytes [] 0
found-none bytes = record { frames = []; front = refl; ends_are = refl; start_is = refl }

pub found-more : (bytes ends : List ℕ) (start end : ℕ) → HasFound bytes ends start → IsEntryTo bytes start end → HasFound bytes (ends ++ end ∷ []) end
found-more bytes ends start end found one =
    let rest : one.rest ≡ drop end bytes =
    sym (drop_at (entry one.frame) one.rest (length (entry one.frame)) refl)
    ∙ ap (drop (length (entry one.frame))) (sym one.begins)
    ∙ drop-drop (length (entry one.frame)) start bytes
    ∙ ap (λ n. drop n bytes) (sym one.end_is) in
    record {
      frames = found.frames ++ one.frame ∷ [];
      front = found.front ∙ ap (λ l. log found.frames ++ l) (one.begins ∙ ap (λ l. entry one.frame ++ l) rest)
          ∙ sym (append_assoc (log found.frames) (entry one.frame) (drop end bytes))
          ∙ ap (λ l. l ++ drop end bytes) (sym (log-more found.frames one.frame));
      ends_are = ap (λ l. l ++ end ∷ []) found.ends_are
          ∙ ap (λ n. ends_of found.frames ++ n ∷ []) (omega (arith, one.end_is, found.start_is))
          ∙ sym (ends-more 0 found.frames one.frame);
      start_is = omega (arith, one.end_is, found.start_is, ap length (log-more found.frames one.frame), length-append (log found.frames) (entry one.frame));
    }

pub found-all : (bytes ends : List ℕ) (start : ℕ) → HasFound bytes ends start → BeginsNone (drop start bytes) → AreEndsIn bytes ends
found-all bytes ends start found over =
    record { frames = found.frames; read = record { rest = drop start bytes; whole = found.front; over = over }; ends_are = found.ends_are }

-- a step where the bytes are told
pub found-step : (told : Option (List ℕ)) (ends : List ℕ) (start end : ℕ) → IfSome told (λ bytes. HasFound bytes ends start) → IfSome told (λ bytes. EndsEntry bytes start (Some end)) → IfSome told (λ bytes. HasFound bytes (ends ++ end ∷ []) end)
found-step None ends start end found one = tt
found-step (Some bytes) ends start end found one = found-more bytes ends start end found one

-- ---- the entry at a place

-- too few bytes are left for a length
pub few-left : (told : Option (List ℕ)) (size start : ℕ) → IsSize told size → size - start < 8 → IfSome told (λ bytes. EndsEntry bytes start None)
few-left None size start is few = tt
few-left (Some bytes) size start is few = none-short (drop start bytes) (omega (arith, is, few, length-drop start bytes))

module _ (word rest : List ℕ) (number size start : ℕ) (eight : length word ≡ 8) (number-is : bytes_high_first 8 number ++ rest ≡ word) (range : number < 2 ^ 64) where
  nothing : (r : List ℕ) → length r ≡ 0 → r ≡ []
  nothing [] none = refl
  nothing (b ∷ bs) none = absurd (omega (arith, none))

  word-is : bytes_high_first 8 number ≡ word
  word-is =
      let empty : rest ≡ [] = nothing rest (omega (arith, eight, ap length number-is, length-append (bytes_high_first 8 number) rest)) in
      sym (append-nil (bytes_high_first 8 number)) ∙ ap (λ l. bytes_high_first 8 number ++ l) (sym empty) ∙ number-is

  head : (bytes : List ℕ) → bytes_at start 8 bytes ≡ word → bytes_high_first 8 number ++ drop (start + 8) bytes ≡ drop start bytes
  head bytes read =
      ap (λ (l : List ℕ). l ++ drop (start + 8) bytes) (word-is ∙ sym read)
      ∙ ap (λ (l : List ℕ). take 8 (drop start bytes) ++ l) (sym (drop-drop 8 start bytes))
      ∙ take-append-drop 8 (drop start bytes)

  -- the length says more than there is
  pub long-left : (told : Option (List ℕ)) → IsSize told size → IfSome told (λ bytes. bytes_at start 8 bytes ≡ word) → size - start - 8 < number → IfSome told (λ bytes. EndsEntry bytes start None)
  long-left None is read long = tt
  long-left (Some bytes) is read long =
      none-long (drop start bytes) (drop (start + 8) bytes) number range (head bytes read) (omega (arith, is, long, length-drop (start + 8) bytes))

  -- the entry is whole
  pub whole-left : (told : Option (List ℕ)) → IsSize told size → IfSome told (λ bytes. bytes_at start 8 bytes ≡ word) → number ≤ size - start - 8 → 8 ≤ size - start → IfSome told (λ bytes. EndsEntry bytes start (Some (start + 8 + number)))
  whole-left None is read fits room = tt
  whole-left (Some bytes) is read fits room =
      let tail : List ℕ = drop (start + 8) bytes in
      let frame : List ℕ = take number tail in
      let long : length frame ≡ number = length-take-le number tail (omega (arith, is, fits, room, length-drop (start + 8) bytes)) in
      record {
        frame = frame;
        rest = drop number tail;
        begins = sym (head bytes read)
            ∙ ap (λ l. bytes_high_first 8 number ++ l) (sym (take-append-drop number tail))
            ∙ sym (append_assoc (bytes_high_first 8 number) frame (drop number tail))
            ∙ ap (λ n. (bytes_high_first 8 n ++ frame) ++ drop number tail) (sym long);
        end_is = omega (arith, long);
      }

-- ---- the last end

start-suc : (ends : List ℕ) (m n : ℕ) → n ≡ suc m → start_of ends n ≡ slice_index ends m
start-suc ends m n is =
    let tells = eqb_tells n 0 in
    let other : (n == 0) ≡ false = elim tells as (λ _. (n == 0) ≡ false) [ inl h ↦ absurd (omega (arith, is, h.1)) | inr h ↦ h.0 ] in
    cond-false (n == 0) 0 (slice_index ends (n - 1)) other ∙ ap (slice_index ends) (omega (arith, is))

-- the last end is the one that was put last
pub last-end : (ends : List ℕ) (end : ℕ) → next_start (ends ++ end ∷ []) ≡ end
last-end ends end =
    start-suc (ends ++ end ∷ []) (length ends) (length (ends ++ end ∷ [])) (omega (arith, length-append ends (end ∷ [])))
    ∙ get_or_push ends end 0 (length ends) refl
