-- Bytes begin with the log of one list of frames.
use Rattle.std.proofs.Common.{◌≡◌, ◌∙◌, ◌^◌, ◌<◌, ◌≤◌, ◌+◌, ℕ, List, [], ◌∷◌, ◌++◌, length, take, drop, refl, sym, ap, subst, append_assoc, length-append, append-nil, take-append-drop, arith}
use Rattle.std.specs.Int.{bytes_high_first}
use Rattle.std.proofs.lemmas.List.{drop_at, length-drop, length-take-le, take_at}
use Rattle.pipe_spill.proofs.RowOnce.{eight_once}
use Rattle.summary_log.specs.Log.{AreFramesOf, BeginsNone, entry, log}

-- ---- one entry

-- bytes begin with one entry alone
pub entry-once : (f g r s : List ℕ) → length f < 2 ^ 64 → length g < 2 ^ 64 → entry f ++ r ≡ entry g ++ s → (f ≡ g) × (r ≡ s)
entry-once f g r s one two same =
    let flat : bytes_high_first 8 (length f) ++ (f ++ r) ≡ bytes_high_first 8 (length g) ++ (g ++ s) = same in
    let long : length f ≡ length g = eight_once (length f) (length g) (f ++ r) (g ++ s) one two flat in
    let rest : f ++ r ≡ g ++ s = ap (drop 8) flat in (
      sym (take_at f r (length f) refl) ∙ ap (take (length f)) rest ∙ take_at g s (length f) (sym long),
      sym (drop_at f r (length f) refl) ∙ ap (drop (length f)) rest ∙ drop_at g s (length f) (sym long),
    )

-- bytes that are too few for a length begin with no entry
pub none-short : (bytes : List ℕ) → length bytes < 8 → BeginsNone bytes
none-short bytes few = λ frame rest short is. omega (arith, few, ap length is, length-append (entry frame) rest)

-- and so do those of which too few stand behind their length
pub none-long : (bytes rest : List ℕ) (number : ℕ) → number < 2 ^ 64 → bytes_high_first 8 number ++ rest ≡ bytes → length rest < number → BeginsNone bytes
none-long bytes rest number range head few = λ frame others short is.
    let flat : bytes_high_first 8 number ++ rest ≡ bytes_high_first 8 (length frame) ++ (frame ++ others) = head ∙ is in
    let same : number ≡ length frame = eight_once number (length frame) rest (frame ++ others) range short flat in
    let behind : rest ≡ frame ++ others = ap (drop 8) flat in
    omega (arith, few, same, ap length behind, length-append frame others)

-- nor does an entry that was cut short begin with one
cut-none : (frame : List ℕ) (n : ℕ) → length frame < 2 ^ 64 → n < length (entry frame) → BeginsNone (take n (entry frame))
cut-none frame n short cut = λ other rest small is.
    let whole : entry frame ++ [] ≡ entry other ++ (rest ++ drop n (entry frame)) =
    append-nil (entry frame) ∙ sym (take-append-drop n (entry frame)) ∙ ap (λ l. l ++ drop n (entry frame)) is ∙ append_assoc (entry other) rest (drop n (entry frame)) in
    let none : [] ≡ rest ++ drop n (entry frame) = (entry-once frame other [] (rest ++ drop n (entry frame)) short small whole).1 in
    omega (arith, cut, ap length none, length-append rest (drop n (entry frame)), length-drop n (entry frame))

pub cut-is : (frames : List (List ℕ)) (frame : List ℕ) (n : ℕ) → length frame < 2 ^ 64 → n < length (entry frame) → AreFramesOf (log frames ++ take n (entry frame)) frames
cut-is frames frame n short cut = record { rest = take n (entry frame); whole = refl; over = cut-none frame n short cut }

-- ---- many entries

behind-first : (f : List ℕ) (fs : List (List ℕ)) (r : List ℕ) → log (f ∷ fs) ++ r ≡ entry f ++ (log fs ++ r)
behind-first f fs r = append_assoc (entry f) (log fs) r

short-first : (f : List ℕ) (fs : List (List ℕ)) (r : List ℕ) → length (log (f ∷ fs) ++ r) < 2 ^ 64 → length f < 2 ^ 64
short-first f fs r short = omega (arith, short, length-append (log (f ∷ fs)) r, length-append (entry f) (log fs))

short-behind : (f : List ℕ) (fs : List (List ℕ)) (r : List ℕ) → length (log (f ∷ fs) ++ r) < 2 ^ 64 → length (log fs ++ r) < 2 ^ 64
short-behind f fs r short = omega (arith, short, length-append (log (f ∷ fs)) r, length-append (entry f) (log fs), length-append (log fs) r)

-- where the first frames are the same, what is behind them is
first-same : (f g : List ℕ) (fs gs : List (List ℕ)) (r s : List ℕ) → length (log (f ∷ fs) ++ r) < 2 ^ 64 → log (f ∷ fs) ++ r ≡ log (g ∷ gs) ++ s → (f ≡ g) × (log fs ++ r ≡ log gs ++ s)
first-same f g fs gs r s short same =
    entry-once f g (log fs ++ r) (log gs ++ s) (short-first f fs r short) (short-first g gs s (omega (arith, short, ap length same)))
    (sym (behind-first f fs r) ∙ same ∙ behind-first g gs s)

none-first : (g : List ℕ) (gs : List (List ℕ)) (r s : List ℕ) → length r < 2 ^ 64 → BeginsNone r → r ≡ log (g ∷ gs) ++ s → ⊥
none-first g gs r s short over is = over g (log gs ++ s) (short-first g gs s (omega (arith, short, ap length is))) (is ∙ behind-first g gs s)

both : (fs gs : List (List ℕ)) (r s : List ℕ) → length (log fs ++ r) < 2 ^ 64 → log fs ++ r ≡ log gs ++ s → BeginsNone r → BeginsNone s → fs ≡ gs
both [] [] r s short same one two = refl
both [] (g ∷ gs) r s short same one two = absurd (none-first g gs r s short one same)
both (f ∷ fs) [] r s short same one two = absurd (none-first f fs s r (omega (arith, short, ap length same)) two (sym same))
both (f ∷ fs) (g ∷ gs) r s short same one two =
    let first = first-same f g fs gs r s short same in
    ap (λ x. x ∷ fs) first.0 ∙ ap (λ l. g ∷ l) (both fs gs r s (short-behind f fs r short) first.1 one two)

pub frames-once : (bytes : List ℕ) (frames others : List (List ℕ)) → length bytes < 2 ^ 64 → AreFramesOf bytes frames → AreFramesOf bytes others → frames ≡ others
frames-once bytes frames others short one two =
    both frames others one.rest two.rest (omega (arith, short, ap length one.whole)) (sym one.whole ∙ two.whole) one.over two.over

more : (fs gs : List (List ℕ)) (r s : List ℕ) → length (log fs ++ r) < 2 ^ 64 → log fs ++ r ≡ log gs ++ s → BeginsNone r → length gs ≤ length fs
more fs [] r s short same one = omega arith
more [] (g ∷ gs) r s short same one = absurd (none-first g gs r s short one same)
more (f ∷ fs) (g ∷ gs) r s short same one =
    omega (arith, more fs gs r s (short-behind f fs r short) (first-same f g fs gs r s short same).1 one)

pub frames-longest : (bytes rest : List ℕ) (frames others : List (List ℕ)) → length bytes < 2 ^ 64 → AreFramesOf bytes frames → bytes ≡ log others ++ rest → length others ≤ length frames
frames-longest bytes rest frames others short one is =
    more frames others one.rest rest (omega (arith, short, ap length one.whole)) (sym one.whole ∙ is) one.over

-- ---- one frame more

pub log-more : (frames : List (List ℕ)) (frame : List ℕ) → log (frames ++ frame ∷ []) ≡ log frames ++ entry frame
log-more [] frame = append-nil (entry frame)
log-more (f ∷ fs) frame = ap (λ l. entry f ++ l) (log-more fs frame) ∙ sym (append_assoc (entry f) (log fs) (entry frame))
