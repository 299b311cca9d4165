-- What arrivals name, where what came is what lists of senders hold.
use Rattle.std.proofs.Common.{◌≡◌, ◌≢◌, ◌∙◌, ◌++◌, ◌∷◌, ◌+◌, ◌<◌, ◌≤◌, ◌==◌, ℕ, zero, suc, Bool, true, false, Option, Some, List, [], length, map, sym, refl, ap, subst, arith, append_assoc, append-nil}
use Rattle.std.specs.Prelude.{filter, cond, slice_get, slice_index_or}
use Rattle.std.specs.List.{range_with_len}
use Rattle.std.proofs.lemmas.Bool.{eq-eqb, ne_eqb}
use Rattle.std.proofs.lemmas.List.Elements.{filter-append}
use Rattle.pipe_columns.specs.declared.data_chunk.DataChunk.{DataChunk}
use Rattle.pipe_writer.specs.Arrivals.{arrived, list_of, named, numbers_of}
use Rattle.pipe_writer.specs.Carries.{AreWhole}
use Rattle.pipe_writer.specs.Sent.{numbered, of_sender}
use Rattle.pipe_writer.specs.Taken.{arrival_of, arrivals_of, chunks_of}
use Rattle.pipe_writer.specs.declared.arrivals.Arrival.{Arrival}
use Rattle.pipe_writer.specs.declared.message.SentChunk.{SentChunk}
use Rattle.pipe_writer.proofs.History.{numbered-more}
use native.Mathlib.Decide.{ℕ_discrete}

-- the numbers of chunks
abbrev pub numbers_in : List SentChunk → List ℕ
numbers_in sent = map (λ c. c.number) sent

one-more-or-not : (b : Bool) (c : SentChunk) (ars : List Arrival) (cs : List SentChunk) → map (λ a. a.number) ars ≡ numbers_in cs → map (λ a. a.number) (cond b (arrival_of c ∷ ars) ars) ≡ numbers_in (cond b (c ∷ cs) cs)
one-more-or-not true c arrivals cs e = ap (λ (ns : List ℕ). c.number ∷ ns) e
one-more-or-not false c arrivals cs e = e

-- the numbers of what arrived of a sender are those of its chunks
pub numbers-are : (sender : ℕ) (sent : List SentChunk) → numbers_of sender (arrivals_of sent) ≡ numbers_in (of_sender sender sent)
numbers-are sender [] = refl
numbers-are sender (c ∷ sent) = one-more-or-not (c.sender == sender) c (filter (λ a. a.sender == sender) (arrivals_of sent)) (of_sender sender sent) (numbers-are sender sent)

-- a list's chunks are numbered on
pub numbers-on : (sender first : ℕ) (xs : List DataChunk) → numbers_in (numbered sender first xs) ≡ range_with_len first (length xs)
numbers-on sender first [] = refl
numbers-on sender first (x ∷ xs) = ap (λ (ns : List ℕ). first ∷ ns) (numbers-on sender (first + 1) xs)

-- the head and the rest of a list that begins with a numbered chunk
head-is : (x y : SentChunk) (xs ys : List SentChunk) → x ∷ xs ≡ y ∷ ys → x ≡ y
head-is x y xs ys e = cc

rest-is : (x y : SentChunk) (xs ys : List SentChunk) → x ∷ xs ≡ y ∷ ys → xs ≡ ys
rest-is x y xs ys e = cc

-- so are those of a front of them
pub numbers-front : (sender first : ℕ) (xs ys : List SentChunk) (list : List DataChunk) → xs ++ ys ≡ numbered sender first list
    → (length xs ≤ length list) × (numbers_in xs ≡ range_with_len first (length xs))
numbers-front sender first [] ys list are = (omega arith, refl)
numbers-front sender first (x ∷ xs) ys [] are = absurd (cc are)
numbers-front sender first (x ∷ xs) ys (d ∷ list) are =
    let head = ap (λ (c : SentChunk). c.number) (head-is x _ _ _ are) in
    let on = numbers-front sender (first + 1) xs ys list (rest-is x _ _ _ are) in
    let few : length xs ≤ length list = on.0 in
    (omega (arith, few), λ i. head i ∷ on.1 i)

-- a chunk among them stands in the list, at its number
pub stands-at : (sender first : ℕ) (xs : List SentChunk) (c : SentChunk) (ys : List SentChunk) (list : List DataChunk) → xs ++ c ∷ ys ≡ numbered sender first list
    → (c.number ≡ first + length xs) × (slice_get list (length xs) ≡ Some c.chunk)
stands-at sender first [] c ys [] are = absurd (cc are)
stands-at sender first [] c ys (d ∷ list) are =
    let is = head-is c _ _ _ are in
    let number : c.number ≡ first = ap (λ (x : SentChunk). x.number) is in
    (omega (arith, number), ap (λ (x : SentChunk). Some x.chunk) (sym is))
stands-at sender first (x ∷ xs) c ys [] are = absurd (cc are)
stands-at sender first (x ∷ xs) c ys (d ∷ list) are =
    let on = stands-at sender (first + 1) xs c ys list (rest-is x _ _ _ are) in
    let number : c.number ≡ (first + 1) + length xs = on.0 in
    (omega (arith, number), on.1)

-- a chunk of what came is the one that its arrival names
named-is : (lists : List (List DataChunk)) (done : List SentChunk) (c : SentChunk) (left : List SentChunk) → AreWhole lists (done ++ c ∷ left) → named lists (arrival_of c) ≡ c.chunk ∷ []
named-is lists done c left whole =
    let own : of_sender c.sender (c ∷ left) ≡ c ∷ of_sender c.sender left = rw (eq-eqb c.sender c.sender refl) refl in
    let at = stands-at c.sender 0 (of_sender c.sender done) c (of_sender c.sender left) (slice_index_or lists c.sender [])
    (ap (λ (l : List SentChunk). of_sender c.sender done ++ l) (sym own) ∙ sym (filter-append (λ (x : SentChunk). x.sender == c.sender) done (c ∷ left)) ∙ whole c.sender) in
    let number : c.number ≡ 0 + length (of_sender c.sender done) = at.0 in
    let place : c.number ≡ length (of_sender c.sender done) = omega (arith, number) in
    ap (λ (k : ℕ). list_of (slice_get (slice_index_or lists c.sender []) k)) place ∙ ap (λ (x : Option DataChunk). list_of x) at.1

arrived-on : (lists : List (List DataChunk)) (done taken dropped : List SentChunk) → AreWhole lists (done ++ (taken ++ dropped)) → arrived (arrivals_of taken) lists ≡ chunks_of taken
arrived-on lists done [] dropped whole = refl
arrived-on lists done (c ∷ taken) dropped whole =
    let again : AreWhole lists ((done ++ c ∷ []) ++ (taken ++ dropped)) = λ s. ap (λ (l : List SentChunk). of_sender s l) (append_assoc done (c ∷ []) (taken ++ dropped)) ∙ whole s in
    let one = named-is lists done c (taken ++ dropped) whole in
    let on = arrived-on lists (done ++ c ∷ []) taken dropped again in
    λ i. one i ++ on i

-- what was taken of all that came is what its arrivals name in the lists
pub arrived-are : (lists : List (List DataChunk)) (taken dropped : List SentChunk) → AreWhole lists (taken ++ dropped) → arrived (arrivals_of taken) lists ≡ chunks_of taken
arrived-are lists taken dropped whole = arrived-on lists [] taken dropped whole

-- the numbers of what arrived of a sender are the first ones
pub arrive-in-order : (lists : List (List DataChunk)) (taken dropped : List SentChunk) → AreWhole lists (taken ++ dropped) → (sender : ℕ)
    → (n : ℕ) × (n ≤ length (slice_index_or lists sender [])) × (numbers_of sender (arrivals_of taken) ≡ range_with_len 0 n)
arrive-in-order lists taken dropped whole sender =
    let on = numbers-front sender 0 (of_sender sender taken) (of_sender sender dropped) (slice_index_or lists sender [])
    (sym (filter-append (λ (x : SentChunk). x.sender == sender) taken dropped) ∙ whole sender) in
    (length (of_sender sender taken), on.0, numbers-are sender taken ∙ on.1)

-- where all was taken, they are all
pub arrive-whole : (lists : List (List DataChunk)) (taken : List SentChunk) → AreWhole lists taken → (sender : ℕ)
    → numbers_of sender (arrivals_of taken) ≡ range_with_len 0 (length (slice_index_or lists sender []))
arrive-whole lists taken whole sender =
    numbers-are sender taken ∙ ap (λ (l : List SentChunk). numbers_in l) (whole sender) ∙ numbers-on sender 0 (slice_index_or lists sender [])

-- a longer list is numbered on
pub numbered-append : (sender first : ℕ) (xs ys : List DataChunk) → numbered sender first (xs ++ ys) ≡ numbered sender first xs ++ numbered sender (first + length xs) ys
numbered-append sender first [] ys = let e : first ≡ first + 0 = omega arith in ap (λ (k : ℕ). numbered sender k ys) e
numbered-append sender first (x ∷ xs) ys =
    let e : (first + 1) + length xs ≡ first + length (x ∷ xs) = omega arith in
    let front : SentChunk = record { sender = sender; number = first; chunk = x } in
    ap (λ (l : List SentChunk). front ∷ l) (numbered-append sender (first + 1) xs ys ∙ ap (λ (k : ℕ). numbered sender (first + 1) xs ++ numbered sender k ys) e)

-- the chunks of a sender are all its own, and none of another
own-all : (sender first : ℕ) (xs : List DataChunk) → of_sender sender (numbered sender first xs) ≡ numbered sender first xs
own-all sender first [] = refl
own-all sender first (x ∷ xs) = let front : SentChunk = record { sender = sender; number = first; chunk = x } in
    rw (eq-eqb sender sender refl) (ap (λ (l : List SentChunk). front ∷ l) (own-all sender (first + 1) xs))

own-none : (other sender first : ℕ) (xs : List DataChunk) → sender ≢ other → of_sender other (numbered sender first xs) ≡ []
own-none other sender first [] n = refl
own-none other sender first (x ∷ xs) n = rw (ne_eqb sender other n) (own-none other sender (first + 1) xs n)

-- the lists, that of a sender longer by others
abbrev pub longer_at : List (List DataChunk) → ℕ → List DataChunk → List (List DataChunk)
longer_at [] sender more = []
longer_at (l ∷ ls) zero more = (l ++ more) ∷ ls
longer_at (l ∷ ls) (suc sender) more = l ∷ longer_at ls sender more

longer-here : (lists : List (List DataChunk)) (sender : ℕ) (more : List DataChunk) → sender < length lists → slice_index_or (longer_at lists sender more) sender [] ≡ slice_index_or lists sender [] ++ more
longer-here [] sender more within = absurd (omega (arith, within))
longer-here (l ∷ ls) zero more within = refl
longer-here (l ∷ ls) (suc sender) more within = longer-here ls sender more (omega (arith, within))

longer-else : (lists : List (List DataChunk)) (sender other : ℕ) (more : List DataChunk) → sender ≢ other → slice_index_or (longer_at lists sender more) other [] ≡ slice_index_or lists other []
longer-else [] sender other more n = refl
longer-else (l ∷ ls) zero zero more n = absurd (n refl)
longer-else (l ∷ ls) zero (suc other) more n = refl
longer-else (l ∷ ls) (suc sender) zero more n = refl
longer-else (l ∷ ls) (suc sender) (suc other) more n = longer-else ls sender other more (λ e. n (ap suc e))

at-longer : (lists : List (List DataChunk)) (came : List SentChunk) (sender : ℕ) (more : List DataChunk) → AreWhole lists came → sender < length lists → (other : ℕ) → Dec (sender ≡ other)
    → of_sender other came ++ of_sender other (numbered sender (length (slice_index_or lists sender [])) more) ≡ numbered other 0 (slice_index_or (longer_at lists sender more) other [])
at-longer lists came sender more whole within other (yes e) =
    let l : List DataChunk = slice_index_or lists sender [] in
    let here : of_sender sender came ++ of_sender sender (numbered sender (length l) more) ≡ numbered sender 0 (slice_index_or (longer_at lists sender more) sender []) =
    ap (λ (cs : List SentChunk). cs ++ of_sender sender (numbered sender (length l) more)) (whole sender)
    ∙ ap (λ (cs : List SentChunk). numbered sender 0 l ++ cs) (own-all sender (length l) more)
    ∙ ap (λ (k : ℕ). numbered sender 0 l ++ numbered sender k more) (let z : length l ≡ 0 + length l = omega arith in z)
    ∙ sym (numbered-append sender 0 l more)
    ∙ ap (λ (cs : List DataChunk). numbered sender 0 cs) (sym (longer-here lists sender more within)) in
    subst (λ (k : ℕ). of_sender k came ++ of_sender k (numbered sender (length l) more) ≡ numbered k 0 (slice_index_or (longer_at lists sender more) k [])) e here
at-longer lists came sender more whole within other (no n) =
    ap (λ (cs : List SentChunk). of_sender other came ++ cs) (own-none other sender (length (slice_index_or lists sender [])) more n)
    ∙ append-nil (of_sender other came) ∙ whole other
    ∙ ap (λ (cs : List DataChunk). numbered other 0 cs) (sym (longer-else lists sender other more n))

-- what a sender kept comes behind all else
pub whole-longer : (lists : List (List DataChunk)) (came : List SentChunk) (sender : ℕ) (more : List DataChunk) → AreWhole lists came → sender < length lists
    → AreWhole (longer_at lists sender more) (came ++ numbered sender (length (slice_index_or lists sender [])) more)
whole-longer lists came sender more whole within other =
    filter-append (λ (x : SentChunk). x.sender == other) came (numbered sender (length (slice_index_or lists sender [])) more)
    ∙ at-longer lists came sender more whole within other (ℕ_discrete sender other)

-- one chunk more of what a sender kept
pub rest-more : (came : List SentChunk) (sender first number : ℕ) (xs : List DataChunk) (x : DataChunk) → number ≡ first + length xs
    → (came ++ numbered sender first xs) ++ record { sender = sender; number = number; chunk = x } ∷ [] ≡ came ++ numbered sender first (xs ++ x ∷ [])
rest-more came sender first number xs x e =
    append_assoc came (numbered sender first xs) (record { sender = sender; number = number; chunk = x } ∷ [])
    ∙ ap (λ (k : ℕ). came ++ (numbered sender first xs ++ record { sender = sender; number = k; chunk = x } ∷ [])) e
    ∙ ap (λ (l : List SentChunk). came ++ l) (sym (numbered-more sender first xs x))

-- an empty list behind one says nothing
one-of-two : (list : List DataChunk) (came : List SentChunk) → AreWhole (list ∷ [] ∷ []) came → AreWhole (list ∷ []) came
one-of-two list came whole zero = whole zero
one-of-two list came whole (suc zero) = whole (suc zero)
one-of-two list came whole (suc (suc sender)) = whole (suc (suc sender))

-- what one sender sent and kept has come whole
pub one-whole : (sent rest list : List DataChunk) (got : List SentChunk) (sender first : ℕ) → AreWhole (sent ∷ [] ∷ []) got → sender ≡ 0 → first ≡ length sent → list ≡ sent ++ rest
    → AreWhole (list ∷ []) (got ++ numbered sender first rest)
one-whole sent rest list got sender first whole s f l =
    rw (s, f, l) (one-of-two (sent ++ rest) (got ++ numbered 0 (length sent) rest) (whole-longer (sent ∷ [] ∷ []) got 0 rest whole (omega arith)))

-- what two senders sent and kept has come whole
pub two-whole : (sent rest list sent2 rest2 list2 : List DataChunk) (got : List SentChunk) (sender first sender2 first2 : ℕ) → AreWhole (sent ∷ sent2 ∷ []) got
    → sender ≡ 0 → first ≡ length sent → list ≡ sent ++ rest → sender2 ≡ 1 → first2 ≡ length sent2 → list2 ≡ sent2 ++ rest2
    → AreWhole (list ∷ list2 ∷ []) ((got ++ numbered sender first rest) ++ numbered sender2 first2 rest2)
two-whole sent rest list sent2 rest2 list2 got sender first sender2 first2 whole s f l s2 f2 l2 =
    rw (s, f, l, s2, f2, l2)
    (whole-longer ((sent ++ rest) ∷ sent2 ∷ []) (got ++ numbered 0 (length sent) rest) 1 rest2 (whole-longer (sent ∷ sent2 ∷ []) got 0 rest whole (omega arith)) (omega arith))
