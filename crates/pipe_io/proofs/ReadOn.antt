-- Reading a file on.
use Rattle.std.proofs.Common.{◌≡◌, ◌∙◌, ◌+◌, ◌<◌, ℕ, List, [], ◌++◌, length, take, drop, IfOk, Result, Ok, Err, Option, Some, None, refl, sym, ap, subst, append_assoc, drop_at, length-append, length-take-le, take-add, ◌≤◌, arith}
use Rattle.std.proofs.lemmas.List.{append-nil, take-append-le}
use Rattle.std.specs.Io.{ReadsAtMost}
use Rattle.std.specs.Io.KnownBytes.{Consumes, IsAtEnd, ReadConsumes}
use Rattle.pipe_io.specs.Files.{Files, IsLarger, IsRead, IsWhole}

-- the next bytes come after those that were read
pub read_more : (told : Option Files) (name : List ℕ) (a b : Option (List ℕ)) (done bs : List ℕ) → IsRead told name a done → Consumes a b bs → IsRead told name b (done ++ bs)
read_more None name a b done bs h c = tt
read_more (Some files) name None b done bs h c = cc h.1
read_more (Some files) name (Some rest) None done bs h c = absurd c
read_more (Some files) name (Some rest) (Some ys) done bs h c =
    let same : h.0 ≡ rest = cc h.1 in
    (ys, refl, h.2 ∙ ap Some (ap (λ (t : List ℕ). done ++ t) (same ∙ c) ∙ sym (append_assoc done bs ys)))

-- at the end all of it was read
pub read_whole : (told : Option Files) (name : List ℕ) (b : Option (List ℕ)) (done : List ℕ) → IsRead told name b done → IsAtEnd b → IsWhole told name done
read_whole None name b done h e = tt
read_whole (Some files) name None done h e = cc h.1
read_whole (Some files) name (Some rest) done h e =
    let none : h.0 ≡ [] = cc (h.1, e) in
    h.2 ∙ ap Some (ap (λ (t : List ℕ). done ++ t) none ∙ append-nil done)

-- a front of more bytes than that was read
pub read_larger : (told : Option Files) (name : List ℕ) (b : Option (List ℕ)) (n most : ℕ) (xs : List ℕ) → n ≤ length xs → IsRead told name b (take n xs) → most < n → IsLarger told name most
read_larger None name b n most xs within h l = tt
read_larger (Some files) name b n most xs within h l =
    (take n xs ++ h.0, h.2, rw (length-append, length-take-le n xs within) (omega (arith, l)))

-- what was read into a part stands behind what is before it
pub read_in_place : {E : Type 0} (a b : Option (List ℕ)) (r : Result ℕ E) (front part rest : List ℕ) (at : ℕ) → length front ≡ at → ReadsAtMost r part
    → ReadConsumes a b r part → IfOk r (λ n. Consumes a b (take n (drop at (front ++ (part ++ rest)))))
read_in_place a b (Ok n) front part rest at long fits read =
    subst (Consumes a b) (sym (ap (take n) (drop_at front (part ++ rest) at long) ∙ take-append-le n part rest fits.0)) read.0
read_in_place a b (Err e) front part rest at long fits read = tt

-- what was read behind the front of a longer list comes after what stood there
pub read_behind_front : (told : Option Files) (name : List ℕ) (a b : Option (List ℕ)) (xs zs lent ys : List ℕ) (f n : ℕ) → IsRead told name a (take f xs) → take f zs ≡ take f xs → lent ≡ zs → take f ys ≡ take f lent → Consumes a b (take n (drop f ys)) → IsRead told name b (take (f + n) ys)
read_behind_front told name a b xs zs lent ys f n before grown same front read =
    let first : take f ys ≡ take f xs = front ∙ ap (take f) same ∙ grown in
    subst (IsRead told name b) (ap (λ (t : List ℕ). t ++ take n (drop f ys)) (sym first) ∙ sym (take-add f n ys)) (read_more told name a b (take f xs) (take n (drop f ys)) before read)
