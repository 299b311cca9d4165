-- Lines of rows that are sent piece by piece.
use Rattle.std.proofs.Common.{◌≡◌, ◌∙◌, ◌+◌, ◌<◌, ◌≤◌, ℕ, List, [], ◌∷◌, ◌++◌, Option, length, take, drop, sym, ap, subst, flat_map, append_assoc, take-append-drop, arith}
use Rattle.std.proofs.Math.Seq.{take-append_seam}
use Rattle.std.proofs.KnownBytes.{Appends-trans}
use Rattle.std.proofs.lemmas.Grind.{flat_map-append}
use Rattle.std.specs.Io.KnownBytes.{Appends}
use Rattle.pipe_io.specs.Output.{WroteFront}
use Rattle.std.proofs.Common.{Result, Ok, Err, OnErr}
use Rattle.pipe_lines.specs.Rows.{Row}

-- what is sent whole is a front of all, with something more behind it
pub front_of : (a b : Option (List ℕ)) (front rest all : List ℕ) → front ++ rest ≡ all → Appends a b front → WroteFront a b all
front_of a b front rest all is sent =
    (length front, subst (Appends a b) (sym (ap (take (length front)) (sym is) ∙ take-append_seam front rest)) sent)

module _ (line : Row → List ℕ) (rows : List Row) where
  abbrev lines_to : ℕ → List ℕ
  lines_to n = flat_map line (take n rows)

  -- the lines up to a row, and the others
  pub cut : (n : ℕ) (head : List ℕ) → (head ++ lines_to n) ++ flat_map line (drop n rows) ≡ head ++ flat_map line rows
  cut n head =
      append_assoc head (lines_to n) (flat_map line (drop n rows))
      ∙ ap (λ t. head ++ t) (sym (flat_map-append line (take n rows) (drop n rows)) ∙ ap (flat_map line) (take-append-drop n rows))

  -- what was sent so far is a front of all
  pub sent_front : (a b : Option (List ℕ)) (n : ℕ) (head : List ℕ) → Appends a b (head ++ lines_to n) → WroteFront a b (head ++ flat_map line rows)
  sent_front a b n head sent = front_of a b (head ++ lines_to n) (flat_map line (drop n rows)) _ (cut n head) sent

  -- what was sent so far, and a front of the next piece
  pub piece_front : (a b c : Option (List ℕ)) (from to : ℕ) (head piece : List ℕ) → Appends a b (head ++ lines_to from)
      → (head ++ lines_to from) ++ piece ≡ head ++ lines_to to → WroteFront b c piece → WroteFront a c (head ++ flat_map line rows)
  piece_front a b c from to head piece sent is more =
      let before = head ++ lines_to from in
      let front = take more.0 piece in
      let rest = drop more.0 piece ++ flat_map line (drop to rows) in
      let joined : (before ++ front) ++ rest ≡ head ++ flat_map line rows =
      append_assoc before front rest ∙ ap (λ t. before ++ t) (sym (append_assoc front (drop more.0 piece) (flat_map line (drop to rows))) ∙ ap (λ t. t ++ flat_map line (drop to rows)) (take-append-drop more.0 piece))
      ∙ sym (append_assoc before piece (flat_map line (drop to rows))) ∙ ap (λ t. t ++ flat_map line (drop to rows)) is ∙ cut to head in
      front_of a c (before ++ front) rest _ joined (Appends-trans a b c before front sent more.1)

  -- the same of the first piece
  pub first_front : (a b : Option (List ℕ)) (to : ℕ) (head piece : List ℕ) → piece ≡ head ++ lines_to to → WroteFront a b piece → WroteFront a b (head ++ flat_map line rows)
  first_front a b to head piece is more =
      let rest = drop more.0 piece ++ flat_map line (drop to rows) in
      front_of a b (take more.0 piece) rest _ (sym (append_assoc (take more.0 piece) (drop more.0 piece) (flat_map line (drop to rows))) ∙ ap (λ t. t ++ flat_map line (drop to rows)) (take-append-drop more.0 piece ∙ is) ∙ cut to head) more.1

-- what holds holds on an error
pub on_err : {A E : Type 0} (r : Result A E) (P : Type 0) → P → OnErr r P
on_err (Ok a) P p = tt
on_err (Err e) P p = p
