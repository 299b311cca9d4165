-- Texts that are sent one behind another.
use Rattle.std.proofs.Common.{◌≡◌, ◌∙◌, ◌+◌, ◌<◌, ◌++◌, ℕ, List, Option, Vec, Global, get_or, length, take, drop, sym, ap, flat_map, append_assoc, take-append-drop}
use Rattle.std.proofs.KnownBytes.{Appends-trans}
use Rattle.std.proofs.lemmas.Grind.{flat_map-append}
use Rattle.std.proofs.lemmas.List.{at_drop_more}
use Rattle.std.specs.Io.KnownBytes.{Appends}
use Rattle.pipe_io.specs.Output.{WroteFront}
use Rattle.pipe_lines.specs.Lines.{joined_texts}
use Rattle.pipe_writers.proofs.LineFacts.{front_of}

-- a front of a text is a front of all that it begins
pub begins : (a b : Option (List ℕ)) (piece rest : List ℕ) → WroteFront a b piece → WroteFront a b (piece ++ rest)
begins a b piece rest more =
    front_of a b (take more.0 piece) (drop more.0 piece ++ rest) (piece ++ rest)
    (sym (append_assoc (take more.0 piece) (drop more.0 piece) rest) ∙ ap (λ t. t ++ rest) (take-append-drop more.0 piece)) more.1

-- what was sent, and a front of what follows
pub goes_on : (a b c : Option (List ℕ)) (before piece rest all : List ℕ) → before ++ (piece ++ rest) ≡ all → Appends a b before → WroteFront b c piece → WroteFront a c all
goes_on a b c before piece rest all is sent more =
    let front = take more.0 piece in
    let left = drop more.0 piece ++ rest in
    let joined : (before ++ front) ++ left ≡ all =
    append_assoc before front left ∙ ap (λ t. before ++ t) (sym (append_assoc front (drop more.0 piece) rest) ∙ ap (λ t. t ++ rest) (take-append-drop more.0 piece)) ∙ is in
    front_of a c (before ++ front) left all joined (Appends-trans a b c before front sent more.1)

-- a head and texts, cut at a text
pub texts_cut : (head : List ℕ) (texts : List (Vec ℕ Global)) (k : ℕ) (t : Vec ℕ Global) → k < length texts → t ≡ get_or texts k t
    → (head ++ joined_texts (take k texts)) ++ (t.items ++ joined_texts (drop (k + 1) texts)) ≡ head ++ joined_texts texts
texts_cut head texts k t lt is =
    let rest : t.items ++ joined_texts (drop (k + 1) texts) ≡ joined_texts (drop k texts) =
    ap (λ (x : Vec ℕ Global). x.items ++ joined_texts (drop (k + 1) texts)) is ∙ sym (at_drop_more joined_texts texts k t lt) in
    append_assoc head (joined_texts (take k texts)) (t.items ++ joined_texts (drop (k + 1) texts))
    ∙ ap (λ b. head ++ b)
    (ap (λ b. joined_texts (take k texts) ++ b) rest
    ∙ sym (flat_map-append (λ (x : Vec ℕ Global). x.items) (take k texts) (drop k texts))
    ∙ ap joined_texts (take-append-drop k texts))
