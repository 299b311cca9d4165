-- Where a piece of a text ends.
use Rattle.std.proofs.Common.{◌≡◌, ◌∙◌, ◌≤◌, ◌<◌, ◌+◌, ◌-◌, ℕ, List, [], ◌∷◌, ◌++◌, length, drop, get_or, true, refl, sym, ap, arith}
use Rattle.std.proofs.lemmas.List.{append-nil, drop_all, drop-drop, length-drop, take-append-drop, take_all}
use Rattle.csv.specs.Reading.{default_config, records}
use Rattle.pipe_scan.specs.Lines.{ends_line, ends_with_line, has_no_quote}
use Rattle.pipe_scan.specs.Records.{between, records_at}
use Rattle.pipe_scan.proofs.Cuts.{cut-records}
use Rattle.pipe_scan.proofs.RecordList.{all-none, ends-none}
use Rattle.pipe_scan.proofs.ScanFacts.{between_more}
use Rattle.csv.specs.declared.parser.State.TheVariants as st

-- a text that ends with a byte that ends a line
ends_with_byte : (xs : List ℕ) (c : ℕ) → ends_line c ≡ true → ends_with_line (xs ++ (c ∷ [])) ≡ true
ends_with_byte [] c e = e
ends_with_byte (x ∷ []) c e = e
ends_with_byte (x ∷ y ∷ xs) c e = ends_with_byte (y ∷ xs) c e

-- a text from a place on is what is between, and the rest
halves : (text : List ℕ) (at next : ℕ) → at ≤ next → drop at text ≡ between text at next ++ drop next text
halves text at next l =
    let j : at + (next - at) ≡ next = omega arith in
    sym (take-append-drop (next - at) (drop at text)) ∙ ap (λ (ys : List ℕ). between text at next ++ ys) (drop-drop (next - at) at text ∙ ap (λ (n : ℕ). drop n text) j)

-- the records from a place on are those of a piece, and those behind it
abbrev pub Pieces : List ℕ → ℕ → ℕ → Type 0
Pieces text at next = has_no_quote (between text at next) ≡ true → records_at text at ≡ records default_config (between text at next) ++ records_at text next

-- behind the end of a line
pub piece_at_line : (text : List ℕ) (at i : ℕ) → at ≤ i → i < length text → ends_line (get_or text i 0) ≡ true → Pieces text at (i + 1)
piece_at_line text at i l h e = λ p.
    let m = between_more text at i (get_or text i 0) l h refl in
    let w : ends_with_line (between text at (i + 1)) ≡ true = rw m (ends_with_byte (between text at i) (get_or text i 0) e) in
    ap (records default_config) (halves text at (i + 1) (omega arith)) ∙ cut-records (between text at (i + 1)) (drop (i + 1) text) p w

-- at the end of the text
pub piece_at_end : (text : List ℕ) (at : ℕ) → at ≤ length text → Pieces text at (length text)
piece_at_end text at l = λ p.
    let none : records_at text (length text) ≡ [] = rw (drop_all (length text) text (omega arith)) (all-none default_config st.StartRecord [] (ends-none default_config st.StartRecord tt)) in
    let all : between text at (length text) ≡ drop at text = take_all (length text - at) (drop at text) (rw length-drop (omega arith)) in
    rw (none, all) (sym (append-nil (records_at text at)))
