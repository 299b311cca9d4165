use Rattle.std.proofs.Common.{rules, ◌≡◌, ◌<◌, ◌∙◌, ◌++◌, List, ℕ, length, take, drop, get_or, ap, take-append-drop}
use Rattle.std.specs.Int.{bytes_high_first}
use Rattle.std.proofs.lemmas.Nat.{be_bytes_8}
use Rattle.pipe_spill.proofs.FrontBytes.{small_front}
use Rattle.summary_log.proofs.take_entry.take_length.Goals as goal

pub returns-clause-some : goal.returns-clause-some
returns-clause-some c =
    let bytes : List ℕ = c.args.bytes.now in
    let number = c.from_be_bytes.result in
    let front : c.in_ok-front.front.now ≡ take 8 bytes = search rules in
    let rest : c.in_ok-front.rest.now ≡ drop 8 bytes = search rules in
    let size : length c.in_ok-front.front.now ≡ 8 = search rules in
    let small : (i : ℕ) → get_or c.in_ok-front.front.now i 0 < 256 = rw front (small_front bytes (λ i. (c.type_inv.bytes i).fits) 8) in
    let same : bytes_high_first 8 number ≡ c.in_ok-front.front.now = be_bytes_8 c.in_ok-front.front.now number size small (search rules) in
    ap (λ (l : List ℕ). l ++ c.in_ok-front.rest.now) same ∙ rw (front, rest) (take-append-drop 8 bytes)
