-- The parts of a row are appended one after another.
use Rattle.std.proofs.Common.{rules, ◌≡◌, ◌++◌, ◌∙◌, ℕ, List, length, Result, Ok, Err, OnOk, append_assoc}
use Rattle.std.specs.Int.{bytes_high_first}
use Rattle.pipe_columns.specs.Key.{code}
use Rattle.pipe_spill.proofs.frame_write.append_row.Goals as goal

-- a piece more behind some bytes
behind : (old a b s t : List ℕ) → s ≡ old ++ a → t ≡ s ++ b → t ≡ old ++ (a ++ b)
behind old a b s t p q = q ∙ rw p (append_assoc old a b)

-- what holds at `Ok`, and what follows from it
then : {X E : Type 0} (P Q : Type 0) (r : Result X E) → (P → Q) → OnOk r P → OnOk r Q
then P Q (Ok x) f p = f p
then P Q (Err e) f p = tt

pub returns : goal.returns
returns c =
    let row = c.args.row.now in
    let old : List ℕ = c.args.frame.now.items in
    let chunk : List ℕ = bytes_high_first 4 row.place.chunk in
    let number : List ℕ = bytes_high_first 4 row.place.row in
    let size : List ℕ = bytes_high_first 8 (length row.key) in
    let key : List ℕ = row.key in
    let inputs : List ℕ = code c.args.input_types.now row.values in
    let s : List ℕ = c.extend_from_slice.new.self.items in
    let t : List ℕ = c.extend_from_slice-2.new.self.items in
    let u : List ℕ = c.extend_from_slice-3.new.self.items in
    let v : List ℕ = c.extend_from_slice-4.new.self.items in
    let w : List ℕ = c.append_values.new.buffer.items in
    let first : s ≡ old ++ chunk = search rules in
    let second : t ≡ s ++ number = search rules in
    let third : u ≡ t ++ size = search rules in
    let fourth : v ≡ u ++ key = search rules in
    let same : c.as_slice.result.now ≡ row.values = search rules in
    let front = behind old (chunk ++ number ++ size) key u v (behind old (chunk ++ number) size t u (behind old chunk number s t first second) third) fourth in
    let last : OnOk c.append_values.result (w ≡ v ++ inputs) = rw same at c.append_values.ensures.ok in
    then (w ≡ v ++ inputs) (w ≡ old ++ (chunk ++ number ++ size ++ key ++ inputs)) c.append_values.result
    (λ e. behind old (chunk ++ number ++ size ++ key) inputs v w front e) last
