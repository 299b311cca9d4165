use Rattle.std.proofs.Common.{◌≡◌, ◌∙◌, ◌<◌, ◌+◌, ◌++◌, [], List, ℕ, map, Ok, None, Result, ap, arith, length, get_or, rules, subst, sym}
use Rattle.std.specs.Result.{IfOk}
use Rattle.std.proofs.lemmas.List.{get_or-map, length-map, with_items_is, places}
use Rattle.pipe_columns.specs.declared.data_chunk.DataChunk.{DataChunk}
use Rattle.pipe_csv.specs.declared.csv_error.CsvError.{CsvError}
use Rattle.pipe_source.specs.declared.round.ChunkPlace.{ChunkPlace}
use Rattle.pipe_source.specs.Kept.{kept_chunk, chunks_at}
use Rattle.pipe_source.proofs.KeptFacts.{more-at}
use Rattle.pipe_source.proofs.reading.Reading.chunks_of.Goals as goal

pub returns : goal.returns
returns g c =
    let pushed = c.in_ok-push_made.ensures in
    let more : List DataChunk = pushed.0 in
    let back = with_items_is c.in_ok-places.places c.read_each.new.places (search (rules, places)) in
    let read : map (λ p. p.made) c.read_each.new.places ≡ map Ok more = ap (map (λ p. p.made)) (sym back) ∙ pushed.1 in
    let count : length c.as_mut_slice.result.now ≡ c.args.count = search rules in
    let many : length more ≡ c.args.count = sym (length-map more (λ (x : DataChunk). let r : Result DataChunk CsvError = Ok x in r)) ∙ ap length (sym read) ∙ length-map c.read_each.new.places (λ (p : ChunkPlace). p.made) ∙ c.read_each.ensures.count ∙ count in
    let each : (i : ℕ) (d : Result DataChunk CsvError) → i < length more → IfOk (get_or (map Ok more) i d) (λ x. x ≡ kept_chunk c.args.self.now c.args.text.now (0 + i)) =
    λ i d h.
    subst (λ k. IfOk (get_or (map Ok more) i d) (λ x. x ≡ kept_chunk c.args.self.now c.args.text.now k)) {x = i} {y = 0 + i} (omega arith)
    (subst (λ (xs : List (Result DataChunk CsvError)). IfOk (get_or xs i d) (λ x. x ≡ kept_chunk c.args.self.now c.args.text.now i)) read
    (subst (λ (r : Result DataChunk CsvError). IfOk r (λ x. x ≡ kept_chunk c.args.self.now c.args.text.now i)) (sym (get_or-map (λ (p : ChunkPlace). p.made) c.read_each.new.places i (record { spent = None; made = d }) d (omega (arith, h, many, count, c.read_each.ensures.count))))
    (c.read_each.ensures.each i (record { spent = None; made = d }) (omega (arith, h, many, count))))) in
    let none : c.new-chunks.result.items ≡ [] = search rules in
    pushed.2 ∙ ap (λ (l : List DataChunk). l ++ more) none ∙ more-at (kept_chunk c.args.self.now c.args.text.now) more 0 each ∙ ap (λ (k : ℕ). chunks_at c.args.self.now c.args.text.now k) {x = 0 + length more} {y = c.args.count} (omega (arith, many))
