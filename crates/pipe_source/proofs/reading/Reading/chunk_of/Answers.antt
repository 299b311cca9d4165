use Rattle.std.proofs.Common.{◌≡◌, ◌∙◌, ◌+◌, ◌-◌, List, ℕ, [], arith, ap, sym, get_or}
use Rattle.std.proofs.lemmas.List.{get_or_default}
use Rattle.pipe_columns.specs.declared.any_value.AnyValue.{AnyValue}
use Rattle.pipe_csv.proofs.ColumnFacts.{items_of}
use Rattle.pipe_source.specs.Kept.{given_chunk, name_kept, piece_at, place_behind}
use Rattle.pipe_source.proofs.KeptFacts.{chunk-there, piece-placed}
use Rattle.pipe_source.proofs.ReaderFacts.{chunk-made, rows-seen}
use Rattle.pipe_source.proofs.reading.Reading.chunk_of.Goals as goal

pub push_laid_rows-requires-clause-rows : goal.push_laid_rows-requires-clause-rows
push_laid_rows-requires-clause-rows c =
    let k = c.args.text.now in
    let what = c.args.self.now in
    let inv = c.requires.kept in
    let size : ℕ = what.options.chunk_size in
    let count : c.min-count.result ≡ _ = c.min-count.ensures in
    let begin : c.index-begin.result.now ≡ get_or k.starts.items (k.chunk + c.args.n) 0 =
    c.index-begin.ensures ∙ get_or_default k.starts.items (k.chunk + c.args.n) c.index-begin.result.now 0 (chunk-there k.text.items size k.left c.args.n k.starts.items k.chunk inv.starts c.requires.some) in (
      piece_at size c.args.n inv.rows,
      rw (c.fields-fields.ensures, c.deref.ensures.value, begin) (piece-placed k.layout what.schema k.text.items size k.left c.args.n c.min-count.result k.starts.items k.chunk inv.rows inv.starts inv.placed c.requires.some count),
    )

pub returns-clause-chunk : goal.returns-clause-chunk
returns-clause-chunk c =
    let k = c.args.text.now in
    let what = c.args.self.now in
    let inv = c.requires.kept in
    let size : ℕ = what.options.chunk_size in
    let begin : c.index-begin.result.now ≡ get_or k.starts.items (k.chunk + c.args.n) 0 =
    c.index-begin.ensures ∙ get_or_default k.starts.items (k.chunk + c.args.n) c.index-begin.result.now 0 (chunk-there k.text.items size k.left c.args.n k.starts.items k.chunk inv.starts c.requires.some) in
    let placed = piece-placed k.layout what.schema k.text.items size k.left c.args.n c.min-count.result k.starts.items k.chunk inv.rows inv.starts inv.placed c.requires.some c.min-count.ensures in
    let file : c.index-file.result.now ≡ name_kept what k = c.index-file.ensures ∙ get_or_default what.names.items (k.at.file - 1) c.index-file.result.now [] (omega (arith, inv.few_rows, inv.files, c.requires.some)) in
    let pushed = rw (c.fields-fields.ensures, c.deref.ensures.value, c.deref-2.ensures.value, begin) at c.in_ok-push_laid_rows.ensures.pushed in
    let made = chunk-made what.options what.wanted.items what.schema c.kept_fields-kept.result.now c.index-file.result.now (place_behind k.at size c.args.n) c.min-count.result (items_of c.in_ok-columns.columns.items) (piece_at size c.args.n inv.rows) c.in_ok-chunk.chunk c.in_ok-chunk.ensures c.kept_fields-kept.ensures c.requires.reading.few (c.in_ok-columns.ensures ∙ pushed (piece_at size c.args.n inv.rows) placed) placed.size in
    made ∙ ap (λ (f : List ℕ). given_chunk what.options what.wanted.items what.schema f (place_behind k.at size c.args.n) (piece_at size c.args.n inv.rows)) file
    ∙ ap (λ (rows : List (List AnyValue)). given_chunk what.options what.wanted.items what.schema (name_kept what k) (place_behind k.at size c.args.n) (piece_at size c.args.n rows)) (sym (rows-seen k.layout what.schema k.text.items _ k.left inv.rows inv.placed))
