use Rattle.std.proofs.Common.{◌≡◌, ◌∙◌, ◌++◌, List, length, rules, sym}
use Rattle.pipe_columns.specs.declared.data_chunk.DataChunk.{DataChunk}
use Rattle.pipe_writers.proofs.KeptFacts.{kept-removed, kept-whole}
use Rattle.pipe_writers.proofs.kept_chunks.append_kept.Goals as goal

pub returns-then-height-gt0-clause-ok : goal.returns-then-height-gt0-clause-ok
returns-then-height-gt0-clause-ok c =
    c.in_ok-append.ensures.items ∙ sym (kept-whole _ _ c.index.result.now c.requires.kept c.requires.more (search rules) (search rules) (search rules) (search rules))

pub returns-clause-ok : goal.returns-clause-ok
returns-clause-ok c =
    let xs : List DataChunk = c.args.chunks.now.items in
    let ys : List DataChunk = c.args.more.now.items in
    let items : c.append.new.self.items ≡ xs ++ ys = c.in_ok-append.ensures.items in
    let count : c.len-before.result ≡ length xs = search rules in
    c.remove-no_rows.ensures.items ∙ rw (items, count) (kept-removed xs ys c.index.result.now c.requires.kept c.requires.more (search rules) (search rules) (search rules) (search rules))
