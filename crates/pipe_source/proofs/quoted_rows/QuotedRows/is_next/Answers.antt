use Rattle.std.proofs.Common.{◌∙◌, ◌<◌, ℕ, ap, arith, length, sym}
use Rattle.std.proofs.lemmas.List.{get_or_default}
use Rattle.pipe_source.proofs.quoted_rows.QuotedRows.is_next.Goals as goal

pub returns-then-index-start : goal.returns-then-index-start
returns-then-index-start c =
    let q = c.args.self.now in
    let some : q.next < length q.places.items = omega (arith, c.len.ensures, c.if-self-len.true) in
    let here = c.index.ensures ∙ get_or_default q.places.items q.next c.index.result.now (0, 0) some in
    λ t. (c.index.result.now.1, (some, sym here ∙ ap (λ (k : ℕ). (k, c.index.result.now.1)) c.if-index-start.true))
