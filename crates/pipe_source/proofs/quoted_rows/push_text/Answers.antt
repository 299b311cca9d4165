use Rattle.pipe_source.proofs.QuotedFacts.{texts-push}
use Rattle.pipe_source.proofs.quoted_rows.push_text.Goals as goal

pub returns-clause-texts : goal.returns-clause-texts
returns-clause-texts c =
    let items = c.push.ensures.items in
    let same = rw c.if-is_err.ensures.negation at items in
    λ low l a. rw (c.in_ok-extend_from_slice.ensures.items, same) (texts-push c.args.text.now low c.args.start c.args.end c.args.bytes.now.items c.args.places.now.items c.requires.0 a l c.requires.1)
