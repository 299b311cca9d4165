use Rattle.std.proofs.Common.{◌∙◌, ◌++◌, ◌∷◌, [], ℕ, List, ap, arith}
use Rattle.pipe_scan.specs.Records.{between}
use Rattle.pipe_source.proofs.QuotedFacts.{texts-start}
use Rattle.pipe_source.proofs.quoted_rows.gather.Goals as goal

pub loop-init : goal.loop-init
loop-init c =
    let pushed = c.in_ok-push_text.ensures in
    let w : List ℕ = between c.args.text.now c.args.start c.args.end in record {
      within = c.requires.record.1.takes.2;
      texts = pushed.texts c.args.start (omega arith) (rw (c.requires.line, c.requires.none) (texts-start c.args.text.now c.args.start));
      first = ([], pushed.places ∙ ap (λ (t : List (ℕ × ℕ)). t ++ ((c.args.start, c.args.end) ∷ [])) c.requires.none);
      line = (w, pushed.bytes ∙ ap (λ (t : List ℕ). t ++ w) c.requires.line);
    }

pub loop-preserved : goal.loop-preserved
loop-preserved c =
    let inv = c.loop.invariant in
    let next : ℕ = c.in-Some.next in
    let behind : ℕ = c.in-Some-record_end.behind in
    let pushed = c.in_ok-push_text-2.ensures in
    let w : List ℕ = between c.args.text.now next behind in record {
      within = c.in-Some-record_end.ensures.1.takes.2;
      texts = pushed.texts c.loop.low c.in-Some.ensures.least inv.texts;
      first = (inv.first.0 ++ ((next, behind) ∷ []), pushed.places ∙ ap (λ (t : List (ℕ × ℕ)). t ++ ((next, behind) ∷ [])) inv.first.1);
      line = (inv.line.0 ++ w, pushed.bytes ∙ ap (λ (t : List ℕ). t ++ w) inv.line.1);
    }
