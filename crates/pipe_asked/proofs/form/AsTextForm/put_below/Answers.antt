use Rattle.std.proofs.Common.{rules, ◌≡◌, ◌∙◌, ◌+◌, ◌++◌, ap, flat_map, sym}
use Rattle.std.proofs.lemmas.Grind.{flat_map-append}
use Rattle.pipe_lines.specs.Lines.{joined_texts, LineText}
use Rattle.pipe_lines.specs.Rows.{frame_rows}
use Rattle.pipe_lines.proofs.StackedRows.{rows_stacked}
use Rattle.pipe_asked.proofs.form.AsTextForm.put_below.Goals as goal

pub returns : goal.returns
returns g c = λ f h same tall above below.
    let t : LineText = g.L.Lines.shape c.args.self.now.lines.now in
    let texts : c.append.new.self.items ≡ c.args.whole.now.texts.items ++ c.args.more.texts.items = search rules in
    let height : c.in-Some.height ≡ c.args.whole.now.height + c.args.more.height = search rules in (
      ap joined_texts texts
          ∙ flat_map-append (λ t. t.items) c.args.whole.now.texts.items c.args.more.texts.items
          ∙ (λ i. above.0 i ++ below.0 i)
          ∙ sym (ap (flat_map t.line) (rows_stacked f h same tall) ∙ flat_map-append t.line (frame_rows f) (frame_rows h)),
      height ∙ (λ i. above.1 i + below.1 i),
    )
