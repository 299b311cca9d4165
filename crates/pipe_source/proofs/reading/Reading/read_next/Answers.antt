use Rattle.std.proofs.Common.{◌≡◌, ◌∙◌, ◌++◌, ◌-◌, ap, length, min, rules}
use Rattle.pipe_source.specs.ReadOn.{HasReadNext}
use Rattle.pipe_source.proofs.KeptFacts.{chunks-below, rows-below}
use Rattle.pipe_source.proofs.RoundFacts.{has-read-next, read-or-none, within-left}
use Rattle.pipe_source.proofs.reading.Reading.read_next.Goals as goal

pub chunks_of-requires-clause-some : goal.chunks_of-requires-clause-some
chunks_of-requires-clause-some g c =
    let text = c.in-Ok-Some.text in
    let found = rw c.in-Ok-Some.field-0-is at c.in-Ok-Some.ensures.found in
    λ κs bounds. within-left c.args.self.now text c.chunks_left.result c.min-some.result _ found.kept c.min-some.ensures c.chunks_left.ensures

pub advance-requires-clause-within : goal.advance-requires-clause-within
advance-requires-clause-within g c =
    let text = c.in-Ok-Some.text in
    let found = rw c.in-Ok-Some.field-0-is at c.in-Ok-Some.ensures.found in
    within-left c.args.self.now text c.chunks_left.result c.min-some.result _ found.kept c.min-some.ensures c.chunks_left.ensures

pub advance-requires-clause-few_rows : goal.advance-requires-clause-few_rows
advance-requires-clause-few_rows g c =
    let found = rw c.in-Ok-Some.field-0-is at c.in-Ok-Some.ensures.found in
    rows-below c.args.self.now c.in-Ok-Some.text found.kept

pub advance-requires-clause-few_chunks : goal.advance-requires-clause-few_chunks
advance-requires-clause-few_chunks g c =
    let found = rw c.in-Ok-Some.field-0-is at c.in-Ok-Some.ensures.found in
    chunks-below c.args.self.now c.in-Ok-Some.text found.kept

pub returns-clause-read : goal.returns-clause-read
returns-clause-read g c =
    let what = c.args.self.now in
    let told = g.I.InputFiles.told c.args.input.now in
    let before = c.args.chunks.now.items in
    let now = c.push_all.new.chunks.items in
    let text = c.in-Ok-Some.text in
    let found = rw c.in-Ok-Some.field-0-is at c.in-Ok-Some.ensures.found in
    let added : now ≡ before ++ c.in-Ok.more.items = search rules in
    let pushed = added ∙ ap (λ t. before ++ t) c.in-Ok.ensures in
    let some : c.min-some.result ≡ min (length text.starts.items - text.chunk) (c.args.count - length before) = search rules in
    let read : HasReadNext what told c.args.last before now c.args.count c.advance.new.self = has-read-next what told c.args.last before now c.args.count c.min-some.result text c.advance.new.self c.requires.reading found c.advance.ensures c.requires.some some pushed in
    read-or-none what told c.args.last before now c.args.count c.advance.new.self c.or_none.result read c.or_none.ensures.kept c.or_none.ensures.gone
