use Rattle.std.proofs.Common.{rules}
use Rattle.pipe_waiting.specs.Waiting.{left_rows}
use Rattle.pipe_global.specs.Finishing.{IsCause}
use Rattle.pipe_global.proofs.Gathered.{asked-last, asked-none, can-read, cause-more, gathered-asked, gathered-frame, gathered-kept, gathered-more, merge-read}
use Rattle.pipe_global.proofs.contents.Contents.merge_last.Goals as goal

pub get_marked-requires : goal.get_marked-requires
get_marked-requires g c = can-read c.args.self.now c.last_mark-mark.result c.requires.can c.last_mark-mark.ensures

pub returns-in_err-get_marked-clause-gathered : goal.returns-in_err-get_marked-clause-gathered
returns-in_err-get_marked-clause-gathered g c = gathered-asked c.args.self.now c.get_marked.new.self c.get_marked.ensures.asked

pub lend_marked-requires-clause-can : goal.lend_marked-requires-clause-can
lend_marked-requires-clause-can g c =
    can-read c.get_marked.new.self c.last_mark-mark.result ((gathered-asked c.args.self.now c.get_marked.new.self c.get_marked.ensures.asked).gathers 0 c.requires.can)
    (asked-last c.args.self.now c.get_marked.new.self c.last_mark-mark.result c.get_marked.ensures.asked c.last_mark-mark.ensures)

pub returns-in_err-rows-clause-gathered : goal.returns-in_err-rows-clause-gathered
returns-in_err-rows-clause-gathered g c = gathered-asked c.args.self.now c.get_marked.new.self c.get_marked.ensures.asked

pub returns-in_err-rows-clause-cause : goal.returns-in_err-rows-clause-cause
returns-in_err-rows-clause-cause g c =
    let why : IsCause c.args.self.now c.get_marked.new.self c.in_err-rows.field-0.0 =
    cause-more c.args.self.now c.get_marked.new.self c.get_marked.new.self c.in_err-rows.field-0.0
    (gathered-asked c.args.self.now c.get_marked.new.self c.get_marked.ensures.asked) c.in_ok-get_marked.ensures.calm c.in_err-rows.ensures.cause in
    search (rules, why)

pub take_frame-requires-clause-last : goal.take_frame-requires-clause-last
take_frame-requires-clause-last g c = asked-last c.args.self.now c.get_marked.new.self c.last_mark-mark.result c.get_marked.ensures.asked c.last_mark-mark.ensures

pub take_frame-requires-clause-rows : goal.take_frame-requires-clause-rows
take_frame-requires-clause-rows g c =
    merge-read c.get_marked.new.self c.last_mark-mark.result (left_rows c.get_marked.new.self.table.shape.input_types c.in_ok-rows.rows)
    ((gathered-asked c.args.self.now c.get_marked.new.self c.get_marked.ensures.asked).gathers 0 c.requires.can)
    (asked-last c.args.self.now c.get_marked.new.self c.last_mark-mark.result c.get_marked.ensures.asked c.last_mark-mark.ensures) c.in_ok-rows.ensures.rows

pub returns-in_err-take_frame-clause-gathered : goal.returns-in_err-take_frame-clause-gathered
returns-in_err-take_frame-clause-gathered g c =
    gathered-more c.args.self.now c.get_marked.new.self c.take_frame.new.self
    (gathered-asked c.args.self.now c.get_marked.new.self c.get_marked.ensures.asked)
    (gathered-kept c.get_marked.new.self c.take_frame.new.self c.in_err-take_frame.ensures.err)

pub returns-clause-gathered : goal.returns-clause-gathered
returns-clause-gathered g c =
    gathered-more c.args.self.now c.get_marked.new.self c.take_frame.new.self
    (gathered-asked c.args.self.now c.get_marked.new.self c.get_marked.ensures.asked)
    (gathered-frame c.get_marked.new.self c.get_marked.new.self c.last_mark-mark.result (left_rows c.get_marked.new.self.table.shape.input_types c.in_ok-rows.rows) c.take_frame.new.self
    (asked-none c.get_marked.new.self) c.in_ok-rows.ensures.rows c.in_ok-take_frame.ensures.ok)
