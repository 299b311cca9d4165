use Rattle.std.proofs.Common.{sym, ap}
use Rattle.csv.specs.Reading.{default_config, records}
use Rattle.pipe_scan.proofs.TextStarts.{bom, no_bom_0, no_bom_1, no_bom_2, no_bom_short}
use Rattle.pipe_scan.proofs.text_head.text_start.Goals as goal

pub returns-then-text-lt3-clause-records : goal.returns-then-text-lt3-clause-records
returns-then-text-lt3-clause-records c = ap (records default_config) (sym (no_bom_short c.args.text.now c.if-text-lt3.true))

pub returns-then-text-clause-records : goal.returns-then-text-clause-records
returns-then-text-clause-records c = ap (records default_config) (sym (no_bom_0 c.args.text.now c.if-text.true))

pub returns-then-text-2-clause-records : goal.returns-then-text-2-clause-records
returns-then-text-2-clause-records c = ap (records default_config) (sym (no_bom_1 c.args.text.now c.if-text.false c.if-text-2.true))

pub returns-then-text-3-clause-records : goal.returns-then-text-3-clause-records
returns-then-text-3-clause-records c = ap (records default_config) (sym (no_bom_2 c.args.text.now c.if-text.false c.if-text-2.false c.if-text-3.true))

pub returns-clause-records : goal.returns-clause-records
returns-clause-records c = ap (records default_config) (sym (bom c.args.text.now c.if-text-lt3.false c.if-text.false c.if-text-2.false c.if-text-3.false))
