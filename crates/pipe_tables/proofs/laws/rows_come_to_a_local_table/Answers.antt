use Rattle.std.proofs.Common.{◌∙◌, ◌++◌, [], map, ap, sym}
use Rattle.std.proofs.lemmas.List.Elements.{All-nil}
use Rattle.pipe_plan.proofs.Cutting.{full-short}
use Rattle.pipe_spill.specs.SpillRow.{HasValues, spilled}
use Rattle.pipe_tables.specs.After.{pieces_for}
use Rattle.pipe_tables.proofs.AfterFacts.{after-all, after-none, after-piece, after-room, after-row, pieces-all}
use Rattle.pipe_tables.proofs.laws.rows_come_to_a_local_table.Goals as goal

pub returns-clause-none : goal.returns-clause-none
returns-clause-none c = after-none

pub returns-clause-row : goal.returns-clause-row
returns-clause-row c = λ l s taken x t generic limits shape all typed after. after-row l s taken x t generic limits all typed after shape

pub returns-clause-piece : goal.returns-clause-piece
returns-clause-piece c = λ l s taken x t p generic limits all typed after. after-piece l s taken x t generic limits all typed after p

pub returns-clause-rows : goal.returns-clause-rows
returns-clause-rows c = λ l s rows t generic limits shape all after. after-all l s generic limits shape [] rows t (All-nil (HasValues s.key_types s.input_types)) all after

pub returns-clause-pieces : goal.returns-clause-pieces
returns-clause-pieces c = λ l s rows t p generic limits shape all after.
    sym (pieces-all l s generic limits shape [] rows t p (All-nil (HasValues s.key_types s.input_types)) all after ∙ ap (λ ps. ps ++ pieces_for p (map (spilled s.key_types) rows) t) (full-short l.buffer_size [] limits.buffer))

pub returns-clause-room : goal.returns-clause-room
returns-clause-room c = after-room
