use Rattle.std.proofs.Common.{◌∙◌, ◌+◌, ℕ, [], ◌∷◌, ap, subst, arith}
use Rattle.pipe_groups.specs.Columns.{columns_of_unfinished, HaveRoomFrom, with_values_at}
use Rattle.pipe_groups.proofs.ColumnFacts.{with_values_at-more}
use Rattle.pipe_groups.proofs.unfinished.give_at.Goals as goal

pub place_at-requires-in-Pair-2-clause-room : goal.place_at-requires-in-Pair-2-clause-room
place_at-requires-in-Pair-2-clause-room c = c.place_at-in-Pair.ensures.room 0 c.requires.room

pub returns-in-One-clause-room : goal.returns-in-One-clause-room
returns-in-One-clause-room c = rw c.in-One.is c.place_at.ensures.room

pub returns-in-Pair-clause-columns : goal.returns-in-Pair-clause-columns
returns-in-Pair-clause-columns c =
    rw c.in-Pair.is (c.place_at-in-Pair-2.ensures.columns
    ∙ ap (with_values_at (c.args.at + 1) (c.in-Pair.second ∷ [])) c.place_at-in-Pair.ensures.columns
    ∙ with_values_at-more c.args.at (c.in-Pair.first ∷ []) (c.in-Pair.second ∷ []) (columns_of_unfinished c.args.columns.now) (c.args.at + 1) (omega arith))

pub returns-in-Pair-clause-room : goal.returns-in-Pair-clause-room
returns-in-Pair-clause-room c =
    rw c.in-Pair.is (λ n h. subst (λ (k : ℕ). HaveRoomFrom n k c.place_at-in-Pair-2.new.columns) (omega arith) (c.place_at-in-Pair-2.ensures.room n (c.place_at-in-Pair.ensures.room n h)))
