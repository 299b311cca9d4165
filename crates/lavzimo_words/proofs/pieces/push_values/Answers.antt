use Rattle.std.proofs.Common.{◌∙◌, ◌++◌, ap, sym, arith}
use Rattle.std.specs.Prelude.{◌==◌}
use Rattle.std.specs.List.{slice_split}
use Rattle.std.proofs.lemmas.List.{append-nil}
use Rattle.lavzimo_words.specs.Pieces.{pieces_seen}
use Rattle.lavzimo_words.proofs.PieceFacts.{flat-all, flat-more, value_in_role, values-in-role}
use Rattle.lavzimo_words.proofs.pieces.push_values.Goals as goal

pub loop-value-init : goal.loop-value-init
loop-value-init c = sym (append-nil (pieces_seen c.args.pieces.now.items))

pub loop-value-preserved : goal.loop-value-preserved
loop-value-preserved c =
    flat-more (value_in_role c.args.role (slice_split (λ b. b == 44))) (pieces_seen c.args.pieces.now.items) (pieces_seen c.loop-value.pieces.items) (pieces_seen c.push_value.new.pieces.items) c.args.values.now c.loop-value.value-index _
    c.loop-value-test.true c.loop-value.invariant c.in_ok-push_value.ensures

pub returns : goal.returns
returns c =
    flat-all (value_in_role c.args.role (slice_split (λ b. b == 44))) (pieces_seen c.args.pieces.now.items) (pieces_seen c.loop-value.pieces.items) c.args.values.now c.loop-value.value-index (omega arith) c.loop-value.invariant
    ∙ ap (λ ys. pieces_seen c.args.pieces.now.items ++ ys) (values-in-role c.args.role (slice_split (λ b. b == 44)) c.args.values.now)
