use Rattle.std.proofs.Common.{◌∙◌, ◌≡◌, ◌+◌, ◌-◌, ℕ, arith, subst}
use Rattle.pipe_source.specs.Starts.{AreNoted}
use Rattle.pipe_source.proofs.PieceRows.{noted-behind}
use Rattle.pipe_source.proofs.piece_starts.note_piece.Goals as goal

pub loop-starts-preserved : goal.loop-starts-preserved
loop-starts-preserved c =
    let inv = c.loop-starts.invariant in
    let count : ℕ = c.args.piece.now.count in
    let left : ℕ = c.loop-starts.left in record {
      within = omega (arith, inv.within, c.loop-starts-test.true);
      size = c.in_ok-note.ensures.size ∙ c.pass.ensures.size ∙ inv.size;
      noted = λ at before old low.
          let passed = c.pass.ensures.noted c.args.text.now at (before + (count - left)) (inv.noted at before old low) in
          noted-behind c.args.text.now at c.args.piece.now.low c.in_ok-place.place before count left c.loop-starts.starts.until c.pass.new.self c.note.new.self passed inv.within c.loop-starts-test.true low c.in_ok-place.ensures c.in_ok-note.ensures.noted;
    }

pub returns-clause-noted : goal.returns-clause-noted
returns-clause-noted c = λ at before old low.
    let inv = c.loop-starts.invariant in
    let count : ℕ = c.args.piece.now.count in
    let left : ℕ = c.loop-starts.left in
    let passed = c.pass-2.ensures.noted c.args.text.now at (before + (count - left)) (inv.noted at before old low) in
    let all : before + (count - left) + left ≡ before + count = omega (arith, inv.within) in
    subst (λ (n : ℕ). AreNoted c.args.text.now at n c.pass-2.new.self) all passed
