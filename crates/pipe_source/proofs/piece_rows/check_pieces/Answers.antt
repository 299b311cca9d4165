use Rattle.std.proofs.Common.{◌≡◌, ◌∙◌, ◌<◌, ◌+◌, ◌-◌, ℕ, length, get_or, arith, subst, sym, ap}
use Rattle.pipe_source.specs.PieceRows.{AreRowsTo}
use Rattle.pipe_source.proofs.PieceRows.{bound-within, piece-begin, rows-few, rows-more, rows-none, told-piece}
use Rattle.pipe_source.proofs.StartFacts.{noted-all}
use Rattle.pipe_source.proofs.piece_rows.check_pieces.Goals as goal

pub loop-n-init : goal.loop-n-init
loop-n-init g c = record {
  rows = subst (λ (n : ℕ). AreRowsTo c.args.layout.now c.args.fields.now c.args.text.now c.args.begin n 0) (sym c.in_ok-bounds.ensures.first) (rows-none c.args.layout.now c.args.fields.now c.args.text.now c.args.begin);
  size = c.new-starts.ensures.size;
  noted = c.new-starts.ensures.noted c.args.text.now c.args.begin;
}

pub overflow_add-count : goal.overflow_add-count
overflow_add-count g c =
    let n : ℕ = c.loop-n.n in
    let layout = c.args.layout.now in
    let schema = c.args.fields.now in
    let text = c.args.text.now in
    let begin : ℕ = c.args.begin in
    let bounds = c.in_ok-bounds.bounds.items in
    let pieces = c.in_ok-pieces.pieces.items in
    let grain : ℕ = c.args.sizes.grain in
    let few : n < length pieces = omega (arith, c.loop-n-test.true, c.len-n-end.ensures) in
    let met = rw c.deref.ensures.value at (c.in_ok-pieces.ensures.each n c.index.result.now few) in
    let seen = told-piece layout schema text (get_or bounds n 0) (get_or bounds (n + 1) 0) grain (get_or pieces n c.index.result.now) c.in-Ok.piece met (sym c.index.ensures ∙ c.in-Ok.is) in
    let rows = rows-more layout schema text begin (get_or bounds n 0) (get_or bounds (n + 1) 0) grain c.loop-n.count c.in-Ok.piece c.loop-n.invariant.rows seen in
    omega (arith, c.requires.small, rows-few layout schema text begin (get_or bounds (n + 1) 0) (c.loop-n.count + c.in-Ok.piece.count) rows)

pub loop-n-preserved : goal.loop-n-preserved
loop-n-preserved g c =
    let n : ℕ = c.loop-n.n in
    let layout = c.args.layout.now in
    let schema = c.args.fields.now in
    let text = c.args.text.now in
    let begin : ℕ = c.args.begin in
    let bounds = c.in_ok-bounds.bounds.items in
    let pieces = c.in_ok-pieces.pieces.items in
    let grain : ℕ = c.args.sizes.grain in
    let few : n < length pieces = omega (arith, c.loop-n-test.true, c.len-n-end.ensures) in
    let met = rw c.deref.ensures.value at (c.in_ok-pieces.ensures.each n c.index.result.now few) in
    let seen = told-piece layout schema text (get_or bounds n 0) (get_or bounds (n + 1) 0) grain (get_or pieces n c.index.result.now) c.in-Ok.piece met (sym c.index.ensures ∙ c.in-Ok.is) in
    let rows = rows-more layout schema text begin (get_or bounds n 0) (get_or bounds (n + 1) 0) grain c.loop-n.count c.in-Ok.piece c.loop-n.invariant.rows seen in
    let within = bound-within text begin (length text) n bounds c.in_ok-bounds.ensures (omega (arith, few, c.in_ok-pieces.ensures.many, ap length c.deref.ensures.value)) in record {
      rows = rows;
      size = c.in_ok-note_piece.ensures.size ∙ c.loop-n.invariant.size;
      noted = c.in_ok-note_piece.ensures.noted begin c.loop-n.count c.loop-n.invariant.noted (piece-begin layout schema text begin (get_or bounds n 0) (get_or bounds (n + 1) 0) grain c.loop-n.count c.in-Ok.piece c.loop-n.invariant.rows seen within);
    }

pub returns-clause-rows : goal.returns-clause-rows
returns-clause-rows g c =
    let bounds = c.in_ok-bounds.bounds.items in
    let end : c.loop-n.n ≡ length bounds - 1 = omega (arith, c.loop-n-test.false, c.loop-n.auto.n-end, c.len-n-end.ensures, c.in_ok-pieces.ensures.many, ap length c.deref.ensures.value) in
    let last : get_or bounds c.loop-n.n 0 ≡ length c.args.text.now = ap (λ (k : ℕ). get_or bounds k 0) end ∙ c.in_ok-bounds.ensures.last in
    subst (λ (high : ℕ). AreRowsTo c.args.layout.now c.args.fields.now c.args.text.now c.args.begin high c.loop-n.count) last c.loop-n.invariant.rows

pub returns-clause-starts : goal.returns-clause-starts
returns-clause-starts g c = noted-all c.args.text.now c.args.begin c.loop-n.count c.args.size c.loop-n.starts c.loop-n.invariant.size c.loop-n.invariant.noted
