use Rattle.std.proofs.Common.{inl, inr, ◌⊎◌, ◌≡◌, ◌≢◌, ◌∙◌, length, ℕ, refl, arith, true, get_or}
use Rattle.pipe_scan.specs.Lines.{ends_line}
use Rattle.pipe_scan.proofs.ScanFacts.{skips_at}
use Rattle.pipe_scan.proofs.WholeRecords.{same_at}
use Rattle.pipe_scan.proofs.record_places.record_start.Goals as goal

-- a byte that ends a line
is_line_end : (c : ℕ) → ((c ≢ 13) × (c ≡ 10)) ⊎ (c ≡ 13) → ends_line c ≡ true
is_line_end c (inl e) = rw e.1 refl
is_line_end c (inr e) = rw e refl

pub returns-then-byte-ne10-clause-records : goal.returns-then-byte-ne10-clause-records
returns-then-byte-ne10-clause-records c = same_at c.args.text.now c.args.at c.loop-i.i c.loop-i.invariant

pub loop-i-preserved : goal.loop-i-preserved
loop-i-preserved c = c.loop-i.invariant ∙ skips_at c.args.text.now c.loop-i.i c.loop-i-test.true (is_line_end (get_or c.args.text.now c.loop-i.i 0) c.else-byte-ne13.either)

pub returns-clause-records : goal.returns-clause-records
returns-clause-records c =
    let n : c.loop-i.i ≡ length c.args.text.now = omega (arith, c.loop-i-test.false, c.loop-i.auto.i-end c.requires) in
    same_at c.args.text.now c.args.at (length c.args.text.now) (rw n at c.loop-i.invariant)
