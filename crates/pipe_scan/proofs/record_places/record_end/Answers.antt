use Rattle.std.proofs.Common.{◌≡◌, ◌∙◌, length, [], refl, sym, ap, arith, true, get_or}
use Rattle.csv.specs.declared.parser.State.TheVariants as st
use Rattle.csv.specs.declared.parser.Action.TheVariants as act
use Rattle.pipe_scan.specs.Modes.{action_of, joins, state_of}
use Rattle.pipe_scan.proofs.ModeFacts.{is_before_record, is_within_record, joined}
use Rattle.pipe_scan.proofs.WholeRecords.{goes-last, goes-more, goes-none, goes-start, goes-stop, no_end}
use Rattle.pipe_scan.proofs.record_places.record_end.Goals as goal

pub loop-i-init : goal.loop-i-init
loop-i-init c = record {
  fields = [];
  field = [];
  goes = goes-start c.args.text.now c.args.at;
}

pub loop-i-preserved-then-joins : goal.loop-i-preserved-then-joins
loop-i-preserved-then-joins c =
    let inv = c.loop-i.invariant in
    let j : joins c.loop-i.mode ≡ true = sym c.joins.ensures ∙ c.if-joins.true in
    let s = joined c.loop-i.mode (get_or c.args.text.now c.loop-i.i 0) j c.if-byte-gt44.true in record {
      fields = _;
      field = _;
      goes = goes-more c.args.text.now c.args.at c.loop-i.i (state_of c.loop-i.mode) (state_of c.loop-i.mode) act.Copy inv.fields inv.field (omega arith) c.loop-i-test.true inv.goes (rw s refl) (rw s refl) refl;
    }

pub returns-in-EndRecord : goal.returns-in-EndRecord
returns-in-EndRecord c =
    let inv = c.loop-i.invariant in (
      _,
      goes-stop c.args.text.now c.args.at c.loop-i.i (state_of c.loop-i.mode) inv.fields inv.field (omega arith) c.loop-i-test.true inv.goes (ap action_of (sym c.in-EndRecord.is) ∙ c.next_step-next.ensures.effect),
    )

pub loop-i-preserved : goal.loop-i-preserved
loop-i-preserved c =
    let inv = c.loop-i.invariant in record {
      fields = _;
      field = _;
      goes = goes-more c.args.text.now c.args.at c.loop-i.i (state_of c.loop-i.mode) (state_of c.next_step-next.result.0) (action_of c.next_step-next.result.1) inv.fields inv.field (omega arith) c.loop-i-test.true inv.goes
          c.next_step-next.ensures.mode c.next_step-next.ensures.effect (no_end c.next_step-next.result.1 c.in_default.not-EndRecord);
    }

pub returns-in-BeforeRecord : goal.returns-in-BeforeRecord
returns-in-BeforeRecord c =
    let inv = c.loop-i.invariant in
    let n : c.loop-i.i ≡ length c.args.text.now = omega (arith, c.loop-i-test.false, c.loop-i.auto.i-end c.requires) in
    goes-none c.args.text.now c.args.at (state_of c.loop-i.mode) inv.fields inv.field c.requires (rw n at inv.goes) (is_before_record c.loop-i.mode c.in-BeforeRecord.is)

pub returns-in_default-mode : goal.returns-in_default-mode
returns-in_default-mode c =
    let inv = c.loop-i.invariant in
    let n : c.loop-i.i ≡ length c.args.text.now = omega (arith, c.loop-i-test.false, c.loop-i.auto.i-end c.requires) in (
      _,
      goes-last c.args.text.now c.args.at (state_of c.loop-i.mode) inv.fields inv.field c.requires (rw n at inv.goes) (is_within_record c.loop-i.mode c.in_default-mode.not-BeforeRecord c.in_default-mode.not-AfterCr),
    )
