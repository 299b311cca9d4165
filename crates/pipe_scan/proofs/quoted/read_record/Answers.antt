use Rattle.std.proofs.Common.{true, refl, sym, arith, ◌≡◌, ◌∙◌, length, ℕ, ◌+◌, List, [], ◌∷◌, ◌++◌, ap, append_assoc, get_or}
use Rattle.std.proofs.lemmas.List.{append-nil}
use Rattle.csv.specs.Records.{fields_of, partial_of}
use Rattle.csv.specs.declared.parser.Action.TheVariants as act
use Rattle.pipe_scan.specs.Modes.{action_of, joins, state_of}
use Rattle.pipe_scan.specs.Records.{between}
use Rattle.pipe_scan.proofs.ScanFacts.{between_more, between_none}
use Rattle.pipe_scan.proofs.ModeFacts.{is_before_record, joined, is_within_record, pushed, reads-last, reads-none, reads-on, reads-stop}
use Rattle.pipe_scan.proofs.quoted.read_record.Goals as goal
use Rattle.pipe_scan.proofs.quoted.read_record.Goals.{in-Copy, in-Skip+in_ok-take_run-in-Skip, in-EndField+in_ok-take_run-in-EndField+in_ok-push_field-in-EndField}

pub returns-in-EndRecord : goal.returns-in-EndRecord
returns-in-EndRecord c =
    let f : List ℕ = c.loop-i.field.items ++ between c.args.text.now c.loop-i.run c.loop-i.i in
    let e = reads-stop c.args.text.now c.args.at c.loop-i.i (state_of c.loop-i.mode) (fields_of c.loop-i.row) f c.loop-i-test.true c.loop-i.invariant.reads
    (ap action_of (sym c.in-EndRecord.is) ∙ c.next_step-next.ensures.effect) in
    let p = pushed (fields_of c.loop-i.row) (fields_of c.push_field-in-EndRecord.new.self) (partial_of c.loop-i.row) c.deref-in-EndRecord.result.now f
    c.in_ok-push_field-in-EndRecord.ensures.fields c.loop-i.invariant.whole (c.deref-in-EndRecord.ensures.value ∙ c.in_ok-take_run-in-EndRecord.ensures) in
    (rw p e.0, e.1, omega (arith, c.loop-i-test.true))

pub loop-i-preserved : goal.loop-i-preserved
loop-i-preserved c =
    let f : List ℕ = c.loop-i.field.items ++ between c.args.text.now c.loop-i.run c.loop-i.i in
    elim c.match-effect.branch [
      | in-Copy w ↦
          let m : c.loop-i.field.items ++ between c.args.text.now c.loop-i.run (c.loop-i.i + 1) ≡ f ++ (get_or c.args.text.now c.loop-i.i 0 ∷ []) =
          ap (λ (xs : List ℕ). c.loop-i.field.items ++ xs) (between_more c.args.text.now c.loop-i.run c.loop-i.i (get_or c.args.text.now c.loop-i.i 0) c.loop-i.invariant.behind c.loop-i-test.true refl)
          ∙ sym (append_assoc c.loop-i.field.items (between c.args.text.now c.loop-i.run c.loop-i.i) (get_or c.args.text.now c.loop-i.i 0 ∷ [])) in
          rw (w.row-is, w.field-is, w.run-is) (record {
            behind = omega (arith, c.loop-i.invariant.behind);
            whole = c.loop-i.invariant.whole;
            reads = rw m (reads-on c.args.text.now c.args.at c.loop-i.i (state_of c.loop-i.mode) (state_of c.next_step-next.result.0) act.Copy (fields_of c.loop-i.row) f c.loop-i-test.true c.loop-i.invariant.reads
                c.next_step-next.ensures.mode (ap action_of (sym w.in-Copy.is) ∙ c.next_step-next.ensures.effect) refl);
          })
      | in-Skip+in_ok-take_run-in-Skip w ↦
          rw (w.row-is, w.field-is, w.run-is, w.in_ok-take_run-in-Skip.ensures, between_none c.args.text.now (c.loop-i.i + 1), append-nil f) (record {
            behind = omega arith;
            whole = c.loop-i.invariant.whole;
            reads = reads-on c.args.text.now c.args.at c.loop-i.i (state_of c.loop-i.mode) (state_of c.next_step-next.result.0) act.Skip (fields_of c.loop-i.row) f c.loop-i-test.true c.loop-i.invariant.reads
                c.next_step-next.ensures.mode (ap action_of (sym w.in-Skip.is) ∙ c.next_step-next.ensures.effect) refl;
          })
      | in-EndField+in_ok-take_run-in-EndField+in_ok-push_field-in-EndField w ↦
          let p = pushed (fields_of c.loop-i.row) (fields_of w.push_field.new.self) (partial_of c.loop-i.row) w.deref.result.now f
          w.in_ok-push_field-in-EndField.ensures.fields c.loop-i.invariant.whole (w.deref.ensures.value ∙ w.in_ok-take_run-in-EndField.ensures) in
          rw (w.row-is, w.field-is, w.run-is, p, w.clear-in-EndField.ensures.items, between_none c.args.text.now (c.loop-i.i + 1)) (record {
            behind = omega arith;
            whole = w.in_ok-push_field-in-EndField.ensures.partial;
            reads = reads-on c.args.text.now c.args.at c.loop-i.i (state_of c.loop-i.mode) (state_of c.next_step-next.result.0) act.EndField (fields_of c.loop-i.row) f c.loop-i-test.true c.loop-i.invariant.reads
                c.next_step-next.ensures.mode (ap action_of (sym w.in-EndField.is) ∙ c.next_step-next.ensures.effect) refl;
          })
    ]

pub returns-in-BeforeRecord : goal.returns-in-BeforeRecord
returns-in-BeforeRecord c =
    let n : c.loop-i.i ≡ length c.args.text.now = omega (arith, c.loop-i-test.false, c.loop-i.auto.i-end c.requires) in
    reads-none c.args.text.now c.args.at (state_of c.loop-i.mode) (fields_of c.loop-i.row) (c.loop-i.field.items ++ between c.args.text.now c.loop-i.run (length c.args.text.now)) (rw n at c.loop-i.invariant.reads) (is_before_record c.loop-i.mode c.in-BeforeRecord.is)

pub returns-in_ok-push_field-in_default : goal.returns-in_ok-push_field-in_default
returns-in_ok-push_field-in_default c =
    let n : c.loop-i.i ≡ length c.args.text.now = omega (arith, c.loop-i-test.false, c.loop-i.auto.i-end c.requires) in
    let f : List ℕ = c.loop-i.field.items ++ between c.args.text.now c.loop-i.run (length c.args.text.now) in
    let e = reads-last c.args.text.now c.args.at (state_of c.loop-i.mode) (fields_of c.loop-i.row) f (rw n at c.loop-i.invariant.reads) (is_within_record c.loop-i.mode c.in_default.not-BeforeRecord c.in_default.not-AfterCr) in
    let p = pushed (fields_of c.loop-i.row) (fields_of c.push_field-in_default.new.self) (partial_of c.loop-i.row) c.deref-in_default.result.now f
    c.in_ok-push_field-in_default.ensures.fields c.loop-i.invariant.whole (c.deref-in_default.ensures.value ∙ c.in_ok-take_run-in_default.ensures) in
    (rw p e.0, e.1, omega arith)

pub loop-i-preserved-then-joins : goal.loop-i-preserved-then-joins
loop-i-preserved-then-joins c =
    let f : List ℕ = c.loop-i.field.items ++ between c.args.text.now c.loop-i.run c.loop-i.i in
    let j : joins c.loop-i.mode ≡ true = sym c.joins.ensures ∙ c.if-joins.true in
    let s = joined c.loop-i.mode (get_or c.args.text.now c.loop-i.i 0) j c.if-byte-gt44.true in
    let m : c.loop-i.field.items ++ between c.args.text.now c.loop-i.run (c.loop-i.i + 1) ≡ f ++ (get_or c.args.text.now c.loop-i.i 0 ∷ []) =
    ap (λ (xs : List ℕ). c.loop-i.field.items ++ xs) (between_more c.args.text.now c.loop-i.run c.loop-i.i (get_or c.args.text.now c.loop-i.i 0) c.loop-i.invariant.behind c.loop-i-test.true refl)
    ∙ sym (append_assoc c.loop-i.field.items (between c.args.text.now c.loop-i.run c.loop-i.i) (get_or c.args.text.now c.loop-i.i 0 ∷ [])) in
    record {
      behind = omega (arith, c.loop-i.invariant.behind);
      whole = c.loop-i.invariant.whole;
      reads = rw m (reads-on c.args.text.now c.args.at c.loop-i.i (state_of c.loop-i.mode) (state_of c.loop-i.mode) act.Copy (fields_of c.loop-i.row) f c.loop-i-test.true c.loop-i.invariant.reads (rw s refl) (rw s refl) refl);
    }
