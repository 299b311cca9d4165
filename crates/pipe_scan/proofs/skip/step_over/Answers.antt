use Rattle.std.proofs.Common.{◌≡◌, ◌≢◌, ◌∙◌, length, sym, refl}
use Rattle.std.proofs.lemmas.Bool.{eqb-true, eqb-false}
use Rattle.csv.specs.Records.{fields_of}
use Rattle.pipe_scan.proofs.SkipFacts.{other-width, plain-fits, plain-misfits, wider-misfits}
use Rattle.pipe_scan.proofs.StopFacts.{fresh-marked}
use Rattle.pipe_scan.proofs.skip.step_over.Goals as goal
use Rattle.pipe_scan.proofs.skip.step_over.Goals.{in-Plain, in-Quoted, in-Wide}

pub returns-then-fits-clause-step : goal.returns-then-fits-clause-step
returns-then-fits-clause-step c = elim c.match-branch-2.branch [
  | in-Plain w ↦
      let e : w.in-Plain.count ≡ length c.next_row.new.ends = eqb-true w.in-Plain.count (length c.next_row.new.ends) (sym w.fits-is ∙ c.if-fits.true) in
      plain-fits c.args.text.now c.args.stops.now.cursor c.next_row.new.stops.cursor w.in-Plain.start w.in-Plain.count c.next_row.new.ends (length c.args.ends.now) (rw w.in-Plain.is at c.in_ok-next_row.ensures.row) (e ∙ c.in_ok-next_row.ensures.room)
  | in-Quoted w ↦
      let e : w.len.result ≡ length c.next_row.new.ends = eqb-true w.len.result (length c.next_row.new.ends) (sym w.fits-is ∙ c.if-fits.true) in
      let t = rw w.in-Quoted.is at c.in_ok-next_row.ensures.row in
      (fields_of c.next_row.new.row, t, sym w.len.ensures ∙ e ∙ c.in_ok-next_row.ensures.room)
  | in-Wide w ↦ absurd (cc (w.fits-is, c.if-fits.true))
]

pub returns-clause-step : goal.returns-clause-step
returns-clause-step c = (
  rw c.new-2.ensures refl,
  elim c.match-branch-2.branch [
    | in-Plain w ↦
        let n : w.in-Plain.count ≢ length c.next_row.new.ends = eqb-false w.in-Plain.count (length c.next_row.new.ends) (sym w.fits-is ∙ c.if-fits.false) in
        plain-misfits c.args.text.now c.args.stops.now.cursor c.next_row.new.stops.cursor w.in-Plain.start w.in-Plain.count c.next_row.new.ends (length c.args.ends.now) (rw w.in-Plain.is at c.in_ok-next_row.ensures.row) (λ e. n (e ∙ sym c.in_ok-next_row.ensures.room))
    | in-Quoted w ↦
        let n : w.len.result ≢ length c.next_row.new.ends = eqb-false w.len.result (length c.next_row.new.ends) (sym w.fits-is ∙ c.if-fits.false) in
        other-width c.args.text.now c.args.stops.now.cursor c.next_row.new.stops.cursor (fields_of c.next_row.new.row) (length c.args.ends.now) (rw w.in-Quoted.is at c.in_ok-next_row.ensures.row) (λ e. n (w.len.ensures ∙ e ∙ sym c.in_ok-next_row.ensures.room))
    | in-Wide w ↦ wider-misfits c.args.text.now c.args.stops.now.cursor (length c.args.ends.now) (rw (w.in-Wide.is, c.in_ok-next_row.ensures.room) at c.in_ok-next_row.ensures.row)
  ],
)

pub returns-in-End-clause-marked : goal.returns-in-End-clause-marked
returns-in-End-clause-marked c = rw c.new.ensures (fresh-marked c.args.text.now c.args.stops.now.cursor c.requires.within)

pub returns-clause-marked : goal.returns-clause-marked
returns-clause-marked c = rw c.new-2.ensures (fresh-marked c.args.text.now c.args.stops.now.cursor c.requires.within)
