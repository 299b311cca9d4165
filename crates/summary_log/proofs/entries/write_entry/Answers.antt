use Rattle.std.proofs.Common.{rules, ◌≡◌, ◌+◌, List, ℕ, Option, length, Result, Ok, Err, OnOk, OnErr, subst, sym}
use Rattle.std.specs.Int.{bytes_high_first}
use Rattle.summary_log.specs.Log.{entry}
use Rattle.summary_log.specs.LogFile.{HasFront, IsWrittenAt}
use Rattle.summary_log.proofs.WrittenFacts.{begun-front, written-front, written-on}
use Rattle.summary_log.proofs.entries.write_entry.Goals as goal

-- what holds anyway holds at `Ok` and at `Err`
anyway : {X E : Type 0} (r : Result X E) (P : Type 0) → P → OnOk r P
anyway (Ok x) P p = p
anyway (Err e) P p = tt

anyway_err : {X E : Type 0} (r : Result X E) (P : Type 0) → P → OnErr r P
anyway_err (Ok x) P p = tt
anyway_err (Err e) P p = p

pub returns-in_err-write_at-2-clause-front : goal.returns-in_err-write_at-2-clause-front
returns-in_err-write_at-2-clause-front g c =
    let told = g.F.LogFile.told in
    let first : IsWrittenAt c.args.start (bytes_high_first 8 (length c.args.frame.now)) (told c.args.file.now) (told c.write_at.new.self) = subst (λ (w : List ℕ). IsWrittenAt c.args.start w (told c.args.file.now) (told c.write_at.new.self)) (search rules) c.in_ok-write_at.ensures.written in
    anyway_err c.from_residual-in_err-write_at-2.result _
    (begun-front c.args.start (bytes_high_first 8 (length c.args.frame.now)) (told c.args.file.now) (told c.write_at.new.self) (told c.write_at-2.new.self)
    first c.in_err-write_at-2.ensures.front)

pub returns-clause-written : goal.returns-clause-written
returns-clause-written g c =
    let told = g.F.LogFile.told in
    let first : IsWrittenAt c.args.start (bytes_high_first 8 (length c.args.frame.now)) (told c.args.file.now) (told c.write_at.new.self) = subst (λ (w : List ℕ). IsWrittenAt c.args.start w (told c.args.file.now) (told c.write_at.new.self)) (search rules) c.in_ok-write_at.ensures.written in
    anyway c.sync.result _
    (subst (IsWrittenAt c.args.start (entry c.args.frame.now) (told c.args.file.now)) (sym c.sync.ensures.told)
    (written-on c.args.start (bytes_high_first 8 (length c.args.frame.now)) c.args.frame.now (told c.args.file.now) (told c.write_at.new.self) (told c.write_at-2.new.self)
    first c.in_ok-write_at-2.ensures.written))

pub returns-clause-front : goal.returns-clause-front
returns-clause-front g c =
    let told = g.F.LogFile.told in
    let first : IsWrittenAt c.args.start (bytes_high_first 8 (length c.args.frame.now)) (told c.args.file.now) (told c.write_at.new.self) = subst (λ (w : List ℕ). IsWrittenAt c.args.start w (told c.args.file.now) (told c.write_at.new.self)) (search rules) c.in_ok-write_at.ensures.written in
    anyway_err c.sync.result _
    (subst (HasFront c.args.start (told c.args.file.now)) (sym c.sync.ensures.told)
    (written-front c.args.start (entry c.args.frame.now) (told c.args.file.now) (told c.write_at-2.new.self)
    (written-on c.args.start (bytes_high_first 8 (length c.args.frame.now)) c.args.frame.now (told c.args.file.now) (told c.write_at.new.self) (told c.write_at-2.new.self)
    first c.in_ok-write_at-2.ensures.written)))
