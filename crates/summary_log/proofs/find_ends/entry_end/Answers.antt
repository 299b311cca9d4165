use Rattle.std.proofs.Common.{rules, ◌≡◌, ◌<◌, ℕ, List, length, subst, arith}
use Rattle.std.specs.Prelude.{IfSome}
use Rattle.summary_log.specs.LogFile.{bytes_at}
use Rattle.summary_log.proofs.EndFacts.{few-left, long-left, whole-left}
use Rattle.summary_log.proofs.find_ends.entry_end.Goals as goal

pub returns-then-size-start-lt-LENGTH_BYTES-clause-ends : goal.returns-then-size-start-lt-LENGTH_BYTES-clause-ends
returns-then-size-start-lt-LENGTH_BYTES-clause-ends g c =
    few-left (g.F.LogFile.told c.args.file.now) c.args.size c.args.start c.requires.size (omega arith)

pub returns-then-length-size-clause-ends : goal.returns-then-length-size-clause-ends
returns-then-length-size-clause-ends g c =
    let told = g.F.LogFile.told c.args.file.now in
    let word : List ℕ = c.fill_at.new.into in
    let eight : length word ≡ 8 = search rules in
    let read : IfSome told (λ bytes. bytes_at c.args.start 8 bytes ≡ word) = subst (λ (n : ℕ). IfSome told (λ bytes. bytes_at c.args.start n bytes ≡ word)) eight c.in_ok-fill_at.ensures.bytes in
    long-left word c.in-Some.field-0-1.now c.in-Some.length c.args.size c.args.start eight (search rules) (search rules)
    told c.requires.size read (omega arith)

pub returns-clause-ends : goal.returns-clause-ends
returns-clause-ends g c =
    let told = g.F.LogFile.told c.args.file.now in
    let word : List ℕ = c.fill_at.new.into in
    let eight : length word ≡ 8 = search rules in
    let read : IfSome told (λ bytes. bytes_at c.args.start 8 bytes ≡ word) = subst (λ (n : ℕ). IfSome told (λ bytes. bytes_at c.args.start n bytes ≡ word)) eight c.in_ok-fill_at.ensures.bytes in
    whole-left word c.in-Some.field-0-1.now c.in-Some.length c.args.size c.args.start eight (search rules) (search rules)
    told c.requires.size read (omega arith) (omega arith)
