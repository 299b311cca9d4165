-- The seek places the file, and what is written then stays.
use Rattle.std.proofs.Common.{rules, ◌≡◌, ℕ, List, Option, Some, None, Result, Ok, Err, OnOk, IfSome}
use Rattle.std.specs.Io.KnownBytes.{Appends, Keeps}
use Rattle.pipe_spill.proofs.file_frames.write_at.Goals as goal

-- bytes that were appended and then kept
kept : (a b c : Option (List ℕ)) (bytes : List ℕ) → Appends a b bytes → Keeps b c → Appends a c bytes
kept None b c bytes h k = tt
kept (Some x) None c bytes h k = absurd h
kept (Some x) (Some y) None bytes h k = absurd k
kept (Some x) (Some y) (Some z) bytes h k = rw k h

-- what holds anyway holds at `Ok`
anyway : {X E : Type 0} (r : Result X E) (P : Type 0) → P → OnOk r P
anyway (Ok x) P p = p
anyway (Err e) P p = tt

pub returns : goal.returns
returns g c =
    let seek = g.F.Seek in
    let write = g.F.Write in
    let there : IfSome (seek.stream_position c.args.file.now) (λ _. seek.stream_position c.seek.new.self ≡ Some c.args.at) = search rules in
    let taken = kept (write.contents c.seek.new.self) (write.contents c.write_all.new.self) (write.contents c.flush.new.self) c.args.bytes.now c.in_ok-write_all.ensures.bytes c.flush.ensures.bytes in
    anyway c.flush.result _ (record { placed = c.seek.new.self; moved = record { there = there; kept = c.seek.ensures.bytes }; taken = taken })
