use Rattle.std.proofs.Common.{◌≡◌, ◌+◌, ◌≤◌, ◌++◌, ℕ, List, Some, ap, arith, length, subst, sym}
use Rattle.std.specs.Prelude.{take}
use Rattle.std.specs.List.{range_with_len}
use Rattle.pipe_writers.specs.WriteOrder.{rows_of_chunks, write_order}
use Rattle.pipe_writer.specs.Arrivals.{arrived, numbers_of}
use Rattle.pipe_writer.specs.Sender.{SenderSeen}
use Rattle.pipe_writer.specs.Sink.{lists_in, sent_of}
use Rattle.pipe_writer.proofs.SunkFacts.{count-are}
use Rattle.pipe_writer.proofs.ruled_files_sink.RuledFilesSink.finalize.Goals as goal

pub apart-first-requires-clause-one : goal.apart-first-requires-clause-one
apart-first-requires-clause-one g c =
    let many : 0 + length c.args.senders.items ≡ c.args.self.senders = count-are _ _ _ 0 c.args.senders.items c.requires.senders in
    let are : c.self.inside.senders ≡ c.args.self.senders = ap (λ v. v.senders) c.self.view_is in
    omega (arith, many, are, c.self.invariant.0)

pub apart-first-requires-clause-two : goal.apart-first-requires-clause-two
apart-first-requires-clause-two g c =
    let many : 0 + length c.args.senders.items ≡ c.args.self.senders = count-are _ _ _ 0 c.args.senders.items c.requires.senders in
    let are : c.self.inside.senders ≡ c.args.self.senders = ap (λ v. v.senders) c.self.view_is in
    omega (arith, many, are, c.self.invariant.1)

pub returns-clause-first : goal.returns-clause-first
returns-clause-first g c sender =
    subst (λ (xs : List SenderSeen). (n : ℕ) × (n ≤ sent_of xs sender) × (numbers_of sender c.sunk.result.arrivals.items ≡ range_with_len 0 n)) (sym c.apart-first.ensures)
    (c.sunk.ensures.sunk.first sender)

pub returns-clause-front : goal.returns-clause-front
returns-clause-front g c since told =
    let w = g.W.SinkWriter in
    let s = c.args.self in
    subst (λ (xs : List SenderSeen). (n : ℕ) × (w.told c.sunk.result.writer ≡ Some (since ++ take n (w.text (w.format s.made_of) (rows_of_chunks (write_order (arrived c.sunk.result.arrivals.items (lists_in xs)) s.morsels s.maintain_order))))))
    (sym c.apart-first.ensures) (c.sunk.ensures.sunk.front since told)
