use Rattle.pipe_writers.proofs.PlainFacts.{plain_string}
use Rattle.pipe_writers.proofs.json_value.append_plain.Goals as goal

pub returns : goal.returns
returns c =
    let all = plain_string c.args.bytes.now c.args.text.now.items c.requires in
    rw (c.in_ok-push-2.ensures.items, c.in_ok-extend_from_slice.ensures.items, c.in_ok-push.ensures.items) all
