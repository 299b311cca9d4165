use Rattle.std.proofs.Common.{rules, ◌≡◌, ◌∙◌, ◌^◌, ◌<◌, ◌++◌, ◌∷◌, [], List, ℕ, length, take, ap, subst, sym, append_assoc, arith}
use Rattle.std.proofs.lemmas.List.{map_push}
use Rattle.pipe_spill.specs.Store.{contents}
use Rattle.summary_log.specs.Log.{AreFramesOf, entry, log}
use Rattle.summary_log.proofs.LogFacts.{cut-is, frames-once, log-more}
use Rattle.summary_log.proofs.log_parts.read_log.Goals as goal

pub loop-frame-preserved : goal.loop-frame-preserved
loop-frame-preserved c =
    let old = contents c.loop-frame.frames.items in
    let frame : List ℕ = c.in-Some.frame.now in
    let behind : List ℕ = c.in-Some.behind.now in
    let pushed : c.push.new.self.items ≡ c.loop-frame.frames.items ++ c.in_ok-from_slice.field-0 ∷ [] = search rules in
    let copy : c.in_ok-from_slice.field-0.items ≡ frame = search rules in
    let more : contents c.push.new.self.items ≡ old ++ frame ∷ [] = ap contents pushed ∙ map_push (λ f. f.items) c.loop-frame.frames.items c.in_ok-from_slice.field-0 ∙ ap (λ l. old ++ l ∷ []) copy in
    let one : entry frame ++ behind ≡ c.loop-frame.rest.now = search rules in
    let before : c.args.bytes.now ≡ log old ++ c.loop-frame.rest.now = c.loop-frame.invariant in
    before ∙ ap (λ l. log old ++ l) (sym one)
    ∙ sym (append_assoc (log old) (entry frame) behind)
    ∙ ap (λ l. l ++ behind) (sym (log-more old frame) ∙ ap log (sym more))

pub returns-clause-cut : goal.returns-clause-cut
returns-clause-cut c = λ frames frame n short cut is.
    let read : AreFramesOf c.args.bytes.now (contents c.loop-frame.frames.items) = record { rest = c.loop-frame.rest.now; whole = c.loop-frame.invariant; over = search rules } in
    c.new.ensures ∙ frames-once c.args.bytes.now (contents c.loop-frame.frames.items) frames (search (rules, arith)) read
    (subst (λ (l : List ℕ). AreFramesOf l frames) (sym is) (cut-is frames frame n short cut))
