use Rattle.std.proofs.Common.{rules, ◌≡◌, ◌∙◌, ◌≤◌, ◌++◌, ◌∷◌, [], List, ℕ, Some, subst, sym, arith}
use Rattle.std.specs.Prelude.{IfSome}
use Rattle.pipe_spill.specs.FileStore.{next_start}
use Rattle.summary_log.specs.Finding.{EndsEntry, HasFound}
use Rattle.summary_log.proofs.EndFacts.{found-step, last-end}
use Rattle.summary_log.proofs.find_ends.find_ends.Goals as goal

pub loop-ends-preserved : goal.loop-ends-preserved
loop-ends-preserved g c =
    let told = g.F.LogFile.told in
    let first = told c.args.file.now in
    let same : told c.loop-ends.file ≡ first = c.loop-ends.invariant.told in
    let end = c.in-Some.end in
    let pushed : c.push.new.self.items ≡ c.loop-ends.ends.items ++ end ∷ [] = search rules in
    let one : IfSome (told c.loop-ends.file) (λ bytes. EndsEntry bytes c.loop-ends.start (Some end)) = search rules in
    record {
      told = c.entry_end.ensures.told ∙ same;
      inside = search rules;
      last = subst (λ (l : List ℕ). next_start l ≡ end) (sym pushed) (last-end c.loop-ends.ends.items end);
      found = subst (λ (l : List ℕ). IfSome first (λ bytes. HasFound bytes l end)) (sym pushed)
          (found-step first c.loop-ends.ends.items c.loop-ends.start end c.loop-ends.invariant.found
          (subst (λ o. IfSome o (λ bytes. EndsEntry bytes c.loop-ends.start (Some end))) same one));
    }
