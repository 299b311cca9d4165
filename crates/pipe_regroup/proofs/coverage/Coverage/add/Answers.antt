use Rattle.std.proofs.Common.{rules, ◌≡◌, ◌∙◌, ℕ, true, false, not, List, is_some, map, ◌++◌, ◌∷◌, [], sym, ap, subst}
use Rattle.std.proofs.lemmas.List.{length-map}
use Rattle.pipe_states.specs.States.{StateSeen}
use Rattle.pipe_states.specs.Together.{IsFirstOverlap}
use Rattle.pipe_regroup.specs.declared.coverage.Coverage.{Coverage}
use Rattle.pipe_regroup.specs.Groups.{count_rows}
use Rattle.pipe_regroup.specs.Spread.{HaveNumbersOf, meets}
use Rattle.pipe_regroup.proofs.CoverFacts.{first-here, free-not, free-so, none-here, rows-more, told-none, told-on, told-still}
use Rattle.pipe_regroup.proofs.coverage.Coverage.add.Goals as goal

pub returns-then-is_some-clause-covered : goal.returns-then-is_some-clause-covered
returns-then-is_some-clause-covered c =
    let states : List StateSeen = map (λ s. s.value) c.args.added.now in
    let old : Coverage = c.args.self.now in
    let there : is_some old.overlap ≡ true = search rules in
    record {
      overlap = told-on states c.args.file.now old.ranges old.overlap there c.requires.overlap;
      rows = rows-more states c.args.file.now old.rows c.more-self.result c.counted.result c.requires.rows (c.counted.ensures ∙ ap count_rows c.rows.ensures.rows) c.more-self.ensures;
    }

pub returns-then-not-branch-clause-covered : goal.returns-then-not-branch-clause-covered
returns-then-not-branch-clause-covered c =
    let marks = c.args.added.now in
    let states : List StateSeen = map (λ s. s.value) marks in
    let old : Coverage = c.args.self.now in
    let s : StateSeen = c.args.file.now in
    let none : is_some old.overlap ≡ false = search rules in
    let so = told-none states old.ranges old.overlap none c.requires.overlap in
    let shared : not c.in_ok-add.field-0 ≡ true = search rules in
    let met : meets old.ranges c.first.result c.end.result ≡ true = free-not c.in_ok-add.field-0 _ c.in_ok-add.ensures.free shared in
    record {
      overlap = subst (IsFirstOverlap (states ++ s ∷ [])) (length-map marks (λ m. m.value))
          (first-here states s old.ranges so.0 so.1 (sym (λ i. meets old.ranges (c.first.ensures.first i) (c.end.ensures.end i)) ∙ met));
      rows = rows-more states s old.rows c.more-self.result c.counted.result c.requires.rows (c.counted.ensures ∙ ap count_rows c.rows.ensures.rows) c.more-self.ensures;
    }

pub returns-else-not-branch-clause-covered : goal.returns-else-not-branch-clause-covered
returns-else-not-branch-clause-covered c =
    let states : List StateSeen = map (λ s. s.value) c.args.added.now in
    let old : Coverage = c.args.self.now in
    let s : StateSeen = c.args.file.now in
    let none : is_some old.overlap ≡ false = search rules in
    let so = told-none states old.ranges old.overlap none c.requires.overlap in
    let free : c.in_ok-add.field-0 ≡ true = search rules in
    let shared : not c.in_ok-add.field-0 ≡ false = ap not free in
    let apart : meets old.ranges c.first.result c.end.result ≡ false = free-so c.in_ok-add.field-0 _ c.in_ok-add.ensures.free shared in
    let added : HaveNumbersOf old.ranges c.first.result c.end.result c.add.new.self = c.in_ok-add.ensures.added free in
    record {
      overlap = told-still (states ++ s ∷ []) c.add.new.self old.overlap none
          (none-here states s old.ranges so.0 so.1 c.add.new.self (sym (λ i. meets old.ranges (c.first.ensures.first i) (c.end.ensures.end i)) ∙ apart)
          (subst (λ (n : ℕ). HaveNumbersOf old.ranges n s.end c.add.new.self) c.first.ensures.first (subst (λ (n : ℕ). HaveNumbersOf old.ranges c.first.result n c.add.new.self) c.end.ensures.end added)));
      rows = rows-more states s old.rows c.more-self.result c.counted.result c.requires.rows (c.counted.ensures ∙ ap count_rows c.rows.ensures.rows) c.more-self.ensures;
    }
