use Rattle.std.proofs.Common.{◌≡◌, take}
use Rattle.pipe_regroup.proofs.at_once.regroup_all.Given as goal

-- the states so far are added
abbrev pub invariant-loop-file : goal.invariant-loop-file
invariant-loop-file l = record {
  query : l.regrouping.query ≡ l.query;
  keep : l.regrouping.keep ≡ l.keep;
  files : l.regrouping.files ≡ take l.file-index l.files;
}
