-- What words come to.
use Rattle.std.proofs.Common.{◌≡◌}
use Rattle.clap.specs.Words.{Kinds}
use Rattle.lavzimo_words.specs.Asked.{AskedSeen, ask, ended, refused}
use Rattle.lavzimo_words.specs.declared.refusal.Refusal.{Refusal}

-- what is asked isn't refused
pub ask-refused : (a : AskedSeen) (r : Refusal) → ask a ≡ refused r → ⊥
ask-refused a r is = cc

-- nor is what `clap` ends with
pub ended-refused : (kinds : Kinds) (r : Refusal) → ended kinds ≡ refused r → ⊥
ended-refused kinds r is = cc
