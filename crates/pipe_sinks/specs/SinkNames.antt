-- What sinks are called.
use Rattle.std.specs.Prelude.{codes, List, ℕ}

-- that for one key of an integer type
abbrev pub number_name : List ℕ
number_name = codes "primitive_group_by"

-- that for one key of texts
abbrev pub text_name : List ℕ
text_name = codes "string_group_by"
