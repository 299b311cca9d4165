-- What saving a text answers, of all that is known of it.
use Rattle.std.proofs.Common.{◌≡◌, true, ℕ, Bool, List, Option, Result, Ok, Err, IfOk, Vec, arith}
use Rattle.std.specs.declared.alloc.Global.{Global}
use Rattle.narrow_query.specs.Names.{covers}
use Rattle.narrow_query.specs.Narrowed.{narrowed_query}
use Rattle.pipe_aggs.specs.declared.query.Query.{Query}
use Rattle.pipe_aggs.specs.QueryTrees.{query_tree}
use Rattle.pipe_columns.specs.Causes.{Rose}
use Rattle.pipe_csv.specs.declared.csv_error.CsvError.{CsvError}
use Rattle.pipe_io.specs.Files.{Files}
use Rattle.pipe_source.specs.CsvChunks.{csv_chunks, wanted_chunks}
use Rattle.pipe_source.specs.Reader.{chunks_left, ReaderState}
use Rattle.rollup_answer.specs.Headline.{AreSaved}
use Rattle.rollup_save.specs.Saves.{save_options}
use Rattle.rollup_save.specs.Taken.{IsTextOf}
use Rattle.rollup_save.proofs.FileFacts.{answer-saved, answer-text, answer-whole}

-- a count that stays at nought never rose
pub never-rose : Rose 0 0 → ⊥
never-rose h = omega (arith, h)

-- the text of the state of the wanted columns is that which is owed
pub text-saved : (q : Query) (ws : List Bool) (first : ℕ) (names : List (List ℕ)) → covers ws (query_tree q) ≡ true → (r : ReaderState)
    → ((files : Files) → chunks_left files r ≡ wanted_chunks save_options ws (csv_chunks files names q.schema save_options))
    → (told : Option Files) (answer : Result (Vec ℕ Global) CsvError) → IfOk answer (λ v. IsTextOf (query_tree (narrowed_query ws q)) first told r v.items)
    → IfOk answer (λ v. AreSaved (query_tree q) first told names v.items)
text-saved q ws first names covered r left told (Err e) is = tt
text-saved q ws first names covered r left told (Ok v) is = record {
  saved = answer-saved q ws first told r (Ok v) covered is;
  whole = answer-whole q ws first names covered r left told (Ok v) is;
  text_is = answer-text q ws first names covered r left told (Ok v) is;
}
