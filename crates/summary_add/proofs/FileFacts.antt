-- What a reader of files has left, and what is added of it.
use Rattle.std.proofs.Common.{◌≡◌, ◌∙◌, ℕ, List, Option, Some, None, Result, Ok, Err, OnOk, refl, sym, ap, subst}
use Rattle.std.specs.Prelude.{IfErr, IfSome}
use Rattle.pipe_columns.specs.declared.data_chunk.DataChunk.{DataChunk}
use Rattle.pipe_columns.specs.declared.schema.Field.{Field}
use Rattle.pipe_csv.specs.declared.csv_error.CsvError.{CsvError}
use Rattle.pipe_io.specs.Files.{Files}
use Rattle.pipe_model.specs.Query.{QueryTree}
use Rattle.pipe_source.specs.CsvChunks.{csv_chunks, CsvChunks}
use Rattle.pipe_source.specs.Reader.{chunks_left, ReaderState}
use Rattle.pipe_states.specs.Regrouped.{end_of}
use Rattle.pipe_states.specs.States.{StateSeen}
use Rattle.pipe_states.specs.Together.{total_rows}
use Rattle.rollup_save.specs.Saves.{file_chunks, save_options, Tells}
use Rattle.summary_add.specs.Adds.{AreAdded, end_behind, end_of_adding, FilesAdded, TellsFault}
use Rattle.summary_add.specs.declared.add_fault.AddFault.{AddFault}

module _ (reader : ReaderState) (names : List (List ℕ)) (schema : List Field) (q : QueryTree)
    (left : (files : Files) → chunks_left files reader ≡ csv_chunks files names schema save_options) (same : schema ≡ q.schema) where
  -- it has the chunks of the files left
  whole : (files : Files) → chunks_left files reader ≡ file_chunks files names q
  whole files = left files ∙ ap (λ (s : List Field). csv_chunks files names s save_options) same

  -- why adding them behind states ends
  pub ends-told : (told : Option Files) (states : List StateSeen) (r : Result Unit AddFault)
      → IfErr r (λ e. IfSome told (λ files. TellsFault e (end_behind (total_rows states) (end_of states) (chunks_left files reader)))) → IfErr r (λ e. IfSome told (λ files. TellsFault e (end_of_adding states files names q)))
  ends-told told states (Ok done) ends = tt
  ends-told None states (Err e) ends = tt
  ends-told (Some files) states (Err e) ends = subst (TellsFault e) (ap (end_behind (total_rows states) (end_of states)) (whole files)) ends

  -- all of them were added
  pub added-told : (told : Option Files) (states : List StateSeen) (before after : Option (List (List ℕ))) (r : Result Unit AddFault)
      → OnOk r (AreAdded q (λ files. chunks_left files reader) told states before after) → OnOk r (FilesAdded q names told states before after)
  added-told told states before after (Err e) added = tt
  added-told told states before after (Ok done) added = record {
    chunks = added.chunks;
    all = all-told told added.chunks added.all;
    can = added.can;
    frames = added.frames;
    stands = added.stands;
  } where
    all-told : (told : Option Files) (taken : List DataChunk) → IfSome told (λ files. chunks_left files reader ≡ record { chunks = taken; stop = None })
        → IfSome told (λ files. file_chunks files names q ≡ record { chunks = taken; stop = None })
    all-told None taken all = tt
    all-told (Some files) taken all = sym (whole files) ∙ all

-- where chunks that are left end, behind as many rows and from the same position
pub left-told : (told : Option Files) (reader : ReaderState) (rows n first i : ℕ) (e : CsvError) → n ≡ rows → i ≡ first
    → IfSome told (λ files. Tells e (end_behind n i (chunks_left files reader))) → IfSome told (λ files. Tells e (end_behind rows first (chunks_left files reader)))
left-told None reader rows n first i e same start ends = tt
left-told (Some files) reader rows n first i e same start ends = subst (Tells e) (λ k. end_behind (same k) (start k) (chunks_left files reader)) ends
