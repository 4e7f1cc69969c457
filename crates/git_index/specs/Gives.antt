-- What reading answers: what the definition gives; want of memory alone is free.
use Rattle.std.specs.Prelude.{◌≡◌, ◌⊎◌, Result, Ok, Err}
use Rattle.git_index.specs.IndexFile.{IndexFileContents}
use Rattle.git_index.specs.Entries.{EntriesAndRest as Given}
use Rattle.git_index.specs.Seen.{entries_and_rest_as_record}
use Rattle.git_index.specs.declared.entries.Entries.{Entries}
use Rattle.git_index.specs.declared.error.IndexFileError.{IndexFileError}
use Rattle.git_index.specs.declared.error.IndexFileError.TheVariants.{OutOfMemory}

-- entries are those that the definition gives; a refusal is the definition's, or want of memory
abbrev pub EntriesResultAgrees : Result Entries IndexFileError → Result Given IndexFileError → Type 0
EntriesResultAgrees (Ok read) given = given ≡ Ok (entries_and_rest_as_record read)
EntriesResultAgrees (Err e) given = (e ≡ OutOfMemory) ⊎ (given ≡ Err e)

-- an index is the one that the definition gives; a refusal is the definition's, or want of memory
abbrev pub IndexResultAgrees : Result IndexFileContents IndexFileError → Result IndexFileContents IndexFileError → Type 0
IndexResultAgrees (Ok index) given = given ≡ Ok index
IndexResultAgrees (Err e) given = (e ≡ OutOfMemory) ⊎ (given ≡ Err e)
