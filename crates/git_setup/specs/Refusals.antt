-- The refusals of the parts of a repository, as refusals of all of it.
use Rattle.std.specs.Prelude.{ℕ, List, Result, Ok, Err}
use Rattle.gitbase_core.specs.declared.entry.IndexEntry.{IndexEntry}
use Rattle.gitbase_core.specs.declared.index.IndexError.{IndexError}
use Rattle.git_config_files.specs.declared.error.FilesError.{FilesError}
use Rattle.git_config_files.specs.declared.error.FilesError.TheVariants as files
use Rattle.git_index.specs.IndexFile.{IndexFileContents}
use Rattle.git_index.specs.declared.error.IndexFileError.{IndexFileError}
use Rattle.git_index.specs.declared.error.IndexFileError.TheVariants as index
use Rattle.git_places.specs.Answers.{map_error}
use Rattle.git_places.specs.declared.error.PlacesError.{PlacesError}
use Rattle.git_places.specs.declared.error.PlacesError.TheVariants as places
use Rattle.worktree_fs.specs.declared.answers.ReadError.{ReadError}
use Rattle.worktree_fs.specs.declared.answers.ReadError.TheVariants as read
use Rattle.git_setup.specs.declared.error.GitRefusal.{GitRefusal}
use Rattle.git_setup.specs.declared.error.GitRefusal.TheVariants as errors

-- of a look at the worktree
abbrev pub git_refusal_of_read_error : ReadError → GitRefusal
git_refusal_of_read_error read.Fault = errors.Fault
git_refusal_of_read_error read.OutOfMemory = errors.OutOfMemory

-- of the search for the work tree
abbrev pub git_refusal_of_places_error : PlacesError → GitRefusal
git_refusal_of_places_error places.NoRepository = errors.Places places.NoRepository
git_refusal_of_places_error (places.Border path) = errors.Places (places.Border path)
git_refusal_of_places_error (places.NoDirectory path) = errors.Places (places.NoDirectory path)
git_refusal_of_places_error (places.Bare path) = errors.Places (places.Bare path)
git_refusal_of_places_error (places.GitFileForm path) = errors.Places (places.GitFileForm path)
git_refusal_of_places_error (places.GitFileTarget path) = errors.Places (places.GitFileTarget path)
git_refusal_of_places_error (places.OddHead path) = errors.Places (places.OddHead path)
git_refusal_of_places_error (places.CommonDir path) = errors.Places (places.CommonDir path)
git_refusal_of_places_error (places.Version path value) = errors.Places (places.Version path value)
git_refusal_of_places_error (places.Extension path key) = errors.Places (places.Extension path key)
git_refusal_of_places_error (places.Sha256 path) = errors.Places (places.Sha256 path)
git_refusal_of_places_error (places.Value path key) = errors.Places (places.Value path key)
git_refusal_of_places_error (places.Config path line) = errors.Places (places.Config path line)
git_refusal_of_places_error (places.NoWorkTree path) = errors.Places (places.NoWorkTree path)
git_refusal_of_places_error places.Fault = errors.Fault
git_refusal_of_places_error places.OutOfMemory = errors.OutOfMemory

-- what was found, or the refusal of the search with its cause kept
abbrev pub places_result_as_git_result : {A : Type 0} → Result A PlacesError → Result A GitRefusal
places_result_as_git_result answer = map_error git_refusal_of_places_error answer

-- of the configurations and the rules files that they name
abbrev pub git_refusal_of_files_error : FilesError → GitRefusal
git_refusal_of_files_error (files.Config path line) = errors.Files (files.Config path line)
git_refusal_of_files_error (files.Include path) = errors.Files (files.Include path)
git_refusal_of_files_error (files.NoFile path) = errors.Files (files.NoFile path)
git_refusal_of_files_error (files.Home path) = errors.Files (files.Home path)
git_refusal_of_files_error (files.UserDir path value) = errors.Files (files.UserDir path value)
git_refusal_of_files_error (files.Condition path) = errors.Files (files.Condition path)
git_refusal_of_files_error (files.Depth path) = errors.Files (files.Depth path)
git_refusal_of_files_error (files.Foreign path) = errors.Foreign path
git_refusal_of_files_error (files.Value path key) = errors.Files (files.Value path key)
git_refusal_of_files_error (files.Elsewhere name) = errors.Elsewhere name
git_refusal_of_files_error files.Fault = errors.Fault
git_refusal_of_files_error files.OutOfMemory = errors.OutOfMemory

-- what was read, or the refusal: `Foreign` for a work tree of another user, `Elsewhere` for a variable, else the cause
abbrev pub files_result_as_git_result : {A : Type 0} → Result A FilesError → Result A GitRefusal
files_result_as_git_result answer = map_error git_refusal_of_files_error answer

-- of the bytes of the index file at a path
abbrev pub git_refusal_of_index_file_error : List ℕ → IndexFileError → GitRefusal
git_refusal_of_index_file_error path index.Short = errors.IndexFile path index.Short
git_refusal_of_index_file_error path index.Signature = errors.IndexFile path index.Signature
git_refusal_of_index_file_error path (index.Version version) = errors.IndexFile path (index.Version version)
git_refusal_of_index_file_error path index.Sum = errors.IndexFile path index.Sum
git_refusal_of_index_file_error path (index.Entry at) = errors.IndexFile path (index.Entry at)
git_refusal_of_index_file_error path index.Extensions = errors.IndexFile path index.Extensions
git_refusal_of_index_file_error path index.Split = errors.IndexFile path index.Split
git_refusal_of_index_file_error path (index.Unknown name) = errors.IndexFile path (index.Unknown name)
git_refusal_of_index_file_error path (index.Directory at) = errors.IndexFile path (index.Directory at)
git_refusal_of_index_file_error path index.OutOfMemory = errors.OutOfMemory

-- what the index file says, or its refusal with the path of the file; want of memory goes without
abbrev pub index_result_as_git_result : List ℕ → Result IndexFileContents IndexFileError → Result IndexFileContents GitRefusal
index_result_as_git_result path (Ok read) = Ok read
index_result_as_git_result path (Err e) = Err (git_refusal_of_index_file_error path e)

-- of its entries
abbrev pub entries_result_as_git_result : List ℕ → Result (List IndexEntry) IndexError → Result (List IndexEntry) GitRefusal
entries_result_as_git_result path (Ok entries) = Ok entries
entries_result_as_git_result path (Err e) = Err (errors.IndexEntry path e)
