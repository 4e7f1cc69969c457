-- What an answer says of what is to be found: over any refusals, by that of a fault and that of want of memory; then over those of this crate.
use Rattle.std.specs.Prelude.{◌≡◌, ◌⊎◌, Result, Ok, Err}
use Rattle.worktree_fs.specs.declared.answers.ReadError.{ReadError}
use Rattle.worktree_fs.specs.declared.answers.ReadError.TheVariants as read
use Rattle.git_places.specs.declared.error.PlacesError.{PlacesError}
use Rattle.git_places.specs.declared.error.PlacesError.TheVariants as errors

-- an answer is what is to be found, a refusal of it too; the worktree may fail instead, and memory may be wanted
abbrev pub IsFoundOrFailed : {A E : Type 0} → E → E → Result A E → Result A E → Type 0
IsFoundOrFailed fault memory (Ok answer) found = found ≡ Ok answer
IsFoundOrFailed fault memory (Err e) found = (found ≡ Err e) ⊎ ((e ≡ fault) ⊎ (e ≡ memory))

-- the same of a call that asks no worktree, which never answers that it failed
abbrev pub IsFoundOrOutOfMemory : {A E : Type 0} → E → E → Result A E → Result A E → Type 0
IsFoundOrOutOfMemory fault memory (Ok answer) found = found ≡ Ok answer
IsFoundOrOutOfMemory fault memory (Err e) found = ((found ≡ Err e) ⊎ (e ≡ memory)) × (e ≡ fault → ⊥)

-- what holds unless the worktree failed
abbrev pub HoldsUnlessFault : {A E : Type 0} → E → Result A E → Type 0 → Type 0
HoldsUnlessFault fault (Ok answer) Holds = Holds
HoldsUnlessFault fault (Err e) Holds = (e ≡ fault) ⊎ Holds

-- an answer, in the place of a refusal the one that stands for it
abbrev pub map_error : {A E F : Type 0} → (E → F) → Result A E → Result A F
map_error of (Ok answer) = Ok answer
map_error of (Err e) = Err (of e)

-- ---- the refusals of this crate

-- a call that asks no worktree answers what is to be found, or that memory was wanted
abbrev pub AnswersUnlessOutOfMemory : {A : Type 0} → Result A PlacesError → Result A PlacesError → Type 0
AnswersUnlessOutOfMemory result found = IsFoundOrOutOfMemory errors.Fault errors.OutOfMemory result found

-- the refusal that a refused look at the worktree is
abbrev pub places_error_of_read_error : ReadError → PlacesError
places_error_of_read_error read.Fault = errors.Fault
places_error_of_read_error read.OutOfMemory = errors.OutOfMemory
