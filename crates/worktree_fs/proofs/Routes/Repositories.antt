-- Whether a path leads to a repository, step by step.
use Rattle.std.proofs.Common.{◌≡◌, ◌∙◌, ℕ, List, [], Bool, true, false, Option, Some, None, Result, IfOk, if◌then◌else◌, refl, ap, sym, subst}
use Rattle.std.specs.Prelude.{option_and_then, unwrap_or}
use Rattle.gitbase_core.specs.Path.{parent}
use Rattle.worktree_fs.specs.Tree.{Names, LookupResult, look, found, absent, too_many_links, file, link, directory, other}
use Rattle.worktree_fs.specs.Answers.{kind_of_lookup}
use Rattle.worktree_fs.specs.Changes.{resolve_path_from_directory}
use Rattle.worktree_fs.specs.Repository.{is_git, is_repository_by_lookup, is_git_directory, is_git_directory_by_commondir, is_file_naming_git_directory, is_lookup_of_directory, bytes_of_file_lookup, gitdir_path}
use Rattle.worktree_fs.specs.declared.answers.NodeKind.{NodeKind}
use Rattle.worktree_fs.specs.declared.answers.NodeKind.TheVariants as kinds
use Rattle.worktree_fs.specs.declared.answers.ReadError.{ReadError}

pub file_there : (b : Bool) (x : Option (List ℕ)) (bytes text : List ℕ) → x ≡ (if b then Some bytes else None) → b ≡ true → text ≡ bytes → x ≡ Some text
file_there true x bytes text is some same = is ∙ ap Some (sym same)
file_there false x bytes text is some same = absurd (cc some)

-- what the kind of a node tells
pub directory-kind : (at : LookupResult) → Some kinds.Directory ≡ kind_of_lookup at → true ≡ is_lookup_of_directory at
directory-kind (found (directory names)) e = refl
directory-kind (found (file bytes)) e = absurd (cc e)
directory-kind (found (link target)) e = absurd (cc e)
directory-kind (found other) e = absurd (cc e)
directory-kind absent e = absurd (cc e)
directory-kind too_many_links e = absurd (cc e)

pub file-kind : (at : LookupResult) → Some kinds.File ≡ kind_of_lookup at → false ≡ is_lookup_of_directory at
file-kind (found (directory names)) e = absurd (cc e)
file-kind (found (file bytes)) e = refl
file-kind (found (link target)) e = refl
file-kind (found other) e = refl
file-kind absent e = refl
file-kind too_many_links e = refl

-- whether the kind is neither that of a file nor of a directory
abbrev pub is_other_kind : Option NodeKind → Bool
is_other_kind None = true
is_other_kind (Some kinds.File) = false
is_other_kind (Some kinds.Directory) = false
is_other_kind (Some kinds.Symlink) = true
is_other_kind (Some kinds.Untrackable) = true

pub git-none : (t : Names) (q : List ℕ) (at : LookupResult) → is_other_kind (kind_of_lookup at) ≡ true → false ≡ is_repository_by_lookup t q at
git-none t q (found (directory names)) e = absurd (cc e)
git-none t q (found (file bytes)) e = absurd (cc e)
git-none t q (found (link target)) e = refl
git-none t q (found other) e = refl
git-none t q absent e = refl
git-none t q too_many_links e = refl

-- at a directory
pub git-directory : (t : Names) (q : List ℕ) (r : Result Bool ReadError) → true ≡ is_lookup_of_directory (look t q true) → IfOk r (λ is. is ≡ is_git_directory t q q) → IfOk r (λ is. is ≡ is_git t q)
git-directory t q r is = subst (λ b. IfOk r (λ answer. answer ≡ (if b then is_git_directory t q q else is_file_naming_git_directory t q (option_and_then gitdir_path (bytes_of_file_lookup (look t q true)))))) is

-- at a file
pub git-file : (t : Names) (q : List ℕ) (r : Result Bool ReadError) → false ≡ is_lookup_of_directory (look t q true)
    → IfOk r (λ is. is ≡ is_file_naming_git_directory t q (option_and_then gitdir_path (bytes_of_file_lookup (look t q true)))) → IfOk r (λ is. is ≡ is_git t q)
git-file t q r is = subst (λ b. IfOk r (λ answer. answer ≡ (if b then is_git_directory t q q else is_file_naming_git_directory t q (option_and_then gitdir_path (bytes_of_file_lookup (look t q true)))))) is

-- at a file that names a git directory
pub git-named : (t : Names) (q text path full : List ℕ) (r : Result Bool ReadError)
    → bytes_of_file_lookup (look t q true) ≡ Some text → gitdir_path text ≡ Some path → full ≡ resolve_path_from_directory path (unwrap_or (parent q) [])
    → IfOk r (λ is. is ≡ is_git_directory_by_commondir t full) → IfOk r (λ is. is ≡ is_file_naming_git_directory t q (option_and_then gitdir_path (bytes_of_file_lookup (look t q true))))
git-named t q text path full r there names beside below =
    subst (λ (o : Option (List ℕ)). IfOk r (λ answer. answer ≡ is_file_naming_git_directory t q o)) (sym (ap (option_and_then gitdir_path) there ∙ names))
    (subst (λ (f : List ℕ). IfOk r (λ answer. answer ≡ is_git_directory_by_commondir t f)) beside below)
