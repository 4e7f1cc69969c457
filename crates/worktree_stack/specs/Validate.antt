-- Which names may be checked out as components of a path, after git's `verify_path`.
use Rattle.std.specs.Prelude.{ℕ, Bool, ◌&&◌, ◌||◌, ◌==◌, List, Option, Some, None, codes, Result, Ok, Err, if◌then◌else◌}
use Rattle.std.specs.List.{list_any}
use Rattle.gitbase_core.specs.Text.{eq_ignore_case, is_dot_git_ignoring_case}
use Rattle.worktree_fs.specs.Paths.{is_dot_or_dot_dot}
use Rattle.worktree_fs.specs.Tree.{is_empty}
use Rattle.worktree_stack.specs.declared.validate.ComponentError.{ComponentError}
use Rattle.worktree_stack.specs.declared.validate.ComponentError.TheVariants as errors

-- a slash stands inside
abbrev pub has_slash : List ℕ → Bool
has_slash name = list_any (λ b. b == 47) name

-- `.gitmodules`, whatever the case of its ASCII letters
abbrev pub is_dot_gitmodules : List ℕ → Bool
is_dot_gitmodules name = eq_ignore_case name (codes ".gitmodules")

-- a `\` or a `:`, which mean something on Windows
abbrev pub has_backslash_or_colon : List ℕ → Bool
has_backslash_or_colon name = list_any (λ b. (b == 92) || (b == 58)) name

-- why a name may not be checked out, by the first case that fits: as a link, or where what means something on Windows is refused
abbrev pub component_error : List ℕ → Bool → Bool → Option ComponentError
component_error name is_symlink protects_windows =
    if is_empty name then Some errors.Empty
    else if has_slash name then Some errors.Slash
    else if is_dot_or_dot_dot name then Some errors.Dots
    else if is_dot_git_ignoring_case name then Some errors.DotGit
    else if is_symlink && is_dot_gitmodules name then Some errors.ModulesLink
    else if protects_windows && has_backslash_or_colon name then Some errors.Windows
    else None

-- what is answered to a test, by what speaks against it
abbrev pub ok_unless : {E : Type 0} → Option E → Result (Unit {0}) E
ok_unless None = Ok tt
ok_unless (Some error) = Err error
