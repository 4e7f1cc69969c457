-- The files of ignore rules that the words of `ls-files` name: git-ls-files(1), "-X".
--
-- For example `ls-files -o -X a --exclude-standard -X b` asks the rules of `a`, then those of the user and of `info/exclude`, then those of
-- `b`; the last one that matches counts. A name leads from the top of the work tree, since git works there by then.
use Rattle.std.specs.Prelude.{◌≡◌, ℕ, List, [], ◌∷◌, ◌++◌, Bool, true, bytes_eq, codes, Result, Ok, Err, if◌then◌else◌}
use Rattle.gitbase_core.specs.Steps.{and_then}
use Rattle.gitbase_core.specs.Text.{without_byte_order_mark}
use Rattle.git_places.specs.Answers.{IsFoundOrOutOfMemory}
use Rattle.git_setup.specs.BelowTop.{exempt_top_from_star_rules}
use Rattle.git_setup.specs.declared.found.Found.{Found}
use Rattle.command_line.specs.declared.command.FilesAsked.{FilesAsked}
use Rattle.worktree_fs.specs.Changes.{resolve_path_from_directory}
use Rattle.worktree_fs.specs.Tree.{Names, LookupResult, look, found, absent, too_many_links, file, link, directory, other}
use Rattle.tizhagor.specs.declared.refusal.CommandRefusal.{CommandRefusal}
use Rattle.tizhagor.specs.declared.refusal.CommandRefusal.TheVariants as errors
use Rattle.tizhagor.specs.Refusals.{fault, memory}

-- ---- one file

-- the path is `/dev/null` as it is written, which may be named for no rules
abbrev pub is_null_device : List ℕ → Bool
is_null_device path = bytes_eq path (codes "/dev/null")

-- the null device has no rules; no other device, pipe or socket is read
abbrev pub empty_rules_or_special_file_refusal : List ℕ → List ℕ → Result (List ℕ) CommandRefusal
empty_rules_or_special_file_refusal name path = if is_null_device path then Ok [] else Err (errors.ExcludeFile name)

-- a byte order mark at the front is no part of the rules
abbrev pub rules_without_byte_order_mark : List ℕ → List ℕ
rules_without_byte_order_mark bytes = without_byte_order_mark bytes

-- the rules of what is at a path; what is no file is refused, by its name
abbrev pub rules_or_refusal_by_lookup : List ℕ → List ℕ → LookupResult → Result (List ℕ) CommandRefusal
rules_or_refusal_by_lookup name path (found (file bytes)) = Ok (rules_without_byte_order_mark bytes)
rules_or_refusal_by_lookup name path (found (directory names)) = Err (errors.ExcludeFile name)
rules_or_refusal_by_lookup name path (found (link target)) = Err (errors.ExcludeFile name)
rules_or_refusal_by_lookup name path (found other) = empty_rules_or_special_file_refusal name path
rules_or_refusal_by_lookup name path absent = Err (errors.ExcludeFile name)
rules_or_refusal_by_lookup name path too_many_links = Err (errors.ExcludeFile name)

-- the rules of a file that `-X` names, from the top of the work tree on, links followed;
-- refused by that name where nothing is there, or no file but the null device
abbrev pub rules_of_named_file : Names → List ℕ → List ℕ → Result (List ℕ) CommandRefusal
rules_of_named_file t root name = rules_or_refusal_by_lookup name (resolve_path_from_directory name root) (look t (resolve_path_from_directory name root) true)

-- ---- files

-- a line feed stands between both, so that the last line of one file does not run into the first of the next
abbrev pub append_rules_behind_newline : List ℕ → List ℕ → List ℕ
append_rules_behind_newline text rules = (text ++ 10 ∷ []) ++ rules

-- the rules of files in their order, behind a text, each behind a line feed; or the first that is refused
unfoldable pub rules_of_files_after_text : Names → List ℕ → List ℕ → List (List ℕ) → Result (List ℕ) CommandRefusal
rules_of_files_after_text t root text [] = Ok text
rules_of_files_after_text t root text (name ∷ names) = and_then (λ (rules : List ℕ). rules_of_files_after_text t root (append_rules_behind_newline text rules) names) (rules_of_named_file t root name)

-- ---- the rules outside the directories

-- the rules of the user and of `info/exclude`, where `--exclude-standard` asks for them; else none
abbrev pub standard_rules_if_asked : Bool → List ℕ → List ℕ
standard_rules_if_asked is_standard rules = if is_standard then without_byte_order_mark rules else []

-- weaker files, the standard rules where they are asked for, and stronger files; each line is whole, and all leave the top alone
abbrev pub join_outer_rules : Bool → List ℕ → List ℕ → List ℕ → List ℕ
join_outer_rules is_standard weaker standard stronger =
    exempt_top_from_star_rules ((((weaker ++ 10 ∷ []) ++ standard_rules_if_asked is_standard standard) ++ stronger) ++ 10 ∷ [])

-- what is found, with these rules in the place of all that come from outside the work tree's directories
abbrev pub found_with_outer_rules : Found → List ℕ → Found
found_with_outer_rules here rules = record here { setup = record here.setup { globals = rules } }

-- what is found, with the files of rules around the standard ones: `stronger` stands behind, so its rules win
abbrev pub found_with_joined_rules : FilesAsked → Found → List ℕ → List ℕ → Found
found_with_joined_rules wants here weaker stronger = found_with_outer_rules here (join_outer_rules wants.listing.excludes_standard weaker here.setup.globals stronger)

-- what is found, with the rules of the files that the words name
unfoldable pub read_exclude_files_into_found : Names → FilesAsked → Found → Result Found CommandRefusal
read_exclude_files_into_found t wants here =
    and_then (λ (weaker : List ℕ). and_then (λ (stronger : List ℕ). Ok (found_with_joined_rules wants here weaker stronger)) (rules_of_files_after_text t here.root [] wants.rules.stronger))
    (rules_of_files_after_text t here.root [] wants.rules.weaker)

-- ---- an answer of the code that asks no worktree is the one that is defined, unless memory was wanting

-- the answer is what is wanted, or that memory was wanted; it never says that the worktree failed
abbrev pub IsResultOrOutOfMemory : {A : Type 0} → Result A CommandRefusal → Result A CommandRefusal → Type 0
IsResultOrOutOfMemory answer wanted = IsFoundOrOutOfMemory fault memory answer wanted
