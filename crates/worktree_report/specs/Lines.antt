-- The lines of a report.
use Rattle.std.specs.Prelude.{ℕ, List, [], ◌∷◌, ◌++◌, Bool, codes, decimal, Option, Some, None, if◌then◌else◌}
use Rattle.std.specs.List.{flat_map}
use Rattle.gitbase_core.specs.Path.{components, path_joined_with_slash}
use Rattle.glob_rules.specs.declared.ignore.Kind.TheVariants.{Expendable, Precious}
use Rattle.glob_rules.specs.declared.ignore.Origin.{Origin}
use Rattle.glob_rules.specs.declared.ignore.RuleGroup.{RuleGroup}
use Rattle.glob_rules.specs.declared.ignore.RuleGroup.TheVariants as groups
use Rattle.dir_classify.specs.declared.entry.Entry.{Entry}
use Rattle.dir_classify.specs.declared.entry.Status.{Status}
use Rattle.dir_classify.specs.declared.entry.Status.TheVariants.{Pruned, Tracked, Ignored, Untracked}
use Rattle.dir_classify.specs.declared.entry.Kind.{Kind}
use Rattle.dir_classify.specs.declared.entry.Kind.TheVariants.{Untrackable, File, Symlink, Directory, Repository}
use Rattle.dir_classify.specs.declared.entry.PathspecMatch.{PathspecMatch}
use Rattle.dir_classify.specs.declared.entry.PathspecMatch.TheVariants.{Always, Excluded, Prefix, WildcardMatch, Verbatim}
use Rattle.dir_classify.specs.declared.entry.Property.{Property}
use Rattle.dir_classify.specs.declared.entry.Property.TheVariants.{DotGit, EmptyDirectory, EmptyDirectoryAndCWD, TrackedExcluded}
use Rattle.dir_walk.specs.declared.outcome.Outcome.{Outcome}
use Rattle.worktree_report.specs.declared.facts.Activity.{Activity}
use Rattle.worktree_report.specs.declared.facts.Activity.TheVariants.{Active, Inactive, Invalid}
use Rattle.worktree_report.specs.declared.facts.Facts.{Facts}
use Rattle.worktree_report.specs.declared.report.Report.{Report}
use Rattle.worktree_report.specs.declared.report.ReportEntry.{ReportEntry}
use Rattle.worktree_report.specs.declared.setup.SetupOptions.{SetupOptions}
use Rattle.worktree_report.specs.Below.{join_first_components}
use Rattle.worktree_report.specs.Escapes.{path_escaped, path_escaped_in_word}

-- an ignored path that is worth keeping is precious
abbrev pub word_of_status : Status → List ℕ
word_of_status Pruned = codes "pruned"
word_of_status Tracked = codes "tracked"
word_of_status (Ignored Expendable) = codes "ignored"
word_of_status (Ignored Precious) = codes "precious"
word_of_status Untracked = codes "untracked"

-- a dash stands for none, in each word
abbrev pub word_of_kind : Option Kind → List ℕ
word_of_kind None = codes "-"
word_of_kind (Some Untrackable) = codes "untrackable"
word_of_kind (Some File) = codes "file"
word_of_kind (Some Symlink) = codes "symlink"
word_of_kind (Some Directory) = codes "directory"
word_of_kind (Some Repository) = codes "repository"

-- how a path spec matches the path; `excluded` is for a spec that takes it out, as `:!x` does
abbrev pub word_of_pathspec_match : Option PathspecMatch → List ℕ
word_of_pathspec_match None = codes "-"
word_of_pathspec_match (Some Always) = codes "always"
word_of_pathspec_match (Some Excluded) = codes "excluded"
word_of_pathspec_match (Some Prefix) = codes "prefix"
word_of_pathspec_match (Some WildcardMatch) = codes "wildcard"
word_of_pathspec_match (Some Verbatim) = codes "verbatim"

-- what is special of an entry; `excluded` is a directory that a sparse checkout leaves out as a whole
abbrev pub word_of_property : Option Property → List ℕ
word_of_property None = codes "-"
word_of_property (Some DotGit) = codes "dotgit"
word_of_property (Some EmptyDirectory) = codes "empty"
word_of_property (Some EmptyDirectoryAndCWD) = codes "emptycwd"
word_of_property (Some TrackedExcluded) = codes "excluded"

-- the status of the directory that an entry was folded into
abbrev pub word_of_folded_status : Option Status → List ℕ
word_of_folded_status None = codes "-"
word_of_folded_status (Some status) = word_of_status status

-- the submodule at a path: whether it is active, a colon, and its name
abbrev pub word_of_activity : Activity → List ℕ
word_of_activity Active = codes "active:"
word_of_activity Inactive = codes "inactive:"
word_of_activity (Invalid input) = codes "invalid:"

-- `active:NAME`, `inactive:NAME` or `invalid:NAME` with the name escaped; a dash where the path is no submodule's
abbrev pub word_of_submodule : Option Facts → List ℕ
word_of_submodule None = codes "-"
word_of_submodule (Some facts) = word_of_activity facts.active ++ path_escaped_in_word facts.name

-- a space and that word, where it is asked for
abbrev pub submodule_word_if : Bool → Option Facts → List ℕ
submodule_word_if submodules facts = if submodules then 32 ∷ word_of_submodule facts else []

-- the rules file of the directory above a path that has so many components
abbrev pub gitignore_above_path : List ℕ → ℕ → List ℕ
gitignore_above_path path depth = path_joined_with_slash (join_first_components [] depth (components path)) (codes ".gitignore")

-- the list of a rule that decided about a path: the overrides, the rules file of a directory, or the globals
abbrev pub word_of_rule_group : List ℕ → RuleGroup → List ℕ
word_of_rule_group path groups.Overrides = codes "overrides"
word_of_rule_group path (groups.Directory depth) = path_escaped_in_word (gitignore_above_path path depth)
word_of_rule_group path groups.Globals = codes "globals"

-- where the rule that decided about a path stands: a plus, or an exclamation mark for a negative one, its list, a colon, and its
-- line
abbrev pub word_of_rule_origin : List ℕ → Option Origin → List ℕ
word_of_rule_origin path None = codes "-"
word_of_rule_origin path (Some o) = (if o.negative then codes "!" else codes "+") ++ word_of_rule_group path o.group ++ codes ":" ++ decimal o.line

-- a space and that word, where it is asked for
abbrev pub rule_origin_word_if : Bool → List ℕ → Option Origin → List ℕ
rule_origin_word_if origins path origin = if origins then 32 ∷ word_of_rule_origin path origin else []

-- a word and the space behind it
abbrev pub word_and_space : List ℕ → List ℕ
word_and_space word = word ++ 32 ∷ []

-- the class of an entry, and the status of the directory that it was folded into, with a space between each two words
abbrev pub class_words_of_entry : Entry → Option Status → List ℕ
class_words_of_entry entry collapsed =
    word_and_space (word_of_status entry.status) ++ word_and_space (word_of_kind entry.disk_kind) ++ word_and_space (word_of_kind entry.index_kind)
    ++ word_and_space (word_of_pathspec_match entry.pathspec_match) ++ word_and_space (word_of_property entry.property) ++ word_of_folded_status collapsed

-- The words of an entry, a tab, the escaped path and a line feed. The words are the status, the kind on disk, the
-- kind in the index, the match of the path specs, the property, the status of the directory that the entry was
-- folded into, and, where they are asked for, the submodule at the path and the rule that decided.
unfoldable pub line_of_report_entry : SetupOptions → ReportEntry → List ℕ
line_of_report_entry options e =
    class_words_of_entry e.entry e.collapsed ++ submodule_word_if options.submodules e.facts ++ rule_origin_word_if options.origins e.entry.rela_path e.entry.origin
    ++ 9 ∷ [] ++ path_escaped e.entry.rela_path ++ 10 ∷ []

-- one line for each entry, in the order of the report
abbrev pub lines_of_report_entries : SetupOptions → List ReportEntry → List ℕ
lines_of_report_entries options entries = flat_map (line_of_report_entry options) entries

-- the last line, which says how many directories were read, how many entries are reported, and how many were met
abbrev pub outcome_line : Outcome → List ℕ
outcome_line o =
    codes "# read_dir " ++ decimal o.read_dir_calls ++ codes " returned " ++ decimal o.returned_entries ++ codes " seen " ++ decimal o.seen_entries ++ 10 ∷ []

-- the text of a report, with the last line or without, as the options ask for it
abbrev pub text_of_report : SetupOptions → Report → List ℕ
text_of_report options r = lines_of_report_entries options r.entries ++ (if options.print_outcome then outcome_line r.outcome else [])
