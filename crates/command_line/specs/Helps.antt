-- The help texts, and the version.
use Rattle.std.specs.Prelude.{ℕ, List, [], ◌∷◌, ◌++◌, codes}
use Rattle.std.specs.List.{flat_map}
use Rattle.command_line.specs.CheckHelp.{check}
use Rattle.command_line.specs.CompareHelp.{diff_files_help_text}
use Rattle.command_line.specs.declared.verb.Topic.{Topic}
use Rattle.command_line.specs.declared.verb.Topic.TheVariants as topics
use Rattle.command_line.specs.declared.verb.Verb.TheVariants as verbs

-- how a command is called
abbrev pub usage_line_of_topic : Topic → List ℕ
usage_line_of_topic topics.Whole = codes "usage: tizhagor [-C DIR] report|plan|modules|state|ls-files|clean|diff-files|check-ignore [OPTION..] [--] [PATH..]\n"
usage_line_of_topic (topics.Of verbs.Report) = codes "usage: tizhagor [-C DIR] report [OPTION..] [--] [PATH..]\n"
usage_line_of_topic (topics.Of verbs.Plan) = codes "usage: tizhagor plan [OPTION..] [--] [PATH..]\n"
usage_line_of_topic (topics.Of verbs.Modules) = codes "usage: tizhagor [-C DIR] modules [OPTION..]\n"
usage_line_of_topic (topics.Of verbs.State) = codes "usage: tizhagor [-C DIR] state [OPTION..]\n"
usage_line_of_topic (topics.Of verbs.Files) = codes "usage: tizhagor [-C DIR] ls-files [OPTION..] [--] [PATH..]\n"
usage_line_of_topic (topics.Of verbs.Clean) = codes "usage: tizhagor clean -n [OPTION..] [--] [PATH..]\n"
usage_line_of_topic (topics.Of verbs.Compare) = codes "usage: tizhagor [-C DIR] diff-files [OPTION..] [-- PATH..]\n"
usage_line_of_topic (topics.Of verbs.Check) = codes "usage: tizhagor [-C DIR] check-ignore [OPTION..] [--] [PATH..]\n"

-- lines, each with a line feed
abbrev text : List (List ℕ) → List ℕ
text lines = flat_map (λ line. line ++ 10 ∷ []) lines

-- the help text where no command is named
abbrev general_help_text : List ℕ
general_help_text =
    text
    (codes "usage: tizhagor [-C DIR] report|plan|modules|state|ls-files|clean|diff-files|check-ignore [OPTION..] [--] [PATH..]"
    ∷ codes ""
    ∷ codes "Says what lies in the git work tree around the current directory. Nothing is run,"
    ∷ codes "changed or removed, and git is not needed."
    ∷ codes ""
    ∷ codes "  report    the untracked paths, and others that options ask for, with their class"
    ∷ codes "  plan      what may be removed, as git clean -n -d names it"
    ∷ codes "  modules   what git submodule update would do"
    ∷ codes "  state     the paths of the index that are not as it has them, and the report"
    ∷ codes "  ls-files  paths of the index and of the work tree, as git ls-files has them"
    ∷ codes "  clean     with -n: what git clean would remove, as git clean -n has it"
    ∷ codes "  diff-files"
    ∷ codes "            how the paths of the index changed, as git diff-files has it"
    ∷ codes "  check-ignore"
    ∷ codes "            the paths that an ignore rule excludes, as git check-ignore has it"
    ∷ codes ""
    ∷ codes "  -C DIR        works in DIR"
    ∷ codes "  -h, --help    this text; behind a command, that of the command"
    ∷ codes "  --version     the version"
    ∷ codes ""
    ∷ codes "For example: tizhagor -C linux report --ignored=collapse"
    ∷ []
    )

-- the help text of `report`
unfoldable pub report : List ℕ
report =
    text
    (codes "usage: tizhagor [-C DIR] report [OPTION..] [--] [PATH..]"
    ∷ codes ""
    ∷ codes "Writes a line a path: its words, a tab, and the path from the top of the work tree."
    ∷ codes "A PATH is a path spec from the current directory, as git has them."
    ∷ codes ""
    ∷ codes "What is shown"
    ∷ codes "  -u[MODE], --untracked-files[=MODE]"
    ∷ codes "                        untracked paths each by itself (matching, the default),"
    ∷ codes "                        or directories in place of what they hold (collapse)"
    ∷ codes "  --ignored[=MODE]      ignored paths too: matching, or collapse; or no"
    ∷ codes "  --collapsed=WHICH     besides a directory that stands for what it holds: what"
    ∷ codes "                        has another status (mismatch), or all; or no"
    ∷ codes "  --tracked, --pruned, --empty-directories"
    ∷ codes "                        tracked paths; those named .git, left out of a sparse"
    ∷ codes "                        work tree or meant by no PATH; empty directories"
    ∷ codes "  --origins             a word more: the ignore rule that decided"
    ∷ codes "  --submodules          a word more: the submodule at the path"
    ∷ codes "  --permissions=WHICH   the configurations that tell of submodules: secure, all,"
    ∷ codes "                        or isolated, which is that of the repository alone"
    ∷ codes "  --outcome             a last line with the counts of the walk"
    ∷ codes "How it is looked at"
    ∷ codes "  --excludes, --no-excludes"
    ∷ codes "                        ignore rules count, as they do by default; or none does,"
    ∷ codes "                        though the files are read"
    ∷ codes "  --precious            an ignore rule that begins with $ keeps what it matches"
    ∷ codes "  --strict-parents, --no-strict-parents"
    ∷ codes "                        what lies in an excluded directory stays excluded, as it does"
    ∷ codes "                        by default; or rules may take it up again"
    ∷ codes "  --recurse-repositories"
    ∷ codes "                        nested repositories are directories like any other"
    ∷ codes "  --bare-repositories   untracked bare repositories are told as repositories"
    ∷ codes "  --links-as-directories"
    ∷ codes "                        ignore rules see a link as what it leads to"
    ∷ codes "  --for-deletion=MODE   as what is to be deleted: hide, nonbare or all says how"
    ∷ codes "                        repositories are looked for in ignored directories; or no"
    ∷ codes "  --strategy=HOW        held, or at-once: a job for each directory at the top"
    ∷ codes "  --depth=N             directories are entered down to N components, at most 1000"
    ∷ codes "How it is written"
    ∷ codes "  -z, --null            a NUL behind each line, and paths as they are"
    ∷ codes "  --plain               two letters in place of words: ?? untracked, !! ignored,"
    ∷ codes "                        $$ precious, two blanks tracked, -- pruned"
    ∷ codes "  --color[=WHEN], --no-color"
    ∷ codes "                        lines in the colour of their status: auto, always, never"
    ∷ codes "  -h, --help            this text"
    ∷ codes ""
    ∷ codes "Of options that say the same the last counts; --no- before the name of one that"
    ∷ codes "takes no value turns it off, but for --null, --plain and --help. For example:"
    ∷ codes "tizhagor report --ignored -z src"
    ∷ []
    )

-- the help text of `plan`
unfoldable pub plan : List ℕ
plan =
    text
    (codes "usage: tizhagor plan [OPTION..] [--] [PATH..]"
    ∷ codes ""
    ∷ codes "Writes the paths that may be removed, as git clean -n -d names them, one a line. It is"
    ∷ codes "called at the top of the work tree, from where the paths lead. Nothing is removed. No"
    ∷ codes "path of the index goes, no repository whose git directory is whole (bare ones go with"
    ∷ codes "--nonbare), and not the current directory. A PATH is a path spec, as git has them."
    ∷ codes ""
    ∷ codes "  -x                    ignored paths too"
    ∷ codes "  -X                    ignored paths alone"
    ∷ codes "  --nonbare             bare repositories are directories like any other"
    ∷ codes "  --excludes, --no-excludes"
    ∷ codes "                        ignore rules count, as they do by default; or none does,"
    ∷ codes "                        though the files are read"
    ∷ codes "  --precious            an ignore rule that begins with $ keeps what it matches"
    ∷ codes "  --strict-parents, --no-strict-parents"
    ∷ codes "                        what lies in an excluded directory stays excluded, as it does"
    ∷ codes "                        by default; or rules may take it up again"
    ∷ codes "  --links-as-directories"
    ∷ codes "                        ignore rules see a link as what it leads to"
    ∷ codes "  --strategy=HOW        held, or at-once: a job for each directory at the top"
    ∷ codes "  --depth=N             directories are entered down to N components, at most 1000"
    ∷ codes "  -z, --null            a NUL behind each path, which stands as it is"
    ∷ codes "  -h, --help            this text"
    ∷ codes ""
    ∷ codes "Of options that say the same the last counts; --no- before the name of one that"
    ∷ codes "takes no value turns it off, but for --nonbare, --null and --help. For example:"
    ∷ codes "tizhagor plan -xz | xargs -0 -r ls -d --"
    ∷ []
    )

-- the help text of `modules`
abbrev modules : List ℕ
modules =
    text
    (codes "usage: tizhagor [-C DIR] modules [OPTION..]"
    ∷ codes ""
    ∷ codes "Writes the steps that git submodule update would take for the active submodules, and"
    ∷ codes "the submodules that it would leave out, one a line. Nothing is run."
    ∷ codes ""
    ∷ codes "  --permissions=WHICH   the configurations that are read: secure, all, or isolated,"
    ∷ codes "                        which is that of the repository alone"
    ∷ codes "  -h, --help            this text"
    ∷ codes ""
    ∷ codes "For example: tizhagor modules --permissions=isolated"
    ∷ []
    )

-- the help text of `state`
unfoldable pub state_help_text : List ℕ
state_help_text =
    text
    (codes "usage: tizhagor [-C DIR] state [OPTION..]"
    ∷ codes ""
    ∷ codes "Writes a line for each path of the index that differs from it or is not looked at: its"
    ∷ codes "state, a tab, and the path from the top of the work tree; then the lines of report."
    ∷ codes ""
    ∷ codes "What is shown"
    ∷ codes "  -u[MODE], --untracked-files[=MODE]"
    ∷ codes "                        untracked paths each by itself (matching, the default),"
    ∷ codes "                        or directories in place of what they hold (collapse)"
    ∷ codes "  --ignored[=MODE]      ignored paths too: matching, or collapse; or no"
    ∷ codes "  --collapsed=WHICH     besides a directory that stands for what it holds: what"
    ∷ codes "                        has another status (mismatch), or all; or no"
    ∷ codes "  --tracked, --pruned, --empty-directories"
    ∷ codes "                        tracked paths; those named .git or left out of a sparse"
    ∷ codes "                        work tree; empty directories"
    ∷ codes "  --origins             a word more: the ignore rule that decided"
    ∷ codes "  --submodules          a word more: the submodule at the path"
    ∷ codes "  --permissions=WHICH   the configurations that tell of submodules: secure, all,"
    ∷ codes "                        or isolated, which is that of the repository alone"
    ∷ codes "  --outcome             a last line with the counts of the walk"
    ∷ codes "How it is looked at"
    ∷ codes "  --by-stat             go by the stat fields of files, as diff-files does: bytes are read"
    ∷ codes "                        only where these do not tell. Nothing is then told of what is"
    ∷ codes "                        skipped or assumed unchanged, nor of submodules without a conflict"
    ∷ codes "  --excludes, --no-excludes"
    ∷ codes "                        ignore rules count, as they do by default; or none does,"
    ∷ codes "                        though the files are read"
    ∷ codes "  --precious            an ignore rule that begins with $ keeps what it matches"
    ∷ codes "  --strict-parents, --no-strict-parents"
    ∷ codes "                        what lies in an excluded directory stays excluded, as it does"
    ∷ codes "                        by default; or rules may take it up again"
    ∷ codes "  --recurse-repositories"
    ∷ codes "                        nested repositories are directories like any other"
    ∷ codes "  --bare-repositories   untracked bare repositories are told as repositories"
    ∷ codes "  --links-as-directories"
    ∷ codes "                        ignore rules see a link as what it leads to"
    ∷ codes "  --for-deletion=MODE   as what is to be deleted: hide, nonbare or all says how"
    ∷ codes "                        repositories are looked for in ignored directories; or no"
    ∷ codes "  --strategy=HOW        held, or at-once: a job for each directory at the top"
    ∷ codes "  --depth=N             directories are entered down to N components, at most 1000"
    ∷ codes "How it is written"
    ∷ codes "  -z, --null            a NUL behind each line, and paths as they are"
    ∷ codes "  --color[=WHEN], --no-color"
    ∷ codes "                        lines in the colour of their status: auto, always, never"
    ∷ codes "  -h, --help            this text"
    ∷ codes ""
    ∷ codes "Of options that say the same the last counts; --no- before the name of one that"
    ∷ codes "takes no value turns it off, but for --by-stat, --null and --help. For example:"
    ∷ codes "tizhagor state --ignored"
    ∷ []
    )

-- the help text of `ls-files`
unfoldable pub files : List ℕ
files =
    text
    (codes "usage: tizhagor [-C DIR] ls-files [OPTION..] [--] [PATH..]"
    ∷ codes ""
    ∷ codes "Writes paths as git ls-files does, from the current directory: those of the index, or"
    ∷ codes "those that OPTION chooses. A PATH is a path spec; none means the current directory."
    ∷ codes ""
    ∷ codes "  -c, --cached          what the index has; it is shown too where nothing is chosen"
    ∷ codes "  -s, --stage           the same with mode, object and stage"
    ∷ codes "  -u, --unmerged        the same of paths that are not merged, alone"
    ∷ codes "  -o, --others          what the index does not have"
    ∷ codes "  -k, --killed          what lies in the way of the index"
    ∷ codes "  -d, --deleted         of the index, that of which nothing is there"
    ∷ codes "  -m, --modified        of the index, that of which nothing is there or something else"
    ∷ codes "  -i, --ignored         what is ignored, alone, with -o or with -c; beside one of"
    ∷ codes "                        the four below"
    ∷ codes "  --exclude-standard    ignore rules are asked: .gitignore, info/exclude, and the"
    ∷ codes "                        excludes file of the user"
    ∷ codes "  --exclude-per-directory=.gitignore"
    ∷ codes "                        of these rules those of each directory"
    ∷ codes "  -x, --exclude=PATTERN  a rule before all others; as the only rule not with -k, and"
    ∷ codes "                        with --directory only beside -i"
    ∷ codes "  -X, --exclude-from=FILE  its rules, weaker than .gitignore, and than those of an"
    ∷ codes "                        --exclude-standard behind it; FILE is read from the top"
    ∷ codes "  --directory           a directory in place of what it holds, where the index has"
    ∷ codes "                        nothing in it; with -i beside it, at the top and without a PATH"
    ∷ codes "  --no-empty-directory  no directories without files"
    ∷ codes "  -t                    a letter before each path: H, S, M, ? for -o, K for -k,"
    ∷ codes "                        R for -d, C for -m"
    ∷ codes "  -v                    the same, in lower case where a file is assumed unchanged"
    ∷ codes "  -z                    a NUL behind each path, which stands as it is"
    ∷ codes "  --deduplicate         each path of the index once"
    ∷ codes "  --full-name           paths from the top of the work tree"
    ∷ codes "  --error-unmatch       the status is 1 where a PATH is about nothing"
    ∷ codes "  -h, --help            this text"
    ∷ codes ""
    ∷ codes "Of options that say the same the last counts; --no- before a name turns it off, but"
    ∷ codes "for --exclude-standard and --full-name. For example: tizhagor ls-files -o --directory"
    ∷ []
    )

-- the help text of `clean`
unfoldable pub clean : List ℕ
clean =
    text
    (codes "usage: tizhagor clean -n [OPTION..] [--] [PATH..]"
    ∷ codes ""
    ∷ codes "Names what git clean would remove, as git clean -n does, from the current directory."
    ∷ codes "Nothing is removed, so -n has to stand. A PATH is a path spec; none means the current"
    ∷ codes "directory."
    ∷ codes ""
    ∷ codes "  -n, --dry-run         nothing is removed"
    ∷ codes "  -d                    untracked directories too; so it is wherever a PATH stands"
    ∷ codes "  -x                    ignored paths too: no ignore rule counts but those of -e"
    ∷ codes "  -X                    ignored paths alone"
    ∷ codes "  -e PATTERN, --exclude=PATTERN"
    ∷ codes "                        an ignore rule before all others"
    ∷ codes "  -f, --force           twice: untracked repositories too; where clean.requireForce is"
    ∷ codes "                        false, once is enough"
    ∷ codes "  -q, --quiet           nothing is named"
    ∷ codes "  -h, --help            this text"
    ∷ codes ""
    ∷ codes "Of options that say the same the last counts; --no-dry-run, --no-force and --no-quiet"
    ∷ codes "take back what they name. For example: tizhagor clean -nd"
    ∷ []
    )

-- the help text of a command, or of the whole program
abbrev pub help_text_of_topic : Topic → List ℕ
help_text_of_topic topics.Whole = general_help_text
help_text_of_topic (topics.Of verbs.Report) = report
help_text_of_topic (topics.Of verbs.Plan) = plan
help_text_of_topic (topics.Of verbs.Modules) = modules
help_text_of_topic (topics.Of verbs.State) = state_help_text
help_text_of_topic (topics.Of verbs.Files) = files
help_text_of_topic (topics.Of verbs.Clean) = clean
help_text_of_topic (topics.Of verbs.Compare) = diff_files_help_text
help_text_of_topic (topics.Of verbs.Check) = check

-- what `--version` prints
abbrev pub version_line : List ℕ
version_line = codes "tizhagor, unreleased\n"
