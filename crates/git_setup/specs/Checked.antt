-- A work tree whose ignore rules are asked about paths: git-check-ignore(1).
use Rattle.std.specs.Prelude.{ℕ, List, [], Bool, bytes_eq, codes, Option, Some, None, unwrap_or, Result, Ok, Err, if◌then◌else◌}
use Rattle.git_config_files.specs.Rules.{RulesOutsideWorkTree, RulesFile, path_of_info_exclude, read_rules_outside_work_tree}
use Rattle.git_config_files.specs.Stack.{read_stack_of_work_tree}
use Rattle.git_config_lite.specs.Lookups.{last_string_value}
use Rattle.git_config_lite.specs.Sections.{Section}
use Rattle.git_places.specs.GitDirectory.{dot_git_path}
use Rattle.git_places.specs.Places.{RepositoryPlaces}
use Rattle.git_places.specs.Surroundings.{Surroundings}
use Rattle.gitbase_core.specs.Steps.{and_then}
use Rattle.worktree_fs.specs.Changes.{resolve_path_from_directory, real_path}
use Rattle.worktree_fs.specs.Tree.{Names}
use Rattle.git_setup.specs.Found.{current_prefix_in_work_tree, read_index_and_configurations}
use Rattle.git_setup.specs.Refusals.{files_result_as_git_result}
use Rattle.git_setup.specs.Steps.{◌>>=◌}
use Rattle.git_setup.specs.Switches.{read_case_sparse_and_quote_switches}
use Rattle.git_setup.specs.declared.checked.Checked.{Checked}
use Rattle.git_setup.specs.declared.checked.NamedFile.{NamedFile}
use Rattle.git_setup.specs.declared.checked.OuterFiles.{OuterFiles}
use Rattle.git_setup.specs.GlobalRules.{lines_with_final_newline, double_byte_order_mark}
use Rattle.git_setup.specs.declared.error.GitRefusal.{GitRefusal}
use Rattle.git_setup.specs.declared.read_here.Read.{Read}

-- ---- the rules outside the work tree, by the names that git prints

-- as every search of the rules outside the work tree has them: a line feed ends the last line too, and a carriage return before it is no
-- part of the rule
abbrev pub named_file_with_normalized_rules : List ℕ → RulesFile → NamedFile
named_file_with_normalized_rules name file = record { name = name; bytes = double_byte_order_mark (lines_with_final_newline file.bytes) }

-- the file of the user's rules, which is at a path: as `core.excludesFile` is written, where that is the path from the top of the work tree
-- as it stands, and else by the path
abbrev pub displayed_name_of_user_excludes_file : List ℕ → List ℕ → Option (List ℕ) → List ℕ
displayed_name_of_user_excludes_file root path None = path
displayed_name_of_user_excludes_file root path (Some text) = if bytes_eq (resolve_path_from_directory text root) path then text else path

-- the user's rules under the name that git prints for their file; none where there is no such file
abbrev pub named_user_rules_file : List ℕ → List Section → Option RulesFile → Option NamedFile
named_user_rules_file root sections None = None
named_user_rules_file root sections (Some file) = Some (named_file_with_normalized_rules (displayed_name_of_user_excludes_file root file.path (last_string_value (codes "core") None (codes "excludesfile") sections)) file)

-- what all work trees share, by its path without links
abbrev pub real_path_of_common_dir : Names → RepositoryPlaces → List ℕ
real_path_of_common_dir t places = unwrap_or (real_path t places.common (codes "/")) places.common

-- the file of the repository's rules: from the top of the work tree, where the repository is in `.git` there, and else by a path without
-- links
abbrev pub displayed_name_of_info_exclude : Names → RepositoryPlaces → List ℕ
displayed_name_of_info_exclude t places = if bytes_eq places.common (dot_git_path places.root) then codes ".git/info/exclude" else path_of_info_exclude (real_path_of_common_dir t places)

-- the rules of `info/exclude` under the name that git prints for it; none where there is no such file
abbrev pub named_info_exclude_file : Names → RepositoryPlaces → Option RulesFile → Option NamedFile
named_info_exclude_file t places None = None
named_info_exclude_file t places (Some file) = Some (named_file_with_normalized_rules (displayed_name_of_info_exclude t places) file)

-- the user's rules and those of `info/exclude`, each by the name that `git check-ignore -v` prints
abbrev pub rules_files_outside_work_tree : Names → RepositoryPlaces → List Section → RulesOutsideWorkTree → OuterFiles
rules_files_outside_work_tree t places sections rules =
    record { user = named_user_rules_file places.root sections rules.user; repository = named_info_exclude_file t places rules.repository }

-- ---- what is read

-- what the configurations say, and no entries
unfoldable pub read_config_with_empty_index : Names → RepositoryPlaces → Surroundings → Result Read GitRefusal
read_config_with_empty_index t places around = do
  stack ← files_result_as_git_result (read_stack_of_work_tree t places around)
  switches ← read_case_sparse_and_quote_switches stack.file.sections
  Ok (record { stack = stack; switches = switches; index = [] })

-- the index is read, unless it is left aside
abbrev pub read_config_and_maybe_index : Names → RepositoryPlaces → Surroundings → Bool → Result Read GitRefusal
read_config_and_maybe_index t places around leaves_index = if leaves_index then read_config_with_empty_index t places around else read_index_and_configurations t places around

-- by what paths are checked: the entries, the rules outside, whether case counts, and how names are quoted
abbrev pub check_ignore_setup_from_parts : Names → RepositoryPlaces → Surroundings → Read → RulesOutsideWorkTree → Checked
check_ignore_setup_from_parts t places around read rules =
    record {
      root = places.root;
      prefix = current_prefix_in_work_tree places.root around.directory;
      index = read.index;
      outer = rules_files_outside_work_tree t places read.stack.file.sections rules;
      ignore_case = read.switches.ignore_case;
      quote_path = read.switches.quote_path;
    }

-- all of it, or the first refusal
unfoldable pub read_check_ignore_setup : Names → RepositoryPlaces → Surroundings → Bool → Result Checked GitRefusal
read_check_ignore_setup t places around leaves_index = do
  read ← read_config_and_maybe_index t places around leaves_index
  rules ← files_result_as_git_result (read_rules_outside_work_tree t places around read.stack.file.sections)
  Ok (check_ignore_setup_from_parts t places around read rules)
