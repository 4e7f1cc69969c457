-- The ignore rules that a setup asks for.
use Rattle.std.specs.Prelude.{ℕ, List, [], ◌∷◌, Bool, Option, Some, None, codes, if◌then◌else◌}
use Rattle.glob_rules.specs.Ignore.{RulesList, entries}
use Rattle.worktree_stack.specs.Mappings.{case_by_ignore_case, rules_file_mappings_of_index}
use Rattle.worktree_stack.specs.Setup.{Setup as Rulings, StackSetup}
use Rattle.worktree_report.specs.declared.setup.Setup.{Setup}

-- the rules in a text that was read from no file; they are for every path
abbrev pub ignore_rules_of_text : Bool → List ℕ → RulesList
ignore_rules_of_text precious text = record { entries = entries precious text; source = None; base = [] }

-- the override lines as one list above those of directories, the global lines as one below them; each directory has the
-- rules of its `.gitignore`, read where the options say; with strict parents no rule lifts that of a directory above
abbrev pub ignore_rules_of_setup : Setup → Rulings
ignore_rules_of_setup setup =
    record {
      overrides = ignore_rules_of_text setup.options.precious setup.overrides ∷ [];
      globals = ignore_rules_of_text setup.options.precious setup.globals ∷ [];
      file_name = codes ".gitignore";
      source = setup.options.ignore_source;
      precious = setup.options.precious;
      strict = setup.options.strict_parents;
    }

-- what the rules of the work tree at `root` are made with; rules files are mapped to the blobs that the index has for them
abbrev pub stack_setup_of_setup : List ℕ → Setup → StackSetup
stack_setup_of_setup root setup =
    record {
      root = root;
      case = case_by_ignore_case setup.options.ignore_case;
      mappings = rules_file_mappings_of_index (case_by_ignore_case setup.options.ignore_case) None (Some (ignore_rules_of_setup setup)) setup.index;
      checkout = None;
      attributes = None;
      ignore = Some (ignore_rules_of_setup setup);
    }

-- they are asked where the options say so
abbrev pub stack_setup_if_excludes_option : List ℕ → Setup → Option StackSetup
stack_setup_if_excludes_option root setup = if setup.options.excludes then Some (stack_setup_of_setup root setup) else None
