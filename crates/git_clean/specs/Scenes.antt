-- By what it is decided what may go.
use Rattle.std.specs.Prelude.{ℕ, List}
use Rattle.gitbase_core.specs.declared.entry.IndexEntry.{IndexEntry}
use Rattle.glob_rules.specs.PathSpec.{PathSpec}
use Rattle.ls_files.specs.declared.options.NamedSpec.{NamedSpec}
use Rattle.worktree_report.specs.declared.report.ReportEntry.{ReportEntry}
use Rattle.worktree_report.specs.declared.setup.Setup.{Setup}
use Rattle.git_clean.specs.declared.options.Cleaning.{Cleaning}
use Rattle.git_clean.specs.declared.scene.Scene as declared
use Rattle.git_clean.specs.Directories as directories

-- what decides a cleaning. Directories that are `marked` do not go whole for an entry in them; those that
-- are `guarded` hold a `.git`, and are kept; those that are `held` cannot go, though parts of them may
pub record CleaningInputs : Type 0 where
  pub cleaning : Cleaning
  pub index : List IndexEntry
  -- the path specs, and each alone
  pub specs : List PathSpec
  pub named : List NamedSpec
  -- the current directory
  pub prefix : List ℕ
  -- the entries of a report
  pub found : List ReportEntry
  pub marked : List (List ℕ)
  pub guarded : List (List ℕ)
  pub held : List (List ℕ)

-- a scene of the code as contracts see it: the values that it borrows, and sets as the lists of their keys
abbrev pub scene_in_specification : declared.Scene → CleaningInputs
scene_in_specification s =
    record {
      cleaning = s.cleaning.now;
      index = s.index.now;
      specs = s.specs.now;
      named = s.named.now;
      prefix = s.prefix.now;
      found = s.found.now;
      marked = s.marked.now.keys;
      guarded = s.guarded.now.keys;
      held = s.held.now.keys;
    }

-- the scene of a setup and the entries of a report
abbrev pub scene_of_setup_and_entries : Cleaning → List ℕ → List NamedSpec → Setup → List ReportEntry → CleaningInputs
scene_of_setup_and_entries c prefix named setup found =
    record {
      cleaning = c;
      index = setup.index;
      specs = setup.specs;
      named = named;
      prefix = prefix;
      found = found;
      marked = directories.directories_marked_against_removal c (directories.directories_holding_dot_git found) found;
      guarded = directories.directories_holding_dot_git found;
      held = directories.directories_that_must_stay c prefix found;
    }
