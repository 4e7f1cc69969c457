-- What the lines of a setup say, before it is known that nothing is missing.
use Rattle.std.specs.Prelude.{ℕ, List, [], ◌++◌}
use Rattle.gitbase_core.specs.declared.entry.IndexEntry.{IndexEntry}
use Rattle.worktree_report.specs.declared.setup.option.SetupOption.{SetupOption}
use Rattle.worktree_report.specs.declared.setup.files.SetupBlob.{SetupBlob}
use Rattle.worktree_report.specs.ConfigFiles.{ConfigFile}

-- the options that are set, the entries of the index, the blobs, two texts of ignore rules, the texts of path specs, the paths of
-- directories that are worktrees of their own, and the configurations
pub record SetupDraft : Type 0 where
  pub options : List SetupOption
  pub index : List IndexEntry
  pub blobs : List SetupBlob
  pub overrides : List ℕ
  pub globals : List ℕ
  pub specs : List (List ℕ)
  pub worktrees : List (List ℕ)
  pub configs : List ConfigFile

-- what no lines say, and what an empty line or a comment says
abbrev pub empty_setup_draft : SetupDraft
empty_setup_draft = record { options = []; index = []; blobs = []; overrides = []; globals = []; specs = []; worktrees = []; configs = [] }

-- what is said, and behind it what is said later
abbrev pub merge_setup_drafts : SetupDraft → SetupDraft → SetupDraft
merge_setup_drafts a b =
    record {
      options = a.options ++ b.options;
      index = a.index ++ b.index;
      blobs = a.blobs ++ b.blobs;
      overrides = a.overrides ++ b.overrides;
      globals = a.globals ++ b.globals;
      specs = a.specs ++ b.specs;
      worktrees = a.worktrees ++ b.worktrees;
      configs = a.configs ++ b.configs;
    }
