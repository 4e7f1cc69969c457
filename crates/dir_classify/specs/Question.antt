-- What is asked about the class of a path.
use Rattle.std.specs.Prelude.{ℕ, Bool, true, false, not, ◌&&◌, List, Option, None, is_some}
use Rattle.dir_classify.specs.declared.classify.Outcome.{Outcome}
use Rattle.dir_classify.specs.declared.entry.Kind.{Kind}
use Rattle.dir_classify.specs.Chosen.{WalkOptions}
use Rattle.dir_classify.specs.Class.{class as class_of, asks_ignore_rules as asks_rules, tests_path_for_repository as seeks_repository, asks_nothing_of_worktree, outcome_of_dot_git, ruling_of_dot_git, outcome_of_path_of_known_kind, asks_rules_with_known_kind, tests_for_repository_with_known_kind, asks_nothing_with_known_kind}
use Rattle.dir_classify.specs.Evidence.{PathEvidence}

-- Of which path, and whether the disk may be asked for its kind; the class by that kind and by the evidence, whether the rules are
-- asked then, and whether a repository is looked for; and where nothing is asked of the worktree.
pub record ClassQuestion : Type 0 where
  pub path : List ℕ
  pub ask_disk : Bool
  pub judge : Option Kind → PathEvidence → Outcome
  pub asks : Option Kind → PathEvidence → Bool
  pub seeks : Option Kind → PathEvidence → Bool
  pub nothing : PathEvidence → Bool

-- the class of a path, by the kind that is known or else by that of its node
abbrev pub question_about_path : WalkOptions → List ℕ → Option Kind → Bool → ClassQuestion
question_about_path o path known ask_disk =
    record {
      path = path;
      ask_disk = ask_disk;
      judge = λ kind ev. class_of o ev path known kind;
      asks = λ kind ev. asks_rules o ev path known kind;
      seeks = λ kind ev. seeks_repository o ev path known kind;
      nothing = λ ev. asks_nothing_of_worktree o ev path known ask_disk;
    }

-- of one named `.git`
abbrev pub question_about_dot_git : WalkOptions → List ℕ → Option Kind → Bool → ClassQuestion
question_about_dot_git o path known ask_disk =
    record {
      path = path;
      ask_disk = ask_disk;
      judge = λ _ ev. outcome_of_dot_git o ev path known (ruling_of_dot_git o ev path known);
      asks = λ _ ev. is_some o.for_deletion && ev.is_ruled;
      seeks = λ _ ev. false;
      nothing = λ ev. not (is_some o.for_deletion && ev.is_ruled);
    }

-- of one whose kind is settled
abbrev pub question_about_known_kind : WalkOptions → List ℕ → Option Kind → Bool → ClassQuestion
question_about_known_kind o path kind ask_disk =
    record {
      path = path;
      ask_disk = ask_disk;
      judge = λ _ ev. outcome_of_path_of_known_kind o ev path kind;
      asks = λ _ ev. asks_rules_with_known_kind o ev path kind;
      seeks = λ _ ev. tests_for_repository_with_known_kind o ev path kind;
      nothing = λ ev. asks_nothing_with_known_kind o ev path kind;
    }

-- of one on the way to a traversal root, whose kind is asked first
abbrev pub question_about_path_on_way : WalkOptions → List ℕ → ClassQuestion
question_about_path_on_way o path =
    record {
      path = path;
      ask_disk = true;
      judge = λ kind ev. class_of o ev path kind None;
      asks = λ kind ev. asks_rules o ev path kind None;
      seeks = λ kind ev. seeks_repository o ev path kind None;
      nothing = λ _. false;
    }
