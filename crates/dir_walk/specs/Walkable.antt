-- Input over which there is a report, item by item.
use Rattle.std.specs.Prelude.{◌≡◌, ◌⊎◌, ◌≤◌, ℕ, Bool, true, false, List, ◌++◌, Option, Some, None, IfSome, is_some}
use Rattle.std.specs.List.{list_all}
use Rattle.gitbase_core.specs.Objects.{Object, object_by_id, blob, other as other_object}
use Rattle.gitbase_core.specs.Path.{components}
use Rattle.worktree_fs.specs.declared.answers.NodeKind.TheVariants as nodes
use Rattle.worktree_fs.specs.Answers.{kind_of_lookup}
use Rattle.worktree_fs.specs.Paths.{root_joined_with_relative, slash_joined_components, all_but_last}
use Rattle.worktree_fs.specs.Tree.{Names, LookupResult, look, found, absent, too_many_links, file, link, directory, other}
use Rattle.worktree_stack.specs.Reading.{RulesPlace, TreeAndObjects, in_store, in_tree, places_of_directory}
use Rattle.worktree_stack.specs.Setup.{StackSetup}
use Rattle.dir_classify.specs.declared.entry.Kind.TheVariants.{Directory, Repository}
use Rattle.dir_classify.specs.Chosen.{WalkOptions}
use Rattle.dir_classify.specs.Class.{is_in_worktree_set}
use Rattle.dir_classify.specs.Evidence.{PathEvidence}
use Rattle.dir_classify.specs.Kinds.{is_repository_kind}
use Rattle.dir_classify.specs.Layers.{WalkSetting, evidence_from_setting_and_sources}
use Rattle.dir_classify.specs.Rooted.{IsPathOnWayToRoot, end_of_way_to_root}
use Rattle.dir_walk.specs.Refused.{is_text_in_list, is_entered_or_broken}
use Rattle.dir_walk.specs.Report.{count_components, report}
use Rattle.dir_walk.specs.Root.{rooted, find_traversal_root, walk_result_from_traversal_root}
use Rattle.dir_walk.specs.WalkRefused.{walk_result_or_empty}
use Rattle.dir_walk.specs.Walked.{WalkResult}

-- a directory, and no link to one
abbrev pub IsDirectory : Names → List ℕ → Type 0
IsDirectory t full = kind_of_lookup (look t full false) ≡ Some nodes.Directory

-- ---- rules files

-- what a rules file may be: absent, a directory, or a file
abbrev pub is_readable_rules_file : LookupResult → Bool
is_readable_rules_file absent = true
is_readable_rules_file (found (directory names)) = true
is_readable_rules_file (found (file bytes)) = true
is_readable_rules_file (found (link target)) = false
is_readable_rules_file (found other) = false
is_readable_rules_file too_many_links = false

-- what it may be mapped to: a blob
abbrev pub is_blob_object : Option Object → Bool
is_blob_object (Some (blob bytes)) = true
is_blob_object (Some other_object) = false
is_blob_object None = false

-- A place where rules are looked for is fit to be read. A link is followed where no blob stands for the file.
abbrev pub is_readable_rules_place : TreeAndObjects → RulesPlace → Bool
is_readable_rules_place s (in_tree path follow) = is_readable_rules_file (look s.tree path follow)
is_readable_rules_place s (in_store path id) = is_blob_object (object_by_id s.objects id)

-- so is each place for the rules of each directory above a path
abbrev pub AreRulesReadableAbove : TreeAndObjects → StackSetup → List ℕ → Type 0
AreRulesReadableAbove s made path =
    (above rest : List (List ℕ)) → all_but_last (components path) ≡ above ++ rest → list_all (is_readable_rules_place s) (places_of_directory made (slash_joined_components above)) ≡ true

-- ---- directories

-- the index has a path as an up-to-date directory or repository, or it is a worktree of its own
abbrev pub IsIndexedOrWorktreeDirectory : WalkOptions → PathEvidence → List ℕ → Type 0
IsIndexedOrWorktreeDirectory o ev path = ((ev.in_index path).up_to_date ≡ Some Directory) ⊎ ((ev.in_index path).up_to_date ≡ Some Repository) ⊎ (is_in_worktree_set o path ≡ true)

-- ---- the whole

-- what is walked from a traversal root, if something is
abbrev pub walk_result_from_root_or_empty : WalkSetting → Option StackSetup → TreeAndObjects → List ℕ → WalkResult
walk_result_from_root_or_empty given made s start = walk_result_or_empty (walk_result_from_traversal_root given made s start)

-- A work tree, an index, rules and a limit over which a walk is not refused, as long as nothing fails.
pub record IsWalkableInput (given : WalkSetting) (made : Option StackSetup) (s : TreeAndObjects) (explicit : Option (List ℕ)) (limit : ℕ) : Type 0 where
  -- The worktree root is a directory, and no link.
  pub top : IsDirectory s.tree given.root
  -- The traversal root lies within, and its components are there and no links.
  pub start : List ℕ
  pub start_is : find_traversal_root given s.tree explicit ≡ rooted start
  -- Where the way leads there, and its class has it as a repository, it is a directory.
  pub start_repository : (end_of_way_to_root given made s start).whole ≡ true → is_repository_kind (end_of_way_to_root given made s start).class.disk_kind ≡ true → IsDirectory s.tree (root_joined_with_relative given.root start)
  -- So is the traversal root where the way leads there, and each path that is to be entered, where the index has it as an up-to-date
  -- directory or repository, or it is a worktree of its own.
  pub held : (path : List ℕ) → ((path ≡ start) × ((end_of_way_to_root given made s start).whole ≡ true)) ⊎ (is_entered_or_broken path (walk_result_from_root_or_empty given made s start) ≡ true) → IsIndexedOrWorktreeDirectory given.options (evidence_from_setting_and_sources given made s) path
      → IsDirectory s.tree (root_joined_with_relative given.root path)
  -- The rules above each path on the way to the traversal root, and above each path that is walked and asks them, are fit to be read.
  pub rules : IfSome made (λ rules. (path : List ℕ) → IsPathOnWayToRoot start path ⊎ (is_text_in_list path (walk_result_from_root_or_empty given made s start).asked ≡ true) → AreRulesReadableAbove s rules path)
  -- No path that is to be entered has more components than the limit.
  pub depth : (path : List ℕ) → is_entered_or_broken path (walk_result_from_root_or_empty given made s start) ≡ true → count_components path ≤ limit

-- What may be handed in so that a walk is not refused as long as nothing fails: there is a report, or each of these items holds.
abbrev pub HasReportOrIsWalkable : WalkSetting → Option StackSetup → TreeAndObjects → Option (List ℕ) → ℕ → Type 0
HasReportOrIsWalkable given made s explicit limit = (is_some (report given made s explicit limit) ≡ true) ⊎ IsWalkableInput given made s explicit limit
