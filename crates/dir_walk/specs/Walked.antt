-- What the walk of a path gives, by recursion on the tree.
use Rattle.std.specs.Prelude.{ℕ, Bool, true, false, not, ◌&&◌, ◌||◌, ◌+◌, if◌then◌else◌, List, [], ◌∷◌, ◌++◌, map, filter, count_by, Option, Some, None, option_map}
use Rattle.gitbase_core.specs.Path.{path_joined_with_slash}
use Rattle.worktree_fs.specs.Tree.{Node, Names, none, named, file, link, directory, other, LookupResult, found, absent, too_many_links}
use Rattle.worktree_fs.specs.Answers.{kind_of_lookup}
use Rattle.dir_classify.specs.declared.classify.Outcome.{Outcome}
use Rattle.dir_classify.specs.declared.entry.Entry.{Entry}
use Rattle.dir_classify.specs.declared.entry.PathspecMatch.{PathspecMatch}
use Rattle.dir_classify.specs.declared.entry.Property.{Property}
use Rattle.dir_classify.specs.declared.entry.Property.TheVariants.{EmptyDirectory, EmptyDirectoryAndCWD}
use Rattle.dir_classify.specs.declared.entry.Status.{Status}
use Rattle.dir_classify.specs.Chosen.{WalkOptions, folds_untracked_or_ignored}
use Rattle.dir_classify.specs.Class.{class, asks_ignore_rules, enters, outcome_of_unentered_path}
use Rattle.dir_classify.specs.Enters.{is_pruned_status}
use Rattle.dir_classify.specs.Entries.{entry_with_outcome}
use Rattle.dir_classify.specs.Evidence.{PathEvidence, is_protected_current_directory}
use Rattle.dir_classify.specs.Kinds.{from_node_kind, from_match_kind}
use Rattle.dir_walk.specs.Emissions.{Emission, uncollapsed_emission, collapsed_emission}
use Rattle.dir_walk.specs.Fold.{tally_held_entries, fold, emits_besides_folded_directory}

pub record WalkResult : Type 0 where
  -- what is put out for good, hidden entries among it, in an order that nothing is said of
  pub out : List Emission
  -- what is handed up to the directory above
  pub up : List Entry
  -- the directory above does not fold
  pub blocks : Bool
  -- how many entries went into a folded directory without being emitted
  pub merged : ℕ
  -- the directories that are entered
  pub entered : List (List ℕ)
  -- the paths that are to be entered and are no directories
  pub broken : List (List ℕ)
  -- the paths whose class asks the ignore rules
  pub asked : List (List ℕ)
  -- the leaves met: each path that is classed and not entered, and each directory without names, with its entry
  pub met : List Entry
  -- the directories that were folded, on any level
  pub folds : List Entry

abbrev pub empty_walk_result : WalkResult
empty_walk_result = record { out = []; up = []; blocks = false; merged = 0; entered = []; broken = []; asked = []; met = []; folds = [] }

abbrev pub merge_walk_results : WalkResult → WalkResult → WalkResult
merge_walk_results a b =
    record {
      out = a.out ++ b.out;
      up = a.up ++ b.up;
      blocks = a.blocks || b.blocks;
      merged = a.merged + b.merged;
      entered = a.entered ++ b.entered;
      broken = a.broken ++ b.broken;
      asked = a.asked ++ b.asked;
      met = a.met ++ b.met;
      folds = a.folds ++ b.folds;
    }

-- what a path gives, and besides that its class asks the rules, or not
abbrev pub add_asked_path_if : Bool → List ℕ → WalkResult → WalkResult
add_asked_path_if b path w = record w { asked = if b then path ∷ w.asked else w.asked }

-- ---- leaves

-- an entry of a status is held, as a directory may be folded over it
abbrev pub holds_status_for_folding : WalkOptions → Status → Bool
holds_status_for_folding o status = not (is_pruned_status status) && folds_untracked_or_ignored o

abbrev pub walk_result_handing_up_leaf : Entry → WalkResult
walk_result_handing_up_leaf e = record empty_walk_result { up = e ∷ []; met = e ∷ [] }

abbrev pub walk_result_emitting_leaf : Entry → WalkResult
walk_result_emitting_leaf e = record empty_walk_result { out = uncollapsed_emission e ∷ []; met = e ∷ [] }

-- a path that is not entered is one entry, which is handed up or put out
unfoldable pub walk_result_of_leaf_entry : WalkOptions → Entry → WalkResult
walk_result_of_leaf_entry o e = if holds_status_for_folding o e.status then walk_result_handing_up_leaf e else walk_result_emitting_leaf e

-- by its class; a directory that deletion must not lose repositories in is looked at once more
abbrev pub walk_result_of_unentered_path : WalkOptions → PathEvidence → List ℕ → Outcome → WalkResult
walk_result_of_unentered_path o ev path c = walk_result_of_leaf_entry o (entry_with_outcome path (outcome_of_unentered_path o ev path c))

-- what is to be entered and is no directory gives no report
abbrev pub walk_result_of_broken_path : List ℕ → WalkResult
walk_result_of_broken_path path = record empty_walk_result { broken = path ∷ [] }

-- ---- directories without names

-- the property of a directory without names: that it must not go, else its own, else that it has none
abbrev pub property_of_empty_directory : Bool → Option Property → Option Property
property_of_empty_directory true own = Some EmptyDirectoryAndCWD
property_of_empty_directory false (Some property) = Some property
property_of_empty_directory false None = Some EmptyDirectory

-- how the path specs match a directory, whether or not a spec takes it out
abbrev pub kind_of_spec_matching_directory : PathEvidence → List ℕ → Option PathspecMatch
kind_of_spec_matching_directory ev d = option_map (λ how. from_match_kind how.kind) (ev.matched d (Some true))

-- the class of the entry that stands for a directory without names
abbrev pub outcome_of_empty_directory : PathEvidence → List ℕ → Outcome → Outcome
outcome_of_empty_directory ev d c = record c { property = property_of_empty_directory (is_protected_current_directory ev d) c.property; pathspec_match = kind_of_spec_matching_directory ev d }

abbrev pub entry_of_empty_directory : PathEvidence → List ℕ → Outcome → Entry
entry_of_empty_directory ev d c = entry_with_outcome d (outcome_of_empty_directory ev d c)

-- it is a leaf, and where it must not go the directory above does not fold
unfoldable pub walk_result_of_empty_directory : WalkOptions → PathEvidence → List ℕ → Outcome → WalkResult
walk_result_of_empty_directory o ev d c = record (walk_result_of_leaf_entry o (entry_of_empty_directory ev d c)) { blocks = is_protected_current_directory ev d; entered = d ∷ [] }

-- ---- directories with names

-- all that is held is put out, and no directory above folds
abbrev pub walk_result_of_unfolded_directory : List ℕ → WalkResult → WalkResult
walk_result_of_unfolded_directory d w = record w { out = w.out ++ map uncollapsed_emission w.up; up = []; blocks = true; entered = d ∷ w.entered }

-- one entry is handed up for all that is held; some of that is emitted besides, and the rest is merged
abbrev pub walk_result_of_folded_directory : WalkOptions → List ℕ → WalkResult → Entry → WalkResult
walk_result_of_folded_directory o d w f =
    record w {
      out = w.out ++ map (collapsed_emission f.status) (filter (emits_besides_folded_directory o.emit_collapsed f.status) w.up);
      up = f ∷ [];
      merged = w.merged + count_by (λ e. not (emits_besides_folded_directory o.emit_collapsed f.status e)) w.up;
      entered = d ∷ w.entered;
      folds = f ∷ w.folds;
    }

abbrev pub walk_result_folded_if_some : WalkOptions → List ℕ → WalkResult → Option Entry → WalkResult
walk_result_folded_if_some o d w None = walk_result_of_unfolded_directory d w
walk_result_folded_if_some o d w (Some f) = walk_result_of_folded_directory o d w f

-- what is held alone
abbrev pub walk_result_holding_entries : List Entry → Bool → WalkResult
walk_result_holding_entries held blocked = record empty_walk_result { up = held; blocks = blocked }

-- a directory of a class, by what its names give together: where one of these blocks it, or its fold is none, it is not folded
unfoldable pub walk_result_of_closed_directory : WalkOptions → PathEvidence → List ℕ → Outcome → WalkResult → WalkResult
walk_result_of_closed_directory o ev d c w = if w.blocks then walk_result_of_unfolded_directory d w else walk_result_folded_if_some o d w (fold o ev d c (tally_held_entries w.up))

-- a directory that is entered, by its names and by what these give together
abbrev pub walk_result_of_directory_by_names : WalkOptions → PathEvidence → List ℕ → Outcome → Names → WalkResult → WalkResult
walk_result_of_directory_by_names o ev d c none w = walk_result_of_empty_directory o ev d c
walk_result_of_directory_by_names o ev d c (named name node rest) w = walk_result_of_closed_directory o ev d c w

-- ---- the tree

-- the class of a child, by what its path leads to: nothing is known of it, and the disk is asked
abbrev pub outcome_of_child : WalkOptions → PathEvidence → List ℕ → LookupResult → Outcome
outcome_of_child o ev path at = class o ev path None (option_map from_node_kind (kind_of_lookup at))

-- whether it asks the ignore rules
abbrev pub child_asks_ignore_rules : WalkOptions → PathEvidence → List ℕ → LookupResult → Bool
child_asks_ignore_rules o ev path at = asks_ignore_rules o ev path None (option_map from_node_kind (kind_of_lookup at))

-- a path of a class that is entered gives this, and any other is a leaf
abbrev pub walk_result_if_entered_else_leaf : WalkOptions → PathEvidence → List ℕ → Outcome → WalkResult → WalkResult
walk_result_if_entered_else_leaf o ev path c w = if enters o c false then w else walk_result_of_unentered_path o ev path c

-- what a child gives that is no directory
abbrev pub walk_result_of_non_directory : WalkOptions → PathEvidence → List ℕ → LookupResult → WalkResult
walk_result_of_non_directory o ev path at = add_asked_path_if (child_asks_ignore_rules o ev path at) path (walk_result_if_entered_else_leaf o ev path (outcome_of_child o ev path at) (walk_result_of_broken_path path))

-- what a child of a directory gives, and what the children of a directory give together
unfoldable mutual
  pub item : WalkOptions → PathEvidence → List ℕ → Node → WalkResult
  item o ev path (file bytes) = walk_result_of_non_directory o ev path (found (file bytes))
  item o ev path (link target) = walk_result_of_non_directory o ev path (found (link target))
  item o ev path other = walk_result_of_non_directory o ev path (found other)
  item o ev path (directory names) =
      let c = outcome_of_child o ev path (found (directory names)) in
      add_asked_path_if (child_asks_ignore_rules o ev path (found (directory names))) path (walk_result_if_entered_else_leaf o ev path c (walk_result_of_directory_by_names o ev path c names (walk_result_of_all_children o ev path names)))

  pub walk_result_of_all_children : WalkOptions → PathEvidence → List ℕ → Names → WalkResult
  walk_result_of_all_children o ev d none = empty_walk_result
  walk_result_of_all_children o ev d (named name node rest) = merge_walk_results (item o ev (path_joined_with_slash d name) node) (walk_result_of_all_children o ev d rest)

-- what a path gives whose directory is entered, by what it leads to; where that is nothing it is no directory
abbrev pub walk_result_of_child_by_look : WalkOptions → PathEvidence → List ℕ → LookupResult → WalkResult
walk_result_of_child_by_look o ev path (found node) = item o ev path node
walk_result_of_child_by_look o ev path absent = walk_result_of_non_directory o ev path absent
walk_result_of_child_by_look o ev path too_many_links = walk_result_of_non_directory o ev path too_many_links

-- what a directory gives that is entered
abbrev pub report_of : WalkOptions → PathEvidence → List ℕ → Outcome → Names → WalkResult
report_of o ev d c names = walk_result_of_directory_by_names o ev d c names (walk_result_of_all_children o ev d names)

-- what a path gives that is entered, by what it leads to
abbrev pub walk_result_of_entered_path : WalkOptions → PathEvidence → List ℕ → Outcome → LookupResult → WalkResult
walk_result_of_entered_path o ev d c (found (directory names)) = report_of o ev d c names
walk_result_of_entered_path o ev d c (found (file bytes)) = walk_result_of_broken_path d
walk_result_of_entered_path o ev d c (found (link target)) = walk_result_of_broken_path d
walk_result_of_entered_path o ev d c (found other) = walk_result_of_broken_path d
walk_result_of_entered_path o ev d c absent = walk_result_of_broken_path d
walk_result_of_entered_path o ev d c too_many_links = walk_result_of_broken_path d
