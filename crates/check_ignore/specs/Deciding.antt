-- By which rule it is decided whether a path is excluded: git-check-ignore(1), gitignore(5).
use Rattle.std.specs.Prelude.{ℕ, List, Bool, true, false, not, ◌&&◌, ◌||◌, Option, Some, None, option_map, Result, Ok, Err, if◌then◌else◌}
use Rattle.std.specs.FinMap.{empty}
use Rattle.std.specs.List.{list_all}
use Rattle.gitbase_core.specs.Path.{components, is_empty}
use Rattle.gitbase_core.specs.declared.entry.IndexEntry.{IndexEntry}
use Rattle.glob_rules.specs.Ignore.{MatchedRule}
use Rattle.glob_rules.specs.declared.ignore.Origin.{Origin}
use Rattle.glob_rules.specs.declared.ignore.RuleGroup.{RuleGroup}
use Rattle.worktree_fs.specs.Paths.{all_but_last, all_prefixes_shortest_first, is_relative_without_dots, slash_joined_components}
use Rattle.worktree_fs.specs.Tree.{Names}
use Rattle.worktree_stack.specs.Excludes.{ExcludeDecision, exclude}
use Rattle.worktree_stack.specs.Reading.{TreeAndObjects, is_read_without_refusal, rules_texts_of_directory, rulebook_of_stack_setup}
use Rattle.worktree_stack.specs.Setup.{StackSetup}
use Rattle.worktree_stack.specs.declared.error.AtPathError.{AtPathError}
use Rattle.worktree_stack.specs.declared.error.AtPathError.TheVariants as lookups
use Rattle.worktree_stack.specs.declared.error.BlobWhy.{BlobWhy}
use Rattle.worktree_stack.specs.declared.error.BlobWhy.TheVariants as blobs
use Rattle.worktree_stack.specs.declared.error.RulesWhy.{RulesWhy}
use Rattle.worktree_stack.specs.declared.error.RulesWhy.TheVariants as rules
use Rattle.check_ignore.specs.AsWritten.{rule_as_written_if_outer}
use Rattle.check_ignore.specs.Finds.{◌>>=◌}
use Rattle.check_ignore.specs.Links.{is_directory_kind, kind_below_root_unfollowed}
use Rattle.check_ignore.specs.Outer.{place_of_outer_rule_excluding_top, stack_setup_of_work_tree as made, source_or_empty}
use Rattle.check_ignore.specs.Tracked.{is_any_entry_matched_by_spec}
use Rattle.check_ignore.specs.declared.asked.AskedPath.{AskedPath}
use Rattle.check_ignore.specs.declared.options.Checking.{Checking}
use Rattle.check_ignore.specs.declared.options.OuterRules.{OuterRules}
use Rattle.check_ignore.specs.declared.found_rule.FoundRule.{FoundRule}
use Rattle.check_ignore.specs.declared.found_rule.RulePlace.{RulePlace}
use Rattle.check_ignore.specs.declared.stop.Stop.{Stop}
use Rattle.check_ignore.specs.declared.stop.Stop.TheVariants as stops

-- a rule, with the group of its list
abbrev pub found_rule_of_hit : RuleGroup → MatchedRule → FoundRule
found_rule_of_hit group hit =
    record {
      group = group;
      source = source_or_empty hit;
      line = hit.line;
      text = hit.pattern.text;
      is_negative = hit.pattern.is_negative;
      must_be_dir = hit.pattern.must_be_dir;
    }

-- the same by where it comes from and what it is
abbrev pub found_rule_of_origin_and_hit : Option Origin → Option MatchedRule → Option FoundRule
found_rule_of_origin_and_hit None hit = None
found_rule_of_origin_and_hit (Some origin) None = None
found_rule_of_origin_and_hit (Some origin) (Some hit) = Some (found_rule_of_hit origin.group hit)

-- the rule of a decision
abbrev pub found_rule_of_decision : ExcludeDecision → FoundRule
found_rule_of_decision d = found_rule_of_hit d.group d.rule

-- rules are read in a tree, and no blob of the index is there
abbrev pub tree_without_objects : Names → TreeAndObjects
tree_without_objects t = record { tree = t; objects = empty }

-- the rules files of the directories above a path are read
abbrev pub are_rules_files_above_readable : StackSetup → TreeAndObjects → List (List ℕ) → Bool
are_rules_files_above_readable made s names = list_all (λ directory. is_read_without_refusal (rules_texts_of_directory made s (slash_joined_components directory))) (all_prefixes_shortest_first (all_but_last names))

-- a path can be looked up: it is relative without `.` and `..`, and every rules file on the way to it can be read
abbrev pub is_normal_path_with_readable_rules : Names → StackSetup → List ℕ → Bool
is_normal_path_with_readable_rules t made path = is_relative_without_dots path && are_rules_files_above_readable made (tree_without_objects t) (components path)

-- the rule that decides about a path, by all rules of the directories above it and of those outside the work tree
abbrev pub deciding_rule_in_tree : Names → StackSetup → List ℕ → Bool → Option FoundRule
deciding_rule_in_tree t made path is_dir = option_map found_rule_of_decision (exclude (rulebook_of_stack_setup made (tree_without_objects t)) (components path) (Some is_dir))

-- the same, if these are read
unfoldable pub look_up_deciding_rule : Names → StackSetup → AskedPath → Bool → Result (Option FoundRule) Stop
look_up_deciding_rule t made a is_dir = if is_normal_path_with_readable_rules t made a.path then Ok (deciding_rule_in_tree t made a.path is_dir) else Err (stops.Unread a.text)

-- a path is that of a directory: it asks for one, or one stands there
abbrev pub is_asked_as_or_is_directory : Names → List ℕ → AskedPath → Bool
is_asked_as_or_is_directory t root a = a.names_directory || is_directory_kind (kind_below_root_unfollowed t root a.path)

-- a rule decides, and it is none with `!`
abbrev pub is_excluding_rule : Option FoundRule → Bool
is_excluding_rule None = false
is_excluding_rule (Some rule) = not rule.is_negative

-- Behind a directory that no rule excludes git asks its rules once more, for a path without a name; this is not answered.
abbrev pub is_asked_as_directory_and_top_or_unexcluded : AskedPath → Option FoundRule → Bool
is_asked_as_directory_and_top_or_unexcluded a rule = a.names_directory && (is_empty a.path || not (is_excluding_rule rule))

-- the rule that decides, unless git would ask its rules once more
abbrev pub refuse_top_or_unexcluded_if_asked_as_directory : AskedPath → Option FoundRule → Result (Option FoundRule) Stop
refuse_top_or_unexcluded_if_asked_as_directory a rule = if is_asked_as_directory_and_top_or_unexcluded a rule then Err (stops.Slash a.text) else Ok rule

-- that no rule excludes all
abbrev pub everything_error_if_rule_place_given : AskedPath → Option RulePlace → Result Bool Stop
everything_error_if_rule_place_given a None = Ok true
everything_error_if_rule_place_given a (Some place) = Err (stops.Everything a.text place.file place.line)

-- A rule that excludes a path without a name would exclude the top too, and all beneath it: this is not answered.
abbrev pub refuse_outer_rule_excluding_top : OuterRules → Checking → AskedPath → Result Bool Stop
refuse_outer_rule_excluding_top outer c a = everything_error_if_rule_place_given a (place_of_outer_rule_excluding_top outer c.ignore_case)

-- the rule that decides about a path that the index does not have
unfoldable pub deciding_rule_of_untracked_path : Names → List ℕ → List IndexEntry → OuterRules → Checking → AskedPath → Result (Option FoundRule) Stop
deciding_rule_of_untracked_path t root index outer c a = do
  some ← refuse_outer_rule_excluding_top outer c a
  rule ← look_up_deciding_rule t (made root index outer c.ignore_case) a (is_asked_as_or_is_directory t root a)
  refuse_top_or_unexcluded_if_asked_as_directory a (rule_as_written_if_outer outer rule)

-- no rule decides about what the index has
abbrev pub deciding_rule_unless_tracked : Names → List ℕ → List IndexEntry → OuterRules → Checking → AskedPath → Result (Option FoundRule) Stop
deciding_rule_unless_tracked t root index outer c a = if is_any_entry_matched_by_spec index a.spec then Ok None else deciding_rule_of_untracked_path t root index outer c a

-- without `-v` a negative rule counts as none
abbrev pub rule_if_positive_or_verbose : Checking → FoundRule → Option FoundRule
rule_if_positive_or_verbose c rule = if rule.is_negative && not c.verbose then None else Some rule

-- the same where a rule may decide or none
abbrev pub drop_negative_unless_verbose : Checking → Option FoundRule → Option FoundRule
drop_negative_unless_verbose c None = None
drop_negative_unless_verbose c (Some rule) = rule_if_positive_or_verbose c rule

-- ---- refused lookups

-- what a refused lookup is for a path that was written so
abbrev pub stop_of_rules_file_error : List ℕ → RulesWhy → Stop
stop_of_rules_file_error text rules.Link = stops.Unread text
stop_of_rules_file_error text rules.LinkLimit = stops.Unread text
stop_of_rules_file_error text rules.Special = stops.Unread text
stop_of_rules_file_error text rules.Fault = stops.Fault

-- the same for rules that the index has: an object that is missing or no blob is a rules file that is not read
abbrev pub stop_of_blob_error : List ℕ → BlobWhy → Stop
stop_of_blob_error text blobs.Missing = stops.Unread text
stop_of_blob_error text blobs.NotABlob = stops.Unread text
stop_of_blob_error text blobs.Fault = stops.Fault

-- any refused lookup: all that is neither want of memory nor a fault counts as a rules file that is not read
abbrev pub stop_of_lookup_error : List ℕ → AtPathError → Stop
stop_of_lookup_error text lookups.NotNormal = stops.Unread text
stop_of_lookup_error text (lookups.RulesFile path why) = stop_of_rules_file_error text why
stop_of_lookup_error text (lookups.Blob id why) = stop_of_blob_error text why
stop_of_lookup_error text (lookups.Component why) = stops.Unread text
stop_of_lookup_error text (lookups.Collision path) = stops.Unread text
stop_of_lookup_error text (lookups.Directory path why) = stops.Unread text
stop_of_lookup_error text lookups.OutOfMemory = stops.OutOfMemory
