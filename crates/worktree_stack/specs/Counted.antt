-- What a stack counts: each count rises by one at what it counts, and stands still at the last value of its type.
use Rattle.std.specs.Prelude.{ℕ, ◌+◌, false, List, [], ◌∷◌, Option, Some, None, Result, Ok, Err}
use Rattle.gitbase_core.specs.Causes.{saturating_increment as one_more}
use Rattle.gitbase_core.specs.Objects.{Object, object_by_id, blob, other as other_object}
use Rattle.worktree_fs.specs.Tree.{LookupResult, look, found, absent, too_many_links, file, link, directory, other}
use Rattle.worktree_fs.specs.PathStack.{DelegateCall, push_directory, push, pop_directory}
use Rattle.worktree_stack.specs.declared.statistics.Statistics.{Statistics}
use Rattle.worktree_stack.specs.declared.statistics.DelegateStatistics.{DelegateStatistics}
use Rattle.worktree_stack.specs.declared.statistics.RulesStatistics.{RulesStatistics}
use Rattle.glob_rules.specs.declared.Case.{Case}
use Rattle.worktree_stack.specs.declared.state.Checkout.{Checkout}
use Rattle.worktree_stack.specs.Setup.{StackSetup, RulesFileMapping, HeldIgnoreRules, HeldAttributeLists, held_rules_without_directories, held_attributes_without_lists}
use Rattle.worktree_stack.specs.Stacked.{StackModel}
use Rattle.worktree_stack.specs.Reading.{TreeAndObjects, RulesRefusal, RulesPlace, in_tree, in_store, list_bytes_at_place, RulesKind, of_attributes, of_ignore, RulesReading, readings_of_directory}

-- zeros
abbrev pub zero_rules_statistics : RulesStatistics
zero_rules_statistics = record { patterns_buffers = 0; pattern_files = 0; tried_pattern_files = 0 }

-- zeros for all that is counted
abbrev pub zero_statistics : Statistics
zero_statistics =
    record {
      platforms = 0;
      delegate = record { num_mkdir_calls = 0; push_element = 0; push_directory = 0; pop_directory = 0 };
      attributes = zero_rules_statistics;
      ignore = zero_rules_statistics;
    }

-- one lookup more, which is not answered yet
abbrev pub with_lookup_counted : StackModel → StackModel
with_lookup_counted s = record s { is_answered = false; statistics = record s.statistics { platforms = one_more s.statistics.platforms } }

-- one step on the way more
abbrev pub delegate_counts_after_call : DelegateStatistics → DelegateCall → DelegateStatistics
delegate_counts_after_call s (push_directory path) = record s { push_directory = one_more s.push_directory }
delegate_counts_after_call s (push path is_last) = record s { push_element = one_more s.push_element }
delegate_counts_after_call s pop_directory = record s { pop_directory = one_more s.pop_directory }

-- and some steps more, one after the other
abbrev pub delegate_counts_after_calls : DelegateStatistics → List DelegateCall → DelegateStatistics
delegate_counts_after_calls s [] = s
delegate_counts_after_calls s (call ∷ calls) = delegate_counts_after_calls (delegate_counts_after_call s call) calls

-- a rules file that was looked for and not refused, by what its path leads to
abbrev pub rules_counts_after_file : RulesStatistics → LookupResult → RulesStatistics
rules_counts_after_file s (found (file bytes)) = record s { tried_pattern_files = one_more s.tried_pattern_files; pattern_files = one_more s.pattern_files }
rules_counts_after_file s (found (directory names)) = record s { tried_pattern_files = one_more s.tried_pattern_files }
rules_counts_after_file s (found (link target)) = s
rules_counts_after_file s (found other) = s
rules_counts_after_file s absent = record s { tried_pattern_files = one_more s.tried_pattern_files }
rules_counts_after_file s too_many_links = s

-- a blob that was asked for, by what is under its id
abbrev pub rules_counts_after_blob : RulesStatistics → Option Object → RulesStatistics
rules_counts_after_blob s (Some (blob bytes)) = record s { patterns_buffers = one_more s.patterns_buffers }
rules_counts_after_blob s (Some other_object) = s
rules_counts_after_blob s None = s

-- and of one place, by what is there
abbrev pub rules_counts_after_place : TreeAndObjects → RulesStatistics → RulesPlace → RulesStatistics
rules_counts_after_place sources s (in_tree path follow) = rules_counts_after_file s (look sources.tree path follow)
rules_counts_after_place sources s (in_store path id) = rules_counts_after_blob s (object_by_id sources.objects id)

-- where a place has no list, the next ones are asked
abbrev pub counts_by_whether_list_found : Result (Option (List ℕ)) RulesRefusal → RulesStatistics → RulesStatistics → RulesStatistics
counts_by_whether_list_found (Ok None) here next = next
counts_by_whether_list_found (Ok (Some bytes)) here next = here
counts_by_whether_list_found (Err refusal) here next = here

-- the places that one reading asks
abbrev pub rules_counts_after_places : TreeAndObjects → RulesStatistics → List RulesPlace → RulesStatistics
rules_counts_after_places sources s [] = s
rules_counts_after_places sources s (place ∷ places) = counts_by_whether_list_found (list_bytes_at_place sources place) (rules_counts_after_place sources s place) (rules_counts_after_places sources (rules_counts_after_place sources s place) places)

-- how many rules files were looked for in the worktree, with those of some places
abbrev pub tried_files_after_places : ℕ → List RulesPlace → ℕ
tried_files_after_places count [] = count
tried_files_after_places count (in_tree path follow ∷ places) = tried_files_after_places (one_more count) places
tried_files_after_places count (in_store path id ∷ places) = tried_files_after_places count places

-- the rules files among some places were looked for, and nothing else is counted
abbrev pub with_tried_files_counted : List RulesPlace → RulesStatistics → RulesStatistics
with_tried_files_counted places s = record s { tried_pattern_files = tried_files_after_places s.tried_pattern_files places }

-- how many of some places are in the worktree
abbrev pub number_of_worktree_places : List RulesPlace → ℕ
number_of_worktree_places [] = 0
number_of_worktree_places (in_tree path follow ∷ places) = 1 + number_of_worktree_places places
number_of_worktree_places (in_store path id ∷ places) = number_of_worktree_places places

-- how many of some places are in the store
abbrev pub number_of_store_places : List RulesPlace → ℕ
number_of_store_places [] = 0
number_of_store_places (in_tree path follow ∷ places) = number_of_store_places places
number_of_store_places (in_store path id ∷ places) = 1 + number_of_store_places places

-- ---- readings, of which each is counted with those of its kind

-- what is counted of a kind of rules
abbrev pub rules_counts_of_kind : RulesKind → Statistics → RulesStatistics
rules_counts_of_kind of_attributes s = s.attributes
rules_counts_of_kind of_ignore s = s.ignore

-- these places, where the kinds are the same, and none else
abbrev pub places_if_same_kind : RulesKind → RulesKind → List RulesPlace → List RulesPlace
places_if_same_kind of_attributes of_attributes places = places
places_if_same_kind of_attributes of_ignore places = []
places_if_same_kind of_ignore of_attributes places = []
places_if_same_kind of_ignore of_ignore places = places

-- the places of a reading that count for a kind
abbrev pub places_of_reading_if_of_kind : RulesKind → RulesReading → List RulesPlace
places_of_reading_if_of_kind kind r = places_if_same_kind kind r.kind r.places

-- the readings of a kind among some
abbrev pub rules_counts_after_readings : RulesKind → TreeAndObjects → RulesStatistics → List RulesReading → RulesStatistics
rules_counts_after_readings kind sources s [] = s
rules_counts_after_readings kind sources s (r ∷ readings) = rules_counts_after_readings kind sources (rules_counts_after_places sources s (places_of_reading_if_of_kind kind r)) readings

-- the files that they look for
abbrev pub tried_files_after_readings : RulesKind → ℕ → List RulesReading → ℕ
tried_files_after_readings kind count [] = count
tried_files_after_readings kind count (r ∷ readings) = tried_files_after_readings kind (tried_files_after_places count (places_of_reading_if_of_kind kind r)) readings

-- how many files they ask at most
abbrev pub number_of_files_in_readings : RulesKind → List RulesReading → ℕ
number_of_files_in_readings kind [] = 0
number_of_files_in_readings kind (r ∷ readings) = number_of_worktree_places (places_of_reading_if_of_kind kind r) + number_of_files_in_readings kind readings

-- and how many blobs
abbrev pub number_of_blobs_in_readings : RulesKind → List RulesReading → ℕ
number_of_blobs_in_readings kind [] = 0
number_of_blobs_in_readings kind (r ∷ readings) = number_of_store_places (places_of_reading_if_of_kind kind r) + number_of_blobs_in_readings kind readings

-- ---- the readings of the directories on the way

-- those of a kind
abbrev pub rules_counts_after_calls : RulesKind → StackSetup → TreeAndObjects → RulesStatistics → List DelegateCall → RulesStatistics
rules_counts_after_calls kind made sources s [] = s
rules_counts_after_calls kind made sources s (push_directory path ∷ calls) = rules_counts_after_calls kind made sources (rules_counts_after_readings kind sources s (readings_of_directory made path)) calls
rules_counts_after_calls kind made sources s (push path is_last ∷ calls) = rules_counts_after_calls kind made sources s calls
rules_counts_after_calls kind made sources s (pop_directory ∷ calls) = rules_counts_after_calls kind made sources s calls

-- how many rules files were looked for in the worktree, with those on the way
abbrev pub tried_files_after_calls : RulesKind → StackSetup → ℕ → List DelegateCall → ℕ
tried_files_after_calls kind made count [] = count
tried_files_after_calls kind made count (push_directory path ∷ calls) = tried_files_after_calls kind made (tried_files_after_readings kind count (readings_of_directory made path)) calls
tried_files_after_calls kind made count (push path is_last ∷ calls) = tried_files_after_calls kind made count calls
tried_files_after_calls kind made count (pop_directory ∷ calls) = tried_files_after_calls kind made count calls

-- how many files are asked on the way at most
abbrev pub number_of_files_asked_by_calls : RulesKind → StackSetup → List DelegateCall → ℕ
number_of_files_asked_by_calls kind made [] = 0
number_of_files_asked_by_calls kind made (push_directory path ∷ calls) = number_of_files_in_readings kind (readings_of_directory made path) + number_of_files_asked_by_calls kind made calls
number_of_files_asked_by_calls kind made (push path is_last ∷ calls) = number_of_files_asked_by_calls kind made calls
number_of_files_asked_by_calls kind made (pop_directory ∷ calls) = number_of_files_asked_by_calls kind made calls

-- and how many blobs
abbrev pub number_of_blobs_asked_by_calls : RulesKind → StackSetup → List DelegateCall → ℕ
number_of_blobs_asked_by_calls kind made [] = 0
number_of_blobs_asked_by_calls kind made (push_directory path ∷ calls) = number_of_blobs_in_readings kind (readings_of_directory made path) + number_of_blobs_asked_by_calls kind made calls
number_of_blobs_asked_by_calls kind made (push path is_last ∷ calls) = number_of_blobs_asked_by_calls kind made calls
number_of_blobs_asked_by_calls kind made (pop_directory ∷ calls) = number_of_blobs_asked_by_calls kind made calls

-- a stack on which nothing is pushed and nothing is counted, with what its state holds
abbrev pub stack_with_nothing_pushed : List ℕ → Case → List RulesFileMapping → Option Checkout → Option HeldAttributeLists → Option HeldIgnoreRules → StackModel
stack_with_nothing_pushed root case mappings checkout attributes ignore =
    record {
      root = root;
      case = case;
      mappings = mappings;
      checkout = checkout;
      attributes = attributes;
      ignore = ignore;
      at = None;
      current = [];
      is_dir = None;
      is_answered = false;
      statistics = zero_statistics;
    }

-- a stack that was made as another one, with nothing pushed and nothing counted
abbrev pub fresh : StackModel → StackModel
fresh s = stack_with_nothing_pushed s.root s.case s.mappings s.checkout (held_attributes_without_lists s.attributes) (held_rules_without_directories s.ignore)
