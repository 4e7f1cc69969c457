-- Which case fits a path, and what it asks.
use Rattle.std.proofs.Common.{◌≡◌, ◌∙◌, ap, sym, ℕ, List, Bool, true, false, not, ◌&&◌, Option, None, refl}
use Rattle.std.specs.Prelude.{is_some}
use Rattle.gitbase_core.specs.Path.{is_empty}
use Rattle.worktree_stack.specs.Reading.{TreeAndObjects}
use Rattle.worktree_stack.specs.Setup.{StackSetup}
use Rattle.dir_classify.specs.declared.entry.Kind.{Kind}
use Rattle.dir_classify.specs.declared.index.InIndex.{InIndex}
use Rattle.dir_classify.specs.Chosen.{WalkOptions}
use Rattle.dir_classify.specs.Class.{asks_ignore_rules, asks_nothing_of_worktree, tests_path_for_repository, tests_for_repository_with_known_kind, class, outcome_without_possible_match, is_path_named_dot_git, kind_by_index_caller_or_disk, outcome_of_dot_git, ruling_of_dot_git, outcome_of_indexed_path, outcome_of_path_of_known_kind, outcome_of_unindexed_path, outcome_of_linked_worktree, asks_rules_with_known_kind, skips_repository_test, asks_nothing_with_known_kind, index_and_disk_agree_on_directory, is_kind_known_without_disk, is_in_worktree_set, ruling_unless_worktree_root, is_directory_of_indexed_submodule, tests_unindexed_for_repository}
use Rattle.dir_classify.specs.Evidence.{PathEvidence}
use Rattle.std.specs.Option.{option_or}
use Rattle.dir_classify.specs.Kinds.{is_dir}
use Rattle.dir_classify.specs.Layers.{WalkSetting, evidence_from_setting_and_sources, index_kinds_by_setting, is_some_rules_file_unread}

pub worktree-case : (o : WalkOptions) (ev : PathEvidence) (path : List ℕ) (kind : Option Kind) → is_in_worktree_set o path ≡ true → outcome_of_linked_worktree ev path kind ≡ outcome_of_path_of_known_kind o ev path kind
worktree-case o ev path kind is = rw is refl

pub indexed-case : (o : WalkOptions) (ev : PathEvidence) (path : List ℕ) (kind : Option Kind) → is_in_worktree_set o path ≡ false → index_and_disk_agree_on_directory (ev.in_index path) kind ≡ true
    → outcome_of_indexed_path o ev path kind ≡ outcome_of_path_of_known_kind o ev path kind
indexed-case o ev path kind none is = rw (none, is) refl

pub unindexed-case : (o : WalkOptions) (ev : PathEvidence) (path : List ℕ) (kind : Option Kind) → is_in_worktree_set o path ≡ false → index_and_disk_agree_on_directory (ev.in_index path) kind ≡ false
    → outcome_of_unindexed_path o ev path kind (ruling_unless_worktree_root o ev path kind) ≡ outcome_of_path_of_known_kind o ev path kind
unindexed-case o ev path kind none not_indexed = rw (none, not_indexed) refl

pub unasked-worktree : (o : WalkOptions) (ev : PathEvidence) (path : List ℕ) (kind : Option Kind) → is_in_worktree_set o path ≡ true → asks_rules_with_known_kind o ev path kind ≡ false
unasked-worktree o ev path kind is = rw is refl

pub unasked-indexed : (o : WalkOptions) (ev : PathEvidence) (path : List ℕ) (kind : Option Kind) → is_in_worktree_set o path ≡ false → index_and_disk_agree_on_directory (ev.in_index path) kind ≡ true → asks_rules_with_known_kind o ev path kind ≡ false
unasked-indexed o ev path kind none is = rw (none, is) refl

pub in_index-of : (given : WalkSetting) (made : Option StackSetup) (s : TreeAndObjects) (path : List ℕ) → (evidence_from_setting_and_sources given made s).in_index path ≡ index_kinds_by_setting given path
unfolding evidence_from_setting_and_sources
in_index-of given made s path = refl

-- by an entry that is what the index says
pub indexed-as : (given : WalkSetting) (made : Option StackSetup) (s : TreeAndObjects) (path : List ℕ) (entry : InIndex) (kind : Option Kind) (b : Bool) → entry ≡ index_kinds_by_setting given path
    → index_and_disk_agree_on_directory entry kind ≡ b → index_and_disk_agree_on_directory ((evidence_from_setting_and_sources given made s).in_index path) kind ≡ b
indexed-as given made s path entry kind b entry_is is =
    ap (λ (e : InIndex). index_and_disk_agree_on_directory e kind) (in_index-of given made s path ∙ sym entry_is) ∙ is

-- all rules that are asked were read
pub read-case : (given : WalkSetting) (made : Option StackSetup) (s : TreeAndObjects) (path : List ℕ) (kind : Option Kind) → is_in_worktree_set given.options path ≡ false
    → index_and_disk_agree_on_directory (index_kinds_by_setting given path) kind ≡ false → (is_some made && not (is_empty path) && is_some_rules_file_unread made s path) ≡ false
    → (asks_rules_with_known_kind given.options (evidence_from_setting_and_sources given made s) path kind && (evidence_from_setting_and_sources given made s).is_unread path) ≡ false
unfolding evidence_from_setting_and_sources
read-case given made s path kind none not_indexed read = rw (none, not_indexed) (go (is_some made) (not (is_empty path)) (is_some_rules_file_unread made s path) read)
  where
    go : (a b c : Bool) → (a && b && c) ≡ false → ((a && b) && c) ≡ false
    go true b c e = e
    go false b c e = refl

-- ---- which of the first cases fits

pub dot_git-case : (o : WalkOptions) (ev : PathEvidence) (path : List ℕ) (known k : Option Kind) → is_path_named_dot_git o.ignore_case path ≡ true
    → outcome_of_dot_git o ev path known (ruling_of_dot_git o ev path known) ≡ class o ev path known k
unfolding class
dot_git-case o ev path known k is = rw is refl

pub asks-dot_git : (o : WalkOptions) (ev : PathEvidence) (path : List ℕ) (known k : Option Kind) → is_path_named_dot_git o.ignore_case path ≡ true
    → (is_some o.for_deletion && ev.is_ruled) ≡ asks_ignore_rules o ev path known k
unfolding asks_ignore_rules
asks-dot_git o ev path known k is = rw is refl

pub unmatched-case : (o : WalkOptions) (ev : PathEvidence) (path : List ℕ) (known k : Option Kind) → is_path_named_dot_git o.ignore_case path ≡ false → ev.can_match path (is_dir known) ≡ false
    → outcome_without_possible_match known ≡ class o ev path known k
unfolding class
unmatched-case o ev path known k none cannot = rw (none, cannot) refl

pub unmatched-asks : (o : WalkOptions) (ev : PathEvidence) (path : List ℕ) (known k : Option Kind) → is_path_named_dot_git o.ignore_case path ≡ false → ev.can_match path (is_dir known) ≡ false
    → asks_ignore_rules o ev path known k ≡ false
unfolding asks_ignore_rules
unmatched-asks o ev path known k none cannot = rw (none, cannot) refl

pub kind-case : (o : WalkOptions) (ev : PathEvidence) (path : List ℕ) (known k : Option Kind) → is_path_named_dot_git o.ignore_case path ≡ false → ev.can_match path (is_dir known) ≡ true
    → outcome_of_path_of_known_kind o ev path (kind_by_index_caller_or_disk ev path known k) ≡ class o ev path known k
unfolding class
kind-case o ev path known k none can = rw (none, can) refl

pub kind-asks : (o : WalkOptions) (ev : PathEvidence) (path : List ℕ) (known k : Option Kind) → is_path_named_dot_git o.ignore_case path ≡ false → ev.can_match path (is_dir known) ≡ true
    → asks_rules_with_known_kind o ev path (kind_by_index_caller_or_disk ev path known k) ≡ asks_ignore_rules o ev path known k
unfolding asks_ignore_rules
kind-asks o ev path known k none can = rw (none, can) refl

pub unmatched-seeks : (o : WalkOptions) (ev : PathEvidence) (path : List ℕ) (known k : Option Kind) → is_path_named_dot_git o.ignore_case path ≡ false → ev.can_match path (is_dir known) ≡ false
    → tests_path_for_repository o ev path known k ≡ false
unfolding tests_path_for_repository
unmatched-seeks o ev path known k none cannot = rw (none, cannot) refl

pub kind-seeks : (o : WalkOptions) (ev : PathEvidence) (path : List ℕ) (known k : Option Kind) → is_path_named_dot_git o.ignore_case path ≡ false → ev.can_match path (is_dir known) ≡ true
    → tests_for_repository_with_known_kind o ev path (kind_by_index_caller_or_disk ev path known k) ≡ tests_path_for_repository o ev path known k
unfolding tests_path_for_repository
kind-seeks o ev path known k none can = rw (none, can) refl

pub can_match-of : (given : WalkSetting) (made : Option StackSetup) (s : TreeAndObjects) (path : List ℕ) (d : Option Bool) → (evidence_from_setting_and_sources given made s).can_match path d ≡ given.can_match path d
unfolding evidence_from_setting_and_sources
can_match-of given made s path d = refl

-- ---- what is asked of a path whose kind is settled

-- the rules are not asked where none are given, or of the worktree root
pub none-asked : (given : WalkSetting) (made : Option StackSetup) (s : TreeAndObjects) (path : List ℕ) (kind : Option Kind) → is_in_worktree_set given.options path ≡ false
    → index_and_disk_agree_on_directory (index_kinds_by_setting given path) kind ≡ false → asks_rules_with_known_kind given.options (evidence_from_setting_and_sources given made s) path kind ≡ false → (is_some made && not (is_empty path)) ≡ false
unfolding evidence_from_setting_and_sources
none-asked given made s path kind none not_indexed e = rw (none, not_indexed) at e

-- and they are where they are given, of another path
pub asks-unindexed : (given : WalkSetting) (made : Option StackSetup) (s : TreeAndObjects) (path : List ℕ) (kind : Option Kind) → is_in_worktree_set given.options path ≡ false
    → index_and_disk_agree_on_directory (index_kinds_by_setting given path) kind ≡ false → (is_some made && not (is_empty path)) ≡ true → asks_rules_with_known_kind given.options (evidence_from_setting_and_sources given made s) path kind ≡ true
unfolding evidence_from_setting_and_sources
asks-unindexed given made s path kind none not_indexed e = rw (none, not_indexed) e

-- the index has the path, and nothing of it is looked for
pub idle-indexed : (o : WalkOptions) (ev : PathEvidence) (path : List ℕ) (kind : Option Kind) → is_in_worktree_set o path ≡ false → index_and_disk_agree_on_directory (ev.in_index path) kind ≡ true
    → asks_nothing_with_known_kind o ev path kind ≡ true → skips_repository_test o (is_directory_of_indexed_submodule (ev.in_index path) kind) ≡ true
idle-indexed o ev path kind none is e = rw (none, is) at e

and-parts : (a b : Bool) → (a && b) ≡ true → (a ≡ true) × (b ≡ true)
and-parts true true e = (refl, refl)
and-parts true false e = absurd (cc e)
and-parts false b e = absurd (cc e)

pub not-true : (b : Bool) → not b ≡ true → b ≡ false
not-true true e = absurd (cc e)
not-true false e = refl

-- the index does not have it, no rules are asked, and nothing of it is looked for
pub idle-unindexed : (given : WalkSetting) (made : Option StackSetup) (s : TreeAndObjects) (path : List ℕ) (kind : Option Kind) → is_in_worktree_set given.options path ≡ false
    → index_and_disk_agree_on_directory (index_kinds_by_setting given path) kind ≡ false → asks_nothing_with_known_kind given.options (evidence_from_setting_and_sources given made s) path kind ≡ true
    → ((is_some made && not (is_empty path)) ≡ false) × (skips_repository_test given.options (tests_unindexed_for_repository given.options kind None) ≡ true)
unfolding evidence_from_setting_and_sources
idle-unindexed given made s path kind none not_indexed e =
    let parts = and-parts (not (is_some made && not (is_empty path))) (skips_repository_test given.options (tests_unindexed_for_repository given.options kind None)) (rw (none, not_indexed) at e) in
    (not-true (is_some made && not (is_empty path)) parts.0, parts.1)

-- nothing is asked, so the kind was known, and nothing of it is looked for
pub nothing-kind : (o : WalkOptions) (ev : PathEvidence) (path : List ℕ) (known : Option Kind) (ask_disk : Bool) → is_path_named_dot_git o.ignore_case path ≡ false → ev.can_match path (is_dir known) ≡ true
    → asks_nothing_of_worktree o ev path known ask_disk ≡ true
    → (is_kind_known_without_disk ask_disk (ev.in_index path).up_to_date known ≡ true) × (asks_nothing_with_known_kind o ev path (option_or (ev.in_index path).up_to_date known) ≡ true)
unfolding asks_nothing_of_worktree
nothing-kind o ev path known ask_disk none can e =
    and-parts (is_kind_known_without_disk ask_disk (ev.in_index path).up_to_date known) (asks_nothing_with_known_kind o ev path (option_or (ev.in_index path).up_to_date known)) (rw (none, can) at e)

pub nothing-dot_git : (o : WalkOptions) (ev : PathEvidence) (path : List ℕ) (known : Option Kind) (ask_disk : Bool) → is_path_named_dot_git o.ignore_case path ≡ true
    → asks_nothing_of_worktree o ev path known ask_disk ≡ true → not (is_some o.for_deletion && ev.is_ruled) ≡ true
unfolding asks_nothing_of_worktree
nothing-dot_git o ev path known ask_disk is e = rw is at e

-- a path named `.git` in deletion asks the rules, if there are any
pub dot_git-none : (o : WalkOptions) (given : WalkSetting) (made : Option StackSetup) (s : TreeAndObjects) → is_some o.for_deletion ≡ true
    → (is_some o.for_deletion && (evidence_from_setting_and_sources given made s).is_ruled) ≡ false → is_some made ≡ false
unfolding evidence_from_setting_and_sources
dot_git-none o given made s on e = rw on at e

pub dot_git-nothing : (o : WalkOptions) (given : WalkSetting) (made : Option StackSetup) (s : TreeAndObjects) → is_some o.for_deletion ≡ true
    → not (is_some o.for_deletion && (evidence_from_setting_and_sources given made s).is_ruled) ≡ true → is_some made ≡ false
dot_git-nothing o given made s on e = dot_git-none o given made s on (not-true (is_some o.for_deletion && (evidence_from_setting_and_sources given made s).is_ruled) e)
