-- The class of a path that is entered, also by what a fault left to be read.
use Rattle.std.proofs.Common.{◌≡◌, ℕ, List, Bool, true, false, cond, not, ◌&&◌, Option, Some, None, option_map, Err, refl, sym, ap, ◌∙◌}
use Rattle.std.proofs.lemmas.Bool.{and_parts}
use Rattle.worktree_fs.specs.declared.answers.ListError.{ListError}
use Rattle.worktree_fs.specs.Answers.{kind_of_lookup, list_of}
use Rattle.worktree_fs.specs.Tree.{LookupResult, found, absent, too_many_links, file, link, directory, other}
use Rattle.glob_rules.specs.declared.ignore.Kind.{Kind as IgnoredAs}
use Rattle.dir_classify.specs.declared.classify.Outcome.{Outcome as Class}
use Rattle.dir_classify.specs.declared.entry.Kind.{Kind}
use Rattle.dir_classify.specs.declared.entry.Kind.TheVariants.{Untrackable, File, Symlink, Directory, Repository}
use Rattle.dir_classify.specs.Chosen.{WalkOptions, finds_bare_repositories_in_ignored}
use Rattle.dir_classify.specs.Class.{class, outcome_by_ignore_kind, outcome_of_untracked_directory, outcome_of_dot_git, outcome_of_indexed_path, outcome_of_path_of_known_kind, outcome_of_untracked_non_directory, outcome_of_unindexed_path, outcome_without_possible_match, outcome_of_linked_worktree, ruling_of_dot_git, enters, is_path_named_dot_git, index_and_disk_agree_on_directory, is_in_worktree_set, ruling_unless_worktree_root, upgrade}
use Rattle.dir_classify.specs.Enters.{is_walkable_kind, may_recurse_by_status}
use Rattle.dir_classify.specs.Evidence.{PathEvidence}
use Rattle.dir_classify.specs.Faults.{IsOutcomeAsRead, kind_unless_failed, evidence_as_read}
use Rattle.std.specs.Option.{option_or}
use Rattle.dir_classify.specs.Kinds.{from_node_kind, is_some_directory_kind, is_plain_directory_kind, is_repository_kind}

open-directory : (kind : Option Kind) → is_walkable_kind kind false ≡ true → kind ≡ Some Directory
open-directory None e = absurd (cc e)
open-directory (Some Directory) e = refl
open-directory (Some Repository) e = absurd (cc e)
open-directory (Some Untrackable) e = absurd (cc e)
open-directory (Some File) e = absurd (cc e)
open-directory (Some Symlink) e = absurd (cc e)

enters-directory : (o : WalkOptions) (c : Class) → enters o c false ≡ true → c.disk_kind ≡ Some Directory
enters-directory o c e = open-directory c.disk_kind (and_parts (is_walkable_kind c.disk_kind false) (may_recurse_by_status c.status c.pathspec_match o.for_deletion) e).0

-- what is a directory still was one before it was looked at
kept-kind : (b : Bool) (kind : Option Kind) → cond b (Some Repository) kind ≡ Some Directory → kind ≡ Some Directory
kept-kind true kind e = absurd (cc e)
kept-kind false kind e = e

upgrade-kind : (o : WalkOptions) (ev : PathEvidence) (kind : Option Kind) (p : List ℕ) (hard : Bool) → upgrade o ev kind p hard ≡ Some Directory → kind ≡ Some Directory
upgrade-kind o ev kind p hard e = kept-kind _ kind e

if-kind : (o : WalkOptions) (ev : PathEvidence) (kind : Option Kind) (p : List ℕ) (hard b : Bool) → cond b (upgrade o ev kind p hard) kind ≡ Some Directory → kind ≡ Some Directory
if-kind o ev kind p hard true e = upgrade-kind o ev kind p hard e
if-kind o ev kind p hard false e = e

module _ (o : WalkOptions) (ev : PathEvidence) (p : List ℕ) (kind : Option Kind) where
  rules-kind : (excluded : Option IgnoredAs) → (outcome_by_ignore_kind o ev p kind excluded).disk_kind ≡ Some Directory → kind ≡ Some Directory
  rules-kind (Some excluded) e = if-kind o ev kind p (finds_bare_repositories_in_ignored o.for_deletion) _ e
  rules-kind None e = go (is_some_directory_kind kind) e
    where
      go : (b : Bool) → (cond b (outcome_of_untracked_directory o ev p kind) (outcome_of_untracked_non_directory ev p kind)).disk_kind ≡ Some Directory → kind ≡ Some Directory
      go true f = upgrade-kind o ev kind p o.classify_untracked_bare_repositories f
      go false f = f

  class-kind : (outcome_of_path_of_known_kind o ev p kind).disk_kind ≡ Some Directory → kind ≡ Some Directory
  class-kind e = go (is_in_worktree_set o p) (index_and_disk_agree_on_directory (ev.in_index p) kind) e
    where
      go : (a b : Bool) → (cond a (outcome_of_linked_worktree ev p kind) (cond b (outcome_of_indexed_path o ev p kind) (outcome_of_unindexed_path o ev p kind (ruling_unless_worktree_root o ev p kind)))).disk_kind ≡ Some Directory → kind ≡ Some Directory
      go true b f = absurd (cc f)
      go false true f = if-kind o ev kind p false (is_plain_directory_kind kind && is_repository_kind (ev.in_index p).kind) f
      go false false f = rules-kind (ruling_unless_worktree_root o ev p kind).kind f

-- a path that is entered, of which nothing was known, is a directory by the index or on disk
pub kind-entered : (o : WalkOptions) (ev : PathEvidence) (p : List ℕ) (on_disk : Option Kind) → enters o (class o ev p None on_disk) false ≡ true → option_or (ev.in_index p).up_to_date on_disk ≡ Some Directory
unfolding class
kind-entered o ev p on_disk into = go (is_path_named_dot_git o.ignore_case p) (ev.can_match p None) (enters-directory o (class o ev p None on_disk) into)
  where
    go : (a b : Bool) → (cond a (outcome_of_dot_git o ev p None (ruling_of_dot_git o ev p None)) (cond (not b) (outcome_without_possible_match None) (outcome_of_path_of_known_kind o ev p (option_or (ev.in_index p).up_to_date on_disk)))).disk_kind ≡ Some Directory
        → option_or (ev.in_index p).up_to_date on_disk ≡ Some Directory
    go true b f = absurd (cc f)
    go false true f = class-kind o ev p (option_or (ev.in_index p).up_to_date on_disk) f
    go false false f = absurd (cc f)

-- where the names of what is entered cannot be listed, the index has an up-to-date directory there
pub indexed-unlisted : (before now : ℕ) (o : WalkOptions) (ev : PathEvidence) (p : List ℕ) (at : LookupResult) (c : Class) (why : ListError) → IsOutcomeAsRead before now (λ kind read. class o read p None kind) ev (option_map from_node_kind (kind_of_lookup at)) c → enters o c false ≡ true → list_of at ≡ Err why
    → (ev.in_index p).up_to_date ≡ Some Directory
indexed-unlisted before now o ev p at c why judged into unlisted = go (ev.in_index p).up_to_date judged.failed.kind by_kind
  where
    by_kind : option_or (ev.in_index p).up_to_date (kind_unless_failed judged.failed.kind (option_map from_node_kind (kind_of_lookup at))) ≡ Some Directory
    by_kind = kind-entered o (evidence_as_read judged.failed ev) p (kind_unless_failed judged.failed.kind (option_map from_node_kind (kind_of_lookup at))) (ap (λ (k : Class). enters o k false) (sym judged.class_is) ∙ into)

    no_directory : (l : LookupResult) → list_of l ≡ Err why → option_map from_node_kind (kind_of_lookup l) ≡ Some Directory → (k : Option Kind) → k ≡ Some Directory
    no_directory absent e d k = absurd (cc d)
    no_directory too_many_links e d k = absurd (cc d)
    no_directory (found (file bytes)) e d k = absurd (cc d)
    no_directory (found (link target)) e d k = absurd (cc d)
    no_directory (found other) e d k = absurd (cc d)
    no_directory (found (directory names)) e d k = absurd (cc e)

    go : (indexed : Option Kind) (failed : Bool) → option_or indexed (kind_unless_failed failed (option_map from_node_kind (kind_of_lookup at))) ≡ Some Directory → indexed ≡ Some Directory
    go (Some k) failed e = e
    go None false e = no_directory at unlisted e None
    go None true e = absurd (cc e)
