-- Without folding a walk puts out exactly the leaves that it meets; and it meets the same ones.
use Rattle.std.proofs.Common.{◌≡◌, ℕ, List, [], ◌∷◌, ◌++◌, Bool, true, false, cond, not, ◌||◌, ◌&&◌, Option, Some, None, map, refl, sym, ap, subst, ◌∙◌}
use Rattle.std.proofs.lemmas.List.{append-nil, map-append}
use Rattle.std.specs.Prelude.{is_some, if◌then◌else◌}
use Rattle.gitbase_core.specs.Path.{ends_in_slash, path_joined_with_slash}
use Rattle.glob_rules.specs.declared.ignore.Kind.{Kind as IgnoredAs}
use Rattle.worktree_fs.specs.Naming.{IsValidTree}
use Rattle.worktree_fs.specs.Tree.{Node, Names, LookupResult, file, link, directory, other, none, named, found}
use Rattle.dir_classify.specs.declared.classify.Outcome.{Outcome as Class}
use Rattle.dir_classify.specs.declared.entry.Entry.{Entry}
use Rattle.dir_classify.specs.declared.entry.Kind.{Kind}
use Rattle.dir_classify.specs.declared.entry.Status.{Status}
use Rattle.dir_classify.specs.declared.entry.Status.TheVariants.{Pruned, Tracked, Ignored, Untracked}
use Rattle.dir_classify.specs.declared.excludes.Ruling.{Ruling}
use Rattle.dir_classify.specs.declared.options.EmissionMode.{EmissionMode}
use Rattle.dir_classify.specs.Chosen.{WalkOptions, folds_untracked_or_ignored}
use Rattle.dir_classify.specs.Class.{class, outcome_by_ignore_kind, outcome_of_dot_git, outcome_of_indexed_path, outcome_without_possible_match, outcome_of_linked_worktree, ruling_of_dot_git, enters, is_path_named_dot_git, index_and_disk_agree_on_directory, is_in_worktree_set, outcome_of_unentered_path, ruling_unless_worktree_root, kind_by_index_caller_or_disk}
use Rattle.dir_classify.specs.Entries.{entry_with_outcome}
use Rattle.dir_classify.specs.Evidence.{PathEvidence}
use Rattle.dir_classify.specs.Kinds.{is_dir}
use Rattle.dir_walk.specs.Covered.{options_without_folding, matching_mode_if_some}
use Rattle.dir_walk.specs.Emissions.{Emission, is_empty_directory_property, is_unmatched_or_excluded, is_status_emitted, uncollapsed_emission, is_entry_shown_by_options}
use Rattle.dir_walk.specs.Fold.{fold, tally_held_entries}
use Rattle.dir_walk.specs.Walked.{WalkResult, walk_result_of_broken_path, outcome_of_child, walk_result_of_closed_directory, walk_result_of_directory_by_names, walk_result_of_empty_directory, entry_of_empty_directory, walk_result_if_entered_else_leaf, walk_result_folded_if_some, walk_result_handing_up_leaf, holds_status_for_folding, item, walk_result_of_all_children, walk_result_of_leaf_entry, walk_result_of_unentered_path, walk_result_emitting_leaf, report_of, walk_result_of_unfolded_directory}
use Rattle.dir_walk.proofs.Folding.Closing.{closed-met, leaf-gives}
use Rattle.dir_walk.proofs.Theorems.Guards.{status-loose}
use Rattle.dir_walk.proofs.Theorems.Induct.{Cases, NoneEmpty, at_report}
use Rattle.dir_walk.proofs.Places.Located.{at_or_beneath, fold-is}

-- ---- the classes are the same

is_some-matching : (mode : Option EmissionMode) → is_some (matching_mode_if_some mode) ≡ is_some mode
is_some-matching None = refl
is_some-matching (Some mode) = refl

by_rules-same : (o : WalkOptions) (ev : PathEvidence) (path : List ℕ) (k : Option Kind) (kind : Option IgnoredAs) → outcome_by_ignore_kind (options_without_folding o) ev path k kind ≡ outcome_by_ignore_kind o ev path k kind
by_rules-same o ev path k None = refl
by_rules-same o ev path k (Some kind) = rw (is_some-matching o.emit_ignored) refl

pub class-same : (o : WalkOptions) (ev : PathEvidence) (path : List ℕ) (known on_disk : Option Kind) → class (options_without_folding o) ev path known on_disk ≡ class o ev path known on_disk
unfolding class
class-same o ev path known on_disk =
    let k : Option Kind = kind_by_index_caller_or_disk ev path known on_disk in
    let ruling : Ruling = ruling_unless_worktree_root o ev path k in
    ap (λ (z : Class).
    if is_path_named_dot_git o.ignore_case path then outcome_of_dot_git o ev path known (ruling_of_dot_git o ev path known)
    else if not (ev.can_match path (is_dir known)) then outcome_without_possible_match known
    else if is_in_worktree_set o path then outcome_of_linked_worktree ev path k
    else if index_and_disk_agree_on_directory (ev.in_index path) k then outcome_of_indexed_path o ev path k
    else record z { origin = ruling.origin }) (by_rules-same o ev path k ruling.kind)

-- and so is what is shown
pub shows-same : (o : WalkOptions) (e : Entry) → is_entry_shown_by_options (options_without_folding o) e ≡ is_entry_shown_by_options o e
shows-same o e = ap (λ (b : Bool). (o.emit_empty_directories || not (is_empty_directory_property e.property)) && b && (o.emit_pruned || not (is_unmatched_or_excluded e.pathspec_match))) (wanted e.status)
  where
    wanted : (s : Status) → is_status_emitted (options_without_folding o) s ≡ is_status_emitted o s
    wanted Pruned = refl
    wanted Tracked = refl
    wanted (Ignored kind) = is_some-matching o.emit_ignored
    wanted Untracked = refl

-- ---- what is met is the same

empty-met : (o : WalkOptions) (ev : PathEvidence) (d : List ℕ) (c : Class) → (walk_result_of_empty_directory o ev d c).met ≡ entry_of_empty_directory ev d c ∷ []
unfolding walk_result_of_empty_directory
empty-met o ev d c = (leaf-gives o (entry_of_empty_directory ev d c)).met

directory-met : (o : WalkOptions) (ev : PathEvidence) (d : List ℕ) (c : Class) (names : Names) (v w : WalkResult) → v.met ≡ w.met → (walk_result_of_directory_by_names (options_without_folding o) ev d c names v).met ≡ (walk_result_of_directory_by_names o ev d c names w).met
directory-met o ev d c none v w same = empty-met (options_without_folding o) ev d c ∙ sym (empty-met o ev d c)
directory-met o ev d c (named name node rest) v w same = closed-met (options_without_folding o) ev d c v ∙ same ∙ sym (closed-met o ev d c w)

either-met : (b : Bool) (v w x y : WalkResult) → v.met ≡ w.met → x.met ≡ y.met → (cond b v x).met ≡ (cond b w y).met
either-met true v w x y h k = h
either-met false v w x y h k = k

leaf_at-met : (o : WalkOptions) (ev : PathEvidence) (path : List ℕ) (c : Class) → (walk_result_of_unentered_path (options_without_folding o) ev path c).met ≡ (walk_result_of_unentered_path o ev path c).met
unfolding outcome_of_unentered_path
leaf_at-met o ev path c = (leaf-gives (options_without_folding o) (entry_with_outcome path (outcome_of_unentered_path o ev path c))).met ∙ sym (leaf-gives o (entry_with_outcome path (outcome_of_unentered_path o ev path c))).met

-- with one class for both
entering-met : (o : WalkOptions) (ev : PathEvidence) (path : List ℕ) (a b : Class) (into into' : Class → WalkResult) → a ≡ b → ((c : Class) → (into c).met ≡ (into' c).met)
    → (walk_result_if_entered_else_leaf (options_without_folding o) ev path a (into a)).met ≡ (walk_result_if_entered_else_leaf o ev path b (into' b)).met
entering-met o ev path a b into into' same each =
    subst (λ (c : Class). (walk_result_if_entered_else_leaf (options_without_folding o) ev path a (into a)).met ≡ (walk_result_if_entered_else_leaf o ev path c (into' c)).met) same
    (either-met (enters o a false) (into a) (into' a) (walk_result_of_unentered_path (options_without_folding o) ev path a) (walk_result_of_unentered_path o ev path a) (each a) (leaf_at-met o ev path a))

module _ (o : WalkOptions) (ev : PathEvidence) where
  child-same : (path : List ℕ) (at : LookupResult) → outcome_of_child (options_without_folding o) ev path at ≡ outcome_of_child o ev path at
  child-same path at = class-same o ev path None _

  other-met : (path : List ℕ) (at : LookupResult) → (walk_result_if_entered_else_leaf (options_without_folding o) ev path (outcome_of_child (options_without_folding o) ev path at) (walk_result_of_broken_path path)).met ≡ (walk_result_if_entered_else_leaf o ev path (outcome_of_child o ev path at) (walk_result_of_broken_path path)).met
  other-met path at = entering-met o ev path (outcome_of_child (options_without_folding o) ev path at) (outcome_of_child o ev path at) (λ c. walk_result_of_broken_path path) (λ c. walk_result_of_broken_path path) (child-same path at) (λ c. refl)

  mutual
    unfolding item

    pub item-met : (path : List ℕ) (node : Node) → (item (options_without_folding o) ev path node).met ≡ (item o ev path node).met
    item-met path (file bytes) = other-met path (found (file bytes))
    item-met path (link target) = other-met path (found (link target))
    item-met path other = other-met path (found other)
    item-met path (directory names) =
        entering-met o ev path (outcome_of_child (options_without_folding o) ev path (found (directory names))) (outcome_of_child o ev path (found (directory names)))
        (λ c. walk_result_of_directory_by_names (options_without_folding o) ev path c names (walk_result_of_all_children (options_without_folding o) ev path names)) (λ c. walk_result_of_directory_by_names o ev path c names (walk_result_of_all_children o ev path names))
        (child-same path (found (directory names))) (λ c. directory-met o ev path c names (walk_result_of_all_children (options_without_folding o) ev path names) (walk_result_of_all_children o ev path names) (items-met path names))

    pub items-met : (d : List ℕ) (names : Names) → (walk_result_of_all_children (options_without_folding o) ev d names).met ≡ (walk_result_of_all_children o ev d names).met
    items-met d none = refl
    items-met d (named name node rest) = cc (item-met (path_joined_with_slash d name) node, items-met d rest)

  pub report-met : (d : List ℕ) (c : Class) (names : Names) → (report_of (options_without_folding o) ev d c names).met ≡ (report_of o ev d c names).met
  report-met d c names = directory-met o ev d c names (walk_result_of_all_children (options_without_folding o) ev d names) (walk_result_of_all_children o ev d names) (items-met d names)

-- ---- without folding the leaves are put out

pub record PutsLeaves (lies : List ℕ → Bool) (w : WalkResult) : Type 0 where
  pub up : w.up ≡ []
  pub out : w.out ≡ map uncollapsed_emission w.met

module _ (o : WalkOptions) (ev : PathEvidence) (off : folds_untracked_or_ignored o ≡ false) where
  leaf-puts : (lies : List ℕ → Bool) (e : Entry) → PutsLeaves lies (walk_result_of_leaf_entry o e)
  unfolding walk_result_of_leaf_entry
  leaf-puts lies e = go (holds_status_for_folding o e.status) refl
    where
      never : (a b : Bool) → b ≡ false → (a && b) ≡ true → false ≡ true
      never true b e f = sym e ∙ f
      never false b e f = f

      go : (b : Bool) → holds_status_for_folding o e.status ≡ b → PutsLeaves lies (cond b (walk_result_handing_up_leaf e) (walk_result_emitting_leaf e))
      go true h = absurd (let no : false ≡ true = never _ (folds_untracked_or_ignored o) off h in cc no)
      go false h = record { up = refl; out = refl }

  empty-puts : (lies : List ℕ → Bool) (d : List ℕ) (c : Class) → PutsLeaves lies (walk_result_of_empty_directory o ev d c)
  unfolding walk_result_of_empty_directory
  empty-puts lies d c = let h : PutsLeaves lies (walk_result_of_leaf_entry o (entry_of_empty_directory ev d c)) = leaf-puts lies (entry_of_empty_directory ev d c) in record { up = h.up; out = h.out }

  closed-puts : (below : List ℕ → Bool) (d : List ℕ) (c : Class) (w : WalkResult) → PutsLeaves below w → PutsLeaves (at_or_beneath d) (walk_result_of_closed_directory o ev d c w)
  unfolding walk_result_of_closed_directory
  closed-puts below d c w h = go w.blocks (fold o ev d c (tally_held_entries w.up)) refl
    where
      plainly : PutsLeaves (at_or_beneath d) (walk_result_of_unfolded_directory d w)
      plainly = record { up = refl; out = ap (λ (es : List Entry). w.out ++ map uncollapsed_emission es) h.up ∙ append-nil w.out ∙ h.out }

      go : (b : Bool) (f : Option Entry) → fold o ev d c (tally_held_entries w.up) ≡ f → PutsLeaves (at_or_beneath d) (cond b (walk_result_of_unfolded_directory d w) (walk_result_folded_if_some o d w f))
      go true f q = plainly
      go false None q = plainly
      go false (Some f) q =
          absurd (let no : false ≡ true = sym off ∙ (status-loose o (tally_held_entries w.up) f.status (fold-is o ev d c (tally_held_entries w.up) f q).status_is).folding in cc no)

  puts : Cases o ev PutsLeaves
  puts =
      record {
        at_nothing = λ lies. record { up = refl; out = refl };
        at_broken = λ lies path is. record { up = refl; out = refl };
        at_asking = λ lies b path w is h. record { up = h.up; out = h.out };
        at_leaf = λ lies e is. leaf-puts lies e;
        at_empty = λ lies d c is. empty-puts lies d c;
        at_both = λ here there lies a b apart at bt left right. record {
          up = cc (left.up, right.up);
          out = ap (λ (out : List Emission). out ++ b.out) left.out ∙ ap (λ (out : List Emission). map uncollapsed_emission a.met ++ out) right.out ∙ sym (map-append uncollapsed_emission a.met b.met);
        };
        at_closed = λ below d c w inside own at h. closed-puts below d c w h;
      }

  pub report-puts : (d : List ℕ) (c : Class) (names : Names) → NoneEmpty ev → ends_in_slash d ≡ false → is_empty_directory_property c.property ≡ false → IsValidTree (directory names)
      → PutsLeaves (at_or_beneath d) (report_of o ev d c names)
  report-puts d c names clear plain own tree = (at_report o ev PutsLeaves puts clear d c names plain own tree).1
