-- From what a path gives that was walked to what its name gives in the directory.
use Rattle.std.proofs.Common.{◌≡◌, ℕ, List, [], ◌∷◌, Bool, true, false, ◌&&◌, ◌||◌, Option, None, refl, sym, ap, subst, ◌∙◌}
use Rattle.std.specs.Prelude.{is_some, nat_lt}
use Rattle.std.specs.List.{list_any}
use Rattle.std.proofs.lemmas.Cmp.{nat_list_eq_equiv}
use Rattle.gitbase_core.specs.Objects.{ObjectsById}
use Rattle.gitbase_core.specs.Path.{is_empty}
use Rattle.worktree_fs.specs.Paths.{root_joined_with_relative}
use Rattle.worktree_fs.specs.Tree.{Names, none, named, LookupResult, look, found, absent, too_many_links, file, link, directory, other}
use Rattle.worktree_stack.specs.Reading.{TreeAndObjects}
use Rattle.worktree_stack.specs.Setup.{StackSetup}
use Rattle.worktree_stack.specs.Stacked.{StackModel}
use Rattle.dir_classify.specs.declared.classify.Outcome.{Outcome as Class}
use Rattle.dir_classify.specs.Chosen.{WalkOptions}
use Rattle.dir_classify.specs.Class.{class, asks_ignore_rules, enters, outcome_of_unentered_path}
use Rattle.dir_classify.specs.Entries.{entry_with_outcome}
use Rattle.dir_classify.specs.Evidence.{PathEvidence}
use Rattle.dir_classify.specs.Excludes.{setup_of_optional_stack, TellsTreeAndObjects, IsStackInStepIfGiven}
use Rattle.dir_classify.specs.Layers.{WalkSetting, evidence_from_setting_and_sources, kind_on_disk_if_asked}
use Rattle.dir_walk.specs.declared.handed.Handed.{Handed}
use Rattle.dir_walk.specs.declared.outcome.Outcome.{Outcome}
use Rattle.dir_walk.specs.Emissions.{Emission}
use Rattle.dir_walk.specs.Emits.{AddsPartOfWalkResult, GivesAllWalkedUnrefused, ClosesWithAllWalked, count_shown_passing, count_elements, count_seen_entries}
use Rattle.dir_walk.specs.Opens.{count_paths_within_depth}
use Rattle.dir_walk.specs.Refused.{is_text_in_list, is_entered_or_broken}
use Rattle.dir_walk.specs.Report.{count_components, is_walk_result_refused}
use Rattle.dir_walk.specs.Told.{IsWalkOverSources, IsEvidenceForClosing, walk_result_of_name_over_sources, walk_result_of_directory_over_sources, look_at_name, look_at_entered_directory}
use Rattle.dir_walk.specs.Walked.{WalkResult, add_asked_path_if, outcome_of_child, child_asks_ignore_rules, walk_result_of_entered_path, walk_result_of_broken_path, walk_result_of_closed_directory, walk_result_of_empty_directory, item, walk_result_of_all_children, walk_result_of_child_by_look, walk_result_of_unentered_path, walk_result_of_leaf_entry}
use Rattle.dir_walk.proofs.Gives.Emitting.{Emits-as}
use Rattle.dir_walk.proofs.Folding.Closes.{closed-adds}
use Rattle.dir_walk.proofs.Refused.Refusals.{HasPaths, HasPaths-asking}
use Rattle.dir_walk.proofs.Folding.Listed.{leaf-entered, leaf-whole}

-- ---- where a walk stands

-- all that closing a directory asks of evidence is what was given to the walk
pub IsEvidence-told : (given : WalkSetting) (made : Option StackSetup) (s : TreeAndObjects) (blocked : Option (List ℕ)) → (evidence_from_setting_and_sources given made s).blocked ≡ blocked → IsEvidenceForClosing given blocked (evidence_from_setting_and_sources given made s)
unfolding evidence_from_setting_and_sources
IsEvidence-told given made s blocked is = record { matched = refl; covers = refl; blocked_is = is }

pub telling : {given : WalkSetting} {told : Option Names} {holds : Option ObjectsById} {excludes : Option StackModel} {blocked : Option (List ℕ)} {made : Option StackSetup} {s : TreeAndObjects} → IsWalkOverSources given told holds excludes blocked made s → TellsTreeAndObjects told holds (setup_of_optional_stack excludes) s
telling stands = record { tree_is = stands.tree; objects_are = λ some. stands.objects (ap is_some (sym stands.made_is) ∙ some) }

pub Stands-later : (given : WalkSetting) {told0 told1 : Option Names} {holds0 holds1 : Option ObjectsById} {old : Option StackModel} (new : Option StackModel) {blocked : Option (List ℕ)} {made : Option StackSetup} {s : TreeAndObjects} → told1 ≡ told0 → holds1 ≡ holds0 → setup_of_optional_stack new ≡ setup_of_optional_stack old
    → ((u : TreeAndObjects) → TellsTreeAndObjects told0 holds0 (setup_of_optional_stack old) u → IsStackInStepIfGiven u old → IsStackInStepIfGiven u new) → IsWalkOverSources given told0 holds0 old blocked made s → IsWalkOverSources given told1 holds1 new blocked made s
Stands-later given new {s = s} tree holds same in_step stands =
    record {
      tree = tree ∙ stands.tree;
      objects = λ some. holds ∙ stands.objects some;
      made_is = same ∙ stands.made_is;
      in_step = in_step s (telling stands) stands.in_step;
      blocked_is = stands.blocked_is;
    }

-- ---- what a name gives

item_at-entered : (o : WalkOptions) (ev : PathEvidence) (p : List ℕ) (at : LookupResult) → enters o (outcome_of_child o ev p at) false ≡ true → walk_result_of_child_by_look o ev p at ≡ add_asked_path_if (child_asks_ignore_rules o ev p at) p (walk_result_of_entered_path o ev p (outcome_of_child o ev p at) at)
unfolding item
item_at-entered o ev p absent e = rw e refl
item_at-entered o ev p too_many_links e = rw e refl
item_at-entered o ev p (found (file bytes)) e = rw e refl
item_at-entered o ev p (found (link target)) e = rw e refl
item_at-entered o ev p (found other) e = rw e refl
item_at-entered o ev p (found (directory names)) e = rw e refl

item_at-leaf : (o : WalkOptions) (ev : PathEvidence) (p : List ℕ) (at : LookupResult) → enters o (outcome_of_child o ev p at) false ≡ false → walk_result_of_child_by_look o ev p at ≡ add_asked_path_if (child_asks_ignore_rules o ev p at) p (walk_result_of_unentered_path o ev p (outcome_of_child o ev p at))
unfolding item
item_at-leaf o ev p absent e = rw e refl
item_at-leaf o ev p too_many_links e = rw e refl
item_at-leaf o ev p (found (file bytes)) e = rw e refl
item_at-leaf o ev p (found (link target)) e = rw e refl
item_at-leaf o ev p (found other) e = rw e refl
item_at-leaf o ev p (found (directory names)) e = rw e refl

asking-whole : (limit : ℕ) (ev : PathEvidence) (b : Bool) (p : List ℕ) (w : WalkResult) → (b && ev.is_unread p) ≡ false → is_walk_result_refused limit ev w ≡ false → is_walk_result_refused limit ev (add_asked_path_if b p w) ≡ false
asking-whole limit ev false p w read whole = whole
asking-whole limit ev true p w read whole =
    let front : Bool = list_any (λ path. nat_lt limit (count_components path)) w.entered || list_any (λ path. true) w.broken in
    ap (λ b. front || (b || list_any ev.is_unread w.asked)) read ∙ whole

module _ (given : WalkSetting) (made : Option StackSetup) (s : TreeAndObjects) (p : List ℕ) (c : Class) (is : c ≡ class given.options (evidence_from_setting_and_sources given made s) p None (kind_on_disk_if_asked given s.tree p true)) where
  abbrev asked : Bool
  asked = child_asks_ignore_rules given.options (evidence_from_setting_and_sources given made s) p (look_at_name given s.tree p)

  told-leaf : enters given.options c false ≡ false → walk_result_of_name_over_sources given made s p ≡ add_asked_path_if asked p (walk_result_of_unentered_path given.options (evidence_from_setting_and_sources given made s) p c)
  told-leaf out =
      let ev : PathEvidence = evidence_from_setting_and_sources given made s in
      let at : LookupResult = look_at_name given s.tree p in
      item_at-leaf given.options ev p at (ap (λ (k : Class). enters given.options k false) (sym is) ∙ out)
      ∙ ap (λ (k : Class). add_asked_path_if (child_asks_ignore_rules given.options ev p at) p (walk_result_of_unentered_path given.options ev p k)) (sym is)

  told-entered : is_empty p ≡ false → enters given.options c false ≡ true → walk_result_of_name_over_sources given made s p ≡ add_asked_path_if asked p (walk_result_of_directory_over_sources given made s p c)
  told-entered some into =
      let ev : PathEvidence = evidence_from_setting_and_sources given made s in
      let at : LookupResult = look_at_name given s.tree p in
      item_at-entered given.options ev p at (ap (λ (k : Class). enters given.options k false) (sym is) ∙ into)
      ∙ ap (λ (k : Class). add_asked_path_if (child_asks_ignore_rules given.options ev p at) p (walk_result_of_entered_path given.options ev p k at)) (sym is)
      ∙ ap (λ (b : Bool). add_asked_path_if (child_asks_ignore_rules given.options ev p at) p (walk_result_of_entered_path given.options ev p c (look s.tree (root_joined_with_relative given.root p) b))) (sym some)

  -- the directories that it enters are entered under its name
  pub entered-directory : (limit : ℕ) (q : List ℕ) → p ≡ q → is_empty p ≡ false → enters given.options c false ≡ true → count_paths_within_depth limit (walk_result_of_directory_over_sources given made s p c).entered ≡ count_paths_within_depth limit (walk_result_of_name_over_sources given made s q).entered
  entered-directory limit q at some into =
      let P : List ℕ → Type 0 = λ r. count_paths_within_depth limit (walk_result_of_directory_over_sources given made s p c).entered ≡ count_paths_within_depth limit (walk_result_of_name_over_sources given made s r).entered in subst P at (ap {B = ℕ} (λ (w : WalkResult). count_paths_within_depth limit w.entered) (sym (told-entered some into)))

  module _ (q : List ℕ) (at : p ≡ q) (before after : Option (List Emission)) where
    pub part-leaf : (start stop : Outcome) → enters given.options c false ≡ false → AddsPartOfWalkResult given.options (walk_result_of_unentered_path given.options (evidence_from_setting_and_sources given made s) p c) before after start stop → AddsPartOfWalkResult given.options (walk_result_of_name_over_sources given made s q) before after start stop
    part-leaf start stop out part =
        let R : WalkResult → Type 0 = λ w. AddsPartOfWalkResult given.options w before after start stop in
        let P : List ℕ → Type 0 = λ r. AddsPartOfWalkResult given.options (walk_result_of_name_over_sources given made s r) before after start stop in
        subst P at (subst R (sym (told-leaf out)) part)

    pub part-directory : (start stop : Outcome) → is_empty p ≡ false → enters given.options c false ≡ true → AddsPartOfWalkResult given.options (walk_result_of_directory_over_sources given made s p c) before after start stop → AddsPartOfWalkResult given.options (walk_result_of_name_over_sources given made s q) before after start stop
    part-directory start stop some into part =
        let R : WalkResult → Type 0 = λ w. AddsPartOfWalkResult given.options w before after start stop in
        let P : List ℕ → Type 0 = λ r. AddsPartOfWalkResult given.options (walk_result_of_name_over_sources given made s r) before after start stop in
        subst P at (subst R (sym (told-entered some into)) part)

    module _ (limit : ℕ) (start stop : Outcome) (handed : Handed) (read : (asks_ignore_rules given.options (evidence_from_setting_and_sources given made s) p None (kind_on_disk_if_asked given s.tree p true) && (evidence_from_setting_and_sources given made s).is_unread p) ≡ false) where
      gives-asking : (w : WalkResult) → GivesAllWalkedUnrefused given.options limit (evidence_from_setting_and_sources given made s) w before after start stop handed → GivesAllWalkedUnrefused given.options limit (evidence_from_setting_and_sources given made s) (add_asked_path_if asked p w) before after start stop handed
      gives-asking w gives =
          record {
            emits = gives.emits;
            up = gives.up;
            blocks = gives.blocks;
            whole = asking-whole limit (evidence_from_setting_and_sources given made s) (child_asks_ignore_rules given.options (evidence_from_setting_and_sources given made s) p (look_at_name given s.tree p)) p w read gives.whole;
          }

      pub Gives-leaf : enters given.options c false ≡ false → GivesAllWalkedUnrefused given.options limit (evidence_from_setting_and_sources given made s) (walk_result_of_unentered_path given.options (evidence_from_setting_and_sources given made s) p c) before after start stop handed
          → GivesAllWalkedUnrefused given.options limit (evidence_from_setting_and_sources given made s) (walk_result_of_name_over_sources given made s q) before after start stop handed
      Gives-leaf out gives =
          let R : WalkResult → Type 0 = λ w. GivesAllWalkedUnrefused given.options limit (evidence_from_setting_and_sources given made s) w before after start stop handed in
          let P : List ℕ → Type 0 = λ r. GivesAllWalkedUnrefused given.options limit (evidence_from_setting_and_sources given made s) (walk_result_of_name_over_sources given made s r) before after start stop handed in
          subst P at (subst R (sym (told-leaf out)) (gives-asking (walk_result_of_unentered_path given.options (evidence_from_setting_and_sources given made s) p c) gives))

      pub Gives-directory : is_empty p ≡ false → enters given.options c false ≡ true → GivesAllWalkedUnrefused given.options limit (evidence_from_setting_and_sources given made s) (walk_result_of_directory_over_sources given made s p c) before after start stop handed
          → GivesAllWalkedUnrefused given.options limit (evidence_from_setting_and_sources given made s) (walk_result_of_name_over_sources given made s q) before after start stop handed
      Gives-directory some into gives =
          let R : WalkResult → Type 0 = λ w. GivesAllWalkedUnrefused given.options limit (evidence_from_setting_and_sources given made s) w before after start stop handed in
          let P : List ℕ → Type 0 = λ r. GivesAllWalkedUnrefused given.options limit (evidence_from_setting_and_sources given made s) (walk_result_of_name_over_sources given made s r) before after start stop handed in
          subst P at (subst R (sym (told-entered some into)) (gives-asking (walk_result_of_directory_over_sources given made s p c) gives))

-- a leaf that was handed up or put out
pub Gives-put : (o : WalkOptions) (limit : ℕ) (ev : PathEvidence) (p : List ℕ) (c k : Class) (before after : Option (List Emission)) (start stop : Outcome) (handed : Handed) → k ≡ outcome_of_unentered_path o ev p c → ClosesWithAllWalked o (walk_result_of_leaf_entry o (entry_with_outcome p k)) before after start stop handed
    → GivesAllWalkedUnrefused o limit ev (walk_result_of_unentered_path o ev p c) before after start stop handed
Gives-put o limit ev p c k before after start stop handed is closes =
    let w : WalkResult = walk_result_of_leaf_entry o (entry_with_outcome p k) in
    let R : Class → Type 0 = λ x. GivesAllWalkedUnrefused o limit ev (walk_result_of_leaf_entry o (entry_with_outcome p x)) before after start stop handed in
    subst R is (record {
      emits = Emits-as before after start stop (λ q. count_shown_passing o q w.out) (λ q. count_shown_passing o q w.out) (count_seen_entries w) (count_seen_entries w) 0 (count_elements w.entered) closes.emits (λ q. refl) refl (ap {B = ℕ} (λ (xs : List (List ℕ)). count_elements xs) (sym (leaf-entered o (entry_with_outcome p k))));
      up = closes.up;
      blocks = closes.blocks;
      whole = leaf-whole o (entry_with_outcome p k) limit ev;
    })

pub part-put : (o : WalkOptions) (ev : PathEvidence) (p : List ℕ) (c k : Class) (before after : Option (List Emission)) (start stop : Outcome) → k ≡ outcome_of_unentered_path o ev p c → AddsPartOfWalkResult o (walk_result_of_leaf_entry o (entry_with_outcome p k)) before after start stop → AddsPartOfWalkResult o (walk_result_of_unentered_path o ev p c) before after start stop
part-put o ev p c k before after start stop is part = let R : Class → Type 0 = λ x. AddsPartOfWalkResult o (walk_result_of_leaf_entry o (entry_with_outcome p x)) before after start stop in subst R is part

-- ---- the paths of a name

self : (p : List ℕ) → is_entered_or_broken p (walk_result_of_broken_path p) ≡ true
self p = ap (λ b. b || false) (nat_list_eq_equiv.refl p)

empty-entered : (o : WalkOptions) (ev : PathEvidence) (p : List ℕ) (c : Class) → (walk_result_of_empty_directory o ev p c).entered ≡ p ∷ []
unfolding walk_result_of_empty_directory
empty-entered o ev p c = refl

pub entered-among : (o : WalkOptions) (ev : PathEvidence) (p : List ℕ) (c : Class) (at : LookupResult) → is_entered_or_broken p (walk_result_of_entered_path o ev p c at) ≡ true
entered-among o ev p c absent = self p
entered-among o ev p c too_many_links = self p
entered-among o ev p c (found (file bytes)) = self p
entered-among o ev p c (found (link target)) = self p
entered-among o ev p c (found other) = self p
entered-among o ev p c (found (directory none)) = ap (λ (xs : List (List ℕ)). is_text_in_list p xs || is_text_in_list p (walk_result_of_empty_directory o ev p c).broken) (empty-entered o ev p c) ∙ ap (λ (b : Bool). (b || false) || is_text_in_list p (walk_result_of_empty_directory o ev p c).broken) (nat_list_eq_equiv.refl p)
entered-among o ev p c (found (directory (named name node rest))) =
    let w : WalkResult = walk_result_of_all_children o ev p (named name node rest) in
    let x : WalkResult = walk_result_of_closed_directory o ev p c w in
    ap (λ (xs : List (List ℕ)). is_text_in_list p xs || is_text_in_list p x.broken) (closed-adds o ev p c w).entered ∙ ap (λ (b : Bool). (b || is_text_in_list p w.entered) || is_text_in_list p x.broken) (nat_list_eq_equiv.refl p)

module _ (given : WalkSetting) (made : Option StackSetup) (s : TreeAndObjects) (p : List ℕ) (c : Class) (is : c ≡ class given.options (evidence_from_setting_and_sources given made s) p None (kind_on_disk_if_asked given s.tree p true)) (some : is_empty p ≡ false) (into : enters given.options c false ≡ true) where
  pub HasPaths-told : HasPaths (walk_result_of_directory_over_sources given made s p c) (walk_result_of_name_over_sources given made s p)
  HasPaths-told =
      let R : WalkResult → Type 0 = λ w. HasPaths (walk_result_of_directory_over_sources given made s p c) w in
      subst R (sym (told-entered given made s p c is some into)) (HasPaths-asking (asked given made s p c is) p (walk_result_of_directory_over_sources given made s p c))

  pub enter-told : is_entered_or_broken p (walk_result_of_name_over_sources given made s p) ≡ true
  enter-told = ap (is_entered_or_broken p) (told-entered given made s p c is some into) ∙ entered-among given.options (evidence_from_setting_and_sources given made s) p c (look_at_entered_directory given s.tree p)

-- the path of a name whose class asks the rules
pub among-asked : (given : WalkSetting) (made : Option StackSetup) (s : TreeAndObjects) (p : List ℕ) → is_empty p ≡ false → asks_ignore_rules given.options (evidence_from_setting_and_sources given made s) p None (kind_on_disk_if_asked given s.tree p true) ≡ true → is_text_in_list p (walk_result_of_name_over_sources given made s p).asked ≡ true
among-asked given made s p some e = go (enters given.options (class given.options (evidence_from_setting_and_sources given made s) p None (kind_on_disk_if_asked given s.tree p true)) false) refl
  where
    among : (b : Bool) (w : WalkResult) → b ≡ true → is_text_in_list p (add_asked_path_if b p w).asked ≡ true
    among true w f = ap (λ b. b || is_text_in_list p w.asked) (nat_list_eq_equiv.refl p)
    among false w f = absurd (cc f)

    go : (b : Bool) → enters given.options (class given.options (evidence_from_setting_and_sources given made s) p None (kind_on_disk_if_asked given s.tree p true)) false ≡ b → is_text_in_list p (walk_result_of_name_over_sources given made s p).asked ≡ true
    go true into =
        let k : Class = class given.options (evidence_from_setting_and_sources given made s) p None (kind_on_disk_if_asked given s.tree p true) in
        ap (λ (w : WalkResult). is_text_in_list p w.asked) (told-entered given made s p k refl some into) ∙ among (asked given made s p k refl) (walk_result_of_directory_over_sources given made s p k) e
    go false out =
        let k : Class = class given.options (evidence_from_setting_and_sources given made s) p None (kind_on_disk_if_asked given s.tree p true) in
        ap (λ (w : WalkResult). is_text_in_list p w.asked) (told-leaf given made s p k refl out) ∙ among (asked given made s p k refl) (walk_result_of_unentered_path given.options (evidence_from_setting_and_sources given made s) p k) e
