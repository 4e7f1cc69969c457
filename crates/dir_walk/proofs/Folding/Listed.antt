-- The names of a directory, in whatever order they were walked, lead to what the directory gives.
use Rattle.std.proofs.Common.{◌≡◌, ℕ, zero, suc, ◌+◌, ◌<◌, ◌≤◌, List, [], ◌∷◌, ◌++◌, Bool, true, false, cond, ◌&&◌, ◌||◌, Option, Some, None, sum_by, count_by, take, take_all, get_or, length, refl, sym, ap, subst, ◌∙◌, arith}
use borrow.Author.Tests.{ltb-true}
use Rattle.std.specs.Prelude.{◌==◌, not, option_to_list, nat_lt}
use Rattle.std.specs.Str.{bytes_eq}
use Rattle.std.specs.List.{IsDistinct, AllByRecursion, list_any}
use Rattle.std.proofs.lemmas.Bool.{eqb-false}
use Rattle.std.proofs.lemmas.Cmp.{nat_list_eq_equiv}
use Rattle.std.proofs.lemmas.List.Sorted.{sum_by-IsPermutation, list_any-IsPermutation, length_permutation}
use Rattle.std.proofs.lemmas.Map.Keys.{IsDistinct-IsPermutation}
use Rattle.gitbase_core.specs.Path.{path_joined_with_slash, ends_in_slash}
use Rattle.worktree_fs.specs.Answers.{ListsDirectoryNamesInAnyOrder}
use Rattle.worktree_fs.specs.Naming.{IsValidEntryName, AreDistinctValidEntryNames}
use Rattle.worktree_fs.specs.Paths.{root_joined_with_relative}
use Rattle.worktree_fs.specs.Tree.{Names, none, named, entry_names_in_order, look}
use Rattle.worktree_stack.specs.Reading.{TreeAndObjects}
use Rattle.worktree_stack.specs.Setup.{StackSetup}
use Rattle.dir_classify.specs.declared.classify.Outcome.{Outcome as Class}
use Rattle.dir_classify.specs.declared.entry.Entry.{Entry}
use Rattle.dir_classify.specs.Chosen.{WalkOptions}
use Rattle.dir_classify.specs.Evidence.{PathEvidence}
use Rattle.dir_classify.specs.Layers.{WalkSetting, evidence_from_setting_and_sources}
use Rattle.dir_walk.specs.declared.handed.Handed.{Handed}
use Rattle.dir_walk.specs.declared.outcome.Outcome.{Outcome}
use Rattle.dir_walk.specs.declared.tally.Tally.{Tally}
use Rattle.dir_walk.specs.Emissions.{Emission, is_entry_shown_by_options}
use Rattle.dir_walk.specs.Emits.{AddsEmissionsAndCounts, AddsPartOfWalkResult, ClosesWithAllWalked, GivesAllWalkedUnrefused, folded_entry_unless_blocked, count_shown_passing, count_elements, count_seen_entries}
use Rattle.dir_walk.specs.Fold.{fold, tally_held_entries}
use Rattle.dir_walk.specs.Refused.{is_text_in_list}
use Rattle.dir_walk.specs.Opens.{count_paths_within_depth}
use Rattle.dir_walk.specs.Report.{count_components, is_walk_result_refused}
use Rattle.dir_walk.specs.Told.{walk_result_of_name_over_sources, walk_result_of_directory_over_sources, look_at_entered_directory}
use Rattle.dir_walk.specs.Walked.{WalkResult, merge_walk_results, walk_result_of_all_children, walk_result_of_child_by_look, report_of, walk_result_of_entered_path, walk_result_of_closed_directory, walk_result_holding_entries, walk_result_of_empty_directory, entry_of_empty_directory, walk_result_folded_if_some, holds_status_for_folding, walk_result_handing_up_leaf, walk_result_emitting_leaf, walk_result_of_leaf_entry}
use Rattle.dir_walk.proofs.Folding.Closes.{Adds, closed-adds, closed-is}
use Rattle.dir_walk.proofs.Order.Counts.{SameCounts, count_by-append, count_by-cons, count_by-yes, list_any-append, or-right}
use Rattle.dir_walk.proofs.Gives.Emitting.{Emits-then, Within-then, front-sum}
use Rattle.dir_walk.proofs.Folding.Folds.{Alike, closed_alike, tally_same}
use Rattle.dir_walk.proofs.Order.Lists.{all_weaker}
use Rattle.dir_walk.proofs.Folding.Named.{SoFar, entered_by}
use Rattle.dir_walk.proofs.Order.Once.{item_named, IsSum, IsOr, sum_by-agree, any-agree, sum_once, any_once}
use Rattle.dir_walk.proofs.Refused.Refusals.{HasPaths}
use Rattle.dir_walk.proofs.Places.Placed.{full_path-child, look-joined, look-directory}

-- ---- sums over what paths give

shown-sum : (o : WalkOptions) (p : Emission → Bool) → IsSum (λ w. count_shown_passing o p w.out)
shown-sum o p = record { zero = refl; adds = λ a b. count_by-append (λ x. is_entry_shown_by_options o x.0 && p x) a.out b.out }

seen-sum : IsSum (λ w. count_seen_entries w)
seen-sum = record { zero = refl; adds = λ a b. omega (arith, count_by-append (λ _. true) a.out b.out) }

-- and so are those of them within a limit
within-sum : (limit : ℕ) → IsSum (λ w. count_paths_within_depth limit w.entered)
within-sum limit = record { zero = refl; adds = λ a b. count_by-append (λ path. not (nat_lt limit (count_components path))) a.entered b.entered }

entered-sum : IsSum (λ w. count_elements w.entered)
entered-sum = record { zero = refl; adds = λ a b. count_by-append (λ _. true) a.entered b.entered }

up-sum : (p : Entry → Bool) → IsSum (λ w. count_by p w.up)
up-sum p = record { zero = refl; adds = λ a b. count_by-append p a.up b.up }

blocks-or : IsOr (λ w. w.blocks)
blocks-or = record { zero = refl; adds = λ a b. refl }

or-swap : (a b c d : Bool) → ((a || b) || (c || d)) ≡ ((a || c) || (b || d))
or-swap true b c d = refl
or-swap false true true d = refl
or-swap false true false d = refl
or-swap false false c d = refl

abbrev is_deep : ℕ → List ℕ → Bool
is_deep limit path = nat_lt limit (count_components path)

deep_or_broken : ℕ → WalkResult → Bool
deep_or_broken limit w = list_any (is_deep limit) w.entered || list_any (λ path. true) w.broken

deep_or_broken-both : (limit : ℕ) (a b : WalkResult) → deep_or_broken limit (merge_walk_results a b) ≡ (deep_or_broken limit a || deep_or_broken limit b)
unfolding deep_or_broken
deep_or_broken-both limit a b =
    ap (λ c. c || list_any (λ path. true) (a.broken ++ b.broken)) (list_any-append (is_deep limit) a.entered b.entered)
    ∙ ap (λ c. (list_any (is_deep limit) a.entered || list_any (is_deep limit) b.entered) || c) (list_any-append (λ path. true) a.broken b.broken)
    ∙ or-swap (list_any (is_deep limit) a.entered) (list_any (is_deep limit) b.entered) (list_any (λ path. true) a.broken) (list_any (λ path. true) b.broken)

refused-or : (limit : ℕ) (ev : PathEvidence) → IsOr (is_walk_result_refused limit ev)
unfolding deep_or_broken
refused-or limit ev =
    record {
      zero = refl;
      adds = λ a b.
          ap (λ c. c || list_any ev.is_unread (a.asked ++ b.asked)) (deep_or_broken-both limit a b)
          ∙ ap (λ c. (deep_or_broken limit a || deep_or_broken limit b) || c) (list_any-append ev.is_unread a.asked b.asked)
          ∙ or-swap (deep_or_broken limit a) (deep_or_broken limit b) (list_any ev.is_unread a.asked) (list_any ev.is_unread b.asked);
    }

-- ---- a directory within the limit

within_limit : (limit : ℕ) (d : List ℕ) → count_components d ≤ limit → is_deep limit d ≡ false
within_limit limit d low = go (is_deep limit d) refl
  where
    go : (b : Bool) → is_deep limit d ≡ b → b ≡ false
    go false e = refl
    go true e = absurd (let high : limit < count_components d = ltb-true limit (count_components d) e in omega arith)

-- and counts as one
count-low : (limit : ℕ) (d : List ℕ) (rest : List (List ℕ)) → count_components d ≤ limit → count_paths_within_depth limit (d ∷ rest) ≡ 1 + count_paths_within_depth limit rest
count-low limit d rest low = count_by-yes (λ path. not (nat_lt limit (count_components path))) d rest (ap not (within_limit limit d low))

-- is refused where what it holds is
refused-entered : (limit : ℕ) (ev : PathEvidence) (d : List ℕ) (w c : WalkResult) → count_components d ≤ limit → c.entered ≡ d ∷ w.entered → c.broken ≡ w.broken → c.asked ≡ w.asked → is_walk_result_refused limit ev w ≡ false → is_walk_result_refused limit ev c ≡ false
refused-entered limit ev d w c low entered broken asked whole =
    ap (λ (xs : List (List ℕ)). (list_any (is_deep limit) xs || list_any (λ path. true) c.broken) || list_any ev.is_unread c.asked) entered
    ∙ ap (λ (b : Bool). ((b || list_any (is_deep limit) w.entered) || list_any (λ path. true) c.broken) || list_any ev.is_unread c.asked) (within_limit limit d low)
    ∙ ap (λ (xs : List (List ℕ)). (list_any (is_deep limit) w.entered || list_any (λ path. true) xs) || list_any ev.is_unread c.asked) broken
    ∙ ap (λ (xs : List (List ℕ)). (list_any (is_deep limit) w.entered || list_any (λ path. true) w.broken) || list_any ev.is_unread xs) asked
    ∙ whole

pub leaf-whole : (o : WalkOptions) (e : Entry) (limit : ℕ) (ev : PathEvidence) → is_walk_result_refused limit ev (walk_result_of_leaf_entry o e) ≡ false
unfolding walk_result_of_leaf_entry
leaf-whole o e limit ev = go (holds_status_for_folding o e.status)
  where
    go : (b : Bool) → is_walk_result_refused limit ev (cond b (walk_result_handing_up_leaf e) (walk_result_emitting_leaf e)) ≡ false
    go true = refl
    go false = refl

leaf-broken : (o : WalkOptions) (e : Entry) → (walk_result_of_leaf_entry o e).broken ≡ []
unfolding walk_result_of_leaf_entry
leaf-broken o e = go (holds_status_for_folding o e.status)
  where
    go : (b : Bool) → (cond b (walk_result_handing_up_leaf e) (walk_result_emitting_leaf e)).broken ≡ []
    go true = refl
    go false = refl

leaf-asked : (o : WalkOptions) (e : Entry) → (walk_result_of_leaf_entry o e).asked ≡ []
unfolding walk_result_of_leaf_entry
leaf-asked o e = go (holds_status_for_folding o e.status)
  where
    go : (b : Bool) → (cond b (walk_result_handing_up_leaf e) (walk_result_emitting_leaf e)).asked ≡ []
    go true = refl
    go false = refl

pub leaf-entered : (o : WalkOptions) (e : Entry) → (walk_result_of_leaf_entry o e).entered ≡ []
unfolding walk_result_of_leaf_entry
leaf-entered o e = go (holds_status_for_folding o e.status)
  where
    go : (b : Bool) → (cond b (walk_result_handing_up_leaf e) (walk_result_emitting_leaf e)).entered ≡ []
    go true = refl
    go false = refl

empty-whole : (o : WalkOptions) (ev : PathEvidence) (d : List ℕ) (c : Class) (limit : ℕ) → count_components d ≤ limit → is_walk_result_refused limit ev (walk_result_of_empty_directory o ev d c) ≡ false
unfolding walk_result_of_empty_directory
empty-whole o ev d c limit low =
    let w : WalkResult = walk_result_of_leaf_entry o (entry_of_empty_directory ev d c) in
    refused-entered limit ev d (record w { entered = [] }) (walk_result_of_empty_directory o ev d c) low refl refl refl
    (ap (λ (xs : List (List ℕ)). (false || list_any (λ path. true) xs) || list_any ev.is_unread w.asked) (leaf-broken o (entry_of_empty_directory ev d c)) ∙ ap (λ (xs : List (List ℕ)). list_any ev.is_unread xs) (leaf-asked o (entry_of_empty_directory ev d c)))

-- ---- whatever the order of what is held, the same is handed up

up-is : (o : WalkOptions) (ev : PathEvidence) (d : List ℕ) (c : Class) (w : WalkResult) → (walk_result_of_closed_directory o ev d c w).up ≡ option_to_list (folded_entry_unless_blocked o ev d c w)
up-is o ev d c w = ap (λ (v : WalkResult). v.up) (closed-is o ev d c w) ∙ go (folded_entry_unless_blocked o ev d c w)
  where
    go : (f : Option Entry) → (walk_result_folded_if_some o d w f).up ≡ option_to_list f
    go None = refl
    go (Some f) = refl

closed-up : (o : WalkOptions) (ev : PathEvidence) (d : List ℕ) (c : Class) (w v : WalkResult) → SameCounts w.up v.up → w.blocks ≡ v.blocks → (walk_result_of_closed_directory o ev d c w).up ≡ (walk_result_of_closed_directory o ev d c v).up
closed-up o ev d c w v up blocks =
    up-is o ev d c w
    ∙ ap (λ (b : Bool). option_to_list (cond b None (fold o ev d c (tally_held_entries w.up)))) blocks
    ∙ ap (λ (n : Tally). option_to_list (cond v.blocks None (fold o ev d c n))) (tally_same w.up v.up up)
    ∙ sym (up-is o ev d c v)

-- ---- a directory without names, and one with names

report_of-listed : (o : WalkOptions) (ev : PathEvidence) (d : List ℕ) (c : Class) (names : Names) → 0 < length (entry_names_in_order names) → report_of o ev d c names ≡ walk_result_of_closed_directory o ev d c (walk_result_of_all_children o ev d names)
report_of-listed o ev d c none h = absurd (omega arith)
report_of-listed o ev d c (named name node rest) h = refl

report_of-empty : (o : WalkOptions) (ev : PathEvidence) (d : List ℕ) (c : Class) (names : Names) → length (entry_names_in_order names) ≡ 0 → report_of o ev d c names ≡ walk_result_of_empty_directory o ev d c
report_of-empty o ev d c none h = refl
report_of-empty o ev d c (named name node rest) h = absurd (omega arith)

module _ (given : WalkSetting) (made : Option StackSetup) (s : TreeAndObjects) (d : List ℕ) (c : Class) (listed : List (List ℕ)) (lists : ListsDirectoryNamesInAnyOrder (look_at_entered_directory given s.tree d) listed) where
  module _ (bare : length listed ≡ 0) where
    told-empty : walk_result_of_directory_over_sources given made s d c ≡ walk_result_of_empty_directory given.options (evidence_from_setting_and_sources given made s) d c
    told-empty =
        ap (walk_result_of_entered_path given.options (evidence_from_setting_and_sources given made s) d c) lists.directory_found
        ∙ report_of-empty given.options (evidence_from_setting_and_sources given made s) d c lists.names (length_permutation listed (entry_names_in_order lists.names) lists.permutation ∙ bare)

    pub entered-empty : (limit : ℕ) → count_components d ≤ limit → count_paths_within_depth limit (walk_result_of_directory_over_sources given made s d c).entered ≡ 1
    unfolding walk_result_of_empty_directory
    entered-empty limit low =
        let itself : count_paths_within_depth limit (walk_result_of_directory_over_sources given made s d c).entered ≡ count_paths_within_depth limit (d ∷ []) = ap {B = ℕ} (λ (w : WalkResult). count_paths_within_depth limit w.entered) told-empty in itself ∙ count-low limit d [] low

    pub Gives-empty : (limit : ℕ) (before mid after : Option (List Emission)) (start middle stop : Outcome) (handed : Handed) → count_components d ≤ limit → AddsEmissionsAndCounts before mid start middle (λ p. 0) 0 1
        → ClosesWithAllWalked given.options (walk_result_of_empty_directory given.options (evidence_from_setting_and_sources given made s) d c) mid after middle stop handed
        → GivesAllWalkedUnrefused given.options limit (evidence_from_setting_and_sources given made s) (walk_result_of_directory_over_sources given made s d c) before after start stop handed
    unfolding walk_result_of_empty_directory
    Gives-empty limit before mid after start middle stop handed low opened closes =
        let w : WalkResult = walk_result_of_empty_directory given.options (evidence_from_setting_and_sources given made s) d c in
        let R : WalkResult → Type 0 = λ v. GivesAllWalkedUnrefused given.options limit (evidence_from_setting_and_sources given made s) v before after start stop handed in
        subst R (sym told-empty) (record {
          emits = Emits-then before mid after start middle stop (λ p. 0) (λ p. count_shown_passing given.options p w.out) (λ p. count_shown_passing given.options p w.out) 0 (count_seen_entries w) (count_seen_entries w) 1 0 (count_elements w.entered) opened closes.emits (λ p. omega arith) (omega arith) refl;
          up = closes.up;
          blocks = closes.blocks;
          whole = empty-whole given.options (evidence_from_setting_and_sources given made s) d c limit low;
        })

    pub part-empty : (before mid after : Option (List Emission)) (start middle stop : Outcome) → AddsEmissionsAndCounts before mid start middle (λ p. 0) 0 1 → AddsPartOfWalkResult given.options (walk_result_of_empty_directory given.options (evidence_from_setting_and_sources given made s) d c) mid after middle stop
        → AddsPartOfWalkResult given.options (walk_result_of_directory_over_sources given made s d c) before after start stop
    part-empty before mid after start middle stop opened part =
        let R : WalkResult → Type 0 = λ v. AddsPartOfWalkResult given.options v before after start stop in
        subst R (sym told-empty) (Within-then before mid after start middle stop (λ p. 0) _ _ 0 _ _ 1 opened part (λ p. omega arith) (omega arith))

  module _ (are : AreDistinctValidEntryNames listed) (plain-path : ends_in_slash d ≡ false) where
    distinct : IsDistinct bytes_eq (entry_names_in_order lists.names)
    distinct = IsDistinct-IsPermutation bytes_eq nat_list_eq_equiv.symm listed (entry_names_in_order lists.names) lists.permutation are.distinct

    told-named : (q : List ℕ) → IsValidEntryName q → walk_result_of_name_over_sources given made s (path_joined_with_slash d q) ≡ item_named given.options (evidence_from_setting_and_sources given made s) d lists.names q
    told-named q is =
        let full : List ℕ = root_joined_with_relative given.root d in
        ap (λ (p : List ℕ). walk_result_of_child_by_look given.options (evidence_from_setting_and_sources given made s) (path_joined_with_slash d q) (look s.tree p false)) (sym (full_path-child given.root d q is plain-path))
        ∙ ap (walk_result_of_child_by_look given.options (evidence_from_setting_and_sources given made s) (path_joined_with_slash d q)) (look-joined s.tree lists.names full q is (look-directory s.tree lists.names full d lists.directory_found))

    agree : {V : Type 0} (f : WalkResult → V) → AllByRecursion (λ q. f (walk_result_of_name_over_sources given made s (path_joined_with_slash d q)) ≡ f (item_named given.options (evidence_from_setting_and_sources given made s) d lists.names q)) listed
    agree f = all_weaker IsValidEntryName (λ q. f (walk_result_of_name_over_sources given made s (path_joined_with_slash d q)) ≡ f (item_named given.options (evidence_from_setting_and_sources given made s) d lists.names q)) listed (λ q is. ap f (told-named q is)) are.each

    all_sum : (f : WalkResult → ℕ) → IsSum f → sum_by (λ q. f (walk_result_of_name_over_sources given made s (path_joined_with_slash d q))) listed ≡ f (walk_result_of_all_children given.options (evidence_from_setting_and_sources given made s) d lists.names)
    all_sum f is =
        sum_by-agree (λ q. f (walk_result_of_name_over_sources given made s (path_joined_with_slash d q))) (λ q. f (item_named given.options (evidence_from_setting_and_sources given made s) d lists.names q)) listed (agree f)
        ∙ sym (sum_by-IsPermutation (λ q. f (item_named given.options (evidence_from_setting_and_sources given made s) d lists.names q)) listed (entry_names_in_order lists.names) lists.permutation)
        ∙ sym (sum_once given.options (evidence_from_setting_and_sources given made s) d f is lists.names distinct)

    all_any : (f : WalkResult → Bool) → IsOr f → list_any (λ q. f (walk_result_of_name_over_sources given made s (path_joined_with_slash d q))) listed ≡ f (walk_result_of_all_children given.options (evidence_from_setting_and_sources given made s) d lists.names)
    all_any f is =
        any-agree (λ q. f (walk_result_of_name_over_sources given made s (path_joined_with_slash d q))) (λ q. f (item_named given.options (evidence_from_setting_and_sources given made s) d lists.names q)) listed (agree f)
        ∙ list_any-IsPermutation (λ q. f (item_named given.options (evidence_from_setting_and_sources given made s) d lists.names q)) listed (entry_names_in_order lists.names) lists.permutation
        ∙ sym (any_once given.options (evidence_from_setting_and_sources given made s) d f is lists.names distinct)

    module _ (some : 0 < length listed) where
      told-listed : walk_result_of_directory_over_sources given made s d c ≡ walk_result_of_closed_directory given.options (evidence_from_setting_and_sources given made s) d c (walk_result_of_all_children given.options (evidence_from_setting_and_sources given made s) d lists.names)
      told-listed =
          ap (walk_result_of_entered_path given.options (evidence_from_setting_and_sources given made s) d c) lists.directory_found
          ∙ report_of-listed given.options (evidence_from_setting_and_sources given made s) d c lists.names (omega (arith, length_permutation listed (entry_names_in_order lists.names) lists.permutation, some))

      -- within a limit it enters itself and what its names enter
      entered-all : (limit : ℕ) → count_components d ≤ limit → count_paths_within_depth limit (walk_result_of_directory_over_sources given made s d c).entered ≡ 1 + sum_by (λ q. count_paths_within_depth limit (walk_result_of_name_over_sources given made s (path_joined_with_slash d q)).entered) listed
      entered-all limit low =
          let w : WalkResult = walk_result_of_all_children given.options (evidence_from_setting_and_sources given made s) d lists.names in
          let itself : count_paths_within_depth limit (walk_result_of_directory_over_sources given made s d c).entered ≡ count_paths_within_depth limit (d ∷ w.entered) =
          ap {B = ℕ} (λ (v : WalkResult). count_paths_within_depth limit v.entered) told-listed ∙ ap {B = ℕ} (λ (xs : List (List ℕ)). count_paths_within_depth limit xs) (closed-adds given.options (evidence_from_setting_and_sources given made s) d c w).entered in
          omega (arith, itself, all_sum (λ y. count_paths_within_depth limit y.entered) (within-sum limit), count-low limit d w.entered low)

      -- so many directories are opened at most up to a name, and with those of all names
      pub entered-name : (limit i m n spare : ℕ) (q : List ℕ) → count_components d ≤ limit → i < length listed → q ≡ get_or listed i q → m ≤ entered_by given made s limit d (take i listed) → n ≤ count_paths_within_depth limit (walk_result_of_name_over_sources given made s (path_joined_with_slash d q)).entered + spare
          → m + n ≤ count_paths_within_depth limit (walk_result_of_directory_over_sources given made s d c).entered + spare
      entered-name limit i m n spare q low inside is so_far here = omega (arith, entered-all limit low, so_far, here, front-sum (λ r. count_paths_within_depth limit (walk_result_of_name_over_sources given made s (path_joined_with_slash d r)).entered) listed i q inside is)

      pub entered-close : (limit i m spare : ℕ) → count_components d ≤ limit → length listed ≤ i → m ≤ entered_by given made s limit d (take i listed) → m ≤ count_paths_within_depth limit (walk_result_of_directory_over_sources given made s d c).entered + spare
      entered-close limit i m spare low past so_far =
          let whole : m ≤ 1 + sum_by (λ q. count_paths_within_depth limit (walk_result_of_name_over_sources given made s (path_joined_with_slash d q)).entered) listed = rw take_all at so_far in
          omega (arith, entered-all limit low, whole)

      -- a part of what a name gives, after the names before it
      pub part-name : (limit i : ℕ) (q : List ℕ) (before mid after : Option (List Emission)) (start middle stop : Outcome) (held : List Entry) (blocked : Bool) → i < length listed → q ≡ get_or listed i q
          → SoFar given made s limit d (take i listed) before mid start middle held blocked → AddsPartOfWalkResult given.options (walk_result_of_name_over_sources given made s (path_joined_with_slash d q)) mid after middle stop → AddsPartOfWalkResult given.options (walk_result_of_directory_over_sources given made s d c) before after start stop
      part-name limit i q before mid after start middle stop held blocked inside is so_far part =
          let w : WalkResult = walk_result_of_all_children given.options (evidence_from_setting_and_sources given made s) d lists.names in
          let adds = closed-adds given.options (evidence_from_setting_and_sources given made s) d c w in
          let R : WalkResult → Type 0 = λ v. AddsPartOfWalkResult given.options v before after start stop in
          subst R (sym told-listed) (Within-then before mid after start middle stop _ _ _ _ _ _ _ so_far.emits part
          (λ p. omega (arith, front-sum (λ r. count_shown_passing given.options p (walk_result_of_name_over_sources given made s (path_joined_with_slash d r)).out) listed i q inside is, all_sum (λ x. count_shown_passing given.options p x.out) (shown-sum given.options p), adds.shown p))
          (omega (arith, front-sum (λ r. count_seen_entries (walk_result_of_name_over_sources given made s (path_joined_with_slash d r))) listed i q inside is, all_sum (λ x. count_seen_entries x) seen-sum, adds.seen)))

      module _ (limit i : ℕ) (before mid after : Option (List Emission)) (start middle : Outcome) (held : List Entry) (blocked : Bool) (past : length listed ≤ i) (so_far : SoFar given made s limit d (take i listed) before mid start middle held blocked) where
        all : SoFar given made s limit d listed before mid start middle held blocked
        all = rw take_all at so_far

        w : WalkResult
        w = walk_result_of_all_children given.options (evidence_from_setting_and_sources given made s) d lists.names

        v : WalkResult
        v = walk_result_of_closed_directory given.options (evidence_from_setting_and_sources given made s) d c (walk_result_holding_entries held blocked)

        adds : Adds given.options d w (walk_result_of_closed_directory given.options (evidence_from_setting_and_sources given made s) d c (walk_result_holding_entries w.up w.blocks)) (walk_result_of_closed_directory given.options (evidence_from_setting_and_sources given made s) d c w)
        adds = closed-adds given.options (evidence_from_setting_and_sources given made s) d c w

        same-up : (p : Entry → Bool) → count_by p held ≡ count_by p w.up
        unfolding w
        same-up p = all.up p ∙ all_sum (λ x. count_by p x.up) (up-sum p)

        same-blocks : blocked ≡ w.blocks
        unfolding w
        same-blocks = all.blocks ∙ all_any (λ x. x.blocks) blocks-or

        same : Alike v (walk_result_of_closed_directory given.options (evidence_from_setting_and_sources given made s) d c (walk_result_holding_entries w.up w.blocks))
        unfolding w v
        same = closed_alike given.options (evidence_from_setting_and_sources given made s) d c (walk_result_holding_entries held blocked) (walk_result_holding_entries w.up w.blocks) (record {
          out = λ p. refl;
          up = same-up;
          blocks = same-blocks;
          merged = refl;
          entered = λ p. refl;
          broken = λ p. refl;
          asked = λ p. refl;
          met = λ p. refl;
          folds = λ p. refl;
        })

        pub part-close : (stop : Outcome) → AddsPartOfWalkResult given.options (walk_result_of_closed_directory given.options (evidence_from_setting_and_sources given made s) d c (walk_result_holding_entries held blocked)) mid after middle stop → AddsPartOfWalkResult given.options (walk_result_of_directory_over_sources given made s d c) before after start stop
        unfolding w v
        part-close stop part =
            let R : WalkResult → Type 0 = λ x. AddsPartOfWalkResult given.options x before after start stop in
            subst R (sym told-listed) (Within-then before mid after start middle stop _ _ _ _ _ _ _ all.emits part
            (λ p. omega (arith, all_sum (λ x. count_shown_passing given.options p x.out) (shown-sum given.options p), same.out (λ x. is_entry_shown_by_options given.options x.0 && p x), adds.shown p))
            (omega (arith, all_sum (λ y. count_seen_entries y) seen-sum, same.out (λ _. true), same.merged, adds.seen)))

        -- a directory with names, in whatever order they were walked
        pub Gives-listed : (stop : Outcome) (handed : Handed) → count_components d ≤ limit → ClosesWithAllWalked given.options (walk_result_of_closed_directory given.options (evidence_from_setting_and_sources given made s) d c (walk_result_holding_entries held blocked)) mid after middle stop handed
            → GivesAllWalkedUnrefused given.options limit (evidence_from_setting_and_sources given made s) (walk_result_of_directory_over_sources given made s d c) before after start stop handed
        unfolding w v
        Gives-listed stop handed low closes =
            let x : WalkResult = walk_result_of_closed_directory given.options (evidence_from_setting_and_sources given made s) d c w in
            let R : WalkResult → Type 0 = λ y. GivesAllWalkedUnrefused given.options limit (evidence_from_setting_and_sources given made s) y before after start stop handed in
            subst R (sym told-listed) (record {
              emits = Emits-then before mid after start middle stop _ _ (λ p. count_shown_passing given.options p x.out) _ _ (count_seen_entries x) _ _ (count_elements x.entered) all.emits closes.emits
                  (λ p. omega (arith, all_sum (λ y. count_shown_passing given.options p y.out) (shown-sum given.options p), same.out (λ y. is_entry_shown_by_options given.options y.0 && p y), adds.shown p))
                  (omega (arith, all_sum (λ y. count_seen_entries y) seen-sum, same.out (λ _. true), same.merged, adds.seen))
                  (omega (arith, all_sum (λ y. count_elements y.entered) entered-sum, ap {B = ℕ} (λ (xs : List (List ℕ)). count_elements xs) adds.entered, count_by-cons (λ _. true) d w.entered));
              up = closes.up ∙ closed-up given.options (evidence_from_setting_and_sources given made s) d c (walk_result_holding_entries held blocked) (walk_result_holding_entries w.up w.blocks) same-up same-blocks ∙ sym adds.up;
              blocks = closes.blocks ∙ same.blocks ∙ sym adds.blocks;
              whole = refused-entered limit (evidence_from_setting_and_sources given made s) d w x low adds.entered adds.broken adds.asked (sym (all_any (is_walk_result_refused limit (evidence_from_setting_and_sources given made s)) (refused-or limit (evidence_from_setting_and_sources given made s))) ∙ all.whole);
            })

-- ---- the paths of what a name gives

any-at : {X : Type 0} (p : X → Bool) (xs : List X) (i : ℕ) (x : X) → i < length xs → x ≡ get_or xs i x → p x ≡ true → list_any p xs ≡ true
any-at p [] i x inside is passes = absurd (omega (arith, inside))
any-at p (y ∷ ys) zero x inside is passes = ap (λ (b : Bool). b || list_any p ys) (ap p (sym is) ∙ passes)
any-at p (y ∷ ys) (suc i) x inside is passes = or-right (p y) (list_any p ys) (any-at p ys i x (omega (arith, inside)) is passes)

entered-or : (path : List ℕ) → IsOr (λ w. is_text_in_list path w.entered)
entered-or path = record { zero = refl; adds = λ a b. list_any-append (bytes_eq path) a.entered b.entered }

broken-or : (path : List ℕ) → IsOr (λ w. is_text_in_list path w.broken)
broken-or path = record { zero = refl; adds = λ a b. list_any-append (bytes_eq path) a.broken b.broken }

asked-or : (path : List ℕ) → IsOr (λ w. is_text_in_list path w.asked)
asked-or path = record { zero = refl; adds = λ a b. list_any-append (bytes_eq path) a.asked b.asked }

-- are among those of its directory
-- a directory leads to these names, of which there are some
pub record HasNames (given : WalkSetting) (t : Names) (d : List ℕ) (listed : List (List ℕ)) : Type 0 where
  pub are : AreDistinctValidEntryNames listed
  pub lists : ListsDirectoryNamesInAnyOrder (look_at_entered_directory given t d) listed
  pub some : 0 < length listed

-- `shown` was found not to be empty, and `listed` is walked; both are the names that the listing gave
pub HasNames-listed : (given : WalkSetting) (t : Names) (d : List ℕ) {names shown listed : List (List ℕ)} {empty : Bool}
    → shown ≡ names → empty ≡ (length shown == 0) → empty ≡ false → listed ≡ names → AreDistinctValidEntryNames names → ListsDirectoryNamesInAnyOrder (look_at_entered_directory given t d) names → HasNames given t d listed
HasNames-listed given t d {shown = shown} shown-is empty-is filled listed-is are lists =
    record {
      are = rw listed-is are;
      lists = rw listed-is lists;
      some = omega (arith, eqb-false (length shown) 0 (sym empty-is ∙ filled), ap length shown-is, ap length listed-is);
    }

pub HasPaths-name : (given : WalkSetting) (made : Option StackSetup) (s : TreeAndObjects) (d : List ℕ) (c : Class) (listed : List (List ℕ)) (lists : ListsDirectoryNamesInAnyOrder (look_at_entered_directory given s.tree d) listed) → AreDistinctValidEntryNames listed → ends_in_slash d ≡ false → 0 < length listed
    → (i : ℕ) (q : List ℕ) → i < length listed → q ≡ get_or listed i q → HasPaths (walk_result_of_name_over_sources given made s (path_joined_with_slash d q)) (walk_result_of_directory_over_sources given made s d c)
HasPaths-name given made s d c listed lists are plain-path some i q inside is =
    let w : WalkResult = walk_result_of_all_children given.options (evidence_from_setting_and_sources given made s) d lists.names in
    let x : WalkResult = walk_result_of_closed_directory given.options (evidence_from_setting_and_sources given made s) d c w in
    let adds = closed-adds given.options (evidence_from_setting_and_sources given made s) d c w in
    let up = λ (f : WalkResult → Bool) (or : IsOr f) (h : f (walk_result_of_name_over_sources given made s (path_joined_with_slash d q)) ≡ true).
    sym (all_any given made s d c listed lists are plain-path f or) ∙ any-at (λ r. f (walk_result_of_name_over_sources given made s (path_joined_with_slash d r))) listed i q inside is h in
    let R : WalkResult → Type 0 = λ v. HasPaths (walk_result_of_name_over_sources given made s (path_joined_with_slash d q)) v in
    subst R (sym (told-listed given made s d c listed lists are plain-path some)) (record {
      entered = λ path h. ap (is_text_in_list path) adds.entered ∙ or-right (bytes_eq path d) (is_text_in_list path w.entered) (up (λ v. is_text_in_list path v.entered) (entered-or path) h);
      broken = λ path h. ap (is_text_in_list path) adds.broken ∙ up (λ v. is_text_in_list path v.broken) (broken-or path) h;
      asked = λ path h. ap (is_text_in_list path) adds.asked ∙ up (λ v. is_text_in_list path v.asked) (asked-or path) h;
    })
