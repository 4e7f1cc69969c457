-- What a checkout keeps in step with the tree that it changes.
use Rattle.std.specs.Prelude.{◌≡◌, ◌⊎◌, ◌||◌, ℕ, Bool, true, false, List, [], ◌∷◌, ◌++◌, Option, Some, None}
use Rattle.std.specs.List.{list_any}
use Rattle.std.proofs.Common.{inl, inr, refl, sym, ap, ◌∙◌, subst}
use Rattle.gitbase_core.proofs.Names as gitbase
use Rattle.glob_rules.specs.Attributes.{AttributeList}
use Rattle.worktree_fs.specs.MadeAndRemoved.{DirectoryMadeAtPath, NodeRemovedAtPath}
use Rattle.worktree_fs.specs.Paths.{all_prefixes_shortest_first, root_joined_with_relative, is_dot_or_dot_dot, slash_joined_components}
use Rattle.worktree_fs.specs.Tree.{Names, reached, directory, none, look, lookup_result_of_resolution, resolution_of_path, absent, found}
use Rattle.worktree_fs.proofs.Paths.Spelled.{component_from}
use Rattle.worktree_stack.specs.Checkout.{IsTreeAfterEnsuringDirectory, LeadsToDirectory}
use Rattle.worktree_stack.specs.ChecksOut.{ReadSameInDirectories, AreDirectoriesBelowRoot, IsPathWithoutLinksOrDots, IsDirectoryBelowRoot, ReadSameAtPlaces}
use Rattle.worktree_stack.specs.GoesOn.{IsTreeUnchangedOrDeepestEmpty, IsDeepestDirectoryEmpty, KeepsDirectoriesAndNewNodesAreDirectories, HoldsForLaterTree, HoldsForPresentTree}
use Rattle.worktree_stack.specs.Reading.{TreeAndObjects, rules_texts_of_readings, places_of_directory, readings_of_directory, rules_texts_of_directory, is_read_without_refusal}
use Rattle.worktree_stack.specs.Setup.{HeldAttributeLists, HeldIgnoreRules, StackSetup, held_attribute_lists, setup_of_held_ignore_rules}
use Rattle.worktree_stack.specs.Stacked.{HoldsRulesOfTree, AppendsAttributeListsOfTree, pushed_directories}
use Rattle.worktree_stack.proofs.Rules.FreshRules.{fresh-same}
use Rattle.worktree_stack.proofs.CheckOut.LaterTrees.{Lost, in-fresh, later-made, later-refl, later-then, lost-leads, lost-removed, snoc-front, there-later}
use Rattle.worktree_stack.proofs.Rules.SameRead.{holds-same, lists-same, reading-same}
use Rattle.worktree_stack.proofs.CheckOut.Plain.{front-normal, there-removed}
use Rattle.worktree_stack.proofs.CheckOut.Remade.{there-remade}
use Rattle.worktree_stack.proofs.Lookup.InStep.{pushed-ancestors, pushed-below, pushed_all, rules-none}

-- ---- a node that was removed

gone-leads : (t mid : Names) (path : List ℕ) → NodeRemovedAtPath path t mid → LeadsToDirectory mid path → ⊥
gone-leads t mid path removed leads = clash removed.is (ap lookup_result_of_resolution leads.2)
  where
    clash : look mid path false ≡ absent → look mid path false ≡ found (directory leads.1) → ⊥
    clash a b = cc

pub last-normal : (names : List (List ℕ)) (name : List ℕ) → list_any is_dot_or_dot_dot (names ++ name ∷ []) ≡ false → is_dot_or_dot_dot name ≡ false
last-normal [] name e = go (is_dot_or_dot_dot name) e
  where
    go : (b : Bool) → (b || false) ≡ false → b ≡ false
    go false e = refl
    go true e = absurd (cc e)
last-normal (n ∷ names) name e = last-normal names name (go (is_dot_or_dot_dot n) (list_any is_dot_or_dot_dot (names ++ name ∷ [])) e)
  where
    go : (a b : Bool) → (a || b) ≡ false → b ≡ false
    go false b e = e
    go true b e = absurd (cc e)

unread : (made : StackSetup) (s : TreeAndObjects) (d : List ℕ) → is_read_without_refusal (rules_texts_of_directory made s d) ≡ true → is_read_without_refusal (rules_texts_of_readings s (readings_of_directory made d)) ≡ true
unfolding rules_texts_of_directory
unread made s d read = read

-- ---- a step

module _ (made : StackSetup) (s0 : TreeAndObjects) (alone : made.ignore ≡ None) where
  same-split : (t1 : Names) (a b : List (List (List ℕ))) → ReadSameInDirectories made s0.tree t1 (a ++ b) → ReadSameInDirectories made s0.tree t1 a × ReadSameInDirectories made s0.tree t1 b
  same-split t1 [] b same = (tt, same)
  same-split t1 (names ∷ a) b same = let x = same-split t1 a b same.1 in ((same.0, x.0), x.1)

  there-both : (root : List ℕ) (t : Names) (a b : List (List (List ℕ))) → AreDirectoriesBelowRoot root t a → AreDirectoriesBelowRoot root t b → AreDirectoriesBelowRoot root t (a ++ b)
  there-both root t [] b x y = y
  there-both root t (names ∷ a) b x y = (x.0, there-both root t a b x.1 y)

  -- what is held holds for the tree that is there now
  pub kept-now : (t : Names) (at : Option (List (List ℕ))) (attributes : Option HeldAttributeLists) (ignore : Option HeldIgnoreRules) → HoldsForLaterTree made s0 t at attributes ignore → HoldsForPresentTree made s0 t at attributes ignore
  kept-now t at attributes ignore k =
      record { holds = λ end objects is same. k.holds end objects (λ changed. subst (λ (x : Names). KeepsDirectoriesAndNewNodesAreDirectories t x) (sym is) (later-refl t)) same; there = k.there }

  -- a stack that is in step with the tree before anything is changed
  pub keeping-first : (at : Option (List (List ℕ))) (attributes : Option HeldAttributeLists) (ignore : Option HeldIgnoreRules) → setup_of_held_ignore_rules ignore ≡ None → HoldsRulesOfTree made s0 (pushed_directories at) attributes ignore → AreDirectoriesBelowRoot made.root s0.tree (pushed_directories at)
      → HoldsForLaterTree made s0 s0.tree at attributes ignore
  keeping-first at attributes ignore free holds there =
      record { changed = false; at_hand = refl; holds = λ end objects later same. holds-same s0 end objects made (pushed_directories at) attributes ignore free same holds; there = there }

  module _ (unlinks : Bool) (t t1 : Names) (names : List (List ℕ)) (name : List ℕ) (are : gitbase.AreNames (names ++ name ∷ [])) (normal : list_any is_dot_or_dot_dot (names ++ name ∷ []) ≡ false)
      (sure : (unlinks ≡ true → IsPathWithoutLinksOrDots s0.tree made.root) ⊎ LeadsToDirectory t1 (root_joined_with_relative made.root (slash_joined_components (names ++ name ∷ []))))
      (attributes : Option HeldAttributeLists) (ignore : Option HeldIgnoreRules) (k : HoldsForLaterTree made s0 t (Some names) attributes ignore)
      (replaced : IsTreeAfterEnsuringDirectory unlinks (root_joined_with_relative made.root (slash_joined_components (names ++ name ∷ []))) t t1) where
    dots : is_dot_or_dot_dot name ≡ false
    dots = last-normal names name normal

    abbrev pub q : List ℕ
    q = root_joined_with_relative made.root (slash_joined_components (names ++ name ∷ []))

    lost : IsDeepestDirectoryEmpty made.root t (Some names) → Lost t q
    lost fresh =
        let x = snoc-front names name are in
        elim (in-fresh made.root t names name fresh x.0 (component_from name x.1) dots) [
          | inl e ↦ inl e
          | inr (below, e) ↦ inr (name ∷ below, [], e)
        ]

    -- what was pushed is there behind a removal where no link leads to the root, or a directory was made then
    still-there : t ≡ s0.tree → unlinks ≡ true → (mid : Names) → NodeRemovedAtPath q t mid → (t1 ≡ mid) ⊎ DirectoryMadeAtPath q mid t1 → AreDirectoriesBelowRoot made.root mid (all_prefixes_shortest_first names)
    still-there same on mid removed after = elim sure [
      | inl plain ↦ there-removed made.root t mid q removed (subst (λ (x : Names). IsPathWithoutLinksOrDots x made.root) (sym same) (plain on)) names (snoc-front names name are).0 (front-normal names (name ∷ []) normal) k.there
      | inr leads ↦ elim after [
        | inl e ↦ absurd (gone-leads t mid q removed (subst (λ (x : Names). LeadsToDirectory x q) e leads))
        | inr makes ↦ there-remade made.root t mid t1 names name are removed makes k.there
      ]
    ]

    -- what was pushed is there in the new tree, which came of the old one by directories alone once something is changed
    kept-there : (changed : Bool) → IsTreeUnchangedOrDeepestEmpty changed made.root s0.tree t (Some names) → (changed ≡ true → KeepsDirectoriesAndNewNodesAreDirectories t t1) × AreDirectoriesBelowRoot made.root t1 (pushed_directories (Some names))
    kept-there changed hand = elim replaced [
      | inl same ↦ ((λ e. subst (KeepsDirectoriesAndNewNodesAreDirectories t) (sym same) (later-refl t)), subst (λ (x : Names). AreDirectoriesBelowRoot made.root x (all_prefixes_shortest_first names)) (sym same) k.there)
      | inr (inl makes) ↦ ((λ e. later-made makes), there-later made.root t t1 (all_prefixes_shortest_first names) (later-made makes) k.there)
      | inr (inr (on, mid, removed, after)) ↦ gone changed hand on mid removed after
    ]
      where
        gone : (changed : Bool) → IsTreeUnchangedOrDeepestEmpty changed made.root s0.tree t (Some names) → unlinks ≡ true → (mid : Names) → NodeRemovedAtPath q t mid → (t1 ≡ mid) ⊎ DirectoryMadeAtPath q mid t1
            → (changed ≡ true → KeepsDirectoriesAndNewNodesAreDirectories t t1) × AreDirectoriesBelowRoot made.root t1 (pushed_directories (Some names))
        gone true fresh on mid removed after = absurd (lost-removed t mid q (lost fresh) removed)
        gone false same on mid removed after =
            let there : AreDirectoriesBelowRoot made.root mid (all_prefixes_shortest_first names) = still-there same on mid removed after in (
              (λ e. absurd (cc e)),
              elim after [
                | inl e ↦ subst (λ (x : Names). AreDirectoriesBelowRoot made.root x (all_prefixes_shortest_first names)) (sym e) there
                | inr makes ↦ there-later made.root mid t1 (all_prefixes_shortest_first names) (later-made makes) there
              ],
            )

    -- the step is refused
    pub kept-step : HoldsForPresentTree made s0 t1 (Some names) attributes ignore
    kept-step =
        let x = kept-there k.changed k.at_hand in
        record { holds = λ end objects is same. k.holds end objects (λ changed. subst (λ (y : Names). KeepsDirectoriesAndNewNodesAreDirectories t y) (sym is) (x.0 changed)) same; there = x.1 }

    -- the directory is there, and its readings are done
    module _ (attributes1 : Option HeldAttributeLists) (ignore1 : Option HeldIgnoreRules) (none1 : setup_of_held_ignore_rules ignore1 ≡ None) (leads : LeadsToDirectory t1 q)
        (lists : AppendsAttributeListsOfTree made (record { tree = t1; objects = s0.objects }) (names ++ name ∷ []) attributes attributes1) where
      below-is : pushed_directories (Some (names ++ name ∷ [])) ≡ all_prefixes_shortest_first names ++ (names ++ name ∷ []) ∷ []
      below-is = pushed-ancestors (names ++ name ∷ []) ∙ ap (λ (l : List (List (List ℕ))). l ++ (names ++ name ∷ []) ∷ []) (sym (pushed-below (Some names) (names ++ name ∷ []) name refl refl))

      there-all : AreDirectoriesBelowRoot made.root t1 (pushed_directories (Some (names ++ name ∷ [])))
      there-all = subst (AreDirectoriesBelowRoot made.root t1) (sym below-is) (there-both made.root t1 (all_prefixes_shortest_first names) ((names ++ name ∷ []) ∷ []) (kept-there k.changed k.at_hand).1 (is-there names leads, tt))
        where
          is-there : (front : List (List ℕ)) → LeadsToDirectory t1 (root_joined_with_relative made.root (slash_joined_components (front ++ name ∷ []))) → IsDirectoryBelowRoot made.root t1 (front ++ name ∷ [])
          is-there [] l = l
          is-there (n ∷ front) l = l

      holds-all : (end : TreeAndObjects) → end.objects ≡ s0.objects → ReadSameInDirectories made s0.tree end.tree (pushed_directories (Some (names ++ name ∷ []))) → HoldsRulesOfTree made end (all_prefixes_shortest_first names) attributes ignore
          → ReadSameAtPlaces t1 end.tree (places_of_directory made (slash_joined_components (names ++ name ∷ []))) → HoldsRulesOfTree made end (pushed_directories (Some (names ++ name ∷ []))) attributes1 ignore1
      holds-all end objects same holds read =
          let now : TreeAndObjects = record { tree = t1; objects = s0.objects } in
          pushed_all made end (names ++ name ∷ []) attributes attributes1 ignore ignore1
          (subst (λ (ds : List (List (List ℕ))). HoldsRulesOfTree made end ds attributes ignore) (pushed-below (Some names) (names ++ name ∷ []) name refl refl) holds)
          (unread made end (slash_joined_components (names ++ name ∷ [])) (ap is_read_without_refusal (sym (reading-same now end objects made (slash_joined_components (names ++ name ∷ [])) read)) ∙ lists.is_read))
          (lists.lists ∙ ap (λ (l : List AttributeList). held_attribute_lists attributes ++ l) (lists-same now end objects made (names ++ name ∷ []) read))
          (rules-none made end (all_prefixes_shortest_first (names ++ name ∷ [])) ignore1 none1)

      pub keeping-step : HoldsForLaterTree made s0 t1 (Some (names ++ name ∷ [])) attributes1 ignore1
      keeping-step = elim replaced [
        | inl same ↦ stayed k.changed k.at_hand k.holds same
        | inr (inl makes) ↦ anew (λ end objects later same. k.holds end objects (λ changed. later-then t t1 end.tree (later-made makes) later) same) makes.names makes.is
        | inr (inr (on, mid, removed, after)) ↦ elim after [
          | inl e ↦ absurd (gone-leads t mid q removed (subst (λ (x : Names). LeadsToDirectory x q) e leads))
          | inr makes ↦ anew (λ end objects later same. behind k.changed k.at_hand k.holds mid removed end objects same) makes.names makes.is
        ]
      ]
        where
          front-same : (end : Names) → ReadSameInDirectories made s0.tree end (pushed_directories (Some (names ++ name ∷ []))) → ReadSameInDirectories made s0.tree end (all_prefixes_shortest_first names) × ReadSameAtPlaces s0.tree end (places_of_directory made (slash_joined_components (names ++ name ∷ [])))
          front-same end same = let x = same-split end (all_prefixes_shortest_first names) ((names ++ name ∷ []) ∷ []) (subst (ReadSameInDirectories made s0.tree end) below-is same) in (x.0, x.1.0)

          stayed : (changed : Bool) → IsTreeUnchangedOrDeepestEmpty changed made.root s0.tree t (Some names)
              → ((end : TreeAndObjects) → end.objects ≡ s0.objects → (changed ≡ true → KeepsDirectoriesAndNewNodesAreDirectories t end.tree) → ReadSameInDirectories made s0.tree end.tree (all_prefixes_shortest_first names) → HoldsRulesOfTree made end (all_prefixes_shortest_first names) attributes ignore)
              → t1 ≡ t → HoldsForLaterTree made s0 t1 (Some (names ++ name ∷ [])) attributes1 ignore1
          stayed true fresh holds same = absurd (lost-leads t q (lost fresh) (subst (λ (x : Names). LeadsToDirectory x q) same leads))
          stayed false is holds same =
              let first : t1 ≡ s0.tree = same ∙ is in
              record {
                changed = false;
                at_hand = first;
                holds = λ end objects later read.
                    let x = front-same end.tree read in
                    holds-all end objects read (holds end objects (λ e. absurd (cc e)) x.0) (subst (λ (y : Names). ReadSameAtPlaces y end.tree (places_of_directory made (slash_joined_components (names ++ name ∷ [])))) (sym first) x.1);
                there = there-all;
              }

          anew : ((end : TreeAndObjects) → end.objects ≡ s0.objects → KeepsDirectoriesAndNewNodesAreDirectories t1 end.tree → ReadSameInDirectories made s0.tree end.tree (all_prefixes_shortest_first names) → HoldsRulesOfTree made end (all_prefixes_shortest_first names) attributes ignore)
              → (trail : List (List ℕ)) → resolution_of_path t1 q false ≡ reached trail (directory none) → HoldsForLaterTree made s0 t1 (Some (names ++ name ∷ [])) attributes1 ignore1
          anew holds trail is =
              record {
                changed = true;
                at_hand = is-fresh names is;
                holds = λ end objects later read.
                    holds-all end objects read (holds end objects (later refl) (front-same end.tree read).0) (new-same names is are end.tree (later refl));
                there = there-all;
              }
            where
              is-fresh : (front : List (List ℕ)) → resolution_of_path t1 (root_joined_with_relative made.root (slash_joined_components (front ++ name ∷ []))) false ≡ reached trail (directory none) → IsDeepestDirectoryEmpty made.root t1 (Some (front ++ name ∷ []))
              is-fresh [] e = (trail, e)
              is-fresh (n ∷ front) e = (trail, e)

              new-same : (front : List (List ℕ)) → resolution_of_path t1 (root_joined_with_relative made.root (slash_joined_components (front ++ name ∷ []))) false ≡ reached trail (directory none) → gitbase.AreNames (front ++ name ∷ [])
                  → (end : Names) → KeepsDirectoriesAndNewNodesAreDirectories t1 end → ReadSameAtPlaces t1 end (places_of_directory made (slash_joined_components (front ++ name ∷ [])))
              new-same [] e are end later = fresh-same made t1 end name [] alone are later (trail, e)
              new-same (n ∷ front) e are end later = fresh-same made t1 end n (front ++ name ∷ []) alone are later (trail, e)

          behind : (changed : Bool) → IsTreeUnchangedOrDeepestEmpty changed made.root s0.tree t (Some names)
              → ((end : TreeAndObjects) → end.objects ≡ s0.objects → (changed ≡ true → KeepsDirectoriesAndNewNodesAreDirectories t end.tree) → ReadSameInDirectories made s0.tree end.tree (all_prefixes_shortest_first names) → HoldsRulesOfTree made end (all_prefixes_shortest_first names) attributes ignore)
              → (mid : Names) → NodeRemovedAtPath q t mid → (end : TreeAndObjects) → end.objects ≡ s0.objects → ReadSameInDirectories made s0.tree end.tree (all_prefixes_shortest_first names) → HoldsRulesOfTree made end (all_prefixes_shortest_first names) attributes ignore
          behind true fresh holds mid removed end objects same = absurd (lost-removed t mid q (lost fresh) removed)
          behind false is holds mid removed end objects same = holds end objects (λ e. absurd (cc e)) same
