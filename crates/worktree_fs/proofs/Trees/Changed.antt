-- A directory that was made is there, a node that was removed is gone, and all else leads where it led.
use Rattle.std.proofs.Common.{◌≡◌, inl, inr, ℕ, option_map, Bool, false, List, [], ◌∷◌, ◌++◌, Option, Some, None, reverse, if◌then◌else◌, refl, sym, ap, subst, ◌∙◌}
use Rattle.std.proofs.lemmas.List.{reverse-reverse}
use mathlib.Core.List.{reverse-cons}
use Rattle.gitbase_core.specs.Path.{components, path_joined_with_slash}
use Rattle.worktree_fs.specs.declared.answers.MakeAnswer.TheVariants as makes
use Rattle.worktree_fs.specs.declared.answers.RemoveAnswer.TheVariants as removes
use Rattle.worktree_fs.specs.declared.memory.grow.AddError.{AddError}
use Rattle.worktree_fs.specs.declared.memory.grow.AddError.TheVariants as refusals
use Rattle.worktree_fs.specs.Tree.{Node, Names, PathResolution, lookup_result_of_resolution, reached, missing, nowhere, endless, file, link, directory, other, none, child_by_name, absent, is_directory, resolution_of_path, look}
use Rattle.worktree_fs.specs.Naming.{IsValidTree}
use Rattle.worktree_fs.specs.Grow.{node_with_descendant_added, entries_of_node_if_directory, add_error_at_path, add_error_at_names}
use Rattle.worktree_fs.specs.Changes.{slash_before_each_reversed_name, reversed_names_last_one_composed, answer_to_make_dir, make_answer_of_add_error, entries_with_directory_added, entries_after_make_dir, node_without_descendant, answer_to_remove_node, entries_after_remove_node}
use Rattle.worktree_fs.specs.ByNames.{descendant_by_names, ResolutionAgreesWithNames, IsMissingInReachedDirectory}
use Rattle.worktree_fs.specs.Outlines.{node_without_children, resolution_without_children, ResolvesAlikeUnlessAtNode, TreesAgreeExceptAtNames}
use Rattle.worktree_fs.specs.MadeAndRemoved.{DirectoryMadeAtPath, NodeRemovedAtPath, AnswersMakeInExistingParent, make_answer_by_existing_node}
use Rattle.worktree_fs.specs.Last.{LastNameWithNode, last_name_of_resolution}
use Rattle.worktree_fs.proofs.Routes.ByNames.{spot-by_names, node_at-last, removed-gone, missing-free}
use Rattle.worktree_fs.proofs.Trees.Alike.{alike_directory, spot-alike}
use Rattle.worktree_fs.proofs.Trees.Regrown.{HasGap, HasGap-push, HasLeaf-from, Stays, grown-stays, grown-there, cut-stays}
use Rattle.worktree_fs.proofs.Routes.Join.{last-joined}
use Rattle.worktree_fs.proofs.Routes.MissingNames.{AreComponents, MissesName, missed-name, real-names, from_all, components-slashed}
use Rattle.worktree_fs.proofs.Routes.Slashed.{full_path-slashed}

-- stays along names in either order
reversed : (at : List (List ℕ)) (before now : Names) → ((names : List (List ℕ)) → Stays (reverse at) names (Some (directory before)) (Some (directory now))) → TreesAgreeExceptAtNames at before now
reversed at before now stays names = elim (stays (reverse names)) [
  | inl is ↦ inl (sym (reverse-reverse names) ∙ ap reverse is ∙ reverse-reverse at)
  | inr e ↦ inr e
]

-- a directory in the place of a name that is missing
module _ (before : Names) (name : List ℕ) (below : List (List ℕ)) (here : Names) (leads : descendant_by_names (reverse below) (Some (directory before)) ≡ Some (directory here)) (free : child_by_name here name ≡ None) where
  abbrev pub made : Names
  made = entries_of_node_if_directory (Some (node_with_descendant_added (reverse (name ∷ below)) (directory none) (Some (directory before))))

  no_end : (front : List (List ℕ)) → [] ≡ front ++ name ∷ [] → ⊥
  no_end [] e = cc
  no_end (n ∷ front) e = cc

  pub made_is : (at : List (List ℕ)) → at ≡ reverse below ++ name ∷ [] → node_with_descendant_added at (directory none) (Some (directory before)) ≡ directory (entries_of_node_if_directory (Some (node_with_descendant_added at (directory none) (Some (directory before)))))
  made_is [] e = absurd (no_end (reverse below) e)
  made_is (first ∷ rest) e = refl

  grown_is : node_with_descendant_added (reverse (name ∷ below)) (directory none) (Some (directory before)) ≡ directory made
  grown_is = made_is (reverse (name ∷ below)) (reverse-cons name below)

  pub was_free : descendant_by_names (reverse (name ∷ below)) (Some (directory before)) ≡ None
  was_free = node_at-last below name before here leads ∙ free

  pub is_there : descendant_by_names (reverse (name ∷ below)) (Some (directory made)) ≡ Some (directory none)
  is_there =
      ap (λ (n : Node). descendant_by_names (reverse (name ∷ below)) (Some n)) (sym grown_is)
      ∙ grown-there (reverse (name ∷ below)) (directory none) (Some (directory before))

  pub made_apart : TreesAgreeExceptAtNames (name ∷ below) before made
  made_apart =
      reversed (name ∷ below) before made
      (λ names. subst (λ (n : Node). Stays (reverse (name ∷ below)) names (Some (directory before)) (Some n)) grown_is
      (grown-stays (reverse (name ∷ below)) (Some (directory before))
      (subst (λ (l : List (List ℕ)). HasGap l (Some (directory before))) (sym (reverse-cons name below)) (HasGap-push (reverse below) name (Some (directory before)) here leads free))
      names))

-- what leads to a missing name leads to what stands there
not_missing : (now : Names) (names : List (List ℕ)) (node : Node) (at : PathResolution) → ResolutionAgreesWithNames now at → at ≡ missing names [] → descendant_by_names (reverse names) (Some (directory now)) ≡ Some node → ⊥
not_missing now [] node at leads e there = subst (ResolutionAgreesWithNames now) e leads
not_missing now (name ∷ below) node at leads e there =
    let found : IsMissingInReachedDirectory now (name ∷ below) = subst (ResolutionAgreesWithNames now) e leads in
    clash (node_at-last below name now found.0 found.1 ∙ found.2) there
  where
    clash : descendant_by_names (reverse (name ∷ below)) (Some (directory now)) ≡ None → descendant_by_names (reverse (name ∷ below)) (Some (directory now)) ≡ Some node → ⊥
    clash p q = cc

outlined_missing : (at : PathResolution) (names rest : List (List ℕ)) → missing names rest ≡ resolution_without_children at → at ≡ missing names rest
outlined_missing (reached more node) names rest e = absurd (cc e)
outlined_missing (missing more left) names rest e = sym e
outlined_missing nowhere names rest e = absurd (cc e)
outlined_missing endless names rest e = absurd (cc e)

abbrev rest_of : PathResolution → List (List ℕ)
rest_of (reached names node) = []
rest_of (missing names rest) = rest
rest_of nowhere = []
rest_of endless = []

abbrev names_of_spot : PathResolution → List (List ℕ)
names_of_spot (reached names node) = names
names_of_spot (missing names rest) = names
names_of_spot nowhere = []
names_of_spot endless = []

abbrev node_of_spot : Node → PathResolution → Node
node_of_spot default (reached names node) = node
node_of_spot default (missing names rest) = default
node_of_spot default nowhere = default
node_of_spot default endless = default

shown : (before now : Names) (path : List ℕ) (names : List (List ℕ)) (node : Node) → resolution_of_path before path false ≡ missing names [] → descendant_by_names (reverse names) (Some (directory now)) ≡ Some node
    → ResolvesAlikeUnlessAtNode false names node (resolution_of_path before path false) (resolution_of_path now path false) → resolution_of_path now path false ≡ reached names node
shown before now path names node was there (inl comes) = comes.ends refl (sym (ap rest_of comes.is_missing) ∙ ap rest_of was)
shown before now path names node was there (inr e) =
    absurd (not_missing now names node (resolution_of_path now path false) (spot-by_names now path false) (outlined_missing (resolution_of_path now path false) names [] (sym (ap resolution_without_children was) ∙ e)) there)

-- how a directory comes to be made
made_free : (composes : Bool) (t : Names) (at : PathResolution) → answer_to_make_dir composes t at ≡ makes.Made
    → (names : List (List ℕ)) × (at ≡ missing names []) × (entries_after_make_dir composes t at ≡ entries_of_node_if_directory (Some (node_with_descendant_added (components (slash_before_each_reversed_name (reversed_names_last_one_composed composes names))) (directory none) (Some (directory t)))))
made_free composes t (reached names node) e = absurd (cc e)
made_free composes t (missing names []) e = (names, refl, go (add_error_at_path t (slash_before_each_reversed_name (reversed_names_last_one_composed composes names))) e)
  where
    go : (refusal : Option AddError) → make_answer_of_add_error refusal ≡ makes.Made
        → entries_with_directory_added refusal t (slash_before_each_reversed_name (reversed_names_last_one_composed composes names)) ≡ entries_of_node_if_directory (Some (node_with_descendant_added (components (slash_before_each_reversed_name (reversed_names_last_one_composed composes names))) (directory none) (Some (directory t))))
    go None e = refl
    go (Some refusals.NotNormal) e = absurd (cc e)
    go (Some refusals.NoParent) e = absurd (cc e)
    go (Some refusals.Exists) e = absurd (cc e)
    go (Some refusals.OutOfMemory) e = absurd (cc e)
made_free composes t (missing names (component ∷ rest)) e = absurd (cc e)
made_free composes t nowhere e = absurd (cc e)
made_free composes t endless e = absurd (cc e)

-- Where a directory was made it is there, and all else leads where it led. The last name of its path is to be kept as it
-- is, as each is where names are not composed.
pub makes-there : (composes : Bool) (t : Names) (path : List ℕ) → IsValidTree (directory t) → ((names : List (List ℕ)) → resolution_of_path t path false ≡ missing names [] → reversed_names_last_one_composed composes names ≡ names)
    → answer_to_make_dir composes t (resolution_of_path t path false) ≡ makes.Made → DirectoryMadeAtPath path t (entries_after_make_dir composes t (resolution_of_path t path false))
makes-there composes t path tree keeps answer = go found.0 found.1 (subst (ResolutionAgreesWithNames t) found.1 (spot-by_names t path false)) (subst MissesName found.1 (missed-name t path false)) found.2 (keeps found.0 found.1)
  where
    found : (names : List (List ℕ)) × (resolution_of_path t path false ≡ missing names []) × (entries_after_make_dir composes t (resolution_of_path t path false) ≡ entries_of_node_if_directory (Some (node_with_descendant_added (components (slash_before_each_reversed_name (reversed_names_last_one_composed composes names))) (directory none) (Some (directory t)))))
    found = made_free composes t (resolution_of_path t path false) answer

    go : (names : List (List ℕ)) → resolution_of_path t path false ≡ missing names [] → IsMissingInReachedDirectory t names → MissesName (missing names [])
        → entries_after_make_dir composes t (resolution_of_path t path false) ≡ entries_of_node_if_directory (Some (node_with_descendant_added (components (slash_before_each_reversed_name (reversed_names_last_one_composed composes names))) (directory none) (Some (directory t)))) → reversed_names_last_one_composed composes names ≡ names
        → DirectoryMadeAtPath path t (entries_after_make_dir composes t (resolution_of_path t path false))
    go [] was missing_in is_name after kept = absurd missing_in
    go (name ∷ below) was (here, leads, free) is_name after kept =
        let are : AreComponents (name ∷ below) = from_all (name ∷ below) (is_name, real-names t below (directory here) tree leads) in
        let new : Names = entries_of_node_if_directory (Some (node_with_descendant_added (reverse (name ∷ below)) (directory none) (Some (directory t)))) in
        let is : new ≡ entries_after_make_dir composes t (resolution_of_path t path false) =
        sym (after ∙ ap (λ (l : List (List ℕ)). entries_of_node_if_directory (Some (node_with_descendant_added l (directory none) (Some (directory t))))) (ap (λ (l : List (List ℕ)). components (slash_before_each_reversed_name l)) kept ∙ components-slashed (name ∷ below) are)) in
        subst (DirectoryMadeAtPath path t) is (record {
          names = name ∷ below;
          was = was;
          is = shown t new path (name ∷ below) (directory none) was (is_there t name below here leads free)
              (spot-alike (name ∷ below) (directory none) t new false (made_apart t name below here leads free) (was_free t name below here leads free) (is_there t name below here leads free) path);
          free = was_free t name below here leads free;
          there = is_there t name below here leads free;
          apart = made_apart t name below here leads free;
          alike = λ q follow. spot-alike (name ∷ below) (directory none) t new follow (made_apart t name below here leads free) (was_free t name below here leads free) (is_there t name below here leads free) q;
        })

-- Where a path misses its last name alone, a directory is made there: nothing stands in its way. That name is to be kept as
-- it is.
pub made-missing : (composes : Bool) (t : Names) (path : List ℕ) (names : List (List ℕ)) → IsValidTree (directory t) → resolution_of_path t path false ≡ missing names [] → reversed_names_last_one_composed composes names ≡ names
    → answer_to_make_dir composes t (resolution_of_path t path false) ≡ makes.Made
made-missing composes t path names tree was kept =
    ap (answer_to_make_dir composes t) was
    ∙ ap make_answer_of_add_error (ap (λ (l : List (List ℕ)). add_error_at_path t (slash_before_each_reversed_name l)) kept
    ∙ fits names was (subst (ResolutionAgreesWithNames t) was (spot-by_names t path false)) (subst MissesName was (missed-name t path false)))
  where
    fits : (names : List (List ℕ)) → resolution_of_path t path false ≡ missing names [] → IsMissingInReachedDirectory t names → MissesName (missing names []) → add_error_at_path t (slash_before_each_reversed_name names) ≡ None
    fits [] was missing_in is_name = absurd missing_in
    fits (name ∷ below) was (here, leads, free) is_name =
        let all = real-names t below (directory here) tree leads in
        ap (λ b. if b then add_error_at_names (components (slash_before_each_reversed_name (name ∷ below))) (Some (directory t)) else Some refusals.NotNormal) (full_path-slashed name below is_name all)
        ∙ ap (λ (l : List (List ℕ)). add_error_at_names l (Some (directory t))) (components-slashed (name ∷ below) (from_all (name ∷ below) (is_name, all)))
        ∙ missing-free t path false name below [] was

-- how a path comes to a name in a directory
abbrev node_of_last : Option LastNameWithNode → Option Node
node_of_last None = None
node_of_last (Some last) = last.node

abbrev name_of_last : Option LastNameWithNode → List ℕ
name_of_last None = []
name_of_last (Some last) = last.name

came_to_none : (at : PathResolution) (name : List ℕ) → last_name_of_resolution at ≡ Some (record { name = name; node = None }) → (below : List (List ℕ)) × (at ≡ missing (name ∷ below) [])
came_to_none (reached [] node) name e = absurd (cc e)
came_to_none (reached (n ∷ below) node) name e = absurd (cc (ap node_of_last e))
came_to_none (missing [] rest) name e = absurd (cc e)
came_to_none (missing (n ∷ below) []) name e = (below, ap (λ (l : List ℕ). missing (l ∷ below) []) (ap name_of_last e))
came_to_none (missing (n ∷ below) (component ∷ rest)) name e = absurd (cc e)
came_to_none nowhere name e = absurd (cc e)
came_to_none endless name e = absurd (cc e)

stands_there : (composes : Bool) (t : Names) (at : PathResolution) (name : List ℕ) (node : Node) → last_name_of_resolution at ≡ Some (record { name = name; node = Some node }) → answer_to_make_dir composes t at ≡ makes.Exists
stands_there composes t (reached [] end) name node e = absurd (cc e)
stands_there composes t (reached (n ∷ below) end) name node e = refl
stands_there composes t (missing [] rest) name node e = absurd (cc e)
stands_there composes t (missing (n ∷ below) []) name node e = absurd (cc (ap node_of_last e))
stands_there composes t (missing (n ∷ below) (component ∷ rest)) name node e = absurd (cc e)
stands_there composes t nowhere name node e = absurd (cc e)
stands_there composes t endless name node e = absurd (cc e)

-- In a directory that is there a name is never refused for its parent.
pub made-in : (composes : Bool) (t : Names) (path : List ℕ) → IsValidTree (directory t) → AnswersMakeInExistingParent composes t path (answer_to_make_dir composes t (resolution_of_path t path false))
made-in composes t path tree above name names spells is_name keeps there =
    ap (λ (p : List ℕ). answer_to_make_dir composes t (resolution_of_path t p false)) spells
    ∙ go (child_by_name names name) (last-joined names name is_name t above there)
  where
    go : (o : Option Node) → last_name_of_resolution (resolution_of_path t (path_joined_with_slash above name) false) ≡ Some (record { name = name; node = o }) → answer_to_make_dir composes t (resolution_of_path t (path_joined_with_slash above name) false) ≡ make_answer_by_existing_node o
    go None e =
        let came = came_to_none (resolution_of_path t (path_joined_with_slash above name) false) name e in
        made-missing composes t (path_joined_with_slash above name) (name ∷ came.0) tree came.1 (ap (λ (l : List ℕ). l ∷ came.0) keeps)
    go (Some node) e = stands_there composes t (resolution_of_path t (path_joined_with_slash above name) false) name node e

-- a tree without a node that is no directory
cut_apart : (at : List (List ℕ)) (t : Names) (node : Node) → IsValidTree (directory t) → descendant_by_names at (Some (directory t)) ≡ Some node → is_directory node ≡ false
    → (names : List (List ℕ)) → Stays at names (Some (directory (entries_of_node_if_directory (Some (node_without_descendant at (directory t)))))) (Some (directory t))
cut_apart [] t node tree e leaf names = absurd (clash node leaf e)
  where
    clash : (n : Node) → is_directory n ≡ false → Some (directory t) ≡ Some n → ⊥
    clash (file bytes) leaf e = cc
    clash (link target) leaf e = cc
    clash (directory inner) leaf e = cc
    clash other leaf e = cc
cut_apart (n ∷ rest) t node tree e leaf names = cut-stays n rest t tree (HasLeaf-from rest (child_by_name t n) node e leaf) names

outlined_reached : (at : PathResolution) (names : List (List ℕ)) (node : Node) → resolution_without_children at ≡ reached names node → (inner : Node) × (at ≡ reached names inner) × (node_without_children inner ≡ node)
outlined_reached (reached more inner) names node e = (inner, ap (λ (l : List (List ℕ)). reached l inner) (ap names_of_spot e), ap (node_of_spot other) e)
outlined_reached (missing more left) names node e = absurd (cc e)
outlined_reached nowhere names node e = absurd (cc e)
outlined_reached endless names node e = absurd (cc e)

-- a path that came to what was removed leads nowhere
left_gone : (before now : Names) (path : List ℕ) (names : List (List ℕ)) (node : Node) → resolution_of_path before path false ≡ reached names node → descendant_by_names (reverse names) (Some (directory now)) ≡ None
    → ResolvesAlikeUnlessAtNode false names node (resolution_of_path now path false) (resolution_of_path before path false) → look now path false ≡ absent
left_gone before now path names node was gone (inl comes) = ap lookup_result_of_resolution comes.is_missing
left_gone before now path names node was gone (inr e) =
    let met = outlined_reached (resolution_of_path now path false) names (node_without_children node) (e ∙ ap resolution_without_children was) in
    absurd (clash (subst (ResolutionAgreesWithNames now) met.1 (spot-by_names now path false)) gone)
  where
    clash : {n : Node} → descendant_by_names (reverse names) (Some (directory now)) ≡ Some n → descendant_by_names (reverse names) (Some (directory now)) ≡ None → ⊥
    clash p q = cc

-- how a node comes to be removed
removed_leaf : (t : Names) (at : PathResolution) → ResolutionAgreesWithNames t at → answer_to_remove_node at ≡ removes.Removed
    → (name : List ℕ) × (below : List (List ℕ)) × (node : Node) × (at ≡ reached (name ∷ below) node) × (is_directory node ≡ false)
removed_leaf t (reached [] node) leads e = absurd (clash node leads e)
  where
    clash : (n : Node) → Some (directory t) ≡ Some n → answer_to_remove_node (reached [] n) ≡ removes.Removed → ⊥
    clash (file bytes) p q = cc
    clash (link target) p q = cc
    clash (directory inner) p q = cc
    clash other p q = cc
removed_leaf t (reached (name ∷ below) (file bytes)) leads e = (name, below, file bytes, refl, refl)
removed_leaf t (reached (name ∷ below) (link target)) leads e = (name, below, link target, refl, refl)
removed_leaf t (reached (name ∷ below) (directory inner)) leads e = absurd (cc e)
removed_leaf t (reached (name ∷ below) other) leads e = (name, below, other, refl, refl)
removed_leaf t (missing names rest) leads e = absurd (cc e)
removed_leaf t nowhere leads e = absurd (cc e)
removed_leaf t endless leads e = absurd (cc e)

-- where a node was removed nothing is there, and all else leads where it led
pub removes-gone : (t : Names) (path : List ℕ) → IsValidTree (directory t) → answer_to_remove_node (resolution_of_path t path false) ≡ removes.Removed → NodeRemovedAtPath path t (entries_after_remove_node t (resolution_of_path t path false))
removes-gone t path tree answer = go found.0 found.1 found.2 found.3 found.4
  where
    found : (name : List ℕ) × (below : List (List ℕ)) × (node : Node) × (resolution_of_path t path false ≡ reached (name ∷ below) node) × (is_directory node ≡ false)
    found = removed_leaf t (resolution_of_path t path false) (spot-by_names t path false) answer

    go : (name : List ℕ) (below : List (List ℕ)) (node : Node) → resolution_of_path t path false ≡ reached (name ∷ below) node → is_directory node ≡ false → NodeRemovedAtPath path t (entries_after_remove_node t (resolution_of_path t path false))
    go name below node was leaf =
        let both = removed-gone t path false name below node tree was leaf in
        let new : Names = entries_after_remove_node t (resolution_of_path t path false) in
        let is : entries_of_node_if_directory (Some (node_without_descendant (reverse (name ∷ below)) (directory t))) ≡ new =
        sym (ap (entries_after_remove_node t) was ∙ ap (λ b. if b then t else entries_of_node_if_directory (Some (node_without_descendant (reverse (name ∷ below)) (directory t)))) leaf) in
        let apart : TreesAgreeExceptAtNames (name ∷ below) new t =
        subst (λ (n : Names). TreesAgreeExceptAtNames (name ∷ below) n t) is (reversed (name ∷ below) (entries_of_node_if_directory (Some (node_without_descendant (reverse (name ∷ below)) (directory t)))) t (cut_apart (reverse (name ∷ below)) t node tree both.0 leaf)) in
        record {
          names = name ∷ below;
          node = node;
          is_leaf = leaf;
          was = was;
          is = left_gone t new path (name ∷ below) node was both.1 (spot-alike (name ∷ below) node new t false apart both.1 both.0 path);
          stood = both.0;
          gone = both.1;
          apart = apart;
          alike = λ q follow. spot-alike (name ∷ below) node new t follow apart both.1 both.0 q;
        }

-- a directory that a path led to is still one after another was made
pub makes-directory : {path : List ℕ} {before now : Names} → DirectoryMadeAtPath path before now → (q : List ℕ) (follow : Bool) (names : List (List ℕ)) (inner : Names) → resolution_of_path before q follow ≡ reached names (directory inner)
    → (more : Names) × (resolution_of_path now q follow ≡ reached names (directory more))
makes-directory {path} {before} {now} made q follow names inner was = go (made.alike q follow)
  where
    leads : (node : Node) → resolution_of_path now q follow ≡ reached names node → node_without_children node ≡ directory none → (more : Names) × (resolution_of_path now q follow ≡ reached names (directory more))
    leads (file bytes) e is = absurd (cc is)
    leads (link target) e is = absurd (cc is)
    leads (directory more) e is = (more, e)
    leads other e is = absurd (cc is)

    go : ResolvesAlikeUnlessAtNode follow made.names (directory none) (resolution_of_path before q follow) (resolution_of_path now q follow) → (more : Names) × (resolution_of_path now q follow ≡ reached names (directory more))
    go (inl comes) = absurd (clash comes.is_missing was)
      where
        clash : {l r : List (List ℕ)} → resolution_of_path before q follow ≡ missing l r → resolution_of_path before q follow ≡ reached names (directory inner) → ⊥
        clash p q = cc
    go (inr e) =
        let met = outlined_reached (resolution_of_path now q follow) names (directory none) (sym e ∙ ap resolution_without_children was) in
        leads met.0 met.1 met.2

-- a directory that stands at some names, no link followed, still stands there after another was made
pub made-stays : {path : List ℕ} {before now : Names} → DirectoryMadeAtPath path before now → (names : List (List ℕ)) (inner : Names) → descendant_by_names (reverse names) (Some (directory before)) ≡ Some (directory inner)
    → (more : Names) × (descendant_by_names (reverse names) (Some (directory now)) ≡ Some (directory more))
made-stays {path} {before} {now} made names inner was = elim (made.apart names) [
  | inl is ↦ absurd (clash (ap (λ (l : List (List ℕ)). descendant_by_names (reverse l) (Some (directory before))) is ∙ made.free) was)
  | inr e ↦ alike_directory (descendant_by_names (reverse names) (Some (directory now))) (sym (ap (option_map node_without_children) was) ∙ e)
]
  where
    clash : descendant_by_names (reverse names) (Some (directory before)) ≡ None → descendant_by_names (reverse names) (Some (directory before)) ≡ Some (directory inner) → ⊥
    clash p q = cc

-- and after a node that is no directory was removed
pub removed-stays : {path : List ℕ} {before now : Names} → NodeRemovedAtPath path before now → (names : List (List ℕ)) (inner : Names) → descendant_by_names (reverse names) (Some (directory before)) ≡ Some (directory inner)
    → (more : Names) × (descendant_by_names (reverse names) (Some (directory now)) ≡ Some (directory more))
removed-stays {path} {before} {now} removed names inner was = elim (removed.apart names) [
  | inl is ↦ absurd (clash removed.node (sym was ∙ ap (λ (l : List (List ℕ)). descendant_by_names (reverse l) (Some (directory before))) is ∙ removed.stood) removed.is_leaf)
  | inr e ↦ alike_directory (descendant_by_names (reverse names) (Some (directory now))) (sym (ap (option_map node_without_children) was) ∙ sym e)
]
  where
    clash : (n : Node) → Some (directory inner) ≡ Some n → is_directory n ≡ false → ⊥
    clash (file bytes) p q = cc
    clash (link target) p q = cc
    clash (directory other_names) p q = cc
    clash other p q = cc
