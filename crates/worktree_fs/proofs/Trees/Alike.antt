-- In two trees that differ in one node each path leads alike, unless it comes to that node.
use Rattle.std.proofs.Common.{◌≡◌, inl, inr, ℕ, zero, suc, Bool, true, false, not, ◌||◌, List, [], ◌∷◌, ◌++◌, Option, Some, None, option_map, reverse, drop, if◌then◌else◌, refl, sym, ap, subst, ◌∙◌}
use Rattle.gitbase_core.specs.Path.{components, is_absolute}
use Rattle.worktree_fs.specs.Tree.{Node, Names, ParentWithChildName, DirectoryWithParents, LinkResolver, PathResolution, reached, missing, file, link, directory, other, none, child_by_name, is_directory, is_utf8_without_nul, is_dot, is_dot_dot, is_nil, reversed_names_from_root, child_directory_with_parents, parent_directory_or_root, root_above_directory, directory_where_target_begins, resolve_from_node, resolver_continuations, resolve_components_by_link_resolver, link_resolver_with_limit, resolution_of_path}
use Rattle.worktree_fs.specs.ByNames.{descendant_by_names}
use Rattle.worktree_fs.specs.Outlines.{node_without_children, ResolvesAlikeUnlessAtNode, TreesAgreeExceptAtNames}
use Rattle.worktree_fs.proofs.Routes.ByNames.{IsChain, IsPlaced, names_above, chain-child}

-- the outline of a node that is no directory is that node
outline-leaf : (node : Node) → is_directory node ≡ false → node_without_children node ≡ node
outline-leaf (file bytes) leaf = refl
outline-leaf (link target) leaf = refl
outline-leaf (directory names) leaf = absurd (cc leaf)
outline-leaf other leaf = refl

alike_none : (o : Option Node) → None ≡ option_map node_without_children o → o ≡ None
alike_none None e = refl
alike_none (Some node) e = absurd (cc e)

alike_leaf : (node : Node) → is_directory node ≡ false → (o : Option Node) → Some node ≡ option_map node_without_children o → o ≡ Some node
alike_leaf node leaf None e = absurd (cc e)
alike_leaf node leaf (Some (file bytes)) e = sym e
alike_leaf node leaf (Some (link target)) e = sym e
alike_leaf node leaf (Some (directory names)) e = absurd (clash node leaf e)
  where
    clash : (n : Node) → is_directory n ≡ false → Some n ≡ Some (directory none) → ⊥
    clash (file bytes) leaf e = cc
    clash (link target) leaf e = cc
    clash (directory inner) leaf e = cc
    clash other leaf e = cc
alike_leaf node leaf (Some other) e = sym e

pub alike_directory : (o : Option Node) → Some (directory none) ≡ option_map node_without_children o → (names : Names) × (o ≡ Some (directory names))
alike_directory None e = absurd (cc e)
alike_directory (Some (file bytes)) e = absurd (cc e)
alike_directory (Some (link target)) e = absurd (cc e)
alike_directory (Some (directory names)) e = (names, refl)
alike_directory (Some other) e = absurd (cc e)

-- a path whose last component is that of a node ends at the node, where a last link is not followed
ends_at : (jump : LinkResolver) (follow : Bool) (place : DirectoryWithParents) (name : List ℕ) (node : Node) (rest : List (List ℕ)) → follow ≡ false → rest ≡ []
    → resolve_from_node (resolver_continuations (λ s. resolve_components_by_link_resolver jump follow s rest) jump follow) place rest name (Some node) ≡ reached (name ∷ reversed_names_from_root place) node
ends_at jump true place name node rest stays ended = absurd (cc stays)
ends_at jump false place name (file bytes) [] stays ended = refl
ends_at jump false place name (link target) [] stays ended = refl
ends_at jump false place name (directory names) [] stays ended = refl
ends_at jump false place name other [] stays ended = refl
ends_at jump false place name node (component ∷ rest) stays ended = absurd (cc ended)

-- the same place in two trees
record Pair (without beside : Names) (p q : DirectoryWithParents) : Type 0 where
  first : IsPlaced without p
  second : IsPlaced beside q
  same : reversed_names_from_root p ≡ reversed_names_from_root q

module _ (at : List (List ℕ)) (there : Node) (without beside : Names) (follow : Bool) where
  pair_up : (h k : Names) (a b : List ParentWithChildName) → IsChain without h a → IsChain beside k b → names_above a ≡ names_above b
      → Pair without beside (parent_directory_or_root (record { here = h; above = a })) (parent_directory_or_root (record { here = k; above = b }))
  pair_up h k [] [] c d e = record { first = c; second = d; same = refl }
  pair_up h k [] (m ∷ b) c d e = absurd (cc e)
  pair_up h k (l ∷ a) [] c d e = absurd (cc e)
  pair_up h k (l ∷ a) (m ∷ b) c d e = record { first = c.1; second = d.1; same = ap (λ (names : List (List ℕ)). drop 1 names) e }

  pair_root : (h k : Names) (a b : List ParentWithChildName) → IsChain without h a → IsChain beside k b
      → Pair without beside (root_above_directory (record { here = h; above = a })) (root_above_directory (record { here = k; above = b }))
  pair_root h k [] [] c d = record { first = c; second = d; same = refl }
  pair_root h k [] (m ∷ b) c d = pair_root h m.holds [] b c d.1
  pair_root h k (l ∷ a) b c d = pair_root l.holds k a b c.1 d

  pair_start : (p q : DirectoryWithParents) (target : List ℕ) → Pair without beside p q → Pair without beside (directory_where_target_begins p target) (directory_where_target_begins q target)
  pair_start p q target pair = go (is_absolute target)
    where
      go : (b : Bool) → Pair without beside (if b then root_above_directory p else p) (if b then root_above_directory q else q)
      go true = pair_root p.here q.here p.above q.above pair.first pair.second
      go false = pair

  abbrev Jumps : LinkResolver → Type 0
  Jumps jump = (p q : DirectoryWithParents) → Pair without beside p q → (target : List ℕ) (rest : List (List ℕ)) → ResolvesAlikeUnlessAtNode follow at there (jump p target rest) (jump q target rest)

  abbrev Goes : LinkResolver → List (List ℕ) → Type 0
  Goes jump rest = (p q : DirectoryWithParents) → Pair without beside p q → ResolvesAlikeUnlessAtNode follow at there (resolve_components_by_link_resolver jump follow p rest) (resolve_components_by_link_resolver jump follow q rest)

  either : (b : Bool) (x y u v : PathResolution) → ResolvesAlikeUnlessAtNode follow at there x u → ResolvesAlikeUnlessAtNode follow at there y v → ResolvesAlikeUnlessAtNode follow at there (if b then x else y) (if b then u else v)
  either true x y u v first second = first
  either false x y u v first second = second

  to_leaf : (p q : DirectoryWithParents) → Pair without beside p q → (name : List ℕ) (node : Node) → ResolvesAlikeUnlessAtNode follow at there (reached (name ∷ reversed_names_from_root p) node) (reached (name ∷ reversed_names_from_root q) node)
  to_leaf p q pair name node = inr (ap (λ (names : List (List ℕ)). reached (name ∷ names) (node_without_children node)) pair.same)

  module _ (jump : LinkResolver) (jumps : Jumps jump) where
    through : (rest : List (List ℕ)) → Goes jump rest → (p q : DirectoryWithParents) → Pair without beside p q → (name : List ℕ) (a b : Option Node) → child_by_name p.here name ≡ a → child_by_name q.here name ≡ b → option_map node_without_children a ≡ option_map node_without_children b
        → ResolvesAlikeUnlessAtNode follow at there (resolve_from_node (resolver_continuations (λ s. resolve_components_by_link_resolver jump follow s rest) jump follow) p rest name a) (resolve_from_node (resolver_continuations (λ s. resolve_components_by_link_resolver jump follow s rest) jump follow) q rest name b)
    through rest goes p q pair name None b c d e =
        subst (λ (o : Option Node). ResolvesAlikeUnlessAtNode follow at there (missing (name ∷ reversed_names_from_root p) rest) (resolve_from_node (resolver_continuations (λ s. resolve_components_by_link_resolver jump follow s rest) jump follow) q rest name o)) (sym (alike_none b e))
        (inr (ap (λ (names : List (List ℕ)). missing (name ∷ names) rest) pair.same))
    through rest goes p q pair name (Some (directory names)) b c d e =
        let inner = alike_directory b e in
        subst (λ (o : Option Node). ResolvesAlikeUnlessAtNode follow at there (resolve_components_by_link_resolver jump follow (child_directory_with_parents p name names) rest) (resolve_from_node (resolver_continuations (λ s. resolve_components_by_link_resolver jump follow s rest) jump follow) q rest name o)) (sym inner.1)
        (goes (child_directory_with_parents p name names) (child_directory_with_parents q name inner.0) (record { first = (c, pair.first); second = (d ∙ inner.1, pair.second); same = ap (λ (l : List (List ℕ)). name ∷ l) pair.same }))
    through rest goes p q pair name (Some (link target)) b c d e =
        subst (λ (o : Option Node). ResolvesAlikeUnlessAtNode follow at there (resolve_from_node (resolver_continuations (λ s. resolve_components_by_link_resolver jump follow s rest) jump follow) p rest name (Some (link target))) (resolve_from_node (resolver_continuations (λ s. resolve_components_by_link_resolver jump follow s rest) jump follow) q rest name o)) (sym (alike_leaf (link target) refl b e))
        (either (follow || not (is_nil rest)) _ _ _ _ (jumps p q pair target rest) (to_leaf p q pair name (link target)))
    through rest goes p q pair name (Some (file bytes)) b c d e =
        subst (λ (o : Option Node). ResolvesAlikeUnlessAtNode follow at there (resolve_from_node (resolver_continuations (λ s. resolve_components_by_link_resolver jump follow s rest) jump follow) p rest name (Some (file bytes))) (resolve_from_node (resolver_continuations (λ s. resolve_components_by_link_resolver jump follow s rest) jump follow) q rest name o)) (sym (alike_leaf (file bytes) refl b e))
        (either (is_nil rest) _ _ _ _ (to_leaf p q pair name (file bytes)) (inr refl))
    through rest goes p q pair name (Some other) b c d e =
        subst (λ (o : Option Node). ResolvesAlikeUnlessAtNode follow at there (resolve_from_node (resolver_continuations (λ s. resolve_components_by_link_resolver jump follow s rest) jump follow) p rest name (Some other)) (resolve_from_node (resolver_continuations (λ s. resolve_components_by_link_resolver jump follow s rest) jump follow) q rest name o)) (sym (alike_leaf other refl b e))
        (either (is_nil rest) _ _ _ _ (to_leaf p q pair name other) (inr refl))

    module _ (apart : TreesAgreeExceptAtNames at without beside) (gone : descendant_by_names (reverse at) (Some (directory without)) ≡ None) (has : descendant_by_names (reverse at) (Some (directory beside)) ≡ Some there) where
      by_component : (rest : List (List ℕ)) → Goes jump rest → (p q : DirectoryWithParents) → Pair without beside p q → (component : List ℕ)
          → ResolvesAlikeUnlessAtNode follow at there (resolve_from_node (resolver_continuations (λ s. resolve_components_by_link_resolver jump follow s rest) jump follow) p rest component (child_by_name p.here component)) (resolve_from_node (resolver_continuations (λ s. resolve_components_by_link_resolver jump follow s rest) jump follow) q rest component (child_by_name q.here component))
      by_component rest goes p q pair component = elim (apart (component ∷ reversed_names_from_root p)) [
        | inl is ↦
            let lost : child_by_name p.here component ≡ None = sym (chain-child without p.here p.above component (child_by_name p.here component) pair.first refl) ∙ ap (λ (l : List (List ℕ)). descendant_by_names (reverse l) (Some (directory without))) is ∙ gone in
            let is_other : component ∷ reversed_names_from_root q ≡ at = ap (λ (l : List (List ℕ)). component ∷ l) (sym pair.same) ∙ is in
            let met : child_by_name q.here component ≡ Some there = sym (chain-child beside q.here q.above component (child_by_name q.here component) pair.second refl) ∙ ap (λ (l : List (List ℕ)). descendant_by_names (reverse l) (Some (directory beside))) is_other ∙ has in
            inl (record {
              rest = rest;
              is_missing = ap (λ (o : Option Node). resolve_from_node (resolver_continuations (λ s. resolve_components_by_link_resolver jump follow s rest) jump follow) p rest component o) lost ∙ ap (λ (l : List (List ℕ)). missing l rest) is;
              ends = λ stays ended. ap (λ (o : Option Node). resolve_from_node (resolver_continuations (λ s. resolve_components_by_link_resolver jump follow s rest) jump follow) q rest component o) met ∙ ends_at jump follow q component there rest stays ended ∙ ap (λ (l : List (List ℕ)). reached l there) is_other;
            })
        | inr e ↦ through rest goes p q pair component (child_by_name p.here component) (child_by_name q.here component) refl refl (
            sym (ap (option_map node_without_children) (chain-child without p.here p.above component (child_by_name p.here component) pair.first refl))
            ∙ e
            ∙ ap (λ (l : List (List ℕ)). option_map node_without_children (descendant_by_names (reverse (component ∷ l)) (Some (directory beside)))) pair.same
            ∙ ap (option_map node_without_children) (chain-child beside q.here q.above component (child_by_name q.here component) pair.second refl))
      ]

      steps : (rest : List (List ℕ)) → Goes jump rest
      steps [] p q pair = inr (ap (λ (names : List (List ℕ)). reached names (directory none)) pair.same)
      steps (component ∷ rest) p q pair =
          either (is_dot component) _ _ _ _ (steps rest p q pair)
          (either (is_dot_dot component) _ _ _ _ (steps rest (parent_directory_or_root p) (parent_directory_or_root q) (pair_up p.here q.here p.above q.above pair.first pair.second pair.same))
          (by_component rest (steps rest) p q pair component))

  module _ (apart : TreesAgreeExceptAtNames at without beside) (gone : descendant_by_names (reverse at) (Some (directory without)) ≡ None) (has : descendant_by_names (reverse at) (Some (directory beside)) ≡ Some there) where
    all_jumps : (links : ℕ) → Jumps (link_resolver_with_limit links follow)
    unfolding link_resolver_with_limit
    all_jumps zero p q pair target rest = inr refl
    all_jumps (suc links) p q pair target rest =
        either (is_utf8_without_nul target) _ _ _ _ (steps (link_resolver_with_limit links follow) (all_jumps links) apart gone has (components target ++ rest) (directory_where_target_begins p target) (directory_where_target_begins q target) (pair_start p q target pair)) (inr refl)

    pub spot-alike : (path : List ℕ) → ResolvesAlikeUnlessAtNode follow at there (resolution_of_path without path follow) (resolution_of_path beside path follow)
    unfolding resolution_of_path
    spot-alike path =
        either (is_utf8_without_nul path) _ _ _ _
        (steps (link_resolver_with_limit 32 follow) (all_jumps 32) apart gone has (components path) (record { here = without; above = [] }) (record { here = beside; above = [] }) (record { first = refl; second = refl; same = refl }))
        (inr refl)
