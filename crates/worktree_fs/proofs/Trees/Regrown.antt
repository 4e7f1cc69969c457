-- A tree with one node more or less, at names that lead to it: all else stands as it stood.
use Rattle.std.proofs.Common.{◌≡◌, ◌⊎◌, inl, inr, ℕ, Bool, true, false, List, [], ◌∷◌, ◌++◌, Option, Some, None, if◌then◌else◌, refl, sym, ap, subst, ◌∙◌}
use Rattle.std.specs.Prelude.{option_map}
use Rattle.std.specs.Str.{bytes_eq}
use Rattle.std.specs.Ordering.{is_lt}
use Rattle.worktree_fs.specs.Tree.{Node, Names, file, link, directory, other, none, named, child_by_name, is_directory, is_nil}
use Rattle.worktree_fs.specs.Naming.{IsValidTree}
use Rattle.worktree_fs.specs.Grow.{entries_with_node_at_name, node_with_descendant_added, entries_of_node_if_directory}
use Rattle.worktree_fs.specs.Order.{compare_path_bytes}
use Rattle.worktree_fs.specs.Changes.{node_without_descendant, entries_without_descendant}
use Rattle.worktree_fs.specs.ByNames.{descendant_by_names}
use Rattle.worktree_fs.specs.Outlines.{node_without_children}
use Rattle.worktree_fs.proofs.Routes.ByNames.{bytes_same, gone, from_none}
use Rattle.worktree_fs.proofs.Trees.Grown.{same_name}
use Rattle.worktree_fs.proofs.Trees.Subtree.{IsTree-child}

-- names at which nothing stands, in a directory to which all but the last of them lead
abbrev pub HasGap : List (List ℕ) → Option Node → Type 0
HasGap [] from = from ≡ None
HasGap (name ∷ rest) from = (names : Names) × (from ≡ Some (directory names)) × HasGap rest (child_by_name names name)

-- names that lead to a node that is no directory
abbrev pub HasLeaf : List (List ℕ) → Option Node → Type 0
HasLeaf [] from = (node : Node) × (from ≡ Some node) × (is_directory node ≡ false)
HasLeaf (name ∷ rest) from = (names : Names) × (from ≡ Some (directory names)) × HasLeaf rest (child_by_name names name)

pub HasGap-push : (names : List (List ℕ)) (name : List ℕ) (from : Option Node) (here : Names) → descendant_by_names names from ≡ Some (directory here) → child_by_name here name ≡ None → HasGap (names ++ name ∷ []) from
HasGap-push [] name from here e free = (here, e, free)
HasGap-push (n ∷ names) name None here e free = absurd (clash (sym (from_none names) ∙ e))
  where
    clash : None ≡ Some (directory here) → ⊥
    clash q = cc
HasGap-push (n ∷ names) name (Some (directory inner)) here e free = (inner, refl, HasGap-push names name (child_by_name inner n) here e free)
HasGap-push (n ∷ names) name (Some (file bytes)) here e free = absurd (clash (sym (from_none names) ∙ e))
  where
    clash : None ≡ Some (directory here) → ⊥
    clash q = cc
HasGap-push (n ∷ names) name (Some (link target)) here e free = absurd (clash (sym (from_none names) ∙ e))
  where
    clash : None ≡ Some (directory here) → ⊥
    clash q = cc
HasGap-push (n ∷ names) name (Some other) here e free = absurd (clash (sym (from_none names) ∙ e))
  where
    clash : None ≡ Some (directory here) → ⊥
    clash q = cc

pub nothing_there : (names : List (List ℕ)) (node : Node) → descendant_by_names names None ≡ Some node → ⊥
nothing_there names node e = clash (sym (from_none names) ∙ e)
  where
    clash : None ≡ Some node → ⊥
    clash q = cc

pub HasLeaf-from : (names : List (List ℕ)) (from : Option Node) (node : Node) → descendant_by_names names from ≡ Some node → is_directory node ≡ false → HasLeaf names from
HasLeaf-from [] from node e leaf = (node, e, leaf)
HasLeaf-from (n ∷ names) None node e leaf = absurd (nothing_there names node e)
HasLeaf-from (n ∷ names) (Some (directory inner)) node e leaf = (inner, refl, HasLeaf-from names (child_by_name inner n) node e leaf)
HasLeaf-from (n ∷ names) (Some (file bytes)) node e leaf = absurd (nothing_there names node e)
HasLeaf-from (n ∷ names) (Some (link target)) node e leaf = absurd (nothing_there names node e)
HasLeaf-from (n ∷ names) (Some other) node e leaf = absurd (nothing_there names node e)

-- the names in a directory after one was put there
pick_past : (n k m : List ℕ) (node old : Node) (more : Option Node) → bytes_eq k n ≡ true
    → (if bytes_eq n m then Some node else more) ≡ (if bytes_eq n m then Some node else if bytes_eq k m then Some old else more)
pick_past n k m node old more same =
    let e : bytes_eq k m ≡ bytes_eq n m = ap (λ (x : List ℕ). bytes_eq x m) (bytes_same k n same) in
    go (bytes_eq n m) (bytes_eq k m) e
  where
    go : (a b : Bool) → b ≡ a → (if a then Some node else more) ≡ (if a then Some node else if b then Some old else more)
    go true b e = refl
    go false true e = absurd (cc e)
    go false false e = refl

pick_before : (n k m : List ℕ) (node old : Node) (more : Option Node) → bytes_eq k n ≡ false
    → (if bytes_eq k m then Some old else if bytes_eq n m then Some node else more) ≡ (if bytes_eq n m then Some node else if bytes_eq k m then Some old else more)
pick_before n k m node old more differs = go (bytes_eq n m) (bytes_eq k m) (λ e. ap (λ (x : List ℕ). bytes_eq k x) (bytes_same n m e))
  where
    go : (a b : Bool) → (a ≡ true → bytes_eq k n ≡ b) → (if b then Some old else if a then Some node else more) ≡ (if a then Some node else if b then Some old else more)
    go true true e = absurd (clash (sym differs ∙ e refl))
      where
        clash : false ≡ true → ⊥
        clash q = cc
    go true false e = refl
    go false b e = refl

pub child-put : (n : List ℕ) (node : Node) (names : Names) (m : List ℕ) → child_by_name (entries_with_node_at_name n node names) m ≡ (if bytes_eq n m then Some node else child_by_name names m)
child-put n node none m = refl
child-put n node (named k old rest) m = go (bytes_eq k n) refl (is_lt (compare_path_bytes n k)) (child-put n node rest m)
  where
    go : (b : Bool) → bytes_eq k n ≡ b → (lt : Bool) → child_by_name (entries_with_node_at_name n node rest) m ≡ (if bytes_eq n m then Some node else child_by_name rest m)
        → child_by_name (if b then named n node rest else if lt then named n node (named k old rest) else named k old (entries_with_node_at_name n node rest)) m
        ≡ (if bytes_eq n m then Some node else if bytes_eq k m then Some old else child_by_name rest m)
    go true e lt ih = pick_past n k m node old (child_by_name rest m) e
    go false e true ih = refl
    go false e false ih = ap (λ (o : Option Node). if bytes_eq k m then Some old else o) ih ∙ pick_before n k m node old (child_by_name rest m) e

-- the names in a directory from which one was taken, or the node of which was
pub child-cut_other : (n : List ℕ) (below : List (List ℕ)) (names : Names) (m : List ℕ) → bytes_eq n m ≡ false → child_by_name (entries_without_descendant n below names) m ≡ child_by_name names m
child-cut_other n below none m differs = refl
child-cut_other n below (named k node more) m differs = go (bytes_eq k n) refl (is_nil below) (child-cut_other n below more m differs)
  where
    drops : (b : Bool) → b ≡ false → child_by_name more m ≡ (if b then Some node else child_by_name more m)
    drops true e = absurd (cc e)
    drops false e = refl

    swaps : (b : Bool) → b ≡ false → (x y : Node) → (if b then Some x else child_by_name more m) ≡ (if b then Some y else child_by_name more m)
    swaps true e x y = absurd (cc e)
    swaps false e x y = refl

    go : (b : Bool) → bytes_eq k n ≡ b → (last : Bool) → child_by_name (entries_without_descendant n below more) m ≡ child_by_name more m
        → child_by_name (if b then (if last then more else named k (node_without_descendant below node) more) else named k node (entries_without_descendant n below more)) m ≡ (if bytes_eq k m then Some node else child_by_name more m)
    go true e true ih = drops (bytes_eq k m) (ap (λ (x : List ℕ). bytes_eq x m) (bytes_same k n e) ∙ differs)
    go true e false ih = swaps (bytes_eq k m) (ap (λ (x : List ℕ). bytes_eq x m) (bytes_same k n e) ∙ differs) (node_without_descendant below node) node
    go false e last ih = ap (λ (o : Option Node). if bytes_eq k m then Some node else o) ih

pub child-cut_same : (n next : List ℕ) (below : List (List ℕ)) (names : Names) → child_by_name (entries_without_descendant n (next ∷ below) names) n ≡ option_map (node_without_descendant (next ∷ below)) (child_by_name names n)
child-cut_same n next below none = refl
child-cut_same n next below (named k node more) = go (bytes_eq k n) refl (child-cut_same n next below more)
  where
    go : (b : Bool) → bytes_eq k n ≡ b → child_by_name (entries_without_descendant n (next ∷ below) more) n ≡ option_map (node_without_descendant (next ∷ below)) (child_by_name more n)
        → child_by_name (if b then named k (node_without_descendant (next ∷ below) node) more else named k node (entries_without_descendant n (next ∷ below) more)) n ≡ option_map (node_without_descendant (next ∷ below)) (if b then Some node else child_by_name more n)
    go true e ih = ap (λ b. if b then Some (node_without_descendant (next ∷ below) node) else child_by_name more n) e
    go false e ih = ap (λ b. if b then Some node else child_by_name (entries_without_descendant n (next ∷ below) more) n) e ∙ ih

-- at other names than those there stands what stood there, by its outline
abbrev pub Stays : List (List ℕ) → List (List ℕ) → Option Node → Option Node → Type 0
Stays at names before now = (names ≡ at) ⊎ (option_map node_without_children (descendant_by_names names before) ≡ option_map node_without_children (descendant_by_names names now))

one_more : (at names : List (List ℕ)) (n : List ℕ) (before now : Option Node) (a b : Option Node) → child_by_name (entries_of_node_if_directory before) n ≡ a → child_by_name (entries_of_node_if_directory now) n ≡ b → Stays at names a b → Stays (n ∷ at) (n ∷ names) before now
one_more at names n before now a b c d (inl is) = inl (ap (λ (l : List (List ℕ)). n ∷ l) is)
one_more at names n before now a b c d (inr e) = inr (ap (λ (o : Option Node). option_map node_without_children (descendant_by_names names o)) c ∙ e ∙ ap (λ (o : Option Node). option_map node_without_children (descendant_by_names names o)) (sym d))

pub grown-stays : (at : List (List ℕ)) (from : Option Node) → HasGap at from → (names : List (List ℕ)) → Stays at names from (Some (node_with_descendant_added at (directory none) from))
grown-stays [] from gap [] = inl refl
grown-stays [] from gap (m ∷ names) = inr (ap (λ (o : Option Node). option_map node_without_children (descendant_by_names (m ∷ names) o)) gap)
grown-stays (n ∷ rest) from (inner, is, gap) [] = inr (ap (option_map node_without_children) is)
grown-stays (n ∷ rest) from (inner, is, gap) (m ∷ names) =
    subst (λ (o : Option Node). Stays (n ∷ rest) (m ∷ names) o (Some (node_with_descendant_added (n ∷ rest) (directory none) o))) (sym is) (go (bytes_eq n m) refl (grown-stays rest (child_by_name inner n) gap names))
  where
    made : Node
    made = node_with_descendant_added rest (directory none) (child_by_name inner n)

    go : (b : Bool) → bytes_eq n m ≡ b → Stays rest names (child_by_name inner n) (Some made) → Stays (n ∷ rest) (m ∷ names) (Some (directory inner)) (Some (directory (entries_with_node_at_name n made inner)))
    go true e ih =
        subst (λ (x : List ℕ). Stays (n ∷ rest) (x ∷ names) (Some (directory inner)) (Some (directory (entries_with_node_at_name n made inner)))) (bytes_same n m e)
        (one_more rest names n (Some (directory inner)) (Some (directory (entries_with_node_at_name n made inner))) (child_by_name inner n) (Some made) refl (child-put n made inner n ∙ ap (λ b. if b then Some made else child_by_name inner n) (same_name n n refl)) ih)
    go false e ih = inr (ap (λ (o : Option Node). option_map node_without_children (descendant_by_names names o)) (sym (child-put n made inner m ∙ ap (λ b. if b then Some made else child_by_name inner m) e)))

pub grown-there : (at : List (List ℕ)) (node : Node) (from : Option Node) → descendant_by_names at (Some (node_with_descendant_added at node from)) ≡ Some node
grown-there [] node from = refl
grown-there (n ∷ rest) node from =
    let made : Node = node_with_descendant_added rest node (child_by_name (entries_of_node_if_directory from) n) in
    ap (descendant_by_names rest) (child-put n made (entries_of_node_if_directory from) n ∙ ap (λ b. if b then Some made else child_by_name (entries_of_node_if_directory from) n) (same_name n n refl))
    ∙ grown-there rest node (child_by_name (entries_of_node_if_directory from) n)

no_names : (node : Node) → is_directory node ≡ false → entries_of_node_if_directory (Some node) ≡ none
no_names (file bytes) leaf = refl
no_names (link target) leaf = refl
no_names (directory names) leaf = absurd (cc leaf)
no_names other leaf = refl

below_leaf : (m : List ℕ) (names : List (List ℕ)) (node : Node) → is_directory node ≡ false → descendant_by_names (m ∷ names) (Some node) ≡ None
below_leaf m names node leaf = ap (λ (inner : Names). descendant_by_names names (child_by_name inner m)) (no_names node leaf) ∙ from_none names

cut_last : (n : List ℕ) (inner : Names) → IsValidTree (directory inner) → HasLeaf [] (child_by_name inner n) → (names : List (List ℕ))
    → Stays (n ∷ []) (n ∷ names) (Some (directory (entries_without_descendant n [] inner))) (Some (directory inner))
cut_last n inner tree leaf [] = inl refl
cut_last n inner tree leaf (y ∷ names) = inr (
    ap (option_map node_without_children) (ap (descendant_by_names (y ∷ names)) (gone n [] inner tree.0.distinct tree.1) ∙ from_none (y ∷ names))
    ∙ sym (ap (option_map node_without_children) (ap (descendant_by_names (y ∷ names)) leaf.1 ∙ below_leaf y names leaf.0 leaf.2))
    )

cut_at : (n m : List ℕ) (rest : List (List ℕ)) (inner : Names) (names : List (List ℕ)) (b : Bool) → bytes_eq n m ≡ b
    → Stays (n ∷ rest) (n ∷ names) (Some (directory (entries_without_descendant n rest inner))) (Some (directory inner))
    → Stays (n ∷ rest) (m ∷ names) (Some (directory (entries_without_descendant n rest inner))) (Some (directory inner))
cut_at n m rest inner names true e here = subst (λ (x : List ℕ). Stays (n ∷ rest) (x ∷ names) (Some (directory (entries_without_descendant n rest inner))) (Some (directory inner))) (bytes_same n m e) here
cut_at n m rest inner names false e here = inr (ap (λ (o : Option Node). option_map node_without_children (descendant_by_names names o)) (child-cut_other n rest inner m e))

pub cut-stays : (n : List ℕ) (rest : List (List ℕ)) (inner : Names) → IsValidTree (directory inner) → HasLeaf rest (child_by_name inner n) → (names : List (List ℕ))
    → Stays (n ∷ rest) names (Some (directory (entries_without_descendant n rest inner))) (Some (directory inner))
cut-stays n [] inner tree leaf [] = inr refl
cut-stays n (next ∷ below) inner tree leaf [] = inr refl
cut-stays n [] inner tree leaf (m ∷ names) = cut_at n m [] inner names (bytes_eq n m) refl (cut_last n inner tree leaf names)
cut-stays n (next ∷ below) inner tree (deeper, is, more) (m ∷ names) =
    cut_at n m (next ∷ below) inner names (bytes_eq n m) refl
    (one_more (next ∷ below) names n (Some (directory (entries_without_descendant n (next ∷ below) inner))) (Some (directory inner)) (Some (directory (entries_without_descendant next below deeper))) (Some (directory deeper))
    (child-cut_same n next below inner ∙ ap (option_map (node_without_descendant (next ∷ below))) is) is
    (cut-stays next below deeper (IsTree-child inner n (directory deeper) tree.1 is) more names))
