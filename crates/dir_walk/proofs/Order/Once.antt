-- Each name once: what the items of a directory give is the sum of what its names give.
use Rattle.std.proofs.Common.{◌≡◌, ℕ, ◌+◌, List, [], ◌∷◌, Bool, true, false, cond, ◌||◌, Option, Some, sum_by, refl, sym, ap, ◌∙◌, arith}
use Rattle.std.specs.Str.{bytes_eq}
use Rattle.std.specs.List.{IsDistinct, AllByRecursion, list_any}
use Rattle.std.specs.Cmp.Lexicographic.{same_text}
use Rattle.std.proofs.lemmas.Cmp.{nat_list_eq_equiv}
use Rattle.std.proofs.lemmas.List.Sums.{sum_by-cons}
use Rattle.gitbase_core.specs.Path.{path_joined_with_slash}
use Rattle.worktree_fs.specs.Last.{found_or_absent}
use Rattle.worktree_fs.specs.Tree.{Node, Names, none, named, entry_names_in_order, child_by_name}
use Rattle.dir_classify.specs.Chosen.{WalkOptions}
use Rattle.dir_classify.specs.Evidence.{PathEvidence}
use Rattle.dir_walk.specs.Walked.{WalkResult, empty_walk_result, merge_walk_results, item, walk_result_of_all_children, walk_result_of_child_by_look}
use Rattle.dir_walk.proofs.Order.Counts.{or-right}
use Rattle.dir_walk.proofs.Order.Lists.{all_weaker}

-- what stands under a name of the directory
abbrev pub item_named : WalkOptions → PathEvidence → List ℕ → Names → List ℕ → WalkResult
item_named o ev d names name = walk_result_of_child_by_look o ev (path_joined_with_slash d name) (found_or_absent (child_by_name names name))

-- a number that two results have together
pub record IsSum (f : WalkResult → ℕ) : Type 0 where
  pub zero : f empty_walk_result ≡ 0
  pub adds : (a b : WalkResult) → f (merge_walk_results a b) ≡ f a + f b

-- a test that two results pass where one of them does
pub record IsOr (f : WalkResult → Bool) : Type 0 where
  pub zero : f empty_walk_result ≡ false
  pub adds : (a b : WalkResult) → f (merge_walk_results a b) ≡ (f a || f b)

pub sum_by-agree : {X : Type 0} (f g : X → ℕ) (xs : List X) → AllByRecursion (λ x. f x ≡ g x) xs → sum_by f xs ≡ sum_by g xs
sum_by-agree f g [] h = refl
sum_by-agree f g (x ∷ xs) h = rw (sum_by-cons f x xs, sum_by-cons g x xs, h.0, sum_by-agree f g xs h.1) refl

pub any-agree : {X : Type 0} (f g : X → Bool) (xs : List X) → AllByRecursion (λ x. f x ≡ g x) xs → list_any f xs ≡ list_any g xs
any-agree f g [] h = refl
any-agree f g (x ∷ xs) h = rw (h.0, any-agree f g xs h.1) refl

pub child-first : (name : List ℕ) (node : Node) (rest : Names) → child_by_name (named name node rest) name ≡ Some node
child-first name node rest = rw (nat_list_eq_equiv.refl name) refl

pub child-later : (name : List ℕ) (node : Node) (rest : Names) (q : List ℕ) → bytes_eq name q ≡ false → child_by_name (named name node rest) q ≡ child_by_name rest q
child-later name node rest q differ = rw differ refl

module _ (o : WalkOptions) (ev : PathEvidence) (d : List ℕ) where
  -- what stands under a name by the node there
  by_node : List ℕ → Option Node → WalkResult
  by_node q node = walk_result_of_child_by_look o ev (path_joined_with_slash d q) (found_or_absent node)

  -- the items of the others are the same without the first name
  same_later : {V : Type 0} (f : WalkResult → V) (name : List ℕ) (node : Node) (rest : Names) → AllByRecursion (λ q. bytes_eq name q ≡ false) (entry_names_in_order rest)
      → AllByRecursion (λ q. f (item_named o ev d (named name node rest) q) ≡ f (item_named o ev d rest q)) (entry_names_in_order rest)
  unfolding by_node
  same_later f name node rest differ =
      all_weaker (λ q. bytes_eq name q ≡ false) (λ q. f (item_named o ev d (named name node rest) q) ≡ f (item_named o ev d rest q)) (entry_names_in_order rest)
      (λ q differ. ap (λ (n : Option Node). f (by_node q n)) (child-later name node rest q differ)) differ

  pub sum_once : (f : WalkResult → ℕ) (is : IsSum f) (names : Names) → IsDistinct bytes_eq (entry_names_in_order names) → f (walk_result_of_all_children o ev d names) ≡ sum_by (λ q. f (item_named o ev d names q)) (entry_names_in_order names)
  unfolding item IsDistinct by_node
  sum_once f is none distinct = is.zero
  sum_once f is (named name node rest) distinct =
      let all : List (List ℕ) = entry_names_in_order rest in
      let here : List ℕ → ℕ = λ q. f (item_named o ev d (named name node rest) q) in
      let there : List ℕ → ℕ = λ q. f (item_named o ev d rest q) in
      let same : sum_by here all ≡ sum_by there all = sum_by-agree here there all (same_later f name node rest distinct.0) in
      let first : here name ≡ f (item o ev (path_joined_with_slash d name) node) = ap (λ (n : Option Node). f (by_node name n)) (child-first name node rest) in
      omega (arith, is.adds (item o ev (path_joined_with_slash d name) node) (walk_result_of_all_children o ev d rest), sum_once f is rest distinct.1, same, first, sum_by-cons here name all)

  pub any_once : (f : WalkResult → Bool) (is : IsOr f) (names : Names) → IsDistinct bytes_eq (entry_names_in_order names) → f (walk_result_of_all_children o ev d names) ≡ list_any (λ q. f (item_named o ev d names q)) (entry_names_in_order names)
  unfolding item IsDistinct by_node
  any_once f is none distinct = is.zero
  any_once f is (named name node rest) distinct =
      let all : List (List ℕ) = entry_names_in_order rest in
      let here : List ℕ → Bool = λ q. f (item_named o ev d (named name node rest) q) in
      let there : List ℕ → Bool = λ q. f (item_named o ev d rest q) in
      let same : list_any here all ≡ list_any there all = any-agree here there all (same_later f name node rest distinct.0) in
      let first : here name ≡ f (item o ev (path_joined_with_slash d name) node) = ap (λ (n : Option Node). f (by_node name n)) (child-first name node rest) in
      is.adds (item o ev (path_joined_with_slash d name) node) (walk_result_of_all_children o ev d rest)
      ∙ ap (λ (b : Bool). f (item o ev (path_joined_with_slash d name) node) || b) (any_once f is rest distinct.1 ∙ sym same)
      ∙ ap (λ (b : Bool). b || list_any here all) (sym first)

  -- a test that an item passes is passed by all items together
  pub any_item : (f : WalkResult → Bool) (is : IsOr f) (names : Names) (name : List ℕ) (node : Node) → child_by_name names name ≡ Some node → f (item o ev (path_joined_with_slash d name) node) ≡ true
      → f (walk_result_of_all_children o ev d names) ≡ true
  unfolding item
  any_item f is none name node there passes = absurd (cc there)
  any_item f is (named n first rest) name node there passes =
      is.adds (item o ev (path_joined_with_slash d n) first) (walk_result_of_all_children o ev d rest) ∙ go (λ at. any_item f is rest name node at passes) (bytes_eq n name) refl there
    where
      go : (child_by_name rest name ≡ Some node → f (walk_result_of_all_children o ev d rest) ≡ true) → (b : Bool) → bytes_eq n name ≡ b → cond b (Some first) (child_by_name rest name) ≡ Some node
          → (f (item o ev (path_joined_with_slash d n) first) || f (walk_result_of_all_children o ev d rest)) ≡ true
      go later true e at =
          let name_is : n ≡ name = same_text n name (sym e) in
          let node_is : first ≡ node = cc in
          ap (λ (b : Bool). b || f (walk_result_of_all_children o ev d rest)) (ap (λ (q : List ℕ). f (item o ev (path_joined_with_slash d q) first)) name_is ∙ ap (λ (x : Node). f (item o ev (path_joined_with_slash d name) x)) node_is ∙ passes)
      go later false e at = or-right (f (item o ev (path_joined_with_slash d n) first)) (f (walk_result_of_all_children o ev d rest)) (later at)
