-- Where a last link is followed, none is found.
use Rattle.std.proofs.Common.{◌≡◌, ℕ, zero, suc, List, [], ◌∷◌, ◌++◌, Bool, true, false, cond, Option, Some, None, Result, Ok, IfOk, refl, ap, subst}
use Rattle.gitbase_core.specs.Path.{components}
use Rattle.worktree_fs.specs.Answers.{read_answer_of_lookup}
use Rattle.worktree_fs.specs.declared.answers.ReadAnswer.{ReadAnswer}
use Rattle.worktree_fs.specs.declared.answers.ReadAnswer.TheVariants as answers
use Rattle.worktree_fs.specs.declared.answers.ReadError.{ReadError}
use Rattle.worktree_fs.specs.Tree.{Node, Names, file, link, directory, other, DirectoryWithParents, LinkResolver, LookupResult, PathResolution, lookup_result_of_resolution, reached, nowhere, reversed_names_from_root, resolution_of_path, found, absent, too_many_links, child_by_name, child_directory_with_parents, parent_directory_or_root, directory_where_target_begins, is_utf8_without_nul, is_dot, is_dot_dot, is_nil, resolve_from_node, resolver_continuations, resolve_components_by_link_resolver, link_resolver_with_limit, look}

-- a path leads to no link
abbrev pub NoLink : LookupResult → Type 0
NoLink (found (file bytes)) = Unit {0}
NoLink (found (link target)) = ⊥
NoLink (found (directory names)) = Unit {0}
NoLink (found other) = Unit {0}
NoLink absent = Unit {0}
NoLink too_many_links = Unit {0}

NoLink-if : (b : Bool) (x y : PathResolution) → NoLink (lookup_result_of_resolution x) → NoLink (lookup_result_of_resolution y) → NoLink (lookup_result_of_resolution (cond b x y))
NoLink-if true x y nx ny = nx
NoLink-if false x y nx ny = ny

NoLink-onward : (go : DirectoryWithParents → PathResolution) (jump : LinkResolver) (place : DirectoryWithParents) (rest : List (List ℕ)) (name : List ℕ) (node : Option Node)
    → ((p : DirectoryWithParents) → NoLink (lookup_result_of_resolution (go p))) → ((p : DirectoryWithParents) (target : List ℕ) (more : List (List ℕ)) → NoLink (lookup_result_of_resolution (jump p target more))) → NoLink (lookup_result_of_resolution (resolve_from_node (resolver_continuations go jump true) place rest name node))
NoLink-onward go jump place rest name None along_on jumps = tt
NoLink-onward go jump place rest name (Some (directory names)) along_on jumps = along_on (child_directory_with_parents place name names)
NoLink-onward go jump place rest name (Some (link target)) along_on jumps = jumps place target rest
NoLink-onward go jump place rest name (Some (file bytes)) along_on jumps = NoLink-if (is_nil rest) (reached (name ∷ reversed_names_from_root place) (file bytes)) nowhere tt tt
NoLink-onward go jump place rest name (Some other) along_on jumps = NoLink-if (is_nil rest) (reached (name ∷ reversed_names_from_root place) other) nowhere tt tt

NoLink-along : (jump : LinkResolver) (place : DirectoryWithParents) (rest : List (List ℕ)) → ((p : DirectoryWithParents) (target : List ℕ) (more : List (List ℕ)) → NoLink (lookup_result_of_resolution (jump p target more))) → NoLink (lookup_result_of_resolution (resolve_components_by_link_resolver jump true place rest))
NoLink-along jump place [] jumps = tt
NoLink-along jump place (component ∷ rest) jumps =
    NoLink-if (is_dot component) _ _ (NoLink-along jump place rest jumps)
    (NoLink-if (is_dot_dot component) _ _ (NoLink-along jump (parent_directory_or_root place) rest jumps)
    (NoLink-onward (λ p. resolve_components_by_link_resolver jump true p rest) jump place rest component (child_by_name place.here component) (λ p. NoLink-along jump p rest jumps) jumps))

NoLink-behind : (links : ℕ) (place : DirectoryWithParents) (target : List ℕ) (rest : List (List ℕ)) → NoLink (lookup_result_of_resolution (link_resolver_with_limit links true place target rest))
unfolding link_resolver_with_limit
NoLink-behind zero place target rest = tt
NoLink-behind (suc links) place target rest =
    NoLink-if (is_utf8_without_nul target) _ _ (NoLink-along (link_resolver_with_limit links true) (directory_where_target_begins place target) (components target ++ rest) (NoLink-behind links)) tt

pub NoLink-look : (root : Names) (path : List ℕ) → NoLink (look root path true)
unfolding resolution_of_path
NoLink-look root path = NoLink-if (is_utf8_without_nul path) _ _ (NoLink-along (link_resolver_with_limit 32 true) (record { here = root; above = [] }) (components path) (NoLink-behind 32)) tt

pub link-unfollowed : (root : Names) (path : List ℕ) (follow : Bool) (target : List ℕ) → look root path follow ≡ found (link target) → follow ≡ false
link-unfollowed root path true target e = absurd (subst NoLink e (NoLink-look root path))
link-unfollowed root path false target e = refl

-- a read that answers a link does not follow it
pub read-unfollowed : (root : Names) (path : List ℕ) (follow : Bool) (r : Result ReadAnswer ReadError) → IfOk r (λ answer. answer ≡ read_answer_of_lookup (look root path follow)) → r ≡ Ok answers.IsLink → follow ≡ false
read-unfollowed root path follow r answered is = go (look root path follow) refl (let P : Result ReadAnswer ReadError → Type 0 = λ x. IfOk x (λ answer. answer ≡ read_answer_of_lookup (look root path follow)) in subst P is answered)
  where
    go : (at : LookupResult) → look root path follow ≡ at → answers.IsLink ≡ read_answer_of_lookup (look root path follow) → follow ≡ false
    go (found (file bytes)) at e = absurd (clash (ap read_answer_of_lookup at) e)
      where
        clash : read_answer_of_lookup (look root path follow) ≡ answers.Read → answers.IsLink ≡ read_answer_of_lookup (look root path follow) → ⊥
        clash p q = cc
    go (found (link target)) at e = link-unfollowed root path follow target at
    go (found (directory names)) at e = absurd (clash (ap read_answer_of_lookup at) e)
      where
        clash : read_answer_of_lookup (look root path follow) ≡ answers.IsDirectory → answers.IsLink ≡ read_answer_of_lookup (look root path follow) → ⊥
        clash p q = cc
    go (found other) at e = absurd (clash (ap read_answer_of_lookup at) e)
      where
        clash : read_answer_of_lookup (look root path follow) ≡ answers.Special → answers.IsLink ≡ read_answer_of_lookup (look root path follow) → ⊥
        clash p q = cc
    go absent at e = absurd (clash (ap read_answer_of_lookup at) e)
      where
        clash : read_answer_of_lookup (look root path follow) ≡ answers.Absent → answers.IsLink ≡ read_answer_of_lookup (look root path follow) → ⊥
        clash p q = cc
    go too_many_links at e = absurd (clash (ap read_answer_of_lookup at) e)
      where
        clash : read_answer_of_lookup (look root path follow) ≡ answers.LinkLimit → answers.IsLink ≡ read_answer_of_lookup (look root path follow) → ⊥
        clash p q = cc
