-- A path that leads to a directory with its last link not followed leads there with it followed.
use Rattle.std.proofs.Common.{◌≡◌, ℕ, zero, suc, Bool, true, false, List, [], ◌∷◌, ◌++◌, Option, Some, None, if◌then◌else◌}
use Rattle.gitbase_core.specs.Path.{components}
use Rattle.worktree_fs.specs.Tree.{Names, Node, DirectoryWithParents, PathResolution, LinkResolver, lookup_result_of_resolution, nowhere, resolution_of_path, found, file, link, directory, other, child_by_name, is_utf8_without_nul, is_dot, is_dot_dot, resolve_components_by_link_resolver, link_resolver_with_limit, resolve_components_within_links, look, directory_where_target_begins, parent_directory_or_root, child_directory_with_parents, resolve_from_node, resolver_continuations}

module _ (names : Names) where
  -- a jump that leads to the directory leads there following too
  abbrev Jumps : LinkResolver → LinkResolver → Type 0
  Jumps staying following = (place : DirectoryWithParents) (target : List ℕ) (rest : List (List ℕ)) → lookup_result_of_resolution (staying place target rest) ≡ found (directory names) → lookup_result_of_resolution (following place target rest) ≡ found (directory names)

  abbrev Goes : LinkResolver → LinkResolver → List (List ℕ) → Type 0
  Goes staying following rest = (place : DirectoryWithParents) → lookup_result_of_resolution (resolve_components_by_link_resolver staying false place rest) ≡ found (directory names) → lookup_result_of_resolution (resolve_components_by_link_resolver following true place rest) ≡ found (directory names)

  through : (staying following : LinkResolver) → Jumps staying following → (rest : List (List ℕ)) → Goes staying following rest → (place : DirectoryWithParents) (component : List ℕ) (o : Option Node)
      → lookup_result_of_resolution (resolve_from_node (resolver_continuations (λ p. resolve_components_by_link_resolver staying false p rest) staying false) place rest component o) ≡ found (directory names)
      → lookup_result_of_resolution (resolve_from_node (resolver_continuations (λ p. resolve_components_by_link_resolver following true p rest) following true) place rest component o) ≡ found (directory names)
  through staying following jumps rest goes place component None e = absurd (cc e)
  through staying following jumps rest goes place component (Some (directory sub)) e = goes (child_directory_with_parents place component sub) e
  through staying following jumps [] goes place component (Some (link target)) e = absurd (cc e)
  through staying following jumps (r ∷ rest) goes place component (Some (link target)) e = jumps place target (r ∷ rest) e
  through staying following jumps [] goes place component (Some (file bytes)) e = absurd (cc e)
  through staying following jumps (r ∷ rest) goes place component (Some (file bytes)) e = absurd (cc e)
  through staying following jumps [] goes place component (Some other) e = absurd (cc e)
  through staying following jumps (r ∷ rest) goes place component (Some other) e = absurd (cc e)

  split : (staying following : LinkResolver) → Jumps staying following → (rest : List (List ℕ)) → Goes staying following rest → (place : DirectoryWithParents) (component : List ℕ) (dot up : Bool)
      → lookup_result_of_resolution (if dot then resolve_components_by_link_resolver staying false place rest else if up then resolve_components_by_link_resolver staying false (parent_directory_or_root place) rest else resolve_from_node (resolver_continuations (λ p. resolve_components_by_link_resolver staying false p rest) staying false) place rest component (child_by_name place.here component)) ≡ found (directory names)
      → lookup_result_of_resolution (if dot then resolve_components_by_link_resolver following true place rest else if up then resolve_components_by_link_resolver following true (parent_directory_or_root place) rest else resolve_from_node (resolver_continuations (λ p. resolve_components_by_link_resolver following true p rest) following true) place rest component (child_by_name place.here component)) ≡ found (directory names)
  split staying following jumps rest goes place component true up e = goes place e
  split staying following jumps rest goes place component false true e = goes (parent_directory_or_root place) e
  split staying following jumps rest goes place component false false e = through staying following jumps rest goes place component (child_by_name place.here component) e

  steps : (staying following : LinkResolver) → Jumps staying following → (rest : List (List ℕ)) → Goes staying following rest
  steps staying following jumps [] place e = e
  steps staying following jumps (component ∷ rest) place e = split staying following jumps rest (steps staying following jumps rest) place component (is_dot component) (is_dot_dot component) e

  text_goes : (b : Bool) (l k : PathResolution) → (lookup_result_of_resolution l ≡ found (directory names) → lookup_result_of_resolution k ≡ found (directory names)) → lookup_result_of_resolution (if b then l else nowhere) ≡ found (directory names) → lookup_result_of_resolution (if b then k else nowhere) ≡ found (directory names)
  text_goes true l k f e = f e
  text_goes false l k f e = absurd (cc e)

  all_jumps : (links : ℕ) → Jumps (link_resolver_with_limit links false) (link_resolver_with_limit links true)
  unfolding link_resolver_with_limit
  all_jumps zero place target rest e = absurd (cc e)
  all_jumps (suc links) place target rest e =
      text_goes (is_utf8_without_nul target) (resolve_components_by_link_resolver (link_resolver_with_limit links false) false (directory_where_target_begins place target) (components target ++ rest)) (resolve_components_by_link_resolver (link_resolver_with_limit links true) true (directory_where_target_begins place target) (components target ++ rest))
      (steps (link_resolver_with_limit links false) (link_resolver_with_limit links true) (all_jumps links) (components target ++ rest) (directory_where_target_begins place target)) e

  pub look-follow : (root : Names) (path : List ℕ) → look root path false ≡ found (directory names) → look root path true ≡ found (directory names)
  unfolding resolution_of_path
  look-follow root path e =
      text_goes (is_utf8_without_nul path) (resolve_components_within_links 32 false (record { here = root; above = [] }) (components path)) (resolve_components_within_links 32 true (record { here = root; above = [] }) (components path))
      (steps (link_resolver_with_limit 32 false) (link_resolver_with_limit 32 true) (all_jumps 32) (components path) (record { here = root; above = [] })) e
