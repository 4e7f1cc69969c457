-- What lies behind a link, and along a path from the root.
use Rattle.std.proofs.Common.{◌≡◌, ℕ, suc, ◌+◌, ◌-◌, List, [], ◌++◌, Bool, true, false, if◌then◌else◌, sym, ap, ◌∙◌, arith}
use Rattle.gitbase_core.specs.Path.{components}
use Rattle.worktree_fs.specs.Tree.{Names, DirectoryWithParents, link_resolver_with_limit, resolve_components_within_links, root_above_directory, directory_where_target_begins, is_absolute, is_utf8_without_nul, endless, nowhere, resolution_of_path}

module _ (links : ℕ) (follow : Bool) (place : DirectoryWithParents) (target : List ℕ) (rest : List (List ℕ)) where
  one : (m : ℕ) → m + 1 ≡ links → link_resolver_with_limit links follow place target rest ≡ (if is_utf8_without_nul target then resolve_components_within_links m follow (directory_where_target_begins place target) (components target ++ rest) else nowhere)
  unfolding link_resolver_with_limit
  one m e =
      let s : links ≡ suc m = omega arith in
      ap (λ n. link_resolver_with_limit n follow place target rest) s

  pub behind-none : links ≡ 0 → link_resolver_with_limit links follow place target rest ≡ endless
  unfolding link_resolver_with_limit
  behind-none e = ap (λ n. link_resolver_with_limit n follow place target rest) e

  pub behind-no_text : (links ≡ 0 → ⊥) → is_utf8_without_nul target ≡ false → link_resolver_with_limit links follow place target rest ≡ nowhere
  behind-no_text some text =
      let e : links - 1 + 1 ≡ links = omega arith in
      one (links - 1) e ∙ ap (λ b. if b then resolve_components_within_links (links - 1) follow (directory_where_target_begins place target) (components target ++ rest) else nowhere) text

  pub behind-on : (m : ℕ) (left : List (List ℕ)) (from : DirectoryWithParents) → m + 1 ≡ links → is_utf8_without_nul target ≡ true → left ≡ components target ++ rest → directory_where_target_begins place target ≡ from → link_resolver_with_limit links follow place target rest ≡ resolve_components_within_links m follow from left
  behind-on m left from e text is begins =
      one m e ∙ ap (λ b. if b then resolve_components_within_links m follow (directory_where_target_begins place target) (components target ++ rest) else nowhere) text
      ∙ ap (resolve_components_within_links m follow (directory_where_target_begins place target)) (sym is)
      ∙ ap (λ p. resolve_components_within_links m follow p left) begins

-- a path that is a text leads along its components, and another nowhere
pub spot-text : (root : Names) (path : List ℕ) (follow : Bool) → is_utf8_without_nul path ≡ true → resolution_of_path root path follow ≡ resolve_components_within_links 32 follow (record { here = root; above = [] }) (components path)
unfolding resolution_of_path
spot-text root path follow e = ap (λ b. if b then resolve_components_within_links 32 follow (record { here = root; above = [] }) (components path) else nowhere) e

pub spot-no_text : (root : Names) (path : List ℕ) (follow : Bool) → is_utf8_without_nul path ≡ false → resolution_of_path root path follow ≡ nowhere
unfolding resolution_of_path
spot-no_text root path follow e = ap (λ b. if b then resolve_components_within_links 32 follow (record { here = root; above = [] }) (components path) else nowhere) e

-- where a link's target begins
pub start-absolute : (place : DirectoryWithParents) (target : List ℕ) → is_absolute target ≡ true → directory_where_target_begins place target ≡ root_above_directory place
start-absolute place target e = ap (λ b. if b then root_above_directory place else place) e

pub start-relative : (place : DirectoryWithParents) (target : List ℕ) → is_absolute target ≡ false → directory_where_target_begins place target ≡ place
start-relative place target e = ap (λ b. if b then root_above_directory place else place) e
