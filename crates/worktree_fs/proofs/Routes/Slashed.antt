-- The path that names spell, each behind a slash, is a whole path, and leads to the node at the end of the names where no link
-- is to be followed.
use Rattle.std.proofs.Common.{◌≡◌, ◌&&◌, ◌||◌, Bool, true, false, ℕ, List, [], ◌∷◌, ◌++◌, Option, Some, None, reverse, if◌then◌else◌, refl, sym, ap, ◌∙◌, append_assoc}
use Rattle.std.proofs.lemmas.List.{append-nil, reverse-reverse}
use mathlib.Core.List.{reverse-cons}
use Rattle.std.specs.List.{AllByRecursion, list_all}
use Rattle.std.proofs.lemmas.Bool.{and_from}
use Rattle.std.proofs.lemmas.List.Folds.{list_all-append}
use Rattle.gitbase_core.specs.Path.{pieces_between_slashes, components}
use Rattle.worktree_fs.specs.Tree.{Node, Names, DirectoryWithParents, LinkResolver, reached, nowhere, file, link, directory, other, child_by_name, is_directory, is_utf8_without_nul, is_dot_dot, reversed_names_from_root, parent_directory_or_root, child_directory_with_parents, resolve_from_node, resolver_continuations, resolve_components_by_link_resolver, link_resolver_with_limit, resolve_components_within_links, resolution_of_path}
use Rattle.worktree_fs.specs.Naming.{IsValidEntryName, IsValidTree, is_valid_entry_name}
use Rattle.worktree_fs.specs.ByNames.{descendant_by_names}
use Rattle.worktree_fs.specs.Grow.{is_absolute_path_of_valid_names}
use Rattle.worktree_fs.specs.Changes.{slash_before_each_reversed_name}
use Rattle.worktree_fs.proofs.Paths.NameParts.{name_parts}
use Rattle.worktree_fs.proofs.Routes.MissingNames.{real, real-names, from_all, components-slashed}
use Rattle.worktree_fs.proofs.Trees.Regrown.{nothing_there}
use Rattle.worktree_fs.proofs.Paths.Texts.{split-join, split-whole, is_text-append, is_text-slash}

-- a slash, and names with one between each two
record IsFull (path : List ℕ) : Type 0 where
  rest : List ℕ
  is : path ≡ 47 ∷ rest
  names : list_all is_valid_entry_name (pieces_between_slashes rest) ≡ true

alone : (name : List ℕ) → IsValidEntryName name → pieces_between_slashes name ≡ name ∷ []
alone name is = split-whole name (name_parts name is).no_slash

full : (name : List ℕ) (below : List (List ℕ)) → IsValidEntryName name → AllByRecursion IsValidEntryName below → IsFull (slash_before_each_reversed_name (name ∷ below))
full name [] is all = record { rest = name; is = refl; names = ap (list_all is_valid_entry_name) (alone name is) ∙ and_from (is_valid_entry_name name) true is refl }
full name (next ∷ below) is all =
    let front = full next below all.0 all.1 in
    record {
      rest = front.rest ++ 47 ∷ name;
      is = ap (λ (l : List ℕ). l ++ 47 ∷ name) front.is;
      names =
          ap (list_all is_valid_entry_name) (split-join front.rest name ∙ ap (λ (l : List (List ℕ)). pieces_between_slashes front.rest ++ l) (alone name is))
          ∙ list_all-append is_valid_entry_name (pieces_between_slashes front.rest) (name ∷ [])
          ∙ and_from (list_all is_valid_entry_name (pieces_between_slashes front.rest)) (is_valid_entry_name name && true) front.names (and_from (is_valid_entry_name name) true is refl);
    }

pub full_path-slashed : (name : List ℕ) (below : List (List ℕ)) → IsValidEntryName name → AllByRecursion IsValidEntryName below → is_absolute_path_of_valid_names (slash_before_each_reversed_name (name ∷ below)) ≡ true
full_path-slashed name below is all = let whole = full name below is all in ap is_absolute_path_of_valid_names whole.is ∙ whole.names

abbrev node_or : Option Node → Node
node_or None = other
node_or (Some node) = node

-- whether a node is a link
abbrev pub is_link : Node → Bool
is_link (file bytes) = false
is_link (link target) = true
is_link (directory names) = false
is_link other = false

-- from one node of a directory on, where the end is no link that is followed
module _ (jump : LinkResolver) (follow : Bool) (node : Node) (unfollowed : (follow && is_link node) ≡ false) where
  abbrev Leads : List (List ℕ) → Type 0
  Leads rest = (place : DirectoryWithParents) → descendant_by_names rest (Some (directory place.here)) ≡ Some node → resolve_components_by_link_resolver jump follow place rest ≡ reached (reverse rest ++ reversed_names_from_root place) node

  ends : (place : DirectoryWithParents) (name : List ℕ) (n : Node) → is_directory n ≡ false → Some n ≡ Some node → resolve_from_node (resolver_continuations (λ p. resolve_components_by_link_resolver jump follow p []) jump follow) place [] name (Some n) ≡ reached (name ∷ reversed_names_from_root place) node
  ends place name (directory names) leaf e = absurd (cc leaf)
  ends place name (file bytes) leaf e = ap (λ (n : Option Node). reached (name ∷ reversed_names_from_root place) (node_or n)) e
  ends place name other leaf e = ap (λ (n : Option Node). reached (name ∷ reversed_names_from_root place) (node_or n)) e
  ends place name (link target) leaf e =
      ap (λ b. if b || false then jump place target [] else reached (name ∷ reversed_names_from_root place) (link target)) (stays follow (ap (λ (n : Option Node). follow && is_link (node_or n)) e ∙ unfollowed))
      ∙ ap (λ (n : Option Node). reached (name ∷ reversed_names_from_root place) (node_or n)) e
    where
      stays : (b : Bool) → (b && true) ≡ false → b ≡ false
      stays true e = cc e
      stays false e = refl

  from : (place : DirectoryWithParents) (name : List ℕ) (rest : List (List ℕ)) (o : Option Node) → Leads rest → descendant_by_names rest o ≡ Some node
      → resolve_from_node (resolver_continuations (λ p. resolve_components_by_link_resolver jump follow p rest) jump follow) place rest name o ≡ reached (reverse (name ∷ rest) ++ reversed_names_from_root place) node
  from place name rest None leads e = absurd (nothing_there rest node e)
  from place name rest (Some (directory names)) leads e =
      leads (child_directory_with_parents place name names) e
      ∙ ap (λ (l : List (List ℕ)). reached l node) (sym (ap (λ (l : List (List ℕ)). l ++ reversed_names_from_root place) (reverse-cons name rest) ∙ append_assoc (reverse rest) (name ∷ []) (reversed_names_from_root place)))
  from place name [] (Some (file bytes)) leads e = ends place name (file bytes) refl e
  from place name [] (Some (link target)) leads e = ends place name (link target) refl e
  from place name [] (Some other) leads e = ends place name other refl e
  from place name (next ∷ rest) (Some (file bytes)) leads e = absurd (nothing_there rest node e)
  from place name (next ∷ rest) (Some (link target)) leads e = absurd (nothing_there rest node e)
  from place name (next ∷ rest) (Some other) leads e = absurd (nothing_there rest node e)

  along-names : (names : List (List ℕ)) → AllByRecursion IsValidEntryName names → Leads names
  along-names [] all place e = ap (λ (n : Option Node). reached (reversed_names_from_root place) (node_or n)) e
  along-names (name ∷ rest) all place e =
      let parts = name_parts name all.0 in
      ap (λ b. if b then resolve_components_by_link_resolver jump follow place rest else if is_dot_dot name then resolve_components_by_link_resolver jump follow (parent_directory_or_root place) rest else resolve_from_node (resolver_continuations (λ p. resolve_components_by_link_resolver jump follow p rest) jump follow) place rest name (child_by_name place.here name)) parts.no_dot
      ∙ ap (λ b. if b then resolve_components_by_link_resolver jump follow (parent_directory_or_root place) rest else resolve_from_node (resolver_continuations (λ p. resolve_components_by_link_resolver jump follow p rest) jump follow) place rest name (child_by_name place.here name)) parts.no_dot_dot
      ∙ from place name rest (child_by_name place.here name) (along-names rest all.1) e

text-slashed : (name : List ℕ) (below : List (List ℕ)) → IsValidEntryName name → AllByRecursion IsValidEntryName below → is_utf8_without_nul (slash_before_each_reversed_name (name ∷ below)) ≡ true
text-slashed name [] is all = is_text-append (47 ∷ []) name is_text-slash (name_parts name is).text
text-slashed name (next ∷ below) is all =
    is_text-append (slash_before_each_reversed_name (next ∷ below)) (47 ∷ name) (text-slashed next below all.0 all.1)
    (is_text-append (47 ∷ []) name is_text-slash (name_parts name is).text)

-- What stands at the end of some names is where their path leads, unless that is a link to be followed.
pub spot-slashed : (t : Names) (follow : Bool) (name : List ℕ) (below : List (List ℕ)) (node : Node) → IsValidTree (directory t) → (follow && is_link node) ≡ false
    → descendant_by_names (reverse (name ∷ below)) (Some (directory t)) ≡ Some node → resolution_of_path t (slash_before_each_reversed_name (name ∷ below)) follow ≡ reached (name ∷ below) node
unfolding resolution_of_path
spot-slashed t follow name below node tree unfollowed e =
    let names : AllByRecursion IsValidEntryName (name ∷ below) = real-names t (name ∷ below) node tree e in
    let onward_names : AllByRecursion IsValidEntryName (reverse (name ∷ below)) = real (reverse (name ∷ below)) (directory t) node tree e in
    ap (λ b. if b then resolve_components_within_links 32 follow (record { here = t; above = [] }) (components (slash_before_each_reversed_name (name ∷ below))) else nowhere) (text-slashed name below names.0 names.1)
    ∙ ap (resolve_components_within_links 32 follow (record { here = t; above = [] })) (components-slashed (name ∷ below) (from_all (name ∷ below) names))
    ∙ along-names (link_resolver_with_limit 32 follow) follow node unfollowed (reverse (name ∷ below)) onward_names (record { here = t; above = [] }) e
    ∙ ap (λ (l : List (List ℕ)). reached l node) (append-nil (reverse (reverse (name ∷ below))) ∙ reverse-reverse (name ∷ below))
