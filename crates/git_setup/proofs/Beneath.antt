-- Nothing is beneath what is not there.
use Rattle.std.proofs.Common.{◌≡◌, ℕ, zero, suc, ◌<◌, Bool, true, false, ◌==◌, ◌||◌, not, List, [], ◌∷◌, ◌++◌, length, drop, get_or, nat_eq, Option, Some, None, is_some, refl, sym, ap, subst, ◌∙◌, arith, eqb-true, append_assoc, if◌then◌else◌}
use Rattle.std.specs.Prelude.{IsUtf8}
use Rattle.std.specs.List.{starts_with, list_any}
use Rattle.std.specs.Str.{is_utf8}
use Rattle.std.proofs.lemmas.Bool.{and_parts, and_from}
use Rattle.std.proofs.lemmas.List.{length-append, get_or_at}
use Rattle.std.proofs.lemmas.List.Folds.{list_any-append}
use Rattle.std.proofs.lemmas.Str.{IsUtf8-take, IsCharBoundary-before_ascii, IsUtf8-from_is_utf8, is_utf8-from_IsUtf8}
use Rattle.std.proofs.Math.Seq.{take-append_seam}
use Rattle.gitbase_core.specs.Path.{components, path_with_trailing_slash, is_slash, is_empty_or_root_path, path_joined_with_slash, is_beneath_directory, rest_without_separating_slash}
use Rattle.gitbase_core.proofs.DirectoryPrefix.{front-and-rest, joined-front}
use Rattle.worktree_fs.specs.Answers.{kind_of_lookup}
use Rattle.worktree_fs.specs.Tree.{Names, Node, DirectoryWithParents, LinkResolver, PathResolution, reached, missing, nowhere, endless, lookup_result_of_resolution, file, link, directory, other, child_by_name, is_utf8_without_nul, is_dot, is_dot_dot, child_directory_with_parents, parent_directory_or_root, directory_where_target_begins, resolve_from_node, resolver_continuations, resolve_components_by_link_resolver, link_resolver_with_limit, resolve_components_within_links, resolution_of_path}
use Rattle.worktree_fs.proofs.Paths.Texts.{pieces-join}
use Rattle.git_setup.specs.Present.{exists_in_work_tree}

-- ---- along a path

abbrev is_reached : PathResolution → Bool
is_reached (reached names node) = true
is_reached (missing names rest) = false
is_reached nowhere = false
is_reached endless = false

abbrev Fails : PathResolution → Type 0
Fails at = is_reached at ≡ false

abbrev Jumps : LinkResolver → Type 0
Jumps jump = (place : DirectoryWithParents) (target : List ℕ) (names more : List (List ℕ)) → Fails (jump place target names) → Fails (jump place target (names ++ more))

through : (jump : LinkResolver) → Jumps jump → (place : DirectoryWithParents) (component : List ℕ) (rest more : List (List ℕ)) (o : Option Node)
    → ((p : DirectoryWithParents) → Fails (resolve_components_by_link_resolver jump false p rest) → Fails (resolve_components_by_link_resolver jump false p (rest ++ more)))
    → Fails (resolve_from_node (resolver_continuations (λ p. resolve_components_by_link_resolver jump false p rest) jump false) place rest component o)
    → Fails (resolve_from_node (resolver_continuations (λ p. resolve_components_by_link_resolver jump false p (rest ++ more)) jump false) place (rest ++ more) component o)
through jump jumps place component rest more None goes fails = refl
through jump jumps place component rest more (Some (directory names)) goes fails = goes (child_directory_with_parents place component names) fails
through jump jumps place component [] more (Some (link target)) goes fails = absurd (cc fails)
through jump jumps place component (r ∷ rest) more (Some (link target)) goes fails = jumps place target (r ∷ rest) more fails
through jump jumps place component [] more (Some (file bytes)) goes fails = absurd (cc fails)
through jump jumps place component (r ∷ rest) more (Some (file bytes)) goes fails = refl
through jump jumps place component [] more (Some other) goes fails = absurd (cc fails)
through jump jumps place component (r ∷ rest) more (Some other) goes fails = refl

along_more : (jump : LinkResolver) → Jumps jump → (names more : List (List ℕ)) (place : DirectoryWithParents) → Fails (resolve_components_by_link_resolver jump false place names) → Fails (resolve_components_by_link_resolver jump false place (names ++ more))
along_more jump jumps [] more place fails = absurd (cc fails)
along_more jump jumps (component ∷ names) more place fails = go (along_more jump jumps names more) (is_dot component) (is_dot_dot component) fails
  where
    go : ((p : DirectoryWithParents) → Fails (resolve_components_by_link_resolver jump false p names) → Fails (resolve_components_by_link_resolver jump false p (names ++ more))) → (dot up : Bool)
        → Fails (if dot then resolve_components_by_link_resolver jump false place names else if up then resolve_components_by_link_resolver jump false (parent_directory_or_root place) names else resolve_from_node (resolver_continuations (λ p. resolve_components_by_link_resolver jump false p names) jump false) place names component (child_by_name place.here component))
        → Fails (if dot then resolve_components_by_link_resolver jump false place (names ++ more) else if up then resolve_components_by_link_resolver jump false (parent_directory_or_root place) (names ++ more) else resolve_from_node (resolver_continuations (λ p. resolve_components_by_link_resolver jump false p (names ++ more)) jump false) place (names ++ more) component (child_by_name place.here component))
    go goes true up fails = goes place fails
    go goes false true fails = goes (parent_directory_or_root place) fails
    go goes false false fails = through jump jumps place component names more (child_by_name place.here component) goes fails

behind_more : (links : ℕ) → Jumps (link_resolver_with_limit links false)
unfolding link_resolver_with_limit
behind_more zero place target names more fails = refl
behind_more (suc links) place target names more fails = go (behind_more links) (is_utf8_without_nul target) fails
  where
    go : Jumps (link_resolver_with_limit links false) → (text : Bool)
        → Fails (if text then resolve_components_by_link_resolver (link_resolver_with_limit links false) false (directory_where_target_begins place target) (components target ++ names) else nowhere)
        → Fails (if text then resolve_components_by_link_resolver (link_resolver_with_limit links false) false (directory_where_target_begins place target) (components target ++ (names ++ more)) else nowhere)
    go jumps true fails =
        subst (λ (all : List (List ℕ)). Fails (resolve_components_by_link_resolver (link_resolver_with_limit links false) false (directory_where_target_begins place target) all)) (append_assoc (components target) names more)
        (along_more (link_resolver_with_limit links false) jumps (components target ++ names) more (directory_where_target_begins place target) fails)
    go jumps false fails = refl

-- ---- from the root

-- what stands before a slash in a text is a text
text_before : (path more : List ℕ) → is_utf8_without_nul (path ++ 47 ∷ more) ≡ true → is_utf8_without_nul path ≡ true
unfolding is_utf8_without_nul
text_before path more text =
    let bytes : List ℕ = path ++ 47 ∷ more in
    let parts = and_parts (is_utf8 bytes) (not (list_any (λ b. b == 0) bytes)) text in
    let low : length path < length bytes = omega (arith, length-append path (47 ∷ more)) in
    let slash : get_or bytes (length path) 0 ≡ 47 = get_or_at path 47 more 0 (length path) refl in
    let ascii : get_or bytes (length path) 0 < 128 = omega (arith, slash) in
    let front : IsUtf8 path = subst IsUtf8 (take-append_seam path (47 ∷ more)) (IsUtf8-take bytes (length path) (IsUtf8-from_is_utf8 bytes parts.0) (IsCharBoundary-before_ascii bytes (length path) low ascii)) in
    and_from (is_utf8 path) (not (list_any (λ b. b == 0) path)) (is_utf8-from_IsUtf8 path front)
    (neither (list_any (λ b. b == 0) path) (list_any (λ b. b == 0) (47 ∷ more)) (sym (ap not (list_any-append (λ b. b == 0) path (47 ∷ more))) ∙ parts.1))
  where
    neither : (x y : Bool) → not (x || y) ≡ true → not x ≡ true
    neither true y e = absurd (cc e)
    neither false y e = refl

spot_more : (t : Names) (path more : List ℕ) → Fails (resolution_of_path t path false) → Fails (resolution_of_path t (path ++ 47 ∷ more) false)
unfolding resolution_of_path
spot_more t path more fails = go (is_utf8_without_nul (path ++ 47 ∷ more)) (is_utf8_without_nul path) (text_before path more) fails
  where
    go : (long short : Bool) → (long ≡ true → short ≡ true)
        → Fails (if short then resolve_components_within_links 32 false (record { here = t; above = [] }) (components path) else nowhere)
        → Fails (if long then resolve_components_within_links 32 false (record { here = t; above = [] }) (components (path ++ 47 ∷ more)) else nowhere)
    go false short before fails = refl
    go true false before fails = absurd (cc (before refl))
    go true true before fails =
        ap (λ names. is_reached (resolve_components_within_links 32 false (record { here = t; above = [] }) names)) (pieces-join path more)
        ∙ along_more (link_resolver_with_limit 32 false) (behind_more 32) (components path) (components more) (record { here = t; above = [] }) fails

present-reached : (at : PathResolution) → is_some (kind_of_lookup (lookup_result_of_resolution at)) ≡ is_reached at
present-reached (reached names (file bytes)) = refl
present-reached (reached names (link target)) = refl
present-reached (reached names (directory names')) = refl
present-reached (reached names other) = refl
present-reached (missing names rest) = refl
present-reached nowhere = refl
present-reached endless = refl

-- ---- beneath a directory

beneath-is : (above path : List ℕ) → is_empty_or_root_path above ≡ false → is_beneath_directory above path ≡ true → (rest : List ℕ) × (path ≡ above ++ 47 ∷ rest)
beneath-is above path low beneath = go (starts_with nat_eq path above) refl (is_empty_or_root_path above) low (drop (length above) path) refl beneath
  where
    behind_slash : (b : ℕ) (rest : List ℕ) → path ≡ above ++ b ∷ rest → (slash : Bool) → is_slash b ≡ slash
        → is_some (if slash then Some rest else None) ≡ true → (more : List ℕ) × (path ≡ above ++ 47 ∷ more)
    behind_slash b rest is false e beneath = absurd (cc beneath)
    behind_slash b rest is true e beneath = (rest, is ∙ ap (λ (c : ℕ). above ++ c ∷ rest) (eqb-true b 47 e))

    go : (starts : Bool) → starts_with nat_eq path above ≡ starts → (top : Bool) → top ≡ false → (after : List ℕ) → drop (length above) path ≡ after
        → is_some (if starts then rest_without_separating_slash top after else None) ≡ true → (rest : List ℕ) × (path ≡ above ++ 47 ∷ rest)
    go false e top low after is beneath = absurd (cc beneath)
    go true e true low after is beneath = absurd (cc low)
    go true e false low [] is beneath = absurd (cc beneath)
    go true e false low (b ∷ rest) is beneath =
        behind_slash b rest (sym (front-and-rest above path e) ∙ ap (λ (after : List ℕ). above ++ after) is) (is_slash b) refl beneath

joined-more : (root above rest : List ℕ) → path_joined_with_slash root (above ++ 47 ∷ rest) ≡ path_joined_with_slash root above ++ 47 ∷ rest
joined-more root above rest =
    joined-front root (above ++ 47 ∷ rest)
    ∙ sym (append_assoc (path_with_trailing_slash root) above (47 ∷ rest))
    ∙ ap (λ (front : List ℕ). front ++ 47 ∷ rest) (sym (joined-front root above))

pub absent-beneath : (t : Names) (root above path : List ℕ) → is_empty_or_root_path above ≡ false → exists_in_work_tree t root above ≡ false → is_beneath_directory above path ≡ true
    → exists_in_work_tree t root path ≡ false
absent-beneath t root above path low absent beneath =
    let is = beneath-is above path low beneath in
    present-reached (resolution_of_path t (path_joined_with_slash root path) false)
    ∙ ap (λ (whole : List ℕ). is_reached (resolution_of_path t (path_joined_with_slash root whole) false)) is.1
    ∙ ap (λ (whole : List ℕ). is_reached (resolution_of_path t whole false)) (joined-more root above is.0)
    ∙ spot_more t (path_joined_with_slash root above) is.0 (sym (present-reached (resolution_of_path t (path_joined_with_slash root above) false)) ∙ absent)
