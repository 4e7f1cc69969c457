-- A name behind the path of a directory leads to the node of that name.
use Rattle.std.proofs.Common.{◌≡◌, ℕ, zero, suc, ◌-◌, length, get_or, arith, eqb-true, Bool, true, false, List, [], ◌∷◌, ◌++◌, Option, Some, None, refl, not, if◌then◌else◌, sym, ap, ◌∙◌, append_assoc}
use Rattle.std.proofs.lemmas.List.{append-nil}
use Rattle.gitbase_core.specs.Path.{components, is_slash, ends_in_slash, path_joined_with_slash}
use Rattle.worktree_fs.specs.Tree.{Names, Node, DirectoryWithParents, PathResolution, LinkResolver, LookupResult, lookup_result_of_resolution, absent, reached, missing, nowhere, endless, reversed_names_from_root, resolution_of_path, found, file, link, directory, other, child_by_name, is_utf8_without_nul, is_dot, is_dot_dot, resolve_components_by_link_resolver, link_resolver_with_limit, resolve_components_within_links, look, directory_where_target_begins, parent_directory_or_root, child_directory_with_parents, is_nil, resolve_from_node, resolver_continuations}
use Rattle.worktree_fs.specs.Naming.{IsValidEntryName}
use Rattle.worktree_fs.specs.Last.{found_or_absent, LastNameWithNode, last_name_of_resolution}
use Rattle.worktree_fs.proofs.Paths.Texts.{is_text-append, is_text-slash, pieces-join}
use Rattle.worktree_fs.proofs.Paths.NameParts.{name_parts, pieces-name}

is_nil-push : (rest : List (List ℕ)) (n : List ℕ) → is_nil (rest ++ n ∷ []) ≡ false
is_nil-push [] n = refl
is_nil-push (r ∷ rest) n = refl

-- only a text leads anywhere
text_if_found : (b : Bool) (l : PathResolution) (node : Node) → lookup_result_of_resolution (if b then l else nowhere) ≡ found node → (b ≡ true) × (lookup_result_of_resolution l ≡ found node)
text_if_found true l node e = (refl, e)
text_if_found false l node e = absurd (cc e)

pub is_text-found : (root : Names) (path : List ℕ) (follow : Bool) (node : Node) → look root path follow ≡ found node → is_utf8_without_nul path ≡ true
unfolding resolution_of_path
is_text-found root path follow node e = (text_if_found (is_utf8_without_nul path) (resolve_components_within_links 32 follow (record { here = root; above = [] }) (components path)) node e).0

abbrev look_of_last : Option LastNameWithNode → LookupResult
look_of_last None = absent
look_of_last (Some last) = found_or_absent last.node

-- what a path that comes to a name in a directory leads to
look-last : (at : PathResolution) (name : List ℕ) (stands : Option Node) → last_name_of_resolution at ≡ Some (record { name = name; node = stands }) → lookup_result_of_resolution at ≡ found_or_absent stands
look-last (reached [] node) name stands e = absurd (cc e)
look-last (reached (n ∷ below) node) name stands e = ap look_of_last e
look-last (missing [] rest) name stands e = absurd (cc e)
look-last (missing (n ∷ below) []) name stands e = ap look_of_last e
look-last (missing (n ∷ below) (component ∷ rest)) name stands e = absurd (cc e)
look-last nowhere name stands e = absurd (cc e)
look-last endless name stands e = absurd (cc e)

-- where a path ends in a slash
ends_in_slash-cons : (a b : ℕ) (path : List ℕ) → ends_in_slash (a ∷ b ∷ path) ≡ ends_in_slash (b ∷ path)
ends_in_slash-cons a b path =
    let longer : length {A = ℕ} (a ∷ b ∷ path) - 1 ≡ suc (length path) = omega arith in
    let shorter : length {A = ℕ} (b ∷ path) - 1 ≡ length path = omega arith in
    ap (λ (i : ℕ). is_slash (get_or (a ∷ b ∷ path) i 0)) longer ∙ sym (ap (λ (i : ℕ). is_slash (get_or (b ∷ path) i 0)) shorter)

before_slash : (path : List ℕ) → ends_in_slash path ≡ true → (front : List ℕ) × (path ≡ front ++ 47 ∷ [])
before_slash [] e = absurd (cc e)
before_slash (a ∷ []) e = ([], ap (λ (n : ℕ). n ∷ []) (eqb-true a 47 e))
before_slash (a ∷ b ∷ path) e =
    let rest = before_slash (b ∷ path) (sym (ends_in_slash-cons a b path) ∙ e) in
    (a ∷ rest.0, ap (λ (l : List ℕ). a ∷ l) rest.1)

module _ (names : Names) (name : List ℕ) (is_name : IsValidEntryName name) where
  abbrev at_name : Option LastNameWithNode
  at_name = Some (record { name = name; node = child_by_name names name })

  -- a jump that leads to the directory leads to the node with the name behind
  abbrev Jumps : LinkResolver → LinkResolver → Type 0
  Jumps following staying = (place : DirectoryWithParents) (target : List ℕ) (rest : List (List ℕ)) → lookup_result_of_resolution (following place target rest) ≡ found (directory names) → last_name_of_resolution (staying place target (rest ++ name ∷ [])) ≡ at_name

  abbrev Goes : LinkResolver → LinkResolver → List (List ℕ) → Type 0
  Goes following staying rest = (place : DirectoryWithParents) → lookup_result_of_resolution (resolve_components_by_link_resolver following true place rest) ≡ found (directory names) → last_name_of_resolution (resolve_components_by_link_resolver staying false place (rest ++ name ∷ [])) ≡ at_name

  last : (staying : LinkResolver) (place : DirectoryWithParents) (component : List ℕ) (o : Option Node) → last_name_of_resolution (resolve_from_node (resolver_continuations (λ p. reached (reversed_names_from_root p) (directory p.here)) staying false) place [] component o) ≡ Some (record { name = component; node = o })
  last staying place component None = refl
  last staying place component (Some (directory sub)) = refl
  last staying place component (Some (link target)) = refl
  last staying place component (Some (file bytes)) = refl
  last staying place component (Some other) = refl

  through : (following staying : LinkResolver) → Jumps following staying → (rest : List (List ℕ)) → Goes following staying rest → (place : DirectoryWithParents) (component : List ℕ) (o : Option Node)
      → lookup_result_of_resolution (resolve_from_node (resolver_continuations (λ p. resolve_components_by_link_resolver following true p rest) following true) place rest component o) ≡ found (directory names)
      → last_name_of_resolution (resolve_from_node (resolver_continuations (λ p. resolve_components_by_link_resolver staying false p (rest ++ name ∷ [])) staying false) place (rest ++ name ∷ []) component o) ≡ at_name
  through following staying jumps rest goes place component None e = absurd (cc e)
  through following staying jumps rest goes place component (Some (directory sub)) e = goes (child_directory_with_parents place component sub) e
  through following staying jumps rest goes place component (Some (link target)) e =
      ap (λ b. last_name_of_resolution (if not b then staying place target (rest ++ name ∷ []) else reached (component ∷ reversed_names_from_root place) (link target))) (is_nil-push rest name) ∙ jumps place target rest e
  through following staying jumps [] goes place component (Some (file bytes)) e = absurd (cc e)
  through following staying jumps (r ∷ rest) goes place component (Some (file bytes)) e = absurd (cc e)
  through following staying jumps [] goes place component (Some other) e = absurd (cc e)
  through following staying jumps (r ∷ rest) goes place component (Some other) e = absurd (cc e)

  split : (following staying : LinkResolver) → Jumps following staying → (rest : List (List ℕ)) → Goes following staying rest → (place : DirectoryWithParents) (component : List ℕ) (dot up : Bool)
      → lookup_result_of_resolution (if dot then resolve_components_by_link_resolver following true place rest else if up then resolve_components_by_link_resolver following true (parent_directory_or_root place) rest else resolve_from_node (resolver_continuations (λ p. resolve_components_by_link_resolver following true p rest) following true) place rest component (child_by_name place.here component)) ≡ found (directory names)
      → last_name_of_resolution (if dot then resolve_components_by_link_resolver staying false place (rest ++ name ∷ []) else if up then resolve_components_by_link_resolver staying false (parent_directory_or_root place) (rest ++ name ∷ []) else resolve_from_node (resolver_continuations (λ p. resolve_components_by_link_resolver staying false p (rest ++ name ∷ [])) staying false) place (rest ++ name ∷ []) component (child_by_name place.here component)) ≡ at_name
  split following staying jumps rest goes place component true up e = goes place e
  split following staying jumps rest goes place component false true e = goes (parent_directory_or_root place) e
  split following staying jumps rest goes place component false false e = through following staying jumps rest goes place component (child_by_name place.here component) e

  steps : (following staying : LinkResolver) → Jumps following staying → (rest : List (List ℕ)) → Goes following staying rest
  steps following staying jumps [] place e =
      ap (λ b. last_name_of_resolution (if b then resolve_components_by_link_resolver staying false place [] else if is_dot_dot name then resolve_components_by_link_resolver staying false (parent_directory_or_root place) [] else resolve_from_node (resolver_continuations (λ p. resolve_components_by_link_resolver staying false p []) staying false) place [] name (child_by_name place.here name))) (name_parts name is_name).no_dot
      ∙ ap (λ b. last_name_of_resolution (if b then resolve_components_by_link_resolver staying false (parent_directory_or_root place) [] else resolve_from_node (resolver_continuations (λ p. resolve_components_by_link_resolver staying false p []) staying false) place [] name (child_by_name place.here name))) (name_parts name is_name).no_dot_dot
      ∙ last staying place name (child_by_name place.here name)
      ∙ ap (λ (n : Names). Some (record { name = name; node = child_by_name n name })) (cc e)
  steps following staying jumps (component ∷ rest) place e = split following staying jumps rest (steps following staying jumps rest) place component (is_dot component) (is_dot_dot component) e

  all_jumps : (links : ℕ) → Jumps (link_resolver_with_limit links true) (link_resolver_with_limit links false)
  unfolding link_resolver_with_limit
  all_jumps zero place target rest e = absurd (cc e)
  all_jumps (suc links) place target rest e =
      let text = text_if_found (is_utf8_without_nul target) (resolve_components_by_link_resolver (link_resolver_with_limit links true) true (directory_where_target_begins place target) (components target ++ rest)) (directory names) e in
      ap (λ b. last_name_of_resolution (if b then resolve_components_by_link_resolver (link_resolver_with_limit links false) false (directory_where_target_begins place target) (components target ++ (rest ++ name ∷ [])) else nowhere)) text.0
      ∙ sym (ap (λ l. last_name_of_resolution (resolve_components_by_link_resolver (link_resolver_with_limit links false) false (directory_where_target_begins place target) l)) (append_assoc (components target) rest (name ∷ [])))
      ∙ steps (link_resolver_with_limit links true) (link_resolver_with_limit links false) (all_jumps links) (components target ++ rest) (directory_where_target_begins place target) text.1

  -- any spelling of the path with the name behind
  pub last-more : (root : Names) (path more : List ℕ) → is_utf8_without_nul more ≡ true → components more ≡ components path ++ name ∷ []
      → look root path true ≡ found (directory names) → last_name_of_resolution (resolution_of_path root more false) ≡ at_name
  unfolding resolution_of_path
  last-more root path more text is e =
      let of_path = text_if_found (is_utf8_without_nul path) (resolve_components_within_links 32 true (record { here = root; above = [] }) (components path)) (directory names) e in
      ap (λ b. last_name_of_resolution (if b then resolve_components_within_links 32 false (record { here = root; above = [] }) (components more) else nowhere)) text
      ∙ ap (λ l. last_name_of_resolution (resolve_components_within_links 32 false (record { here = root; above = [] }) l)) is
      ∙ steps (link_resolver_with_limit 32 true) (link_resolver_with_limit 32 false) (all_jumps 32) (components path) (record { here = root; above = [] }) of_path.1

  -- behind a slash
  last-join : (root : Names) (path : List ℕ) → look root path true ≡ found (directory names) → last_name_of_resolution (resolution_of_path root (path ++ 47 ∷ name) false) ≡ at_name
  last-join root path e =
      last-more root path (path ++ 47 ∷ name)
      (is_text-append path (47 ∷ name) (is_text-found root path true (directory names) e) (is_text-append (47 ∷ []) name is_text-slash (name_parts name is_name).text))
      (pieces-join path name ∙ ap (λ l. components path ++ l) (pieces-name name is_name)) e

  -- without one, where the path ends in a slash
  last-join_slash : (root : Names) (front : List ℕ) → look root (front ++ 47 ∷ []) true ≡ found (directory names) → last_name_of_resolution (resolution_of_path root ((front ++ 47 ∷ []) ++ name) false) ≡ at_name
  last-join_slash root front e =
      last-more root (front ++ 47 ∷ []) ((front ++ 47 ∷ []) ++ name)
      (is_text-append (front ++ 47 ∷ []) name (is_text-found root (front ++ 47 ∷ []) true (directory names) e) (name_parts name is_name).text)
      (ap components (append_assoc front (47 ∷ []) name) ∙ pieces-join front name ∙ ap (λ l. components front ++ l) (pieces-name name is_name)
      ∙ ap (λ l. l ++ name ∷ []) (sym (pieces-join front [] ∙ append-nil (components front)))) e

  -- and where it is empty
  last-join_empty : (root : Names) → look root [] true ≡ found (directory names) → last_name_of_resolution (resolution_of_path root name false) ≡ at_name
  last-join_empty root e = last-more root [] name (name_parts name is_name).text (pieces-name name is_name) e

  -- the path of a name in a directory comes to that name
  pub last-joined : (root : Names) (path : List ℕ) → look root path true ≡ found (directory names) → last_name_of_resolution (resolution_of_path root (path_joined_with_slash path name) false) ≡ at_name
  last-joined root [] e = last-join_empty root e
  last-joined root (a ∷ path) e = go (ends_in_slash (a ∷ path)) refl
    where
      go : (b : Bool) → ends_in_slash (a ∷ path) ≡ b → last_name_of_resolution (resolution_of_path root (if b then (a ∷ path) ++ name else (a ∷ path) ++ 47 ∷ name) false) ≡ at_name
      go false slash = last-join root (a ∷ path) e
      go true slash =
          let front = before_slash (a ∷ path) slash in
          ap (λ (l : List ℕ). last_name_of_resolution (resolution_of_path root (l ++ name) false)) front.1
          ∙ last-join_slash root front.0 (ap (λ (l : List ℕ). look root l true) (sym front.1) ∙ e)

  pub look-more : (root : Names) (path more : List ℕ) → is_utf8_without_nul more ≡ true → components more ≡ components path ++ name ∷ []
      → look root path true ≡ found (directory names) → look root more false ≡ found_or_absent (child_by_name names name)
  look-more root path more text is e = look-last (resolution_of_path root more false) name (child_by_name names name) (last-more root path more text is e)

  pub look-join : (root : Names) (path : List ℕ) → look root path true ≡ found (directory names) → look root (path ++ 47 ∷ name) false ≡ found_or_absent (child_by_name names name)
  look-join root path e = look-last (resolution_of_path root (path ++ 47 ∷ name) false) name (child_by_name names name) (last-join root path e)

  pub look-join_slash : (root : Names) (front : List ℕ) → look root (front ++ 47 ∷ []) true ≡ found (directory names) → look root ((front ++ 47 ∷ []) ++ name) false ≡ found_or_absent (child_by_name names name)
  look-join_slash root front e = look-last (resolution_of_path root ((front ++ 47 ∷ []) ++ name) false) name (child_by_name names name) (last-join_slash root front e)

  pub look-join_empty : (root : Names) → look root [] true ≡ found (directory names) → look root name false ≡ found_or_absent (child_by_name names name)
  look-join_empty root e = look-last (resolution_of_path root name false) name (child_by_name names name) (last-join_empty root e)
