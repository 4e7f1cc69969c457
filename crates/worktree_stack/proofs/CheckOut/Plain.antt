-- The directories below a root to which no link leads stay where another node is removed.
use Rattle.std.specs.Prelude.{◌≡◌, ℕ, suc, ◌-◌, length, get_or, Bool, true, false, ◌||◌, List, [], ◌∷◌, ◌++◌, map, reverse, Option, Some, None, if◌then◌else◌}
use Rattle.std.specs.List.{list_any}
use Rattle.std.proofs.Common.{arith, eqb-true, refl, sym, ap, ◌∙◌, subst, append_assoc}
use Rattle.std.proofs.lemmas.List.{append-nil, map-append, reverse-reverse}
use Rattle.gitbase_core.specs.Path.{components, path_joined_with_slash, is_slash, ends_in_slash}
use Rattle.gitbase_core.proofs.Names as gitbase
use Rattle.worktree_fs.specs.ByNames.{descendant_by_names}
use Rattle.worktree_fs.specs.MadeAndRemoved.{NodeRemovedAtPath}
use Rattle.worktree_fs.specs.Paths.{all_prefixes_shortest_first, root_joined_with_relative, is_dot_or_dot_dot, slash_joined_components}
use Rattle.worktree_fs.specs.Tree.{Names, Node, DirectoryWithParents, LinkResolver, reached, nowhere, file, link, directory, other, child_by_name, is_directory, is_dot, is_dot_dot, is_utf8_without_nul, resolve_components_by_link_resolver, link_resolver_with_limit, child_directory_with_parents, resolve_from_node, parent_directory_or_root, resolve_components_within_links, resolution_of_path, reversed_names_from_root, resolver_continuations}
use Rattle.worktree_fs.proofs.Routes.ByNames.{from_none}
use Rattle.worktree_fs.proofs.Trees.Changed.{removed-stays}
use Rattle.worktree_fs.proofs.Paths.Spelled.{components-spelled}
use Rattle.worktree_fs.proofs.Paths.Texts.{pieces-join}
use Rattle.worktree_stack.specs.ChecksOut.{AreDirectoriesBelowRoot, IsNotSymlink, IsPathWithoutLinksOrDots, IsDirectoryBelowRoot}
use Rattle.worktree_stack.specs.Excludes.{proper_ancestor_directories}
use Rattle.worktree_stack.proofs.Lookup.InStep.{pushed-ancestors}

neither : (a b : Bool) → (a || b) ≡ false → (a ≡ false) × (b ≡ false)
neither false false e = (refl, refl)
neither false true e = absurd (cc e)
neither true b e = absurd (cc e)

-- no link stands at names on the way along some others, the last of them left out
abbrev pub NoLinks : Names → List (List ℕ) → Type 0
NoLinks here cs = (front rest : List (List ℕ)) (last : List ℕ) → cs ≡ front ++ last ∷ rest → IsNotSymlink (descendant_by_names front (Some (directory here)))

some-directory : {a b : Names} {n m : List (List ℕ)} → reached n (directory a) ≡ reached m (directory b) → Some (directory a) ≡ Some (directory b)
some-directory e = cc

-- a walk along no link ends where the names lead
plain-walk : (jump : LinkResolver) (cs : List (List ℕ)) (place : DirectoryWithParents) (names : List (List ℕ)) (inner : Names) → list_any is_dot_or_dot_dot cs ≡ false → NoLinks place.here cs
    → resolve_components_by_link_resolver jump false place cs ≡ reached names (directory inner) → descendant_by_names cs (Some (directory place.here)) ≡ Some (directory inner)
plain-walk jump [] place names inner dots plain e = some-directory e
plain-walk jump (c ∷ rest) place names inner dots plain e =
    let apart = neither (is_dot_or_dot_dot c) (list_any is_dot_or_dot_dot rest) dots in
    let d = neither (is_dot c) (is_dot_dot c) apart.0 in
    on (child_by_name place.here c) refl (plain-walk jump rest) apart.1
    (sym (ap (λ b. if b then resolve_components_by_link_resolver jump false place rest else if is_dot_dot c then resolve_components_by_link_resolver jump false (parent_directory_or_root place) rest else resolve_from_node (resolver_continuations (λ p. resolve_components_by_link_resolver jump false p rest) jump false) place rest c (child_by_name place.here c)) d.0
    ∙ ap (λ b. if b then resolve_components_by_link_resolver jump false (parent_directory_or_root place) rest else resolve_from_node (resolver_continuations (λ p. resolve_components_by_link_resolver jump false p rest) jump false) place rest c (child_by_name place.here c)) d.1) ∙ e)
  where
    on : (o : Option Node) → child_by_name place.here c ≡ o
        → ((place : DirectoryWithParents) (names : List (List ℕ)) (inner : Names) → list_any is_dot_or_dot_dot rest ≡ false → NoLinks place.here rest → resolve_components_by_link_resolver jump false place rest ≡ reached names (directory inner) → descendant_by_names rest (Some (directory place.here)) ≡ Some (directory inner))
        → list_any is_dot_or_dot_dot rest ≡ false → resolve_from_node (resolver_continuations (λ p. resolve_components_by_link_resolver jump false p rest) jump false) place rest c o ≡ reached names (directory inner) → descendant_by_names rest (child_by_name place.here c) ≡ Some (directory inner)
    on None is more dots e = absurd (cc e)
    on (Some (directory names1)) is more dots e =
        ap (descendant_by_names rest) is ∙ more (child_directory_with_parents place c names1) names inner dots (λ front rest1 last split. subst (λ (o : Option Node). IsNotSymlink (descendant_by_names front o)) is (plain (c ∷ front) rest1 last (ap (λ (l : List (List ℕ)). c ∷ l) split))) e
    on (Some (link target)) is more dots e = linked rest refl e
      where
        linked : (r : List (List ℕ)) → rest ≡ r → resolve_from_node (resolver_continuations (λ p. resolve_components_by_link_resolver jump false p rest) jump false) place r c (Some (link target)) ≡ reached names (directory inner) → descendant_by_names rest (child_by_name place.here c) ≡ Some (directory inner)
        linked [] split e = absurd (cc e)
        linked (r ∷ rs) split e = absurd (plain (c ∷ []) rs r (ap (λ (l : List (List ℕ)). c ∷ l) split) target is)
    on (Some (file bytes)) is more dots e = ended rest e
      where
        ended : (r : List (List ℕ)) → resolve_from_node (resolver_continuations (λ p. resolve_components_by_link_resolver jump false p rest) jump false) place r c (Some (file bytes)) ≡ reached names (directory inner) → descendant_by_names rest (child_by_name place.here c) ≡ Some (directory inner)
        ended [] e = absurd (cc e)
        ended (r ∷ rs) e = absurd (cc e)
    on (Some other) is more dots e = ended rest e
      where
        ended : (r : List (List ℕ)) → resolve_from_node (resolver_continuations (λ p. resolve_components_by_link_resolver jump false p rest) jump false) place r c (Some other) ≡ reached names (directory inner) → descendant_by_names rest (child_by_name place.here c) ≡ Some (directory inner)
        ended [] e = absurd (cc e)
        ended (r ∷ rs) e = absurd (cc e)

-- where names lead to a directory a walk along them does
names-walk : (jump : LinkResolver) (cs : List (List ℕ)) (place : DirectoryWithParents) (inner : Names) → list_any is_dot_or_dot_dot cs ≡ false → descendant_by_names cs (Some (directory place.here)) ≡ Some (directory inner)
    → (names : List (List ℕ)) × (resolve_components_by_link_resolver jump false place cs ≡ reached names (directory inner))
names-walk jump [] place inner dots e = (reversed_names_from_root place, ap (reached (reversed_names_from_root place)) (same-node e))
  where
    same-node : Some (directory place.here) ≡ Some (directory inner) → directory place.here ≡ directory inner
    same-node e = cc e
names-walk jump (c ∷ rest) place inner dots e =
    let apart = neither (is_dot_or_dot_dot c) (list_any is_dot_or_dot_dot rest) dots in
    let d = neither (is_dot c) (is_dot_dot c) apart.0 in
    let x = on (child_by_name place.here c) (names-walk jump rest) apart.1 e in (
      x.0,
      ap (λ b. if b then resolve_components_by_link_resolver jump false place rest else if is_dot_dot c then resolve_components_by_link_resolver jump false (parent_directory_or_root place) rest else resolve_from_node (resolver_continuations (λ p. resolve_components_by_link_resolver jump false p rest) jump false) place rest c (child_by_name place.here c)) d.0
          ∙ ap (λ b. if b then resolve_components_by_link_resolver jump false (parent_directory_or_root place) rest else resolve_from_node (resolver_continuations (λ p. resolve_components_by_link_resolver jump false p rest) jump false) place rest c (child_by_name place.here c)) d.1 ∙ x.1,
    )
  where
    leaf : (rest : List (List ℕ)) (node : Node) → is_directory node ≡ false → descendant_by_names rest (Some node) ≡ Some (directory inner) → ⊥
    leaf [] (file bytes) l e = cc e
    leaf [] (link target) l e = cc e
    leaf [] (directory n) l e = cc l
    leaf [] other l e = cc e
    leaf (r ∷ rs) (file bytes) l e = gone (from_none rs) e
      where
        gone : descendant_by_names rs None ≡ None → descendant_by_names rs None ≡ Some (directory inner) → ⊥
        gone a b = cc
    leaf (r ∷ rs) (link target) l e = gone (from_none rs) e
      where
        gone : descendant_by_names rs None ≡ None → descendant_by_names rs None ≡ Some (directory inner) → ⊥
        gone a b = cc
    leaf (r ∷ rs) (directory n) l e = cc l
    leaf (r ∷ rs) other l e = gone (from_none rs) e
      where
        gone : descendant_by_names rs None ≡ None → descendant_by_names rs None ≡ Some (directory inner) → ⊥
        gone a b = cc

    on : (o : Option Node) → ((place : DirectoryWithParents) (inner : Names) → list_any is_dot_or_dot_dot rest ≡ false → descendant_by_names rest (Some (directory place.here)) ≡ Some (directory inner) → (names : List (List ℕ)) × (resolve_components_by_link_resolver jump false place rest ≡ reached names (directory inner)))
        → list_any is_dot_or_dot_dot rest ≡ false → descendant_by_names rest o ≡ Some (directory inner) → (names : List (List ℕ)) × (resolve_from_node (resolver_continuations (λ p. resolve_components_by_link_resolver jump false p rest) jump false) place rest c o ≡ reached names (directory inner))
    on None more dots e = absurd (gone (from_none rest) e)
      where
        gone : descendant_by_names rest None ≡ None → descendant_by_names rest None ≡ Some (directory inner) → ⊥
        gone a b = cc
    on (Some (directory names1)) more dots e = more (child_directory_with_parents place c names1) inner dots e
    on (Some (link target)) more dots e = absurd (leaf rest (link target) refl e)
    on (Some (file bytes)) more dots e = absurd (leaf rest (file bytes) refl e)
    on (Some other) more dots e = absurd (leaf rest other refl e)

abbrev top : Names → DirectoryWithParents
top t = record { here = t; above = [] }

pub spot-plain : (t : Names) (path : List ℕ) (names : List (List ℕ)) (inner : Names) → list_any is_dot_or_dot_dot (components path) ≡ false → NoLinks t (components path)
    → resolution_of_path t path false ≡ reached names (directory inner) → (is_utf8_without_nul path ≡ true) × (descendant_by_names (components path) (Some (directory t)) ≡ Some (directory inner))
unfolding resolution_of_path
spot-plain t path names inner dots plain e = go (is_utf8_without_nul path) refl e
  where
    go : (b : Bool) → is_utf8_without_nul path ≡ b → (if b then resolve_components_within_links 32 false (top t) (components path) else nowhere) ≡ reached names (directory inner) → (is_utf8_without_nul path ≡ true) × (descendant_by_names (components path) (Some (directory t)) ≡ Some (directory inner))
    go true text e = (text, plain-walk (link_resolver_with_limit 32 false) (components path) (top t) names inner dots plain e)
    go false text e = absurd (cc e)

pub spot-names : (t : Names) (path : List ℕ) (inner : Names) → is_utf8_without_nul path ≡ true → list_any is_dot_or_dot_dot (components path) ≡ false → descendant_by_names (components path) (Some (directory t)) ≡ Some (directory inner)
    → (names : List (List ℕ)) × (resolution_of_path t path false ≡ reached names (directory inner))
unfolding resolution_of_path
spot-names t path inner text dots e =
    let x = names-walk (link_resolver_with_limit 32 false) (components path) (top t) inner dots e in
    (x.0, ap (λ b. if b then resolve_components_within_links 32 false (top t) (components path) else nowhere) text ∙ x.1)

-- a directory that stands at some names stays where a node that is none is removed
pub stays-removed : (path : List ℕ) (t mid : Names) → NodeRemovedAtPath path t mid → (names : List (List ℕ)) (inner : Names) → descendant_by_names names (Some (directory t)) ≡ Some (directory inner)
    → (more : Names) × (descendant_by_names names (Some (directory mid)) ≡ Some (directory more))
stays-removed path t mid removed names inner e =
    let x = removed-stays removed (reverse names) inner (ap (λ (l : List (List ℕ)). descendant_by_names l (Some (directory t))) (reverse-reverse names) ∙ e) in
    (x.0, ap (λ (l : List (List ℕ)). descendant_by_names l (Some (directory mid))) (sym (reverse-reverse names)) ∙ x.1)

-- what is split before its last one, or behind it
abbrev tail-of : List (List ℕ) → List (List ℕ)
tail-of [] = []
tail-of (y ∷ ys) = ys

nothing-more : (a b : List (List ℕ)) → [] ≡ a ++ b → (a ≡ []) × (b ≡ [])
nothing-more [] b e = (refl, sym e)
nothing-more (y ∷ a) b e = absurd (cc e)

head-same : {x y : List ℕ} {xs ys : List (List ℕ)} → x ∷ xs ≡ y ∷ ys → x ≡ y
head-same e = cc

split-last : (xs front rest : List (List ℕ)) (x last : List ℕ) → xs ++ x ∷ [] ≡ front ++ last ∷ rest → (before : List (List ℕ)) × (xs ≡ front ++ before)
split-last xs [] rest x last e = (xs, refl)
split-last [] (f ∷ front) rest x last e = absurd (clash (nothing-more front (last ∷ rest) (ap tail-of e)).1)
  where
    clash : last ∷ rest ≡ [] → ⊥
    clash a = cc a
split-last (y ∷ xs) (f ∷ front) rest x last e =
    let more = split-last xs front rest x last (ap tail-of e) in
    (more.0, ap (λ (l : List (List ℕ)). y ∷ l) more.1 ∙ ap (λ (z : List ℕ). z ∷ (front ++ more.0)) (head-same e))

-- ---- paths below a root

ends-cons : (a b : ℕ) (path : List ℕ) → ends_in_slash (a ∷ b ∷ path) ≡ ends_in_slash (b ∷ path)
ends-cons a b path =
    let longer : length {A = ℕ} (a ∷ b ∷ path) - 1 ≡ suc (length path) = omega arith in
    let shorter : length {A = ℕ} (b ∷ path) - 1 ≡ length path = omega arith in
    ap (λ (i : ℕ). is_slash (get_or (a ∷ b ∷ path) i 0)) longer ∙ sym (ap (λ (i : ℕ). is_slash (get_or (b ∷ path) i 0)) shorter)

before-slash : (path : List ℕ) → ends_in_slash path ≡ true → (front : List ℕ) × (path ≡ front ++ 47 ∷ [])
before-slash [] e = absurd (cc e)
before-slash (a ∷ []) e = ([], ap (λ (n : ℕ). n ∷ []) (eqb-true a 47 e))
before-slash (a ∷ b ∷ path) e =
    let rest = before-slash (b ∷ path) (sym (ends-cons a b path) ∙ e) in
    (a ∷ rest.0, ap (λ (l : List ℕ). a ∷ l) rest.1)

pub components-behind : (path more : List ℕ) → components (path_joined_with_slash path more) ≡ components path ++ components more
components-behind [] more = refl
components-behind (a ∷ path) more = go (ends_in_slash (a ∷ path)) refl
  where
    go : (b : Bool) → ends_in_slash (a ∷ path) ≡ b → components (if b then (a ∷ path) ++ more else (a ∷ path) ++ 47 ∷ more) ≡ components (a ∷ path) ++ components more
    go false slash = pieces-join (a ∷ path) more
    go true slash =
        let front = before-slash (a ∷ path) slash in
        ap (λ (l : List ℕ). components (l ++ more)) front.1
        ∙ ap components (append_assoc front.0 (47 ∷ []) more) ∙ pieces-join front.0 more
        ∙ ap (λ l. l ++ components more) (sym (ap components front.1 ∙ pieces-join front.0 [] ∙ append-nil (components front.0)))

spelled-behind : (root path : List ℕ) → (path ≡ [] → ⊥) → root_joined_with_relative root path ≡ path_joined_with_slash root path
spelled-behind root [] some = absurd (some refl)
spelled-behind root (b ∷ path) some = refl

pub components-full : (root : List ℕ) (names : List (List ℕ)) → gitbase.AreNames names → components (root_joined_with_relative root (slash_joined_components names)) ≡ components root ++ names
components-full root names are = go (slash_joined_components names) refl
  where
    go : (path : List ℕ) → slash_joined_components names ≡ path → components (root_joined_with_relative root (slash_joined_components names)) ≡ components root ++ names
    go [] e = ap (λ (p : List ℕ). components (root_joined_with_relative root p)) e ∙ sym (append-nil (components root)) ∙ ap (λ (l : List (List ℕ)). components root ++ l) (sym (ap components e) ∙ components-spelled names are)
    go (b ∷ path) e =
        ap (λ (p : List ℕ). components (root_joined_with_relative root p)) e ∙ components-behind root (b ∷ path)
        ∙ ap (λ (l : List (List ℕ)). components root ++ l) (sym (ap components e) ∙ components-spelled names are)

-- the fronts of a front come first
fronts-first : (a b : List (List ℕ)) → (more : List (List (List ℕ))) × (all_prefixes_shortest_first (a ++ b) ≡ all_prefixes_shortest_first a ++ more)
fronts-first [] [] = ([], refl)
fronts-first [] (n ∷ b) = (map (λ (front : List (List ℕ)). n ∷ front) (all_prefixes_shortest_first b), refl)
fronts-first (n ∷ a) b =
    let x = fronts-first a b in
    let onto : List (List ℕ) → List (List ℕ) = λ front. n ∷ front in
    (map onto x.0, ap (λ (l : List (List (List ℕ))). [] ∷ map onto l) x.1 ∙ ap (λ (l : List (List (List ℕ))). [] ∷ l) (map-append onto (all_prefixes_shortest_first a) x.0))

there-first : (root : List ℕ) (t : Names) (a b : List (List (List ℕ))) → AreDirectoriesBelowRoot root t (a ++ b) → AreDirectoriesBelowRoot root t a
there-first root t [] b are = tt
there-first root t (names ∷ a) b are = (are.0, there-first root t a b are.1)

pub there-front : (root : List ℕ) (t : Names) (a b : List (List ℕ)) → AreDirectoriesBelowRoot root t (all_prefixes_shortest_first (a ++ b)) → AreDirectoriesBelowRoot root t (all_prefixes_shortest_first a)
there-front root t a b are = let x = fronts-first a b in there-first root t (all_prefixes_shortest_first a) x.0 (subst (AreDirectoriesBelowRoot root t) x.1 are)

there-last : (root : List ℕ) (t : Names) (ds : List (List (List ℕ))) (d : List (List ℕ)) → AreDirectoriesBelowRoot root t (ds ++ d ∷ []) → IsDirectoryBelowRoot root t d
there-last root t [] d are = are.0
there-last root t (x ∷ ds) d are = there-last root t ds d are.1

there-at : (root : List ℕ) (t : Names) (names : List (List ℕ)) → AreDirectoriesBelowRoot root t (all_prefixes_shortest_first names) → IsDirectoryBelowRoot root t names
there-at root t names are = there-last root t (proper_ancestor_directories names) names (subst (AreDirectoriesBelowRoot root t) (pushed-ancestors names) are)

front-are : (a b : List (List ℕ)) → gitbase.AreNames (a ++ b) → gitbase.AreNames a
front-are [] b are = tt
front-are (n ∷ a) b are = (are.0, front-are a b are.1)

both-normal : (a b : List (List ℕ)) → list_any is_dot_or_dot_dot a ≡ false → list_any is_dot_or_dot_dot b ≡ false → list_any is_dot_or_dot_dot (a ++ b) ≡ false
both-normal [] b x y = y
both-normal (n ∷ a) b x y = let e = neither (is_dot_or_dot_dot n) (list_any is_dot_or_dot_dot a) x in ap (λ (d : Bool). d || list_any is_dot_or_dot_dot (a ++ b)) e.0 ∙ both-normal a b e.1 y

pub front-normal : (a b : List (List ℕ)) → list_any is_dot_or_dot_dot (a ++ b) ≡ false → list_any is_dot_or_dot_dot a ≡ false
front-normal [] b x = refl
front-normal (n ∷ a) b x = let e = neither (is_dot_or_dot_dot n) (list_any is_dot_or_dot_dot (a ++ b)) x in ap (λ (d : Bool). d || list_any is_dot_or_dot_dot a) e.0 ∙ front-normal a b e.1

map-same : {A B : Type 0} (f g : A → B) (xs : List A) → ((x : A) → f x ≡ g x) → map f xs ≡ map g xs
map-same f g [] same = refl
map-same f g (x ∷ xs) same = ap (λ y. y ∷ map f xs) (same x) ∙ ap (λ ys. g x ∷ ys) (map-same f g xs same)

map-twice : {A B C : Type 0} (f : B → C) (g : A → B) (xs : List A) → map f (map g xs) ≡ map (λ x. f (g x)) xs
map-twice f g [] = refl
map-twice f g (x ∷ xs) = ap (λ ys. f (g x) ∷ ys) (map-twice f g xs)

map-itself : {A : Type 0} (xs : List A) → map (λ (x : A). x) xs ≡ xs
map-itself [] = refl
map-itself (x ∷ xs) = ap (λ ys. x ∷ ys) (map-itself xs)

-- ---- the directories below a root

module _ (root : List ℕ) (t mid : Names) (path : List ℕ) (removed : NodeRemovedAtPath path t mid) (plain : IsPathWithoutLinksOrDots t root) (names : List (List ℕ)) (names-are : gitbase.AreNames names)
    (normal : list_any is_dot_or_dot_dot names ≡ false) (there : AreDirectoriesBelowRoot root t (all_prefixes_shortest_first names)) where
  abbrev FreeTo : List (List ℕ) → Type 0
  FreeTo pre = (front rest : List (List ℕ)) → components root ++ pre ≡ front ++ rest → IsNotSymlink (descendant_by_names front (Some (directory t)))

  abbrev FreeBefore : List (List ℕ) → Type 0
  FreeBefore pre = NoLinks t (components root ++ pre)

  -- a directory that is pushed stands at its names
  at-names : (p : List ℕ) (ps rest : List (List ℕ)) → gitbase.AreNames ((p ∷ ps) ++ rest) → list_any is_dot_or_dot_dot ((p ∷ ps) ++ rest) ≡ false → AreDirectoriesBelowRoot root t (all_prefixes_shortest_first ((p ∷ ps) ++ rest)) → FreeBefore (p ∷ ps)
      → (is_utf8_without_nul (root_joined_with_relative root (slash_joined_components (p ∷ ps))) ≡ true) × (inner : Names) × (descendant_by_names (components root ++ (p ∷ ps)) (Some (directory t)) ≡ Some (directory inner))
  at-names p ps rest are dots there free =
      let pre : List (List ℕ) = p ∷ ps in
      let whole : List ℕ = root_joined_with_relative root (slash_joined_components pre) in
      let parts : components whole ≡ components root ++ pre = components-full root pre (front-are pre rest are) in
      let leads = there-at root t pre (there-front root t pre rest there) in
      let x = spot-plain t whole leads.0 leads.1
      (ap (list_any is_dot_or_dot_dot) parts ∙ both-normal (components root) pre plain.normal (front-normal pre rest dots))
      (subst (NoLinks t) (sym parts) free) leads.2 in
      (x.0, leads.1, ap (λ (l : List (List ℕ)). descendant_by_names l (Some (directory t))) (sym parts) ∙ x.1)

  -- and so it is there in the end
  still : (pre rest : List (List ℕ)) → gitbase.AreNames (pre ++ rest) → list_any is_dot_or_dot_dot (pre ++ rest) ≡ false → AreDirectoriesBelowRoot root t (all_prefixes_shortest_first (pre ++ rest)) → FreeBefore pre → IsDirectoryBelowRoot root mid pre
  still [] rest are dots there free = tt
  still (p ∷ ps) rest are dots there free =
      let pre : List (List ℕ) = p ∷ ps in
      let whole : List ℕ = root_joined_with_relative root (slash_joined_components pre) in
      let parts : components whole ≡ components root ++ pre = components-full root pre (front-are pre rest are) in
      let x = at-names p ps rest are dots there free in
      let y = stays-removed path t mid removed (components root ++ pre) x.1 x.2 in
      let z = spot-names mid whole y.0 x.0 (ap (list_any is_dot_or_dot_dot) parts ∙ both-normal (components root) pre plain.normal (front-normal pre rest dots))
      (ap (λ (l : List (List ℕ)). descendant_by_names l (Some (directory mid))) parts ∙ y.1) in
      (z.0, y.0, z.1)

  before-from : (pre : List (List ℕ)) → FreeTo pre → FreeBefore pre
  before-from pre free front rest last split = free front (last ∷ rest) split

  -- one name more
  before-more : (pre : List (List ℕ)) (n : List ℕ) → FreeTo pre → FreeBefore (pre ++ n ∷ [])
  before-more pre n free front rest last split =
      let x = split-last (components root ++ pre) front rest n last (append_assoc (components root) pre (n ∷ []) ∙ split) in
      free front x.0 x.1

  free-more : (pre : List (List ℕ)) (n : List ℕ) (inner : Names) → FreeTo pre → descendant_by_names (components root ++ (pre ++ n ∷ [])) (Some (directory t)) ≡ Some (directory inner) → FreeTo (pre ++ n ∷ [])
  free-more pre n inner free is front [] split = λ target linked.
      clash target (ap (λ (l : List (List ℕ)). descendant_by_names l (Some (directory t))) (split ∙ append-nil front)) is linked
    where
      clash : (target : List ℕ) → descendant_by_names (components root ++ (pre ++ n ∷ [])) (Some (directory t)) ≡ descendant_by_names front (Some (directory t)) → descendant_by_names (components root ++ (pre ++ n ∷ [])) (Some (directory t)) ≡ Some (directory inner)
          → descendant_by_names front (Some (directory t)) ≡ Some (link target) → ⊥
      clash target a b c = never (sym b ∙ a ∙ c)
        where
          never : Some (directory inner) ≡ Some (link target) → ⊥
          never e = cc e
  free-more pre n inner free is front (last ∷ rest) split = before-more pre n free front rest last split

  all-still : (pre rest : List (List ℕ)) → gitbase.AreNames (pre ++ rest) → list_any is_dot_or_dot_dot (pre ++ rest) ≡ false → AreDirectoriesBelowRoot root t (all_prefixes_shortest_first (pre ++ rest)) → FreeTo pre → AreDirectoriesBelowRoot root mid (map (λ (x : List (List ℕ)). pre ++ x) (all_prefixes_shortest_first rest))
  all-still pre [] are dots there free = (subst (IsDirectoryBelowRoot root mid) (sym (append-nil pre)) (still pre [] are dots there (before-from pre free)), tt)
  all-still pre (n ∷ rest) are dots there free =
      let joins : pre ++ n ∷ rest ≡ (pre ++ n ∷ []) ++ rest = sym (append_assoc pre (n ∷ []) rest) in
      let are1 = subst gitbase.AreNames joins are in
      let dots1 : list_any is_dot_or_dot_dot ((pre ++ n ∷ []) ++ rest) ≡ false = sym (ap (list_any is_dot_or_dot_dot) joins) ∙ dots in
      let there1 = subst (λ (l : List (List ℕ)). AreDirectoriesBelowRoot root t (all_prefixes_shortest_first l)) joins there in
      let more = at-next pre n rest are1 dots1 there1 (before-more pre n free) in (
        subst (IsDirectoryBelowRoot root mid) (sym (append-nil pre)) (still pre (n ∷ rest) are dots there (before-from pre free)),
        subst (AreDirectoriesBelowRoot root mid) (sym (map-twice (λ (x : List (List ℕ)). pre ++ x) (λ (x : List (List ℕ)). n ∷ x) (all_prefixes_shortest_first rest) ∙ map-same _ _ (all_prefixes_shortest_first rest) (λ x. sym (append_assoc pre (n ∷ []) x))))
            (all-still (pre ++ n ∷ []) rest are1 dots1 there1 (free-more pre n more.0 free more.1)),
      )
    where
      at-next : (pre : List (List ℕ)) (n : List ℕ) (rest : List (List ℕ)) → gitbase.AreNames ((pre ++ n ∷ []) ++ rest) → list_any is_dot_or_dot_dot ((pre ++ n ∷ []) ++ rest) ≡ false → AreDirectoriesBelowRoot root t (all_prefixes_shortest_first ((pre ++ n ∷ []) ++ rest)) → FreeBefore (pre ++ n ∷ [])
          → (inner : Names) × (descendant_by_names (components root ++ (pre ++ n ∷ [])) (Some (directory t)) ≡ Some (directory inner))
      at-next [] n rest are dots there free = let x = at-names n [] rest are dots there free in (x.1, x.2)
      at-next (p ∷ ps) n rest are dots there free = let x = at-names p (ps ++ n ∷ []) rest are dots there free in (x.1, x.2)

  -- the directories below a root to which no link leads are still there
  pub there-removed : AreDirectoriesBelowRoot root mid (all_prefixes_shortest_first names)
  there-removed =
      subst (AreDirectoriesBelowRoot root mid) (map-itself (all_prefixes_shortest_first names))
      (all-still [] names names-are normal there (λ front rest split. plain.no_link front rest (sym (append-nil (components root)) ∙ split)))
