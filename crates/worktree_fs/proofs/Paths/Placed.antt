-- How a path behind its root grows and shrinks with the path.
use Rattle.std.proofs.Common.{◌≡◌, ℕ, ◌-◌, ◌<◌, ◌⊎◌, List, [], ◌∷◌, ◌++◌, length, take, reverse, Option, Some, None, sym, ap, subst, ◌∙◌, arith}
use Rattle.std.specs.Prelude.{unwrap_or}
use Rattle.std.proofs.lemmas.List.{length-take, length-take-le, nil_from_length}
use Rattle.gitbase_core.specs.Path.{components, path_joined_with_slash, parent}
use Rattle.gitbase_core.proofs.Names.{AreNames-components}
use Rattle.gitbase_core.proofs.ClosedPaths.{IsClosed}
use Rattle.gitbase_core.proofs.Slashes.{take-parent}
use Rattle.worktree_fs.specs.Paths.{IsSinglePathComponent, slash_joined_components, root_joined_with_relative, all_but_last}
use Rattle.worktree_fs.specs.Placed.{RootedPathModel, rooted_path_of_fields, IsWholeOfRootAndRelative}
use Rattle.worktree_fs.proofs.Paths.Spelled.{AreNames-reverse, name_from, grown-is, grown-components, cut-is, cut-components}
use Rattle.worktree_fs.proofs.Routes.FullPaths.{closed, full_path-joined, full_path-cut, longer-joined, root-joined, root-full_path, take-full_path}

ends : (path : List ℕ) → path ≡ slash_joined_components (components path) → (path ≡ []) ⊎ IsClosed path
ends path is =
    subst (λ p. (p ≡ []) ⊎ IsClosed p) (sym is) (closed (reverse (components path)) (AreNames-reverse (components path) (AreNames-components path)))

some_from : (o : Option (List ℕ)) (up : List ℕ) → unwrap_or o [] ≡ up → 0 < length up → o ≡ Some up
some_from None up is some = absurd (omega (arith, ap length is))
some_from (Some path) up is some = ap Some is

same_placed : (a b : RootedPathModel) → a.root ≡ b.root → a.names ≡ b.names → a ≡ b
same_placed a b roots names =
    let of_root : List ℕ → RootedPathModel = λ r. record { root = r; names = a.names } in
    let of_names : List (List ℕ) → RootedPathModel = λ n. record { root = b.root; names = n } in
    ap of_root roots ∙ ap of_names names

module _ (n : ℕ) (whole path : List ℕ) (is : IsWholeOfRootAndRelative n whole path) where
  -- a component more
  module _ (name : List ℕ) (component : IsSinglePathComponent name) where
    root_stays : take n (path_joined_with_slash whole name) ≡ take n whole
    root_stays = root-joined n whole name is.0

    pub grown-placed : IsWholeOfRootAndRelative n (path_joined_with_slash whole name) (path_joined_with_slash path name)
    grown-placed = (
      omega (arith, is.0, longer-joined whole name),
      grown-is path name is.1 component ∙ ap slash_joined_components (sym (grown-components path name is.1 component)),
      ap (λ w. path_joined_with_slash w name) is.2
          ∙ full_path-joined (take n whole) path name (ends path is.1) (name_from name component)
          ∙ ap (λ root. root_joined_with_relative root (path_joined_with_slash path name)) (sym root_stays),
    )

    pub placed-grown : (p : RootedPathModel) → rooted_path_of_fields n whole path ≡ p
        → rooted_path_of_fields n (path_joined_with_slash whole name) (path_joined_with_slash path name) ≡ record { root = p.root; names = p.names ++ name ∷ [] }
    placed-grown p view =
        same_placed (rooted_path_of_fields n (path_joined_with_slash whole name) (path_joined_with_slash path name)) (record { root = p.root; names = p.names ++ name ∷ [] })
        (root_stays ∙ ap (λ (q : RootedPathModel). q.root) view)
        (grown-components path name is.1 component ∙ ap (λ (q : RootedPathModel). q.names ++ name ∷ []) view)

  -- a component less
  module _ (up : List ℕ) (up_is : up ≡ unwrap_or (parent path) []) where
    up_spelled : up ≡ slash_joined_components (components up)
    up_spelled =
        up_is ∙ cut-is path is.1 ∙ ap slash_joined_components (sym (cut-components path is.1)) ∙ ap (λ p. slash_joined_components (components p)) (sym up_is)

    up_names : components up ≡ all_but_last (components path)
    up_names = ap components up_is ∙ cut-components path is.1

    abbrev pub root : List ℕ
    root = take n whole

    root_length : length root ≡ n
    root_length = length-take-le n whole is.0

    module _ (cut : List ℕ) (cut_is : cut ≡ root_joined_with_relative root up) where
      cut_root : take n cut ≡ root
      cut_root =
          ap (take n) cut_is ∙ ap (λ k. take k (root_joined_with_relative root up)) (sym root_length) ∙ take-full_path root up

      pub cut-placed : IsWholeOfRootAndRelative n cut up
      cut-placed = (
        omega (arith, root_length, root-full_path root up, ap length cut_is),
        up_spelled,
        cut_is ∙ ap (λ r. root_joined_with_relative r up) (sym cut_root),
      )

      pub placed-cut : (p : RootedPathModel) → rooted_path_of_fields n whole path ≡ p → rooted_path_of_fields n cut up ≡ record { root = p.root; names = all_but_last p.names }
      placed-cut p view =
          same_placed (rooted_path_of_fields n cut up) (record { root = p.root; names = all_but_last p.names })
          (cut_root ∙ ap (λ (q : RootedPathModel). q.root) view)
          (up_names ∙ ap (λ (q : RootedPathModel). all_but_last q.names) view)

    -- the root is left
    pub cut_to_root : length up ≡ 0 → take n whole ≡ root_joined_with_relative root up
    cut_to_root none = sym (ap (root_joined_with_relative root) (nil_from_length up none))

    -- a path is left
    pub cut_to_path : 0 < length up → take (length whole - (length path - length up)) whole ≡ root_joined_with_relative root up
    cut_to_path some =
        let parent_is : parent path ≡ Some up = some_from (parent path) up (sym up_is) some in
        let front : take (length up) path ≡ up = take-parent path up parent_is in
        ap (λ (w : List ℕ). take (length w - (length path - length up)) w) is.2
        ∙ full_path-cut root path up some (omega (arith, ap length front, length-take (length up) path)) front
