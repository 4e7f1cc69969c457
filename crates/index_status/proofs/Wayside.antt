-- On the way from a root to a path below it.
use Rattle.std.proofs.Common.{◌≡◌, inl, inr, ℕ, List, [], ◌∷◌, true, false, Option, Some, None, bytes_eq, subst}
use Rattle.std.proofs.lemmas.Slice.Eq.{bytes_eq-Decides}
use Rattle.gitbase_core.specs.Path.{components, path_joined_with_slash}
use Rattle.worktree_fs.specs.Kept.{KeepsTreeAndListCounts}
use Rattle.worktree_fs.specs.Tree.{Names}
use Rattle.worktree_fs.specs.declared.worktree.Worktree.{Ghosts as WorktreeOf}
use Rattle.worktree_report.specs.Looks.{IsDirectoryInToldTree, IsLookedAtOnWay}
use Rattle.index_status.specs.Ways.{IsRestBehindNameOrNothing, AreDirectoriesOrBarred, has_any_name, is_barring_node, path_through_directories}

-- directories alone have led here, and the way goes on along a name and those that are left
pub record IsOn {W : Type 0} (w : WorktreeOf W) (w0 w1 : W) (root path : List ℕ) (barred : Option (List ℕ)) (here name : List ℕ) (left known : List (List ℕ)) : Type 0 where
  pub keeps : KeepsTreeAndListCounts w w0 w1
  pub unread : w.reads w1 ≡ w.reads w0
  pub unfaulted : w.faults w1 ≡ w.faults w0
  pub leads : (t : Names) → w.told w0 ≡ Some t → path_through_directories t here (name ∷ left) ≡ path_through_directories t root (components path)
  pub on_way : (at : List ℕ) → IsLookedAtOnWay (w.told w0) here (name ∷ left) at → IsLookedAtOnWay (w.told w0) root (components path) at
  pub led : (bar : Option (List ℕ)) → AreDirectoriesOrBarred (w.told w0) bar here (name ∷ left) → AreDirectoriesOrBarred (w.told w0) bar root (components path)
  pub known_led : AreDirectoriesOrBarred (w.told w0) barred here known

-- a whole path that is not that of what bars a way bars none
unbarred : (barred : Option (List ℕ)) (full : List ℕ) → is_barring_node barred full ≡ false → barred ≡ Some full → ⊥
unbarred None full differs is = absurd (cc is)
unbarred (Some bar) full differs is =
    let same : bar ≡ full = cc is in
    let yes : bytes_eq bar full ≡ true = (bytes_eq-Decides bar full).1 same in
    absurd (cc (yes, differs))

module _ (told : Option Names) (barred : Option (List ℕ)) (here name : List ℕ) (known : List (List ℕ)) (led : AreDirectoriesOrBarred told barred here known)
    (unlike : is_barring_node barred (path_joined_with_slash here name) ≡ false) where
  -- the name to which a known path has more behind it is that of a directory
  pub led-behind : (left : List (List ℕ)) → IsRestBehindNameOrNothing known name left → has_any_name left ≡ true → IsDirectoryInToldTree told (path_joined_with_slash here name)
  led-behind [] behind some = absurd (cc some)
  led-behind (next ∷ left) (inl none) some = absurd (cc none)
  led-behind (next ∷ left) (inr is) some = led-by next left (subst (AreDirectoriesOrBarred told barred here) is led)
    where
      led-by : (next : List ℕ) (left : List (List ℕ)) → AreDirectoriesOrBarred told barred here (name ∷ next ∷ left) → IsDirectoryInToldTree told (path_joined_with_slash here name)
      led-by next left (inl bars) = absurd (unbarred barred (path_joined_with_slash here name) unlike bars)
      led-by next left (inr leads) = leads.0

  pub led-onward : (left : List (List ℕ)) → IsRestBehindNameOrNothing known name left → AreDirectoriesOrBarred told barred (path_joined_with_slash here name) left
  led-onward [] behind = tt
  led-onward (next ∷ left) (inl none) = absurd (cc none)
  led-onward (next ∷ left) (inr is) = led-by next left (subst (AreDirectoriesOrBarred told barred here) is led)
    where
      led-by : (next : List ℕ) (left : List (List ℕ)) → AreDirectoriesOrBarred told barred here (name ∷ next ∷ left) → AreDirectoriesOrBarred told barred (path_joined_with_slash here name) (next ∷ left)
      led-by next left (inl bars) = absurd (unbarred barred (path_joined_with_slash here name) unlike bars)
      led-by next left (inr leads) = leads.1
