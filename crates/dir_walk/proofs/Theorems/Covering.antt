-- Over each leaf that is not pruned stands exactly one entry: itself, or one above it; and where the leaf is shown, that is too.
use Rattle.std.proofs.Common.{◌≡◌, ℕ, ◌+◌, ◌≤◌, List, [], ◌∷◌, ◌++◌, Bool, true, false, cond, not, ◌||◌, ◌&&◌, Option, Some, None, count_by, map, filter, refl, sym, ap, ◌∙◌, arith}
use Rattle.std.specs.Prelude.{is_none}
use Rattle.std.specs.List.{AllByRecursion}
use Rattle.gitbase_core.specs.Path.{ends_in_slash, is_prefix_by_whole_components, is_beneath_directory}
use Rattle.worktree_fs.specs.Naming.{IsValidTree}
use Rattle.worktree_fs.specs.Tree.{Names, directory}
use Rattle.dir_classify.specs.declared.classify.Outcome.{Outcome as Class}
use Rattle.dir_classify.specs.declared.entry.Entry.{Entry}
use Rattle.dir_classify.specs.declared.entry.Status.{Status}
use Rattle.dir_classify.specs.Chosen.{WalkOptions, folds_untracked_or_ignored}
use Rattle.dir_classify.specs.Evidence.{PathEvidence}
use Rattle.dir_walk.specs.Covered.{is_uncollapsed_above_path}
use Rattle.dir_walk.specs.Emissions.{Emission, is_empty_directory_property, path_of_emission, uncollapsed_emission, is_entry_shown_by_options, collapsed_emission}
use Rattle.dir_walk.specs.Fold.{fold, is_pruned, emits_besides_folded_directory, tally_held_entries}
use Rattle.dir_walk.specs.Walked.{WalkResult, merge_walk_results, walk_result_of_closed_directory, walk_result_of_empty_directory, entry_of_empty_directory, walk_result_folded_if_some, walk_result_of_folded_directory, walk_result_handing_up_leaf, holds_status_for_folding, walk_result_of_leaf_entry, walk_result_emitting_leaf, report_of, walk_result_of_unfolded_directory}
use Rattle.dir_walk.proofs.Places.Beneath.{beneath-prefix, prefix-self, strictly-beneath}
use Rattle.dir_walk.proofs.Folding.Closing.{leaf-gives}
use Rattle.dir_walk.proofs.Order.Counts.{count_by-append, count_by-cons, count_by-map, count_by-map_filter, count-none}
use Rattle.dir_walk.proofs.Theorems.Guards.{status-loose}
use Rattle.dir_walk.proofs.Theorems.Induct.{Cases, NoneEmpty, at_report}
use Rattle.dir_walk.proofs.Order.Lists.{all_append, all_join, all_weaker, and_false, neither, or_left, or_right, refuted}
use Rattle.dir_walk.proofs.Places.Located.{Apart, Inside, IsFold, LieIn, at_or_beneath, fold-is}
use Rattle.dir_walk.proofs.Order.Same.{emission_is, emission_same, same_emission}
use Rattle.dir_walk.proofs.Folding.ShownFolds.{fold-shown}

-- an entry by itself is that of a leaf, or stands above it
abbrev pub covers : Entry → Emission → Bool
covers l x = same_emission (uncollapsed_emission l) x || is_uncollapsed_above_path l.rela_path x

-- it does, and is hidden
abbrev pub covers_hidden : WalkOptions → Entry → Emission → Bool
covers_hidden o l x = covers l x && not (is_entry_shown_by_options o x.0)

-- how many do, of what is put out and handed up
abbrev pub number_by : (Emission → Bool) → WalkResult → ℕ
number_by p w = count_by p w.out + count_by (λ e. p (uncollapsed_emission e)) w.up

-- a leaf that is not pruned is covered once; where it is shown, not by what is hidden
abbrev pub IsCovered : WalkOptions → WalkResult → Entry → Type 0
IsCovered o w l = is_pruned l ≡ false → (number_by (covers l) w ≡ 1) × (is_entry_shown_by_options o l ≡ true → number_by (covers_hidden o l) w ≡ 0)

-- all are, and where the directory above may fold, by what is handed up alone
pub record Covering (o : WalkOptions) (lies : List ℕ → Bool) (w : WalkResult) : Type 0 where
  pub covered : AllByRecursion (IsCovered o w) w.met
  pub free : folds_untracked_or_ignored o ≡ true → w.blocks ≡ false → AllByRecursion (λ (l : Entry). is_pruned l ≡ false → count_by (covers l) w.out ≡ 0) w.met

pub number-map : (p : Emission → Bool) (out : List Emission) (up : List Entry) → count_by p (out ++ map uncollapsed_emission up) ≡ count_by p out + count_by (λ e. p (uncollapsed_emission e)) up
number-map p out up = omega (arith, count_by-append p out (map uncollapsed_emission up), count_by-map p uncollapsed_emission up)

covers-self : (l : Entry) → covers l (uncollapsed_emission l) ≡ true
covers-self l = or_left (same_emission (uncollapsed_emission l) (uncollapsed_emission l)) _ (emission_same (uncollapsed_emission l))

-- what stands besides a folded directory covers nothing
covers-none_within : (l : Entry) (s : Status) (e : Entry) → covers l (collapsed_emission s e) ≡ false
covers-none_within l s e = go (same_emission (uncollapsed_emission l) (collapsed_emission s e)) refl
  where
    go : (b : Bool) → same_emission (uncollapsed_emission l) (collapsed_emission s e) ≡ b → (b || is_uncollapsed_above_path l.rela_path (collapsed_emission s e)) ≡ false
    go false is = refl
    go true is = absurd (let f : None ≡ Some s = ap (λ (x : Emission). x.1) (emission_is (uncollapsed_emission l) (collapsed_emission s e) is) in cc f)

covers-none_collapsed : (l : Entry) (s : Status) (q : Entry → Bool) (held : List Entry) → count_by (covers l) (map (collapsed_emission s) (filter q held)) ≡ 0
covers-none_collapsed l s q held =
    count_by-map_filter (covers l) (collapsed_emission s) q held ∙ count-none (λ (e : Entry). q e && covers l (collapsed_emission s e)) held (none held)
  where
    none : (xs : List Entry) → AllByRecursion (λ (e : Entry). (q e && covers l (collapsed_emission s e)) ≡ false) xs
    none [] = tt
    none (x ∷ xs) = (and_false (q x) (covers l (collapsed_emission s x)) (covers-none_within l s x), none xs)

-- what covers a leaf has a path that is a prefix of its
covers-prefix : (l : Entry) (x : Emission) → covers l x ≡ true → is_prefix_by_whole_components (path_of_emission x) l.rela_path ≡ true
covers-prefix l x h = go (same_emission (uncollapsed_emission l) x) refl h
  where
    go : (b : Bool) → same_emission (uncollapsed_emission l) x ≡ b → (b || is_uncollapsed_above_path l.rela_path x) ≡ true → is_prefix_by_whole_components (path_of_emission x) l.rela_path ≡ true
    go true is k = ap (λ (y : Emission). is_prefix_by_whole_components (path_of_emission y) l.rela_path) (sym (emission_is (uncollapsed_emission l) x is)) ∙ prefix-self l.rela_path
    go false is k = beneath-prefix (path_of_emission x) l.rela_path (second (is_none x.1) (is_beneath_directory (path_of_emission x) l.rela_path) k)
      where
        second : (a b : Bool) → (a && b) ≡ true → b ≡ true
        second true b e = e
        second false b e = absurd (cc e)

-- where all lies elsewhere, nothing covers the leaf
covers-far : (there : List ℕ → Bool) (l : Entry) (w : WalkResult) → ((q : List ℕ) → there q ≡ true → is_prefix_by_whole_components q l.rela_path ≡ false) → LieIn there w
    → (count_by (covers l) w.out ≡ 0) × (count_by (λ e. covers l (uncollapsed_emission e)) w.up ≡ 0)
covers-far there l w far at = (
  count-none (covers l) w.out (all_weaker (λ (x : Emission). there (path_of_emission x) ≡ true) (λ (x : Emission). covers l x ≡ false) w.out (λ x is. off x is) at.out),
  count-none (λ (e : Entry). covers l (uncollapsed_emission e)) w.up (all_weaker (λ (e : Entry). there e.rela_path ≡ true) (λ (e : Entry). covers l (uncollapsed_emission e) ≡ false) w.up (λ e is. off (uncollapsed_emission e) is) at.up),
)
  where
    off : (x : Emission) → there (path_of_emission x) ≡ true → covers l x ≡ false
    off x is = refuted (covers l x) (λ h. sym (far (path_of_emission x) is) ∙ covers-prefix l x h)

and-few : {X : Type 0} (p q : X → Bool) (xs : List X) → count_by (λ x. p x && q x) xs ≤ count_by p xs
and-few p q [] = omega arith
and-few p q (x ∷ xs) = omega (arith, count_by-cons (λ y. p y && q y) x xs, count_by-cons p x xs, and-few p q xs, go (p x) (q x))
  where
    go : (a b : Bool) → cond {A = ℕ} (a && b) 1 0 ≤ cond a 1 0
    go true true = omega arith
    go true false = omega arith
    go false b = omega arith

-- what passes the first test and not the second is apart from what passes both
split-le : {X : Type 0} (p q : X → Bool) (xs : List X) → count_by p xs ≤ count_by q xs + count_by (λ x. p x && not (q x)) xs
split-le p q [] = omega arith
split-le p q (x ∷ xs) = omega (arith, count_by-cons p x xs, count_by-cons q x xs, count_by-cons (λ y. p y && not (q y)) x xs, split-le p q xs, go (p x) (q x))
  where
    go : (a b : Bool) → cond {A = ℕ} a 1 0 ≤ cond b 1 0 + cond (a && not b) 1 0
    go true true = omega arith
    go true false = omega arith
    go false b = omega arith

-- fewer are hidden than there are
hidden-few : (o : WalkOptions) (l : Entry) (out : List Emission) → count_by (covers_hidden o l) out ≤ count_by (covers l) out
hidden-few o l out = and-few (covers l) (λ (x : Emission). not (is_entry_shown_by_options o x.0)) out

hidden-few_up : (o : WalkOptions) (l : Entry) (up : List Entry) → count_by (λ e. covers_hidden o l (uncollapsed_emission e)) up ≤ count_by (λ e. covers l (uncollapsed_emission e)) up
hidden-few_up o l up = and-few (λ (e : Entry). covers l (uncollapsed_emission e)) (λ (e : Entry). not (is_entry_shown_by_options o e)) up

shown-not_hidden : (a b : Bool) → b ≡ true → (a && not b) ≡ false
shown-not_hidden a b e = and_false a (not b) (ap not e)

module _ (o : WalkOptions) (ev : PathEvidence) where
  -- an entry over itself
  one-over : (e : Entry) → (cond {A = ℕ} (covers e (uncollapsed_emission e)) 1 0 ≡ 1) × (is_entry_shown_by_options o e ≡ true → cond {A = ℕ} (covers_hidden o e (uncollapsed_emission e)) 1 0 ≡ 0)
  one-over e = (
    ap {B = ℕ} (λ (b : Bool). cond b 1 0) (covers-self e),
    λ s. ap {B = ℕ} (λ (b : Bool). cond b 1 0) (shown-not_hidden (covers e (uncollapsed_emission e)) (is_entry_shown_by_options o e) s),
  )

  leaf-covering : (lies : List ℕ → Bool) (e : Entry) → Covering o lies (walk_result_of_leaf_entry o e)
  unfolding walk_result_of_leaf_entry
  leaf-covering lies e = go (holds_status_for_folding o e.status) refl
    where
      held_if : (p f : Bool) → (not p && f) ≡ false → f ≡ true → p ≡ false → false ≡ true
      held_if true f e g h = sym h
      held_if false f e g h = sym e ∙ g

      go : (b : Bool) → holds_status_for_folding o e.status ≡ b → Covering o lies (cond b (walk_result_handing_up_leaf e) (walk_result_emitting_leaf e))
      go true h =
          record {
            covered = (
              λ n. (
                omega (arith, count_by-cons (λ (x : Entry). covers e (uncollapsed_emission x)) e [], (one-over e).0),
                λ s. omega (arith, count_by-cons (λ (x : Entry). covers_hidden o e (uncollapsed_emission x)) e [], (one-over e).1 s),
              ),
              tt,
            );
            free = λ f b. (λ n. refl, tt);
          }
      go false h =
          record {
            covered = (
              λ n. (
                omega (arith, count_by-cons (covers e) (uncollapsed_emission e) [], (one-over e).0),
                λ s. omega (arith, count_by-cons (covers_hidden o e) (uncollapsed_emission e) [], (one-over e).1 s),
              ),
              tt,
            );
            free = λ f b. (λ n. absurd (let no : false ≡ true = held_if (is_pruned e) (folds_untracked_or_ignored o) h f n in cc no), tt);
          }

  empty-covering : (lies : List ℕ → Bool) (d : List ℕ) (c : Class) → Covering o lies (walk_result_of_empty_directory o ev d c)
  unfolding walk_result_of_empty_directory
  empty-covering lies d c =
      let e : Entry = entry_of_empty_directory ev d c in
      let h : Covering o lies (walk_result_of_leaf_entry o e) = leaf-covering lies e in
      record { covered = h.covered; free = λ f b. h.free f (leaf-gives o e).blocks }

  module _ (here there lies : List ℕ → Bool) (a b : WalkResult) (apart : Apart here there lies) (at : LieIn here a) (bt : LieIn there b) (left : Covering o here a) (right : Covering o there b) where
    sums : (p : Emission → Bool) → number_by p (merge_walk_results a b) ≡ number_by p a + number_by p b
    sums p = omega (arith, count_by-append p a.out b.out, count_by-append (λ (e : Entry). p (uncollapsed_emission e)) a.up b.up)

    far_there : (l : Entry) → here l.rela_path ≡ true → (count_by (covers l) b.out ≡ 0) × (count_by (λ e. covers l (uncollapsed_emission e)) b.up ≡ 0)
    far_there l is = covers-far there l b (λ q k. apart.other q l.rela_path k is) bt

    far_here : (l : Entry) → there l.rela_path ≡ true → (count_by (covers l) a.out ≡ 0) × (count_by (λ e. covers l (uncollapsed_emission e)) a.up ≡ 0)
    far_here l is = covers-far here l a (λ q k. apart.one q l.rela_path k is) at

    covered-left : (l : Entry) → here l.rela_path ≡ true → IsCovered o a l → IsCovered o (merge_walk_results a b) l
    covered-left l is h n =
        let far = far_there l is in
        let one = h n in (
          omega (arith, sums (covers l), one.0, far.0, far.1),
          λ s. omega (arith, sums (covers_hidden o l), one.1 s, hidden-few o l b.out, hidden-few_up o l b.up, far.0, far.1),
        )

    covered-right : (l : Entry) → there l.rela_path ≡ true → IsCovered o b l → IsCovered o (merge_walk_results a b) l
    covered-right l is h n =
        let far = far_here l is in
        let one = h n in (
          omega (arith, sums (covers l), one.0, far.0, far.1),
          λ s. omega (arith, sums (covers_hidden o l), one.1 s, hidden-few o l a.out, hidden-few_up o l a.up, far.0, far.1),
        )

    both-covering : Covering o lies (merge_walk_results a b)
    both-covering =
        record {
          covered = all_append (IsCovered o (merge_walk_results a b)) a.met b.met
              (all_join (λ (l : Entry). here l.rela_path ≡ true) (IsCovered o a) (IsCovered o (merge_walk_results a b)) a.met covered-left at.met left.covered)
              (all_join (λ (l : Entry). there l.rela_path ≡ true) (IsCovered o b) (IsCovered o (merge_walk_results a b)) b.met covered-right bt.met right.covered);
          free = λ f e.
              let each = neither a.blocks b.blocks e in
              all_append (λ (l : Entry). is_pruned l ≡ false → count_by (covers l) (a.out ++ b.out) ≡ 0) a.met b.met
              (all_join (λ (l : Entry). here l.rela_path ≡ true) (λ (l : Entry). is_pruned l ≡ false → count_by (covers l) a.out ≡ 0) (λ (l : Entry). is_pruned l ≡ false → count_by (covers l) (a.out ++ b.out) ≡ 0) a.met
              (λ l is h n. omega (arith, count_by-append (covers l) a.out b.out, h n, (far_there l is).0)) at.met (left.free f each.0))
              (all_join (λ (l : Entry). there l.rela_path ≡ true) (λ (l : Entry). is_pruned l ≡ false → count_by (covers l) b.out ≡ 0) (λ (l : Entry). is_pruned l ≡ false → count_by (covers l) (a.out ++ b.out) ≡ 0) b.met
              (λ l is h n. omega (arith, count_by-append (covers l) a.out b.out, h n, (far_here l is).0)) bt.met (right.free f each.1));
        }

  module _ (below : List ℕ → Bool) (d : List ℕ) (c : Class) (w : WalkResult) (inside : Inside d below) (own : is_empty_directory_property c.property ≡ false) (at : LieIn below w) (h : Covering o below w) where
    unfolded-covering : Covering o (at_or_beneath d) (walk_result_of_unfolded_directory d w)
    unfolded-covering =
        record {
          covered = all_weaker (IsCovered o w) (IsCovered o (walk_result_of_unfolded_directory d w)) w.met
              (λ l k n. (
                omega (arith, (k n).0, number-map (covers l) w.out w.up),
                λ s. omega (arith, (k n).1 s, number-map (covers_hidden o l) w.out w.up),
              )) h.covered;
          free = λ f b. absurd (cc b);
        }

    folded-covering : (f : Entry) → IsFold o ev d c (tally_held_entries w.up) f → w.blocks ≡ false → Covering o (at_or_beneath d) (walk_result_of_folded_directory o d w f)
    folded-covering f is free =
        record {
          covered = all_join (λ (l : Entry). below l.rela_path ≡ true) (λ (l : Entry). IsCovered o w l × (is_pruned l ≡ false → count_by (covers l) w.out ≡ 0)) (IsCovered o (walk_result_of_folded_directory o d w f)) w.met one at.met
              (all_join (IsCovered o w) (λ (l : Entry). is_pruned l ≡ false → count_by (covers l) w.out ≡ 0) (λ (l : Entry). IsCovered o w l × (is_pruned l ≡ false → count_by (covers l) w.out ≡ 0)) w.met
              (λ l a b. (a, b)) h.covered quiet);
          free = λ _ _. all_weaker (λ (l : Entry). is_pruned l ≡ false → count_by (covers l) w.out ≡ 0) (λ (l : Entry). is_pruned l ≡ false → count_by (covers l) (w.out ++ map (collapsed_emission f.status) (filter q w.up)) ≡ 0) w.met
              (λ l k n. omega (arith, k n, count_by-append (covers l) w.out (map (collapsed_emission f.status) (filter q w.up)), covers-none_collapsed l f.status q w.up)) quiet;
        }
      where
        q : Entry → Bool
        q = emits_besides_folded_directory o.emit_collapsed f.status

        quiet : AllByRecursion (λ (l : Entry). is_pruned l ≡ false → count_by (covers l) w.out ≡ 0) w.met
        quiet = h.free (status-loose o (tally_held_entries w.up) f.status is.status_is).folding free

        above : (l : Entry) → below l.rela_path ≡ true → covers l (uncollapsed_emission f) ≡ true
        above l k =
            or_right (same_emission (uncollapsed_emission l) (uncollapsed_emission f)) (is_uncollapsed_above_path l.rela_path (uncollapsed_emission f))
            (ap (λ (p : List ℕ). is_beneath_directory p l.rela_path) is.path_is ∙ strictly-beneath d l.rela_path (inside.up l.rela_path k) (inside.down l.rela_path k))

        one : (l : Entry) → below l.rela_path ≡ true → IsCovered o w l × (is_pruned l ≡ false → count_by (covers l) w.out ≡ 0) → IsCovered o (walk_result_of_folded_directory o d w f) l
        one l k (covered, none) n =
            let more : List Emission = map (collapsed_emission f.status) (filter q w.up) in
            let off : count_by (covers l) more ≡ 0 = covers-none_collapsed l f.status q w.up in (
              omega (
                arith,
                none n,
                off,
                count_by-append (covers l) w.out more,
                count_by-cons (λ (e : Entry). covers l (uncollapsed_emission e)) f [],
                ap {B = ℕ} (λ (b : Bool). cond b 1 0) (above l k),
              ),
              λ s.
                  let seen : 1 ≤ count_by (is_entry_shown_by_options o) w.up = omega (arith, (covered n).0, none n, (covered n).1 s, split-le (λ (e : Entry). covers l (uncollapsed_emission e)) (is_entry_shown_by_options o) w.up) in
                  let lit : is_entry_shown_by_options o f ≡ true = fold-shown o ev d c w.up f own is seen in
                  omega (
                    arith,
                    (covered n).1 s,
                    count_by-append (covers_hidden o l) w.out more,
                    hidden-few o l more,
                    off,
                    count_by-cons (λ (e : Entry). covers_hidden o l (uncollapsed_emission e)) f [],
                    ap {B = ℕ} (λ (b : Bool). cond b 1 0) (shown-not_hidden (covers l (uncollapsed_emission f)) (is_entry_shown_by_options o f) lit),
                  ),
            )

    closed-covering : Covering o (at_or_beneath d) (walk_result_of_closed_directory o ev d c w)
    unfolding walk_result_of_closed_directory
    closed-covering = go w.blocks (fold o ev d c (tally_held_entries w.up)) refl refl
      where
        go : (b : Bool) (f : Option Entry) → w.blocks ≡ b → fold o ev d c (tally_held_entries w.up) ≡ f → Covering o (at_or_beneath d) (cond b (walk_result_of_unfolded_directory d w) (walk_result_folded_if_some o d w f))
        go true f p q = unfolded-covering
        go false None p q = unfolded-covering
        go false (Some f) p q = folded-covering f (fold-is o ev d c (tally_held_entries w.up) f q) p

  covering : Cases o ev (Covering o)
  covering =
      record {
        at_nothing = λ lies. record { covered = tt; free = λ f b. tt };
        at_broken = λ lies path is. record { covered = tt; free = λ f b. tt };
        at_asking = λ lies b path w is h. record { covered = h.covered; free = h.free };
        at_leaf = λ lies e is. leaf-covering lies e;
        at_empty = λ lies d c is. empty-covering lies d c;
        at_both = λ here there lies a b apart at bt left right. both-covering here there lies a b apart at bt left right;
        at_closed = λ below d c w inside own at h. closed-covering below d c w inside own at h;
      }

  pub report-covering : (d : List ℕ) (c : Class) (names : Names) → NoneEmpty ev → ends_in_slash d ≡ false → is_empty_directory_property c.property ≡ false → IsValidTree (directory names)
      → Covering o (at_or_beneath d) (report_of o ev d c names)
  report-covering d c names clear plain own tree = (at_report o ev (Covering o) covering clear d c names plain own tree).1
