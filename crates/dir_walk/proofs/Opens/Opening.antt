-- Directories that are opened, one call after another, and what is read for their rules.
use Rattle.std.proofs.Common.{◌≡◌, ℕ, ◌+◌, ◌-◌, ◌≤◌, not, List, [], ◌∷◌, ◌++◌, Bool, true, false, cond, Option, Some, None, Result, inl, inr, length, refl, sym, ap, ◌∙◌, arith}
use Rattle.std.specs.Str.{bytes_eq}
use Rattle.std.proofs.lemmas.Cmp.{nat_list_eq_equiv}
use Rattle.gitbase_core.specs.Path.{components, path_joined_with_slash}
use Rattle.worktree_fs.specs.declared.interrupt.Interrupt.{Ghosts as InterruptOf}
use Rattle.worktree_fs.specs.declared.worktree.Worktree.{Ghosts as WorktreeOf}
use Rattle.worktree_fs.specs.Causes.{saturating_sum}
use Rattle.worktree_fs.specs.Naming.{IsValidEntryName}
use Rattle.worktree_fs.specs.Paths.{longest_common_prefix, all_but_last}
use Rattle.worktree_fs.specs.PathStack.{IsNothingOrProperAncestor, shared_proper_ancestor_components}
use Rattle.worktree_fs.proofs.Paths.Spelled.{without_last-snoc}
use Rattle.worktree_stack.proofs.Lookup.Looking.{length-fronts}
use Rattle.worktree_stack.specs.Lookups.{directories_kept_by_lookup, one_if_refused}
use Rattle.worktree_stack.specs.Stacked.{StackModel, pushed_directories}
use Rattle.dir_classify.specs.Chosen.{WalkOptions, deletion_skips_search_of_ignored_directories}
use Rattle.dir_classify.specs.Excludes.{setup_of_optional_stack, directories_pushed_in_stack, has_attributes_if_given}
use Rattle.dir_classify.specs.Kept.{AsksRulesAtMostOnce}
use Rattle.dir_classify.specs.Reads.{most_reads_to_classify_path}
use Rattle.dir_classify.proofs.Most.{most-none}
use Rattle.dir_walk.specs.declared.outcome.Outcome.{Outcome}
use Rattle.dir_walk.specs.Opens.{CountsOpenedAndTooDeep, OpensBoundedDirectories, count_pushed_on_way, reads_files_for_rules_only}
use Rattle.dir_walk.proofs.Order.Lists.{and_left, and_right}
use Rattle.dir_walk.proofs.Places.Placed.{components-child}

-- ---- directories on the way to one

pub front-all : (names rest : List (List ℕ)) → longest_common_prefix names (names ++ rest) ≡ names
front-all [] rest = refl
front-all (name ∷ names) rest = rw (nat_list_eq_equiv.refl name, front-all names rest) refl

-- one more directory on the way is held, or is not
front-grows : (held names : List (List ℕ)) (name : List ℕ)
    → (length (longest_common_prefix held names) ≤ length (longest_common_prefix held (names ++ name ∷ []))) × (length (longest_common_prefix held (names ++ name ∷ [])) ≤ length (longest_common_prefix held names) + 1)
front-grows [] names name = (omega arith, omega arith)
front-grows (h ∷ held) [] name = go (bytes_eq h name)
  where
    go : (b : Bool) → (0 ≤ length (cond b (h ∷ longest_common_prefix held []) [])) × (length (cond b (h ∷ longest_common_prefix held []) []) ≤ 0 + 1)
    go true = none held
      where
        none : (held : List (List ℕ)) → (0 ≤ length (h ∷ longest_common_prefix held [])) × (length (h ∷ longest_common_prefix held []) ≤ 0 + 1)
        none [] = (omega arith, omega arith)
        none (x ∷ held) = (omega arith, omega arith)
    go false = (omega arith, omega arith)
front-grows (h ∷ held) (n ∷ names) name = go (bytes_eq h n) (front-grows held names name)
  where
    go : (b : Bool)
        → (length (longest_common_prefix held names) ≤ length (longest_common_prefix held (names ++ name ∷ []))) × (length (longest_common_prefix held (names ++ name ∷ [])) ≤ length (longest_common_prefix held names) + 1)
        → (length (cond b (h ∷ longest_common_prefix held names) []) ≤ length (cond b (h ∷ longest_common_prefix held (names ++ name ∷ [])) []))
        × (length (cond b (h ∷ longest_common_prefix held (names ++ name ∷ [])) []) ≤ length (cond b (h ∷ longest_common_prefix held names) []) + 1)
    go true ih = (omega (arith, ih.0), omega (arith, ih.1))
    go false ih = (omega arith, omega arith)

pushed-grows : (at : Option (List (List ℕ))) (d name : List ℕ) → IsValidEntryName name
    → (count_pushed_on_way at (components d) ≤ count_pushed_on_way at (components (path_joined_with_slash d name))) × (count_pushed_on_way at (components (path_joined_with_slash d name)) ≤ count_pushed_on_way at (components d) + 1)
pushed-grows None d name is = (omega arith, omega arith)
pushed-grows (Some held) d name is =
    let longer = front-grows held (components d) name in
    let same = ap {B = ℕ} (λ (names : List (List ℕ)). length (longest_common_prefix held names)) (components-child d name is) in
    (omega (arith, longer.0, same), omega (arith, longer.1, same))

-- never more are held than there are
pub pushed-most : (at : Option (List (List ℕ))) (names : List (List ℕ)) → count_pushed_on_way at names ≤ length names + 1
pushed-most None names = omega arith
pushed-most (Some held) names = omega (arith, shorter held names)
  where
    shorter : (held names : List (List ℕ)) → length (longest_common_prefix held names) ≤ length names
    shorter [] names = omega arith
    shorter (h ∷ held) [] = omega arith
    shorter (h ∷ held) (n ∷ names) = go (bytes_eq h n) (shorter held names)
      where
        go : (b : Bool) → length (longest_common_prefix held names) ≤ length names → length (cond b (h ∷ longest_common_prefix held names) []) ≤ length (n ∷ names)
        go true ih = omega (arith, ih)
        go false ih = omega arith

-- ---- one call after another

module _ {W I : Type 0} {w : WorktreeOf W} {i : InterruptOf I} where
  Opens-then : {w0 w1 w2 : W} {i0 i1 i2 : I} {a b c : Outcome} {deep : ℕ} (m n : ℕ) → CountsOpenedAndTooDeep w i w0 w1 i0 i1 a b m 0 → CountsOpenedAndTooDeep w i w1 w2 i1 i2 b c n deep → CountsOpenedAndTooDeep w i w0 w2 i0 i2 a c (m + n) deep
  Opens-then m n one two =
      record {
        listed = λ small. let first = one.listed small in omega (arith, first, two.listed (omega (arith, first)));
        counted = λ small. let first = one.counted small in omega (arith, first, two.counted (omega (arith, first)));
        asked = omega (arith, one.asked, two.asked);
      }

  module _ {o : WalkOptions} where
    -- nothing is opened
    pub opens-none : {w0 w1 : W} {i0 i1 : I} {a b : Outcome} {old new : Option StackModel} {names : List (List ℕ)} {spare deep : ℕ} {Within : ℕ → Type 0} → Within 0 → w.lists w1 ≡ w.lists w0 → b.read_dir_calls ≡ a.read_dir_calls
        → saturating_sum (i.questions i0) (deep + (i.raised i1 - i.raised i0)) ≤ i.questions i1
        → (reads_files_for_rules_only o ≡ true → has_attributes_if_given (setup_of_optional_stack old) ≡ false → w.reads w1 + count_pushed_on_way (directories_pushed_in_stack old) names ≤ w.reads w0 + count_pushed_on_way (directories_pushed_in_stack new) names + spare)
        → OpensBoundedDirectories w i w0 w1 i0 i1 a b o old new names 0 spare deep Within
    opens-none none lists read asked reads =
        record {
          opened = 0;
          opens = record { listed = λ small. omega (arith, lists, small); counted = λ small. omega (arith, read, small); asked = omega (arith, asked) };
          within = none;
          reads = λ on alone. omega (arith, reads on alone);
        }

    pub opens-then : {w0 w1 w2 : W} {i0 i1 i2 : I} {a b c : Outcome} {old mid new : Option StackModel} {names : List (List ℕ)} {own less spare deep : ℕ} {First Then Within : ℕ → Type 0}
        → ((m n : ℕ) → First m → Then n → Within (m + n)) → setup_of_optional_stack mid ≡ setup_of_optional_stack old → less ≤ spare
        → OpensBoundedDirectories w i w0 w1 i0 i1 a b o old mid names own 0 0 First → OpensBoundedDirectories w i w1 w2 i1 i2 b c o mid new names 0 less deep Then → OpensBoundedDirectories w i w0 w2 i0 i2 a c o old new names own spare deep Within
    opens-then both made fits one two =
        record {
          opened = one.opened + two.opened;
          opens = Opens-then one.opened two.opened one.opens two.opens;
          within = both one.opened two.opened one.within two.within;
          reads = λ on alone. omega (arith, fits, one.reads on alone, two.reads on (ap has_attributes_if_given made ∙ alone));
        }

    -- and then nothing more
    pub opens-still : {w0 w1 w2 : W} {i0 i1 i2 : I} {a b c : Outcome} {old new : Option StackModel} {names : List (List ℕ)} {own spare deep : ℕ} {First Within : ℕ → Type 0} → ((n : ℕ) → First n → Within n)
        → OpensBoundedDirectories w i w0 w1 i0 i1 a b o old new names own 0 0 First → w.lists w2 ≡ w.lists w1 → c.read_dir_calls ≡ b.read_dir_calls → saturating_sum (i.questions i1) (deep + (i.raised i2 - i.raised i1)) ≤ i.questions i2
        → (reads_files_for_rules_only o ≡ true → w.reads w2 ≡ w.reads w1) → OpensBoundedDirectories w i w0 w2 i0 i2 a c o old new names own spare deep Within
    opens-still so one lists read asked reads =
        record {
          opened = one.opened;
          opens = record {
            listed = λ small. let first = one.opens.listed small in omega (arith, lists, first);
            counted = λ small. let first = one.opens.counted small in omega (arith, read, first);
            asked = omega (arith, one.opens.asked, asked);
          };
          within = so one.opened one.within;
          reads = λ on alone. omega (arith, one.reads on alone, reads on);
        }

    -- not even of a worktree or an interrupt
    pub opens-end : {w0 w1 : W} {i0 i1 : I} {a b c : Outcome} {old new : Option StackModel} {names : List (List ℕ)} {own spare deep : ℕ} {First Within : ℕ → Type 0} → ((n : ℕ) → First n → Within n)
        → OpensBoundedDirectories w i w0 w1 i0 i1 a b o old new names own 0 0 First → c.read_dir_calls ≡ b.read_dir_calls → deep ≡ 0 → OpensBoundedDirectories w i w0 w1 i0 i1 a c o old new names own spare deep Within
    opens-end so one read none = opens-still so one refl read (omega (arith, none)) (λ on. refl)

    -- the same, of which more may be said, where nothing is too deep
    pub opens-least : {w0 w1 : W} {i0 i1 : I} {a b : Outcome} {old new : Option StackModel} {names : List (List ℕ)} {own spare deep : ℕ} {First Within : ℕ → Type 0} → ((n : ℕ) → First n → Within n) → deep ≡ 0
        → OpensBoundedDirectories w i w0 w1 i0 i1 a b o old new names own spare 0 First → OpensBoundedDirectories w i w0 w1 i0 i1 a b o old new names own spare deep Within
    opens-least so none one =
        record {
          opened = one.opened;
          opens = record { listed = one.opens.listed; counted = one.opens.counted; asked = omega (arith, one.opens.asked, none) };
          within = so one.opened one.within;
          reads = one.reads;
        }

    -- the directory itself is opened, and before it nothing was read
    pub opens-one : {w0 w1 : W} {i0 i1 : I} {a b : Outcome} {at : Option StackModel} {names : List (List ℕ)} → CountsOpenedAndTooDeep w i w0 w1 i0 i1 a b 1 0 → w.reads w1 ≡ w.reads w0
        → OpensBoundedDirectories w i w0 w1 i0 i1 a b o at at names 1 0 0 (λ n. n ≡ 1)
    opens-one opens reads = record { opened = 1; opens = opens; within = refl; reads = λ on alone. omega (arith, reads) }

    -- or that is refused
    pub opens-refused : {w0 w1 : W} {i0 i1 : I} {a b : Outcome} {at : Option StackModel} {names : List (List ℕ)} {opened deep : ℕ} {Within : ℕ → Type 0} → Within opened
        → CountsOpenedAndTooDeep w i w0 w1 i0 i1 a b opened deep → w.reads w1 ≡ w.reads w0 → OpensBoundedDirectories w i w0 w1 i0 i1 a b o at at names 1 1 deep Within
    opens-refused {opened = opened} within opens reads = record { opened = opened; opens = opens; within = within; reads = λ on alone. omega (arith, reads) }

    -- what is opened in a directory below another is opened below that one
    pub opens-below : {w0 w1 : W} {i0 i1 : I} {a b : Outcome} {old new : Option StackModel} (d name path : List ℕ) {spare deep : ℕ} {Within : ℕ → Type 0} → IsValidEntryName name → path ≡ path_joined_with_slash d name
        → OpensBoundedDirectories w i w0 w1 i0 i1 a b o old new (components path) 1 spare deep Within → OpensBoundedDirectories w i w0 w1 i0 i1 a b o old new (components d) 0 spare deep Within
    opens-below {old = old} {new = new} d name path is at one =
        let was : count_pushed_on_way (directories_pushed_in_stack old) (components path) ≡ count_pushed_on_way (directories_pushed_in_stack old) (components (path_joined_with_slash d name)) = ap {B = ℕ} (λ (p : List ℕ). count_pushed_on_way (directories_pushed_in_stack old) (components p)) at in
        let are : count_pushed_on_way (directories_pushed_in_stack new) (components path) ≡ count_pushed_on_way (directories_pushed_in_stack new) (components (path_joined_with_slash d name)) = ap {B = ℕ} (λ (p : List ℕ). count_pushed_on_way (directories_pushed_in_stack new) (components p)) at in
        record {
          opened = one.opened;
          opens = one.opens;
          within = one.within;
          reads = λ on alone. omega (arith, was, are, one.reads on alone, (pushed-grows (directories_pushed_in_stack old) d name is).0, (pushed-grows (directories_pushed_in_stack new) d name is).1);
        }

-- ---- the class of a path

module _ (d name : List ℕ) (is : IsValidEntryName name) where
  above : all_but_last (components (path_joined_with_slash d name)) ≡ components d
  above = ap all_but_last (components-child d name is) ∙ without_last-snoc (components d) name

  stays : (at : Option (List (List ℕ))) → length (pushed_directories (directories_kept_by_lookup at (components (path_joined_with_slash d name)))) ≡ count_pushed_on_way at (components d)
  stays None = refl
  stays (Some held) = length-fronts (shared_proper_ancestor_components held (components (path_joined_with_slash d name))) ∙ ap {B = ℕ} (λ (names : List (List ℕ)). length (longest_common_prefix held names) + 1) above

  on-way : (at : Option (List (List ℕ))) → IsNothingOrProperAncestor at (components (path_joined_with_slash d name)) → length (pushed_directories at) ≡ count_pushed_on_way at (components d)
  on-way None way = refl
  on-way (Some held) way =
      let front : longest_common_prefix held (components d) ≡ held = ap (longest_common_prefix held) (sym above ∙ way.joined) ∙ front-all held way.rest in
      length-fronts held ∙ ap {B = ℕ} (λ (names : List (List ℕ)). length names + 1) (sym front)

  -- a look-up reads at most once for each directory above the path whose rules were not held and are held then
  pub asks-reads : {F T E : Type 0} (most : ℕ) (reads0 reads1 : ℕ) (o0 o1 : F) (old new : Option StackModel) (result : Result T E) → most ≡ 0 → has_attributes_if_given (setup_of_optional_stack old) ≡ false
      → AsksRulesAtMostOnce most (path_joined_with_slash d name) reads0 reads1 o0 o1 old new result → reads1 + count_pushed_on_way (directories_pushed_in_stack old) (components d) ≤ reads0 + count_pushed_on_way (directories_pushed_in_stack new) (components d) + one_if_refused result
  asks-reads most reads0 reads1 o0 o1 old new result none alone (inl unasked) = omega (arith, none, unasked.reads, ap {B = ℕ} (λ (x : Option StackModel). count_pushed_on_way (directories_pushed_in_stack x) (components d)) unasked.same)
  asks-reads most reads0 reads1 o0 o1 old new result none alone (inr asked) = omega (arith, none, asked.reads alone, stays (directories_pushed_in_stack old), on-way (directories_pushed_in_stack new) asked.on_way)

-- the rules are asked for a class, where files are read for rules alone
pub opens-class : {W F I T E : Type 0} {w : WorktreeOf W} {i : InterruptOf I} {o : WalkOptions} {w0 w1 : W} {o0 o1 : F} {i0 : I} {a : Outcome} {old new : Option StackModel} (d name : List ℕ) {result : Result T E} → IsValidEntryName name
    → w.lists w1 ≡ w.lists w0 → AsksRulesAtMostOnce (most_reads_to_classify_path o) (path_joined_with_slash d name) (w.reads w0) (w.reads w1) o0 o1 old new result
    → OpensBoundedDirectories w i w0 w1 i0 i0 a a o old new (components d) 0 (one_if_refused result) 0 (λ n. n ≡ 0)
opens-class {w = w} {o = o} {w0 = w0} {w1 = w1} {o0 = o0} {o1 = o1} {old = old} {new = new} d name {result = result} is lists asks =
    opens-none refl lists refl (omega arith) (λ on alone. asks-reads d name is (most_reads_to_classify_path o) (w.reads w0) (w.reads w1) o0 o1 old new result (most-none o (and_left o.recurse_repositories _ on)) alone asks)

pub hides-none : (o : WalkOptions) → reads_files_for_rules_only o ≡ true → deletion_skips_search_of_ignored_directories o.for_deletion ≡ false
hides-none o on = go (deletion_skips_search_of_ignored_directories o.for_deletion) (and_right o.recurse_repositories _ on)
  where
    go : (b : Bool) → not b ≡ true → b ≡ false
    go true e = absurd (cc e)
    go false e = refl
