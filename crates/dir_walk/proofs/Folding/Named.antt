-- What was walked under the names of a directory so far.
use Rattle.std.proofs.Common.{◌≡◌, ℕ, ◌+◌, ◌<◌, ◌≤◌, List, [], ◌++◌, Bool, false, ◌||◌, Option, sum_by, count_by, take, get_or, length, refl, sym, ap, ◌∙◌, arith}
use Rattle.std.specs.Prelude.{option_to_list}
use Rattle.std.specs.List.{list_any}
use Rattle.std.proofs.lemmas.List.Sums.{sum_by_more}
use Rattle.std.proofs.lemmas.List.Folds.{list_any_more}
use Rattle.gitbase_core.specs.Path.{path_joined_with_slash}
use Rattle.worktree_stack.specs.Setup.{StackSetup}
use Rattle.worktree_stack.specs.Reading.{TreeAndObjects}
use Rattle.dir_classify.specs.declared.entry.Entry.{Entry}
use Rattle.dir_classify.specs.Layers.{WalkSetting, evidence_from_setting_and_sources}
use Rattle.dir_walk.specs.declared.handed.Handed.{Handed}
use Rattle.dir_walk.specs.declared.outcome.Outcome.{Outcome}
use Rattle.dir_walk.specs.Emissions.{Emission}
use Rattle.dir_walk.specs.Emits.{AddsEmissionsAndCounts, GivesAllWalkedUnrefused, count_shown_passing, count_elements, count_seen_entries}
use Rattle.dir_walk.specs.Opens.{count_paths_within_depth}
use Rattle.dir_walk.specs.Report.{is_walk_result_refused}
use Rattle.dir_walk.specs.Told.{walk_result_of_name_over_sources}
use Rattle.dir_walk.specs.Walked.{WalkResult}
use Rattle.dir_walk.proofs.Order.Counts.{count_by-append}
use Rattle.dir_walk.proofs.Gives.Emitting.{Emits-then}

-- how many directories within the limit are entered by a directory and these of its names
abbrev pub entered_by : WalkSetting → Option StackSetup → TreeAndObjects → ℕ → List ℕ → List (List ℕ) → ℕ
entered_by given made s limit d taken = 1 + sum_by (λ q. count_paths_within_depth limit (walk_result_of_name_over_sources given made s (path_joined_with_slash d q)).entered) taken

-- one name more
pub entered_more : (given : WalkSetting) (made : Option StackSetup) (s : TreeAndObjects) (limit : ℕ) (d : List ℕ) (names : List (List ℕ)) (i m n : ℕ) (q : List ℕ) → i < length names → q ≡ get_or names i q → m ≤ entered_by given made s limit d (take i names)
    → n ≤ count_paths_within_depth limit (walk_result_of_name_over_sources given made s (path_joined_with_slash d q)).entered → m + n ≤ entered_by given made s limit d (take (i + 1) names)
entered_more given made s limit d names i m n q inside is so_far here =
    let f : List ℕ → ℕ = λ r. count_paths_within_depth limit (walk_result_of_name_over_sources given made s (path_joined_with_slash d r)).entered in omega (arith, so_far, here, sum_by_more f names i q inside, ap f is)

pub record SoFar (given : WalkSetting) (made : Option StackSetup) (s : TreeAndObjects) (limit : ℕ) (d : List ℕ) (taken : List (List ℕ)) (before after : Option (List Emission)) (start stop : Outcome) (held : List Entry) (blocked : Bool) : Type 0 where
  pub emits : AddsEmissionsAndCounts before after start stop (λ p. sum_by (λ q. count_shown_passing given.options p (walk_result_of_name_over_sources given made s (path_joined_with_slash d q)).out) taken) (sum_by (λ q. count_seen_entries (walk_result_of_name_over_sources given made s (path_joined_with_slash d q))) taken)
      (1 + sum_by (λ q. count_elements (walk_result_of_name_over_sources given made s (path_joined_with_slash d q)).entered) taken)
  pub up : (p : Entry → Bool) → count_by p held ≡ sum_by (λ q. count_by p (walk_result_of_name_over_sources given made s (path_joined_with_slash d q)).up) taken
  pub blocks : blocked ≡ list_any (λ q. (walk_result_of_name_over_sources given made s (path_joined_with_slash d q)).blocks) taken
  pub whole : list_any (λ q. is_walk_result_refused limit (evidence_from_setting_and_sources given made s) (walk_result_of_name_over_sources given made s (path_joined_with_slash d q))) taken ≡ false

pub SoFar-none : (given : WalkSetting) (made : Option StackSetup) (s : TreeAndObjects) (limit : ℕ) (d : List ℕ) (before after : Option (List Emission)) (start stop : Outcome) → AddsEmissionsAndCounts before after start stop (λ p. 0) 0 1
    → SoFar given made s limit d [] before after start stop [] false
SoFar-none given made s limit d before after start stop e = record { emits = e; up = λ p. refl; blocks = refl; whole = refl }

module _ (given : WalkSetting) (made : Option StackSetup) (s : TreeAndObjects) (limit : ℕ) (d : List ℕ) (names : List (List ℕ)) (i : ℕ) (q : List ℕ) (before mid after : Option (List Emission)) (start middle stop : Outcome) (held held1 : List Entry) (blocked blocked1 : Bool) (handed : Handed) where
  pub SoFar-more : i < length names → q ≡ get_or names i q → SoFar given made s limit d (take i names) before mid start middle held blocked
      → GivesAllWalkedUnrefused given.options limit (evidence_from_setting_and_sources given made s) (walk_result_of_name_over_sources given made s (path_joined_with_slash d q)) mid after middle stop handed → held1 ≡ held ++ option_to_list handed.entry → blocked1 ≡ (blocked || handed.blocks)
      → SoFar given made s limit d (take (i + 1) names) before after start stop held1 blocked1
  SoFar-more inside is so_far gives pushed joins =
      let w : List ℕ → WalkResult = λ r. walk_result_of_name_over_sources given made s (path_joined_with_slash d r) in
      let refused : List ℕ → Bool = λ r. is_walk_result_refused limit (evidence_from_setting_and_sources given made s) (w r) in
      let one = λ (f : List ℕ → ℕ). sum_by_more f names i q inside ∙ ap (λ (n : List ℕ). sum_by f (take i names) + f n) (sym is) in
      record {
        emits = Emits-then before mid after start middle stop _ _ _ _ _ _ _ _ _ so_far.emits gives.emits (λ p. sym (one (λ r. count_shown_passing given.options p (w r).out))) (sym (one (λ r. count_seen_entries (w r)))) (omega (arith, one (λ r. count_elements (w r).entered)));
        up = λ p. omega (arith, one (λ r. count_by p (w r).up), so_far.up p, ap (count_by p) gives.up, ap (count_by p) pushed, count_by-append p held (option_to_list handed.entry));
        blocks = joins ∙ rw (list_any_more (λ r. (w r).blocks) names i q inside, ← is, ← gives.blocks, ← so_far.blocks) refl;
        whole = list_any_more refused names i q inside ∙ ap (λ (n : List ℕ). list_any refused (take i names) || refused n) (sym is) ∙ ap (λ (b : Bool). b || refused q) so_far.whole ∙ gives.whole;
      }
