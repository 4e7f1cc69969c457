-- A whole walk, by what it does from its traversal root on.
use Rattle.std.proofs.Common.{◌≡◌, ◌+◌, ◌-◌, ◌^◌, min, ℕ, List, ◌++◌, Bool, true, ◌||◌, Option, Some, count_by, length, sym, ap, subst, ◌∙◌, arith}
use Rattle.std.specs.Prelude.{is_some}
use Rattle.worktree_fs.specs.Naming.{IsValidTree}
use Rattle.worktree_fs.specs.Paths.{root_joined_with_relative}
use Rattle.worktree_fs.specs.Tree.{directory}
use Rattle.worktree_stack.specs.Reading.{TreeAndObjects}
use Rattle.worktree_stack.specs.Setup.{StackSetup}
use Rattle.dir_classify.specs.Layers.{WalkSetting, evidence_from_setting_and_sources}
use Rattle.dir_walk.specs.declared.outcome.Outcome.{Outcome}
use Rattle.dir_walk.specs.Covered.{options_without_folding, setting_without_folding}
use Rattle.dir_walk.specs.Emissions.{Emission, is_entry_shown_by_options}
use Rattle.dir_walk.specs.Emits.{AddsPartOfWalkedAndHandedUp, count_shown_passing, count_elements}
use Rattle.dir_walk.specs.Given.{ExtendsEmissions, emissions_or_empty}
use Rattle.dir_walk.specs.Report.{is_walk_result_refused, emissions_with_handed_up, emissions_shown_by_options}
use Rattle.dir_walk.specs.Root.{Walk, rooted, find_traversal_root, walk_over_sources, walk_result_from_traversal_root}
use Rattle.dir_walk.specs.Starts.{GivesWalkFromRoot}
use Rattle.dir_walk.specs.Walked.{WalkResult}
use Rattle.dir_walk.specs.Walks.{AddsShownEntriesOfWalk, GivesReportOfWalk}
use Rattle.dir_walk.proofs.Order.Counts.{count_all, count_by-append, count_by-filter}
use Rattle.dir_walk.proofs.Theorems.CoveredWalks.{covers-unfolded}
use Rattle.dir_walk.proofs.Gives.Emitting.{Within-all}
use Rattle.dir_walk.proofs.Order.Lists.{same_some, some-weaker}
use Rattle.dir_walk.proofs.Order.Permuted.{permuted}
use Rattle.dir_walk.proofs.Gives.Reported.{covers-same}
use Rattle.dir_walk.proofs.Theorems.Safety.{safe-same, safe-walk}
use Rattle.dir_walk.proofs.Order.Same.{emission_is, emission_same, same_emission}
use Rattle.dir_walk.proofs.Walked.WalkedAt.{same_root, walk-at, walk-split, walk_made}

-- ---- what it gives

same-counts : (s : Outcome) (a b d : ℕ) → s.read_dir_calls ≡ a → s.returned_entries ≡ b → s.seen_entries ≡ d → s ≡ record { read_dir_calls = a; returned_entries = b; seen_entries = d }
same-counts s a b d e f g =
    ap (λ (n : ℕ). record { read_dir_calls = n; returned_entries = s.returned_entries; seen_entries = s.seen_entries }) e
    ∙ ap (λ (n : ℕ). record { read_dir_calls = a; returned_entries = n; seen_entries = s.seen_entries }) f
    ∙ ap (λ (n : ℕ). record { read_dir_calls = a; returned_entries = b; seen_entries = n }) g

-- all that is given is a part of what is walked
pub part-gives : (given : WalkSetting) (made : Option StackSetup) (s : TreeAndObjects) (limit : ℕ) (root : List ℕ) (before after : Option (List Emission)) (start stop : Outcome) → GivesWalkFromRoot given made s root limit before after start stop
    → (w : WalkResult) → walk_result_from_traversal_root given made s root ≡ Some w → AddsPartOfWalkedAndHandedUp given.options w before after start stop
part-gives given made s limit root before after start stop gives w e =
    let all : (Emission → Bool) → ℕ = λ p. count_shown_passing given.options p (emissions_with_handed_up gives.w) in
    subst (λ (v : WalkResult). AddsPartOfWalkedAndHandedUp given.options v before after start stop) (same_some (sym gives.walked_is ∙ e))
    (Within-all before after start stop all all (count_elements (emissions_with_handed_up gives.w) + gives.w.merged) (count_elements (emissions_with_handed_up gives.w) + gives.w.merged) (count_elements gives.w.entered) gives.gives.emits (λ p. omega arith) (omega arith))

module _ (given : WalkSetting) (made : Option StackSetup) (s : TreeAndObjects) (explicit : Option (List ℕ)) (limit : ℕ) (root : List ℕ) (is : find_traversal_root given s.tree explicit ≡ rooted root) (before after : Option (List Emission)) (start stop : Outcome) where
  -- what is walked from the traversal root is what the walk gives
  pub part-walk : (walk : Walk) → walk_over_sources given made s explicit ≡ Some walk → ((w : WalkResult) → walk_result_from_traversal_root given made s root ≡ Some w → AddsPartOfWalkedAndHandedUp given.options w before after start stop) → AddsPartOfWalkedAndHandedUp given.options walk.gives before after start stop
  part-walk walk e part =
      let at = walk-split given made s explicit walk e in
      part walk.gives (ap (walk_result_from_traversal_root given made s) (same_root (sym is ∙ at.rooted_is)) ∙ at.walked_is)

  module _ (gives : GivesWalkFromRoot given made s root limit before after start stop) where
    abbrev walk : Walk
    walk = walk_made given made s explicit root gives.w

    walk-is : walk_over_sources given made s explicit ≡ Some walk
    walk-is = walk-at given made s explicit root gives.w is gives.walked_is

    abbrev all : List Emission
    all = emissions_shown_by_options given.options (emissions_with_handed_up gives.w)

    shown-all : (p : Emission → Bool) → count_shown_passing given.options p (emissions_with_handed_up gives.w) ≡ count_by p all
    shown-all p = sym (count_by-filter p (λ x. is_entry_shown_by_options given.options x.0) (emissions_with_handed_up gives.w))

    module _ (tree : IsValidTree (directory s.tree)) (front more : List Emission) (told : before ≡ Some front) (after_is : after ≡ Some (front ++ more)) where
      counted : (p : Emission → Bool) → count_by p more ≡ count_by p all
      counted p =
          omega (
            arith,
            gives.gives.emits.entries (ap is_some told) p,
            ap {B = ℕ} (λ (x : Option (List Emission)). count_by p (emissions_or_empty x)) told,
            ap {B = ℕ} (λ (x : Option (List Emission)). count_by p (emissions_or_empty x)) after_is,
            count_by-append p front more,
            shown-all p,
          )

      gives-entries : AddsShownEntriesOfWalk given made s explicit walk front after
      gives-entries =
          record {
            more = more;
            after_is = after_is;
            same = permuted same_emission emission_is emission_same more all counted;
            safe = safe-same given.options (evidence_from_setting_and_sources given made s) gives.w all more (λ p. sym (counted p)) (safe-walk given made s explicit walk tree walk-is);
            covers =
                some-weaker (walk_over_sources (setting_without_folding given) made s explicit)
                (λ unfolded. covers-same gives.w.folds all more (emissions_shown_by_options (options_without_folding given.options) (emissions_with_handed_up unfolded.gives)) (λ p. sym (counted p)))
                (covers-unfolded given made s explicit walk tree walk-is);
          }

    pub walk-gives : IsValidTree (directory s.tree) → ExtendsEmissions before after → start.read_dir_calls ≡ 0 → start.returned_entries ≡ 0 → start.seen_entries ≡ 0 → (full : List ℕ) → full ≡ root_joined_with_relative given.root root
        → GivesReportOfWalk given made s explicit limit before after (stop, full)
    walk-gives tree extends read0 returned0 seen0 full full_is =
        let w : WalkResult = gives.w in
        let emits = gives.gives.emits in
        record {
          walk = walk;
          walk_is = walk-is;
          whole = ap (λ (b : Bool). b || is_walk_result_refused limit (evidence_from_setting_and_sources given made s) w) gives.read ∙ gives.gives.whole;
          same = extends.same;
          entries = λ front told. let m = extends.front front told in gives-entries tree front m.0 told m.1;
          outcome_is =
              same-counts stop (min (length w.entered) (2 ^ 32 - 1)) (min (length all) (2 ^ 64 - 1)) (min (length (emissions_with_handed_up w) + w.merged) (2 ^ 32 - 1))
              (omega (arith, emits.read (omega (arith, read0)), read0, count_all w.entered))
              (omega (arith, emits.returned (omega (arith, returned0)), returned0, shown-all (λ _. true), count_all all))
              (omega (arith, emits.seen (omega (arith, seen0)), seen0, count_all (emissions_with_handed_up w)));
          root_is = full_is;
        }
