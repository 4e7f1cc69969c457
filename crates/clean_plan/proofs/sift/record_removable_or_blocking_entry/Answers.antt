use Rattle.std.proofs.Common.{◌||◌, ◌&&◌, ◌∙◌, ℕ, List, Bool, ap, sym, arith, length}
use Rattle.std.specs.Prelude.{nat_lt}
use Rattle.std.proofs.lemmas.Result.{on_ok_weaker}
use Rattle.gitbase_core.specs.Path.{is_beneath_directory}
use Rattle.clean_plan.specs.Above.{length_past_longest_passing_ancestor}
use Rattle.clean_plan.specs.Asked.{plan_inputs_of_cleaning}
use Rattle.clean_plan.specs.Kept.{specs_exclude_directory}
use Rattle.clean_plan.specs.Paths.{is_text_in_list}
use Rattle.clean_plan.specs.declared.sift.Looked.{Looked}
use Rattle.clean_plan.proofs.Directories.{above-shorter}
use Rattle.clean_plan.proofs.Reached.{reach-passes}
use Rattle.clean_plan.proofs.Sifting.{begun-out, begun-reach, begun-spoiled, looked-ok, spoils-other, spoils-removable}
use Rattle.clean_plan.proofs.sift.record_removable_or_blocking_entry.Goals as goal

pub length_past_longest_spec_excluded_ancestor-reach-requires-clause-none : goal.length_past_longest_spec_excluded_ancestor-reach-requires-clause-none
length_past_longest_spec_excluded_ancestor-reach-requires-clause-none c =
    begun-out (specs_exclude_directory c.args.cleaning.now.specs.now) c.args.spoiled.now c.args.last.now.path.now c.as_bytes-path.result.now c.args.last.now.added c.requires.last
    c.shared_prefix_length-shared.result c.shared_prefix_length-shared.ensures.within_one c.shared_prefix_length-shared.ensures.within_other c.shared_prefix_length-shared.ensures.same
    c.min-begin.result c.min-begin.ensures

pub add_blocked_ancestors-requires-clause-among : goal.add_blocked_ancestors-requires-clause-among
add_blocked_ancestors-requires-clause-among c =
    begun-spoiled (specs_exclude_directory c.args.cleaning.now.specs.now) c.args.spoiled.now c.args.last.now.path.now c.as_bytes-path.result.now c.args.last.now.added c.requires.last
    c.shared_prefix_length-shared.result c.shared_prefix_length-shared.ensures.within_one c.shared_prefix_length-shared.ensures.within_other c.shared_prefix_length-shared.ensures.same
    c.min-begin.result c.min-begin.ensures

pub add_blocked_ancestors-requires-2-clause-among : goal.add_blocked_ancestors-requires-2-clause-among
add_blocked_ancestors-requires-2-clause-among c =
    begun-spoiled (specs_exclude_directory c.args.cleaning.now.specs.now) c.args.spoiled.now c.args.last.now.path.now c.as_bytes-path.result.now c.args.last.now.added c.requires.last
    c.shared_prefix_length-shared.result c.shared_prefix_length-shared.ensures.within_one c.shared_prefix_length-shared.ensures.within_other c.shared_prefix_length-shared.ensures.same
    c.min-begin.result c.min-begin.ensures

pub returns-then-branch-clause-spoiled : goal.returns-then-branch-clause-spoiled
returns-then-branch-clause-spoiled c = λ d.
    let asked = plan_inputs_of_cleaning c.args.cleaning.now in
    let out = specs_exclude_directory c.args.cleaning.now.specs.now in
    let old : Bool = is_text_in_list d c.args.spoiled.now in
    let path : List ℕ = c.as_bytes-path.result.now in
    on_ok_weaker c.add_blocked_ancestors.result
    (λ e. e
    ∙ ap (λ (n : ℕ). (is_beneath_directory d path && nat_lt (length d) n) || old) c.length_past_longest_spec_excluded_ancestor-reach.ensures.reach
    ∙ begun-reach c.args.spoiled.now path c.min-begin.result (length_past_longest_passing_ancestor out (length path) path)
    (begun-spoiled out c.args.spoiled.now c.args.last.now.path.now path c.args.last.now.added c.requires.last
    c.shared_prefix_length-shared.result c.shared_prefix_length-shared.ensures.within_one c.shared_prefix_length-shared.ensures.within_other c.shared_prefix_length-shared.ensures.same
    c.min-begin.result c.min-begin.ensures) d
    ∙ ap (λ (p : List ℕ). (is_beneath_directory d p && nat_lt (length d) (length_past_longest_passing_ancestor out (length p) p)) || old) c.as_bytes-path.ensures
    ∙ ap (λ (b : Bool). b || old) (spoils-removable asked c.args.entry.now d (sym c.in_ok-is_entry_removable_by_itself.ensures ∙ c.if-branch.true)))
    (c.add_blocked_ancestors.ensures.spoiled d)

pub returns-then-branch-clause-looked : goal.returns-then-branch-clause-looked
returns-then-branch-clause-looked c =
    let out = specs_exclude_directory c.args.cleaning.now.specs.now in
    let path : List ℕ = c.as_bytes-path.result.now in
    looked-ok (λ (l : Looked). l.path.now) (λ (l : Looked). l.added) out c.args.spoiled.now c.add_blocked_ancestors.new.spoiled path c.length_past_longest_spec_excluded_ancestor-reach.result c.add_blocked_ancestors.result
    c.length_past_longest_spec_excluded_ancestor-reach.ensures.within c.add_blocked_ancestors.ensures.spoiled c.add_blocked_ancestors.ensures.path c.add_blocked_ancestors.ensures.added
    (λ d above long. reach-passes out path d above (omega (arith, long, c.length_past_longest_spec_excluded_ancestor-reach.ensures.reach)))

pub returns-clause-spoiled : goal.returns-clause-spoiled
returns-clause-spoiled c = λ d.
    let asked = plan_inputs_of_cleaning c.args.cleaning.now in
    let old : Bool = is_text_in_list d c.args.spoiled.now in
    on_ok_weaker c.add_blocked_ancestors-2.result
    (λ e. e
    ∙ ap (λ (p : List ℕ). (is_beneath_directory d p && nat_lt (length d) (length p)) || old) c.as_bytes-path.ensures
    ∙ ap (λ (b : Bool). b || old) (spoils-other asked c.args.entry.now d (sym c.in_ok-is_entry_removable_by_itself.ensures ∙ c.if-branch.false)))
    (c.add_blocked_ancestors-2.ensures.spoiled d)

pub returns-clause-looked : goal.returns-clause-looked
returns-clause-looked c =
    let path : List ℕ = c.as_bytes-path.result.now in
    looked-ok (λ (l : Looked). l.path.now) (λ (l : Looked). l.added) (specs_exclude_directory c.args.cleaning.now.specs.now) c.args.spoiled.now c.add_blocked_ancestors-2.new.spoiled path (length path) c.add_blocked_ancestors-2.result
    (omega arith) c.add_blocked_ancestors-2.ensures.spoiled c.add_blocked_ancestors-2.ensures.path c.add_blocked_ancestors-2.ensures.added
    (λ d above long. absurd (let short = above-shorter d path above in omega (arith, short, long)))
