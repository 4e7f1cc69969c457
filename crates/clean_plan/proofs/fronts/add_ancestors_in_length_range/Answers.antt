use Rattle.std.proofs.Common.{Bool, ◌∙◌, ◌&&◌, ◌||◌, ℕ, List, length, nat_lt, ap, bytes_eq, take, arith}
use Rattle.std.proofs.lemmas.Bool.{ltb-true}
use Rattle.gitbase_core.specs.Path.{is_beneath_directory}
use Rattle.clean_plan.specs.Paths.{is_text_in_list}
use Rattle.clean_plan.proofs.Directories.{added-before, front-step, or_along}
use Rattle.clean_plan.proofs.fronts.add_ancestors_in_length_range.Goals as goal

pub loop-at-init : goal.loop-at-init
loop-at-init c = λ other. added-before (is_beneath_directory other c.args.path.now) (nat_lt (length other) c.args.begin) (is_text_in_list other c.args.others.now)
    (λ above short. c.requires.among other above (ltb-true (length other) c.args.begin short))

pub loop-at-preserved : goal.loop-at-preserved
loop-at-preserved c = λ other.
    let path : List ℕ = c.args.path.now in
    let at : ℕ = c.loop-at.at in
    let one : Bool = is_beneath_directory (take at path) path && bytes_eq other (take at path) in
    let fewer : Bool = is_beneath_directory other path && nat_lt (length other) at in
    let old : Bool = is_text_in_list other c.args.others.now in
    c.in_ok-add_ancestor_of_length.ensures other
    ∙ ap (λ (b : Bool). one || b) (c.loop-at.invariant other)
    ∙ or_along one fewer old
    ∙ ap (λ (b : Bool). b || old) (front-step path other at (omega (arith, c.loop-at-test.true, c.requires.reach)))
