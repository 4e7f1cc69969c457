use Rattle.std.proofs.Common.{rules, ◌≡◌, ◌∙◌, ◌++◌, sym, ap, List, ℕ}
use Rattle.gitbase_core.specs.Path.{components}
use Rattle.git_paths.specs.RelativeNames.{dotdot_slash_per_component, path_relative_to_components, path_or_dot_slash_if_empty}
use Rattle.git_paths.proofs.Climbing.{from_names-aside, from_names-beneath, from_names-none}
use Rattle.git_paths.proofs.relative.path_relative_to_prefix.Goals as goal

pub returns-in_default-strip_leading_directory_name : goal.returns-in_default-strip_leading_directory_name
returns-in_default-strip_leading_directory_name c =
    let names = components c.in-Some.after.now in
    let rest = c.loop-name.rest.now in
    let here : path_or_dot_slash_if_empty (path_relative_to_components (components c.loop-name.left.now) rest) ≡ dotdot_slash_per_component (components c.loop-name.left.now) ++ rest =
    ap (λ (left : List (List ℕ)). path_or_dot_slash_if_empty (path_relative_to_components left rest)) c.in-Some.ensures.components
    ∙ from_names-aside c.in-Some.name.now names rest (search rules)
    ∙ ap (λ (left : List (List ℕ)). dotdot_slash_per_component left ++ rest) (sym c.in-Some.ensures.components) in
    let whole = ap path_or_dot_slash_if_empty (sym c.loop-name.invariant) ∙ here in
    search rules

pub loop-name-preserved : goal.loop-name-preserved
loop-name-preserved c =
    let names = components c.in-Some.after.now in
    let rest = c.loop-name.rest.now in
    sym (from_names-beneath c.in-Some.name.now names rest c.in-Some-strip_leading_directory_name.beneath.now (search rules))
    ∙ ap (λ (left : List (List ℕ)). path_relative_to_components left rest) (sym c.in-Some.ensures.components)
    ∙ c.loop-name.invariant

pub returns : goal.returns
returns c =
    let done : path_relative_to_components (components c.loop-name.left.now) c.loop-name.rest.now ≡ c.loop-name.rest.now =
    ap (λ (left : List (List ℕ)). path_relative_to_components left c.loop-name.rest.now) (search rules) ∙ from_names-none c.loop-name.rest.now in
    let whole = ap path_or_dot_slash_if_empty (sym c.loop-name.invariant ∙ done) in
    search rules
