use Rattle.std.proofs.Common.{◌≡◌, rules, sym, ap, ◌∙◌, ◌∷◌, ◌++◌, ℕ, List, subst}
use Rattle.glob_rules.specs.declared.attributes.line.Line.{Line}
use Rattle.glob_rules.specs.AttributeNames.{attribute_names_of_line, attribute_names_of_lines, names_with_names_added_once, AddsSomeFirstNames}
use Rattle.glob_rules.proofs.SeenNames.{part-front, part-back, with_names-append}
use Rattle.glob_rules.proofs.attributes.collection.MetadataCollection.add_names_of_lines.Goals as goal

-- the names of lines are those of the first and of the others
of_first : (rest : List Line) (line : Line) (after : List Line) → rest ≡ line ∷ after → attribute_names_of_line line ++ attribute_names_of_lines after ≡ attribute_names_of_lines rest
of_first rest line after e = sym (ap attribute_names_of_lines e)

pub returns-in_err-add_names_of_line-clause-refused : goal.returns-in_err-add_names_of_line-clause-refused
returns-in_err-add_names_of_line-clause-refused c =
    let names = of_first c.loop-line.rest.now c.in-Some.line.now c.in-Some.after.now c.in-Some.ensures.cases.0 in
    let front = part-front c.loop-line.self (attribute_names_of_line c.in-Some.line.now) (attribute_names_of_lines c.in-Some.after.now) c.add_names_of_line.new.self c.in_err-add_names_of_line.ensures.refused in
    let part = c.loop-line.invariant.part c.add_names_of_line.new.self (subst (λ (given : List (List ℕ)). AddsSomeFirstNames c.loop-line.self given c.add_names_of_line.new.self) names front) in
    search rules

pub loop-line-preserved : goal.loop-line-preserved
loop-line-preserved c =
    let line = attribute_names_of_line c.in-Some.line.now in
    let after = attribute_names_of_lines c.in-Some.after.now in
    let names = of_first c.loop-line.rest.now c.in-Some.line.now c.in-Some.after.now c.in-Some.ensures.cases.0 in
    let seen = c.in_ok-add_names_of_line.ensures.seen in
    record {
      same = ap (λ (now : List (List ℕ)). names_with_names_added_once now after) seen
          ∙ sym (with_names-append c.loop-line.self line after)
          ∙ ap (names_with_names_added_once c.loop-line.self) names
          ∙ c.loop-line.invariant.same;
      part = λ some part. c.loop-line.invariant.part some
          (subst (λ (given : List (List ℕ)). AddsSomeFirstNames c.loop-line.self given some) names
          (part-back c.loop-line.self line after some (subst (λ (now : List (List ℕ)). AddsSomeFirstNames now after some) seen part)));
    }
