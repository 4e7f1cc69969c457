use Rattle.std.proofs.Common.{Bool, Ok, ◌∙◌, ap, sym, subst}
use Rattle.std.specs.List.{list_any}
use Rattle.git_places.specs.Answers.{IsFoundOrFailed}
use Rattle.git_setup.specs.Conversions.{has_attributes_above_entry}
use Rattle.git_setup.specs.declared.error.GitRefusal.{GitRefusal}
use Rattle.git_setup.specs.declared.error.GitRefusal.TheVariants as errors
use Rattle.git_setup.proofs.LeadsPast.{from_is}
use Rattle.git_setup.proofs.conversions.has_attributes_above_any_entry.Goals as goal

pub returns-in-Some : goal.returns-in-Some
returns-in-Some g c =
    let found = c.has_attributes_above_first_or_rest.ensures in
    record {
      gives = λ t told.
          subst (λ (past : Bool). IsFoundOrFailed {A = Bool} {E = GitRefusal} errors.Fault errors.OutOfMemory c.has_attributes_above_first_or_rest.result (Ok past))
          (from_is t c.args.root.now c.in-Some.first.now c.in-Some.rest.now ∙ ap (list_any (has_attributes_above_entry t c.args.root.now)) (sym c.in-Some.ensures.cases.0))
          (found.gives t told);
      cause = found.cause;
      unfaulted = found.unfaulted;
      keeps = found.keeps;
    }
