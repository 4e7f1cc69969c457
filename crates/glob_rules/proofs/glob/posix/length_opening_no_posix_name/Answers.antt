use Rattle.std.proofs.Common.{ap, sym, subst, ◌+◌, ◌∙◌}
use Rattle.std.specs.Prelude.{◌==◌}
use Rattle.std.specs.List.{position_or_len}
use Rattle.glob_rules.specs.Class.{has_colon_before_first_bracket}
use Rattle.glob_rules.specs.Step.{OpensNoPosixNameBefore}
use Rattle.glob_rules.proofs.Names.{plain_to}
use Rattle.glob_rules.proofs.glob.posix.length_opening_no_posix_name.Goals as goal

pub returns-clause-plain : goal.returns-clause-plain
returns-clause-plain c =
    let at = c.offset_of_first_closing_bracket.ensures.value ∙ ap (position_or_len (λ b. b == 93)) c.bytes_from_offset-rest.ensures in
    subst (λ n. OpensNoPosixNameBefore (n + 1) c.args.bytes.now) (sym at) (plain_to c.args.bytes.now (ap has_colon_before_first_bracket (sym c.bytes_from_offset-rest.ensures) ∙ sym c.has_colon_before_first_bracket.ensures ∙ c.if-has_colon_before_first_bracket.false))
