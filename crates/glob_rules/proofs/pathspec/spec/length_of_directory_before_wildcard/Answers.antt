use Rattle.std.proofs.Common.{refl}
use Rattle.glob_rules.proofs.Stems.{stem_at, stem_none}
use Rattle.glob_rules.proofs.pathspec.spec.length_of_directory_before_wildcard.Goals as goal

pub returns-in-Some-clause-value : goal.returns-in-Some-clause-value
returns-in-Some-clause-value c =
    let found = c.in-Some.ensures in
    stem_at c.args.path.now _ c.length_before_first_wildcard.result c.in-Some.at c.length_before_first_wildcard.ensures.value refl found.0.high found.0.after found.1

pub returns-in-None-clause-value : goal.returns-in-None-clause-value
returns-in-None-clause-value c = stem_none c.args.path.now _ c.length_before_first_wildcard.result c.length_before_first_wildcard.ensures.value refl c.in-None.ensures
