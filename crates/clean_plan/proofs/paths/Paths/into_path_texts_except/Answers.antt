use Rattle.std.proofs.Common.{rules, ◌≡◌, sym, subst}
use Rattle.clean_plan.proofs.Among.{ascends-texts}
use Rattle.std.proofs.lemmas.List.Kept.{IsStrictlySortedBy-filter}
use Rattle.clean_plan.specs.Paths.{AscendsStrictly, is_path_not_among, borrowed_byte_strings, paths_without_others}
use Rattle.clean_plan.proofs.paths.Paths.into_path_texts_except.Goals as goal

pub returns-clause-ascends : goal.returns-clause-ascends
returns-clause-ascends c =
    let same : c.loop-path.texts.items ≡ paths_without_others c.args.staying.now (borrowed_byte_strings c.self.inside.sorted.keys) = search rules in
    subst AscendsStrictly (sym same) (IsStrictlySortedBy-filter _ (is_path_not_among c.args.staying.now) (borrowed_byte_strings c.self.inside.sorted.keys) (ascends-texts c.self.inside.sorted.keys c.len.ensures.ordered))
