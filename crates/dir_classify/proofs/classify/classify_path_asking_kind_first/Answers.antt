use Rattle.std.proofs.Common.{◌∙◌}
use Rattle.std.proofs.lemmas.Result.{err_from_is_err_and}
use Rattle.dir_classify.specs.Layers.{setting_of_shared}
use Rattle.dir_classify.proofs.OnWay.{on-way, on-way-refused}
use Rattle.dir_classify.proofs.classify.classify_path_asking_kind_first.Goals as goal

pub returns : goal.returns
returns g c =
    on-way g.W.Worktree g.F.Find c.args.worktree.now c.kind_on_disk_or_none.new.worktree c.classify_name_in_directory.new.worktree c.args.objects.now c.classify_name_in_directory.new.objects c.args.excludes.now c.classify_name_in_directory.new.excludes
    (setting_of_shared g.M.Matcher c.args.shared.now) c.args.rela_path.now c.as_bytes.result.now c.in_ok-kind.kind (c.as_bytes.ensures ∙ c.in_ok-full.ensures) c.in_ok-kind.ensures.keeps c.in_ok-kind.ensures.reads c.in_ok-kind.ensures.kind c.in_ok-kind.ensures.swallowed c.in_ok-class.class c.in_ok-class.ensures

pub returns-in_err-class : goal.returns-in_err-class
returns-in_err-class g c =
    let p = err_from_is_err_and c.from_residual-in_err-class.result c.from_residual-in_err-class.ensures.1 in
    rw (p.1, p.2)
    (on-way-refused g.W.Worktree g.F.Find c.args.worktree.now c.kind_on_disk_or_none.new.worktree c.classify_name_in_directory.new.worktree c.args.objects.now c.classify_name_in_directory.new.objects c.args.excludes.now c.classify_name_in_directory.new.excludes
    (setting_of_shared g.M.Matcher c.args.shared.now) c.args.rela_path.now c.as_bytes.result.now c.in_ok-kind.kind (c.as_bytes.ensures ∙ c.in_ok-full.ensures) c.in_ok-kind.ensures.keeps c.in_ok-kind.ensures.reads
    c.in_ok-kind.ensures.kind c.in_ok-kind.ensures.swallowed c.in_err-class.field-0.0 c.in_err-class.ensures)
