use Rattle.std.proofs.Common.{List, Result, subst}
use Rattle.gitbase_core.specs.declared.entry.IndexEntry.{IndexEntry}
use Rattle.git_setup.specs.Finds.{IsFoundOrFaultOrOutOfMemory}
use Rattle.git_setup.specs.declared.error.GitRefusal.{GitRefusal}
use Rattle.git_setup.proofs.SeenAlong.{along-after}
use Rattle.git_setup.proofs.present.entries_unskipped_if_present.Goals as goal

pub returns : goal.returns
returns g c =
    let all = c.entries_unskipped_with_cached_looks.ensures in
    record {
      gives = λ t told. subst (λ (found : Result (List IndexEntry) GitRefusal). IsFoundOrFaultOrOutOfMemory c.entries_unskipped_with_cached_looks.result found) (along-after t c.args.root.now c.args.looks c.args.entries) (all.gives t told);
      cause = all.cause;
      unfaulted = all.unfaulted;
      keeps = all.keeps;
    }
