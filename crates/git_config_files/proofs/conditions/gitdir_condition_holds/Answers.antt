use Rattle.git_config_files.proofs.conditions.gitdir_condition_holds.Goals as goal

pub returns : goal.returns
returns g c = rw (← c.known.view_is) c.gitdir_condition_holds_if_repository.ensures
