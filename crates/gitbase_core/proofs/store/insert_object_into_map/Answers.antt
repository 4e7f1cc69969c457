use Rattle.gitbase_core.proofs.StoreEntries.{one_kept}
use Rattle.gitbase_core.proofs.store.insert_object_into_map.Goals as goal

pub returns-clause-kept : goal.returns-clause-kept
returns-clause-kept c = one_kept c.args.objects.now.entries c.insert.new.self.entries c.args.id c.args.object c.in_ok-insert.ensures.updates.0
