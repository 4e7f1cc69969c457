use Rattle.std.proofs.Common.{ap, sym, ◌∙◌, option_map}
use Rattle.gitbase_core.specs.Store.{object_of_stored_object}
use Rattle.gitbase_core.proofs.StoreEntries.{object_at-objects_of, seen_lent}
use Rattle.gitbase_core.proofs.store.stored_object_by_id.Goals as goal

pub returns : goal.returns
returns c =
    seen_lent c.get.result
    ∙ ap (option_map object_of_stored_object) c.get.ensures.value
    ∙ sym (object_at-objects_of c.args.objects.now.entries c.args.id.now)
