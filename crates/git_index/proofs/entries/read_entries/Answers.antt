use Rattle.std.proofs.Common.{arith, sym, ap, ◌∙◌, ◌≡◌, ◌-◌, inr, option_map, Err, length}
use Rattle.git_index.specs.Entries.{EntriesAndDetails, read_entry, read_entries_after_others}
use Rattle.git_index.specs.Seen.{entries_and_details_as_record, entry_and_rest_as_record}
use Rattle.git_index.specs.declared.error.IndexFileError.TheVariants.{Entry}
use Rattle.git_index.proofs.Stepping.{with_one, without_one}
use Rattle.git_index.proofs.entries.read_entries.Goals as goal

pub returns-in_default : goal.returns-in_default
returns-in_default c =
    let found = ap (λ p. read_entry c.args.version p c.loop-left.rest.now) (sym c.path_of_last_entry.ensures) ∙ sym c.in_ok-read.ensures ∙ ap (option_map entry_and_rest_as_record) c.in_default.is in
    let same : length c.loop-left.listed.entries.items ≡ c.len.result = omega (arith, c.len.ensures) in
    inr (sym c.loop-left.invariant
    ∙ without_one c.args.version (entries_and_details_as_record c.loop-left.listed) c.loop-left.left c.loop-left.rest.now c.loop-left-test.true found
    ∙ ap (λ n. Err (Entry n)) same)

pub loop-left-preserved : goal.loop-left-preserved
loop-left-preserved c =
    let found = ap (λ p. read_entry c.args.version p c.loop-left.rest.now) (sym c.path_of_last_entry.ensures) ∙ sym c.in_ok-read.ensures ∙ ap (option_map entry_and_rest_as_record) c.in-Some.is in
    ap (λ (listed : EntriesAndDetails). read_entries_after_others c.args.version listed (c.loop-left.left - 1) c.in-Some.read.rest.now) c.in_ok-push.ensures
    ∙ sym (with_one c.args.version (entries_and_details_as_record c.loop-left.listed) c.loop-left.left c.loop-left.rest.now (entry_and_rest_as_record c.in-Some.read) c.loop-left-test.true found)
    ∙ c.loop-left.invariant
