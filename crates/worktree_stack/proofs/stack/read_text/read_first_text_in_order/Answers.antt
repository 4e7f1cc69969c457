use Rattle.std.proofs.Common.{◌≡◌, ◌∷◌, [], ℕ, List, Option, false, Ok, IfErr, refl, sym, ap, subst, rules}
use Rattle.std.specs.Prelude.{IsErrAnd}
use Rattle.std.proofs.lemmas.Result.{IfErr-weaker}
use Rattle.worktree_fs.specs.Causes.{CountIncreasedOrSaturated}
use Rattle.worktree_fs.specs.Tree.{look}
use Rattle.worktree_fs.proofs.Calls.{handed_on}
use Rattle.worktree_stack.specs.Reading.{RulesPlace, in_tree, in_store, list_bytes_of_file_lookup, rules_text_of_list_bytes, rules_text_if_found, first_rules_text_of_places, places_by_read_order}
use Rattle.worktree_stack.specs.Refused.{IsReadingRefused}
use Rattle.worktree_stack.proofs.Rules.Placing.{file-first, blob-last, next-asked}
use Rattle.worktree_stack.proofs.stack.read_text.read_first_text_in_order.Goals as goal

pub returns-in-Worktree-clause-refused : goal.returns-in-Worktree-clause-refused
returns-in-Worktree-clause-refused g c =
    let W = g.W.Worktree in
    let F = g.F.Find in
    let told = W.told c.args.worktree.now in
    let holds = F.holds c.args.objects.now in
    let places : places_by_read_order c.args.order c.args.whole.now c.args.path.now ≡ in_tree c.args.whole.now c.in-Worktree.follow ∷ [] =
    ap (λ o. places_by_read_order o c.args.whole.now c.args.path.now) c.in-Worktree.is in
    subst (λ (ps : List RulesPlace). IfErr c.read_rules_file.result (IsReadingRefused told holds (CountIncreasedOrSaturated (W.faults c.args.worktree.now) (W.faults c.read_rules_file.new.worktree))
    (CountIncreasedOrSaturated (F.faults c.args.objects.now) (F.faults c.args.objects.now)) ps (λ s. first_rules_text_of_places s ps))) (sym places)
    (IfErr-weaker c.read_rules_file.result _ _ (λ e said. file-first told holds _ _ c.args.whole.now c.in-Worktree.follow [] e said) c.read_rules_file.ensures.refused)

pub returns-in-Store-clause-refused : goal.returns-in-Store-clause-refused
returns-in-Store-clause-refused g c =
    let W = g.W.Worktree in
    let F = g.F.Find in
    let told = W.told c.args.worktree.now in
    let holds = F.holds c.args.objects.now in
    let places : places_by_read_order c.args.order c.args.whole.now c.args.path.now ≡ in_store c.args.path.now c.in-Store.id ∷ [] =
    ap (λ o. places_by_read_order o c.args.whole.now c.args.path.now) c.in-Store.is in
    subst (λ (ps : List RulesPlace). IfErr c.read_rules_blob.result (IsReadingRefused told holds (CountIncreasedOrSaturated (W.faults c.args.worktree.now) (W.faults c.args.worktree.now))
    (CountIncreasedOrSaturated (F.faults c.args.objects.now) (F.faults c.read_rules_blob.new.objects)) ps (λ s. first_rules_text_of_places s ps))) (sym places)
    (IfErr-weaker c.read_rules_blob.result _ _ (λ e said. blob-last told holds _ c.args.path.now c.in-Store.id [] (λ s tells. refl) _ e said) c.read_rules_blob.ensures.refused)

pub returns-in_err-source-in-WorktreeThenStore-clause-refused : goal.returns-in_err-source-in-WorktreeThenStore-clause-refused
returns-in_err-source-in-WorktreeThenStore-clause-refused g c =
    let W = g.W.Worktree in
    let F = g.F.Find in
    let told = W.told c.args.worktree.now in
    let holds = F.holds c.args.objects.now in
    let whole : List ℕ = c.args.whole.now in
    let path : List ℕ = c.args.path.now in
    let id : List ℕ = c.in-WorktreeThenStore.id in
    let places : places_by_read_order c.args.order whole path ≡ in_tree whole false ∷ in_store path id ∷ [] = ap (λ o. places_by_read_order o whole path) c.in-WorktreeThenStore.is in
    let e = c.in_err-source-in-WorktreeThenStore.field-0.0 in
    let same : IsErrAnd c.from_residual.result (λ x. x ≡ e) = search rules in
    subst (λ (ps : List RulesPlace). IfErr c.from_residual.result (IsReadingRefused told holds (CountIncreasedOrSaturated (W.faults c.args.worktree.now) (W.faults c.read_rules_file-in-WorktreeThenStore.new.worktree))
    (CountIncreasedOrSaturated (F.faults c.args.objects.now) (F.faults c.args.objects.now)) ps (λ s. first_rules_text_of_places s ps))) (sym places)
    (handed_on c.from_residual.result e _ same
    (file-first told holds _ _ whole false (in_store path id ∷ []) e c.in_err-source-in-WorktreeThenStore.ensures.refused))

pub returns-in-None-clause-refused : goal.returns-in-None-clause-refused
returns-in-None-clause-refused g c =
    let W = g.W.Worktree in
    let F = g.F.Find in
    let told = W.told c.args.worktree.now in
    let holds = F.holds c.args.objects.now in
    let whole : List ℕ = c.args.whole.now in
    let path : List ℕ = c.args.path.now in
    let id : List ℕ = c.in-WorktreeThenStore.id in
    let places : places_by_read_order c.args.order whole path ≡ in_tree whole false ∷ in_store path id ∷ [] = ap (λ o. places_by_read_order o whole path) c.in-WorktreeThenStore.is in
    subst (λ (ps : List RulesPlace). IfErr c.read_rules_blob-in-None.result (IsReadingRefused told holds (CountIncreasedOrSaturated (W.faults c.args.worktree.now) (W.faults c.read_rules_file-in-WorktreeThenStore.new.worktree))
    (CountIncreasedOrSaturated (F.faults c.args.objects.now) (F.faults c.read_rules_blob-in-None.new.objects)) ps (λ s. first_rules_text_of_places s ps))) (sym places)
    (IfErr-weaker c.read_rules_blob-in-None.result _ _
    (λ e said. blob-last told holds _ path id (in_tree whole false ∷ [])
    (λ s tells. next-asked whole (list_bytes_of_file_lookup whole (look s.tree whole false)) _
    (subst (λ (source : Option (List ℕ)). rules_text_of_list_bytes whole (list_bytes_of_file_lookup whole (look s.tree whole false)) ≡ Ok (rules_text_if_found source c.read_rules_file-in-WorktreeThenStore.new.buffer))
    c.in-None.is (c.in_ok-source-in-WorktreeThenStore.ensures.text s.tree tells.tree_is))) _ e said)
    c.read_rules_blob-in-None.ensures.refused)
