use Rattle.std.proofs.Common.{◌≡◌, ◌∷◌, [], ◌++◌, Option, List, length, map, refl, sym, ap, ◌∙◌, append_assoc, append-nil, arith}
use Rattle.std.specs.Vec.Iter.{into_iter_items}
use Rattle.dir_walk.specs.Emissions.{Emission}
use Rattle.worktree_report.specs.declared.known.Known.{Known}
use Rattle.worktree_report.specs.Submodules.{report_entry_with_submodule}
use Rattle.worktree_report.proofs.report.report_entries_with_submodules.Goals as goal

-- one more behind what was made, of what was left
one_more : {A B : Type 0} (f : A → B) (made now : List B) (x : A) (y : B) (left rest : List A) (whole : List B)
    → now ≡ made ++ y ∷ [] → y ≡ f x → left ≡ x ∷ rest → made ++ map f left ≡ whole → now ++ map f rest ≡ whole
one_more f made now x y left rest whole grown is first so_far =
    ap (λ z. z ++ map f rest) grown ∙ append_assoc made (y ∷ []) (map f rest) ∙ ap (λ z. made ++ z ∷ map f rest) is ∙ ap (λ z. made ++ map f z) (sym first) ∙ so_far

nothing_left : {X : Type 0} (l : List X) → length l ≡ 0 → l ≡ []
nothing_left [] h = refl
nothing_left (x ∷ xs) h = absurd (omega arith)

pub loop-emission-preserved : goal.loop-emission-preserved
loop-emission-preserved c =
    let at = c.loop-emission in
    let x = c.in-Some.emission in
    let steps : into_iter_items at.emission-iterator ≡ x ∷ into_iter_items c.next.new.self = c.in-Some.ensures.steps.0 in
    record {
      entries = one_more (report_entry_with_submodule c.args.known.now) at.entries.items _ x _ _ _ _ c.in_ok-push.ensures.items
          (c.in_ok-entry.ensures.entry ∙ ap (λ (k : Option Known). report_entry_with_submodule k x) at.invariant.known) steps at.invariant.entries;
      known = c.in_ok-entry.ensures.same ∙ at.invariant.known;
      left = let was = at.invariant.left in let gone = c.in-Some.ensures.steps.1 in let short = ap length steps in omega arith;
    }

pub returns : goal.returns
returns c =
    let at = c.loop-emission in
    let none = c.in-None.ensures.steps in
    let empty : into_iter_items at.emission-iterator ≡ [] = nothing_left _ (sym at.invariant.left ∙ none.0) in
    sym (append-nil at.entries.items) ∙ ap (λ (z : List Emission). at.entries.items ++ map (report_entry_with_submodule c.args.known.now) z) (sym empty) ∙ at.invariant.entries
