-- A directory that is folded over something that is shown is shown.
use Rattle.std.proofs.Common.{◌≡◌, ℕ, ◌+◌, ◌≤◌, List, [], ◌∷◌, Bool, true, false, cond, not, eqb, eqb-true, ◌||◌, ◌&&◌, Option, Some, None, count_by, refl, sym, ap, ◌∙◌, arith}
use Rattle.std.specs.Prelude.{is_none, is_some}
use Rattle.glob_rules.specs.declared.ignore.Kind.TheVariants.{Expendable, Precious}
use Rattle.dir_classify.specs.declared.classify.Outcome.{Outcome as Class}
use Rattle.dir_classify.specs.declared.entry.Entry.{Entry}
use Rattle.dir_classify.specs.declared.entry.PathspecMatch.{PathspecMatch}
use Rattle.dir_classify.specs.declared.entry.PathspecMatch.TheVariants.{Always, Excluded, Prefix, WildcardMatch, Verbatim}
use Rattle.dir_classify.specs.declared.entry.Property.{Property}
use Rattle.dir_classify.specs.declared.entry.Property.TheVariants.{EmptyDirectory}
use Rattle.dir_classify.specs.declared.entry.Status.{Status}
use Rattle.dir_classify.specs.declared.entry.Status.TheVariants.{Pruned, Tracked, Ignored, Untracked}
use Rattle.dir_classify.specs.declared.options.EmissionMode.{EmissionMode}
use Rattle.dir_classify.specs.Chosen.{WalkOptions, collapses_directories_if_some}
use Rattle.dir_classify.specs.Evidence.{PathEvidence}
use Rattle.dir_classify.specs.Kinds.{is_repository_kind}
use Rattle.dir_walk.specs.declared.tally.Tally.{Tally}
use Rattle.dir_walk.specs.Emissions.{is_empty_directory_property, is_unmatched_or_excluded, is_status_emitted, is_entry_shown_by_options}
use Rattle.dir_walk.specs.Fold.{is_nonzero, status_of_folded_directory, may_fold_as_expendable, may_fold_as_precious, may_fold_as_untracked, greatest_match_counted, is_empty_directory_entry, prevents_folding, has_pathspec_match, pathspec_match_of_folded_directory, property_of_folded_directory, rank_of_optional_pathspec_match, tally_held_entries}
use Rattle.dir_walk.proofs.Order.Counts.{count_by-cons, one-le}
use Rattle.dir_walk.proofs.Theorems.Guards.{none-barring}
use Rattle.dir_walk.proofs.Order.Lists.{and_both, and_left, refuted, same_some}
use Rattle.dir_walk.proofs.Places.Located.{IsFold}

-- ---- of what is held

not-empty_too : (h e a b : Bool) → e ≡ false → cond {A = ℕ} ((e || not h) && a && b) 1 0 + cond h 1 0 ≤ 1
not-empty_too true false a b is = omega arith
not-empty_too true true a b is = absurd (cc is)
not-empty_too false e a b is = omega (arith, one-le ((e || true) && a && b))

shown-names : (o : WalkOptions) (held : List Entry) → o.emit_empty_directories ≡ false → count_by (is_entry_shown_by_options o) held + count_by is_empty_directory_entry held ≤ count_by (λ e. true) held
shown-names o [] is = omega arith
shown-names o (e ∷ held) is =
    omega (
      arith,
      count_by-cons (is_entry_shown_by_options o) e held,
      count_by-cons is_empty_directory_entry e held,
      count_by-cons (λ _. true) e held,
      shown-names o held is,
      not-empty_too (is_empty_directory_entry e) o.emit_empty_directories (is_status_emitted o e.status) (o.emit_pruned || not (is_unmatched_or_excluded e.pathspec_match)) is,
    )

unmatched-hides : (a p u : Bool) → p ≡ false → u ≡ true → cond {A = ℕ} (a && (p || not u)) 1 0 ≤ 0
unmatched-hides true false true e f = omega arith
unmatched-hides true false false e f = absurd (cc f)
unmatched-hides true true u e f = absurd (cc e)
unmatched-hides false p u e f = omega arith

by_match : (x : Option PathspecMatch) (a p : Bool) → p ≡ false
    → cond {A = ℕ} (a && (p || not (is_unmatched_or_excluded x))) 1 0 ≤ cond (eqb (rank_of_optional_pathspec_match x) 5) 1 0 + cond (eqb (rank_of_optional_pathspec_match x) 4) 1 0 + cond (eqb (rank_of_optional_pathspec_match x) 3) 1 0 + cond (eqb (rank_of_optional_pathspec_match x) 1) 1 0
by_match None a p e = unmatched-hides a p true e refl
by_match (Some Excluded) a p e = unmatched-hides a p true e refl
by_match (Some Always) a p e = one-le (a && (p || true))
by_match (Some Prefix) a p e = one-le (a && (p || true))
by_match (Some WildcardMatch) a p e = one-le (a && (p || true))
by_match (Some Verbatim) a p e = one-le (a && (p || true))

shown-matched : (o : WalkOptions) (held : List Entry) → o.emit_pruned ≡ false
    → count_by (is_entry_shown_by_options o) held ≤ count_by (has_pathspec_match Verbatim) held + count_by (has_pathspec_match WildcardMatch) held + count_by (has_pathspec_match Prefix) held + count_by (has_pathspec_match Always) held
shown-matched o [] is = omega arith
shown-matched o (e ∷ held) is =
    omega (
      arith,
      count_by-cons (is_entry_shown_by_options o) e held,
      count_by-cons (has_pathspec_match Verbatim) e held,
      count_by-cons (has_pathspec_match WildcardMatch) e held,
      count_by-cons (has_pathspec_match Prefix) e held,
      count_by-cons (has_pathspec_match Always) e held,
      shown-matched o held is,
      by_match e.pathspec_match ((o.emit_empty_directories || not (is_empty_directory_entry e)) && is_status_emitted o e.status) o.emit_pruned is,
    )

excluded-bars : (held : List Entry) → count_by (has_pathspec_match Excluded) held ≤ count_by prevents_folding held
excluded-bars [] = omega arith
excluded-bars (e ∷ held) =
    omega (arith, count_by-cons (has_pathspec_match Excluded) e held, count_by-cons prevents_folding e held, excluded-bars held, go (is_repository_kind e.disk_kind || has_pathspec_match Verbatim e) (has_pathspec_match Excluded e))
  where
    go : (a b : Bool) → cond {A = ℕ} b 1 0 ≤ cond (a || b) 1 0
    go true b = one-le b
    go false b = omega arith

-- ---- of the directory

-- the greatest match is one that is shown
greatest-shown : (n : Tally) (c : Class) → n.excluded ≡ 0 → 1 ≤ n.verbatim + n.wildcard + n.prefixed + n.always → is_unmatched_or_excluded (pathspec_match_of_folded_directory (greatest_match_counted n) c) ≡ false
greatest-shown n c none here = go (eqb n.verbatim 0) (eqb n.wildcard 0) (eqb n.prefixed 0) (eqb n.excluded 0) (eqb n.always 0) refl refl refl refl refl
  where
    go : (v w p x a : Bool) → eqb n.verbatim 0 ≡ v → eqb n.wildcard 0 ≡ w → eqb n.prefixed 0 ≡ p → eqb n.excluded 0 ≡ x → eqb n.always 0 ≡ a
        → is_unmatched_or_excluded (pathspec_match_of_folded_directory (cond (not v) (Some Verbatim) (cond (not w) (Some WildcardMatch) (cond (not p) (Some Prefix) (cond (not x) (Some Excluded) (cond (not a) (Some Always) None))))) c) ≡ false
    go false w p x a e1 e2 e3 e4 e5 = refl
    go true false p x a e1 e2 e3 e4 e5 = refl
    go true true false x a e1 e2 e3 e4 e5 = refl
    go true true true true false e1 e2 e3 e4 e5 = refl
    go true true true true true e1 e2 e3 e4 e5 =
        absurd (omega (arith, here, eqb-true n.verbatim 0 e1, eqb-true n.wildcard 0 e2, eqb-true n.prefixed 0 e3, eqb-true n.always 0 e5))
    go true true true false a e1 e2 e3 e4 e5 = absurd (let k : eqb 0 0 ≡ false = ap (λ (z : ℕ). eqb z 0) (sym none) ∙ e4 in cc k)

asked : (mode : Option EmissionMode) → collapses_directories_if_some mode ≡ true → is_some mode ≡ true
asked None e = absurd (cc e)
asked (Some mode) e = refl

status-wanted : (o : WalkOptions) (n : Tally) (s : Status) → status_of_folded_directory o n ≡ Some s → is_status_emitted o s ≡ true
status-wanted o n s e = go (may_fold_as_untracked o n) (may_fold_as_expendable o n) (may_fold_as_precious o n) refl refl e
  where
    ignored : Bool
    ignored = collapses_directories_if_some o.emit_ignored

    go : (a b k : Bool) → may_fold_as_expendable o n ≡ b → may_fold_as_precious o n ≡ k
        → cond a (Some Untracked) (cond b (Some (Ignored Expendable)) (cond k (Some (Ignored Precious)) None)) ≡ Some s → is_status_emitted o s ≡ true
    go true b k q r e = ap (is_status_emitted o) (sym (same_some e))
    go false true k q r e =
        ap (is_status_emitted o) (sym (same_some e)) ∙ asked o.emit_ignored (and_left ignored (is_nonzero n.expendable) (and_left (ignored && is_nonzero n.expendable) _ q))
    go false false true q r e =
        ap (is_status_emitted o) (sym (same_some e)) ∙ asked o.emit_ignored (and_left ignored (is_nonzero n.precious) (and_left (ignored && is_nonzero n.precious) _ r))
    go false false false q r e = absurd (cc e)

names-shown : (o : WalkOptions) (own : Option Property) (s : Status) (n : Tally) → is_empty_directory_property own ≡ false → (o.emit_empty_directories ≡ false → eqb n.without_names n.all ≡ false)
    → (ee : Bool) → o.emit_empty_directories ≡ ee → (ee || not (is_empty_directory_property (property_of_folded_directory o own s n))) ≡ true
names-shown o own s n clear full true is = refl
names-shown o (Some p) s n clear full false is = ap not clear
names-shown o None Pruned n clear full false is = refl
names-shown o None Tracked n clear full false is = refl
names-shown o None (Ignored k) n clear full false is = refl
names-shown o None Untracked n clear full false is = go (is_none o.for_deletion) (eqb n.without_names n.all) (full is)
  where
    go : (a b : Bool) → b ≡ false → not (is_empty_directory_property (cond (a && b) (Some EmptyDirectory) None)) ≡ true
    go true true e = absurd (cc e)
    go true false e = refl
    go false b e = refl

-- where the directory's own class is not that of one without names
pub fold-shown : (o : WalkOptions) (ev : PathEvidence) (d : List ℕ) (c : Class) (held : List Entry) (f : Entry) → is_empty_directory_property c.property ≡ false → IsFold o ev d c (tally_held_entries held) f
    → 1 ≤ count_by (is_entry_shown_by_options o) held → is_entry_shown_by_options o f ≡ true
fold-shown o ev d c held f clear is here =
    ap (is_entry_shown_by_options o) is.entry_is
    ∙ and_both _ _ (and_both _ _ (names-shown o c.property f.status n clear full o.emit_empty_directories refl) (status-wanted o n f.status is.status_is)) (matched o.emit_pruned refl)
  where
    n : Tally
    n = tally_held_entries held

    full : o.emit_empty_directories ≡ false → eqb n.without_names n.all ≡ false
    full off = refuted (eqb n.without_names n.all) (λ e. absurd (omega (arith, eqb-true n.without_names n.all e, shown-names o held off, here)))

    matched : (p : Bool) → o.emit_pruned ≡ p → (p || not (is_unmatched_or_excluded (pathspec_match_of_folded_directory (greatest_match_counted n) c))) ≡ true
    matched true off = refl
    matched false off = ap not (greatest-shown n c (omega (arith, excluded-bars held, none-barring ev d n is.fits)) (omega (arith, shown-matched o held off, here)))
