-- Counting what is held, one by one.
use Rattle.std.proofs.Common.{◌≡◌, ℕ, ◌+◌, ◌<◌, ◌≤◌, ◌^◌, List, [], ◌∷◌, Bool, true, cond, count_by, length, take, get_or, ap, ◌∙◌, sym, arith}
use Rattle.std.proofs.lemmas.List.Sums.{sum_by_more, count_by-le-length}
use Rattle.glob_rules.specs.declared.ignore.Kind.TheVariants.{Expendable, Precious}
use Rattle.dir_classify.specs.declared.entry.Entry.{Entry}
use Rattle.dir_classify.specs.declared.entry.PathspecMatch.TheVariants.{Always, Excluded, Prefix, WildcardMatch, Verbatim}
use Rattle.dir_classify.specs.declared.entry.Status.{Status}
use Rattle.dir_classify.specs.declared.entry.Status.TheVariants.{Pruned, Tracked, Ignored, Untracked}
use Rattle.dir_walk.specs.Fold.{CanCountOneMore, is_empty_directory_entry, prevents_folding, is_ignored_expendable_entry, is_expendable_status, has_pathspec_match, is_prefix_or_wildcard_match, is_ignored_precious_entry, is_precious_status, is_untracked_entry, is_untracked_status, tally_held_entries, tally_with_entry}
use Rattle.dir_walk.proofs.Order.Counts.{count_all, count_by-cons}

-- the counts of one more of the held entries
pub tally-more : (held : List Entry) (i : ℕ) (e : Entry) → i < length held → e ≡ get_or held i e → tally_held_entries (take (i + 1) held) ≡ tally_with_entry (tally_held_entries (take i held)) e
tally-more held i e inside is =
    let one : (p : Entry → Bool) → count_by p (take (i + 1) held) ≡ count_by p (take i held) + cond (p e) 1 0 =
    λ p. sum_by_more (λ x. cond (p x) 1 0) held i e inside ∙ ap (λ (x : Entry). count_by p (take i held) + cond (p x) 1 0) (sym is) in
    cc (
      one (λ _. true),
      one is_untracked_entry,
      one is_ignored_expendable_entry,
      one is_ignored_precious_entry,
      one prevents_folding,
      one is_prefix_or_wildcard_match,
      one is_empty_directory_entry,
      one (has_pathspec_match Always),
      one (has_pathspec_match Excluded),
      one (has_pathspec_match Prefix),
      one (has_pathspec_match WildcardMatch),
      one (has_pathspec_match Verbatim),
    )

pub tally-small : (held : List Entry) → length held + 1 < 2 ^ 64 → CanCountOneMore (tally_held_entries held)
tally-small held short =
    let below : (p : Entry → Bool) → count_by p held ≤ count_by (λ _. true) held = λ p. omega (arith, count_by-le-length p held, count_all held) in
    record {
      all = omega (arith, count_all held, short);
      untracked = below is_untracked_entry;
      expendable = below is_ignored_expendable_entry;
      precious = below is_ignored_precious_entry;
      barring = below prevents_folding;
      picked = below is_prefix_or_wildcard_match;
      without_names = below is_empty_directory_entry;
      always = below (has_pathspec_match Always);
      excluded = below (has_pathspec_match Excluded);
      prefixed = below (has_pathspec_match Prefix);
      wildcard = below (has_pathspec_match WildcardMatch);
      verbatim = below (has_pathspec_match Verbatim);
    }

one_status : (s : Status) → cond {A = ℕ} (is_untracked_status s) 1 0 + cond (is_expendable_status s) 1 0 + cond (is_precious_status s) 1 0 ≤ 1
one_status Pruned = omega arith
one_status Tracked = omega arith
one_status Untracked = omega arith
one_status (Ignored Expendable) = omega arith
one_status (Ignored Precious) = omega arith

-- each is counted at most once by its status
pub tally-loose : (held : List Entry) → count_by is_untracked_entry held + count_by is_ignored_expendable_entry held + count_by is_ignored_precious_entry held ≤ count_by (λ e. true) held
tally-loose [] = omega arith
tally-loose (e ∷ held) =
    omega (
      arith,
      count_by-cons is_untracked_entry e held,
      count_by-cons is_ignored_expendable_entry e held,
      count_by-cons is_ignored_precious_entry e held,
      count_by-cons (λ _. true) e held,
      tally-loose held,
      one_status e.status,
    )
