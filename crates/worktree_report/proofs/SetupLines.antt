-- One more line of a setup.
use Rattle.std.proofs.Common.{◌≡◌, ℕ, suc, ◌+◌, ◌<◌, ◌≤◌, List, [], ◌∷◌, ◌++◌, length, take, drop, get_or, map, Bool, true, false, cond, Some, None, refl, sym, ap, ◌∙◌, arith, add-one, append_assoc, append-nil, drop-cons, length-take, take_all, Bor}
use Rattle.std.proofs.lemmas.List.{length-map, take_more, drop_all, get_or-map}
use Rattle.gitbase_core.specs.declared.entry.IndexEntry.{IndexEntry}
use Rattle.worktree_report.specs.declared.setup.option.SetupOption.{SetupOption}
use Rattle.worktree_report.specs.declared.setup.files.SetupBlob.{SetupBlob}
use Rattle.worktree_report.specs.ConfigFiles.{ConfigFile}
use Rattle.worktree_report.specs.SetupSaid.{SetupDraft, empty_setup_draft, merge_setup_drafts}
use Rattle.worktree_report.specs.SetupKeywords.{parse_setup_line}
use Rattle.worktree_report.specs.SetupText.{draft_of_setup_line, draft_of_lines, is_line_refused_behind_draft, add_setup_line, number_of_first_bad_line}

abbrev said_of : List SetupOption → List IndexEntry → List SetupBlob → List ℕ → List ℕ → List (List ℕ) → List (List ℕ) → List ConfigFile → SetupDraft
said_of options index blobs overrides globals specs worktrees configs =
    record { options = options; index = index; blobs = blobs; overrides = overrides; globals = globals; specs = specs; worktrees = worktrees; configs = configs }

-- two records with the same fields
same : {o1 o2 : List SetupOption} {i1 i2 : List IndexEntry} {b1 b2 : List SetupBlob} {r1 r2 g1 g2 : List ℕ} {s1 s2 w1 w2 : List (List ℕ)} {c1 c2 : List ConfigFile}
    → o1 ≡ o2 → i1 ≡ i2 → b1 ≡ b2 → r1 ≡ r2 → g1 ≡ g2 → s1 ≡ s2 → w1 ≡ w2 → c1 ≡ c2 → said_of o1 i1 b1 r1 g1 s1 w1 c1 ≡ said_of o2 i2 b2 r2 g2 s2 w2 c2
same o i b r g s w c = cc

-- saying nothing more is saying no more
both-nothing : (a : SetupDraft) → merge_setup_drafts a empty_setup_draft ≡ a
both-nothing a =
    same (append-nil a.options) (append-nil a.index) (append-nil a.blobs) (append-nil a.overrides) (append-nil a.globals) (append-nil a.specs) (append-nil a.worktrees) (append-nil a.configs)

both-assoc : (a b c : SetupDraft) → merge_setup_drafts (merge_setup_drafts a b) c ≡ merge_setup_drafts a (merge_setup_drafts b c)
both-assoc a b c =
    same (append_assoc a.options b.options c.options) (append_assoc a.index b.index c.index) (append_assoc a.blobs b.blobs c.blobs) (append_assoc a.overrides b.overrides c.overrides)
    (append_assoc a.globals b.globals c.globals) (append_assoc a.specs b.specs c.specs) (append_assoc a.worktrees b.worktrees c.worktrees) (append_assoc a.configs b.configs c.configs)

said-append : (lines : List (List ℕ)) (line : List ℕ) → draft_of_lines (lines ++ line ∷ []) ≡ merge_setup_drafts (draft_of_lines lines) (draft_of_setup_line (parse_setup_line line))
unfolding draft_of_lines
said-append [] line = both-nothing (draft_of_setup_line (parse_setup_line line))
said-append (first ∷ lines) line =
    ap (merge_setup_drafts (draft_of_setup_line (parse_setup_line first))) (said-append lines line) ∙ sym (both-assoc (draft_of_setup_line (parse_setup_line first)) (draft_of_lines lines) (draft_of_setup_line (parse_setup_line line)))

-- the step of the code is that of the definition
taken-said : (earlier : List (List ℕ)) (line : List ℕ) → add_setup_line (draft_of_lines earlier) (parse_setup_line line) ≡ cond (is_line_refused_behind_draft (draft_of_lines earlier) (parse_setup_line line)) None (Some (draft_of_lines (earlier ++ line ∷ [])))
taken-said earlier line = ap (λ (s : SetupDraft). cond (is_line_refused_behind_draft (draft_of_lines earlier) (parse_setup_line line)) None (Some s)) (sym (said-append earlier line))

refused_is : {X : Type 0} (b : Bool) (x : X) → cond b None (Some x) ≡ None → b ≡ true
refused_is true x e = refl
refused_is false x e = absurd cc

taken_is : {X : Type 0} (b : Bool) (x y : X) → cond b None (Some x) ≡ Some y → (b ≡ false) × (y ≡ x)
taken_is true x y e = absurd cc
taken_is false x y e = (refl, cc)

module _ (lines : List (List ℕ)) (i : ℕ) (line : List ℕ) (all : SetupDraft) (within : i < length lines) (is : line ≡ get_or lines i line)
    (so_far : all ≡ draft_of_lines (take i lines)) (same : number_of_first_bad_line (take i lines) (drop i lines) ≡ number_of_first_bad_line [] lines) where
  step : number_of_first_bad_line [] lines ≡ cond (is_line_refused_behind_draft (draft_of_lines (take i lines)) (parse_setup_line line)) (Some (length (take i lines) + 1)) (number_of_first_bad_line (take i lines ++ line ∷ []) (drop (suc i) lines))
  unfolding number_of_first_bad_line
  step = sym same ∙ ap (number_of_first_bad_line (take i lines)) (drop-cons lines i line within ∙ ap (λ (x : List ℕ). x ∷ drop (suc i) lines) (sym is))

  by_meaning : add_setup_line all (parse_setup_line line) ≡ cond (is_line_refused_behind_draft (draft_of_lines (take i lines)) (parse_setup_line line)) None (Some (draft_of_lines (take i lines ++ line ∷ [])))
  by_meaning = ap (λ (s : SetupDraft). add_setup_line s (parse_setup_line line)) so_far ∙ taken-said (take i lines) line

  -- a line that is not taken is the first one outside
  pub refused : add_setup_line all (parse_setup_line line) ≡ None → number_of_first_bad_line [] lines ≡ Some (i + 1)
  refused none =
      let outside : is_line_refused_behind_draft (draft_of_lines (take i lines)) (parse_setup_line line) ≡ true = refused_is (is_line_refused_behind_draft (draft_of_lines (take i lines)) (parse_setup_line line)) (draft_of_lines (take i lines ++ line ∷ [])) (sym by_meaning ∙ none) in
      let here : number_of_first_bad_line [] lines ≡ Some (length (take i lines) + 1) = step ∙ ap (λ b. cond b (Some (length (take i lines) + 1)) (number_of_first_bad_line (take i lines ++ line ∷ []) (drop (suc i) lines))) outside in
      let number : length (take i lines) + 1 ≡ i + 1 = omega (arith, length-take i lines) in
      here ∙ ap (λ (n : ℕ). Some n) number

  -- behind a line that is taken the search goes on
  pub goes_on : (next : SetupDraft) → add_setup_line all (parse_setup_line line) ≡ Some next → (next ≡ draft_of_lines (take (i + 1) lines)) × (number_of_first_bad_line (take (i + 1) lines) (drop (i + 1) lines) ≡ number_of_first_bad_line [] lines)
  goes_on next some =
      let h = taken_is (is_line_refused_behind_draft (draft_of_lines (take i lines)) (parse_setup_line line)) (draft_of_lines (take i lines ++ line ∷ [])) next (sym by_meaning ∙ some) in
      let longer : take (i + 1) lines ≡ take i lines ++ line ∷ [] = take_more lines i line within ∙ ap (λ (x : List ℕ). take i lines ++ x ∷ []) (sym is) in
      let more : number_of_first_bad_line [] lines ≡ number_of_first_bad_line (take i lines ++ line ∷ []) (drop (suc i) lines) =
      step ∙ ap (λ b. cond b (Some (length (take i lines) + 1)) (number_of_first_bad_line (take i lines ++ line ∷ []) (drop (suc i) lines))) h.0 in
      (h.1 ∙ ap draft_of_lines (sym longer), rw (longer, add-one) (sym more))

-- behind the last line no line is outside
pub all_read : (lines : List (List ℕ)) (i : ℕ) (all : SetupDraft) → length lines ≤ i → all ≡ draft_of_lines (take i lines) → number_of_first_bad_line (take i lines) (drop i lines) ≡ number_of_first_bad_line [] lines
    → (number_of_first_bad_line [] lines ≡ None) × (all ≡ draft_of_lines lines)
unfolding number_of_first_bad_line
all_read lines i all past so_far same = (sym same ∙ ap (number_of_first_bad_line (take i lines)) (drop_all i lines past), so_far ∙ ap draft_of_lines (take_all i lines past))

-- the same, where the lines are slices
module _ (refs : List (Bor (List ℕ))) (d : Bor (List ℕ)) (i : ℕ) (all : SetupDraft) (within : i < length refs)
    (so_far : all ≡ draft_of_lines (take i (map (λ r. r.now) refs))) (same : number_of_first_bad_line (take i (map (λ r. r.now) refs)) (drop i (map (λ r. r.now) refs)) ≡ number_of_first_bad_line [] (map (λ r. r.now) refs)) where
  inside : i < length (map (λ (r : Bor (List ℕ)). r.now) refs)
  inside = omega (arith, length-map refs (λ (r : Bor (List ℕ)). r.now))

  read : (get_or refs i d).now ≡ get_or (map (λ r. r.now) refs) i (get_or refs i d).now
  read = sym (get_or-map (λ (r : Bor (List ℕ)). r.now) refs i d (get_or refs i d).now within)

  pub refused_ref : add_setup_line all (parse_setup_line (get_or refs i d).now) ≡ None → number_of_first_bad_line [] (map (λ r. r.now) refs) ≡ Some (i + 1)
  refused_ref = refused (map (λ r. r.now) refs) i (get_or refs i d).now all inside read so_far same

  pub goes_on_ref : (next : SetupDraft) → add_setup_line all (parse_setup_line (get_or refs i d).now) ≡ Some next → (next ≡ draft_of_lines (take (i + 1) (map (λ r. r.now) refs))) × (number_of_first_bad_line (take (i + 1) (map (λ r. r.now) refs)) (drop (i + 1) (map (λ r. r.now) refs)) ≡ number_of_first_bad_line [] (map (λ r. r.now) refs))
  goes_on_ref = goes_on (map (λ r. r.now) refs) i (get_or refs i d).now all inside read so_far same
