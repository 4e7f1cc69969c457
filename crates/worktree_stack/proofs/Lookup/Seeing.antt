-- The names that are seen on the way to a path.
use Rattle.std.specs.Prelude.{◌≡◌, ℕ, Bool, true, false, ◌&&◌, List, [], ◌∷◌, ◌++◌, Option, Some, None, Result, Ok, Err, IsErrAnd, OnOk, OnErr, if◌then◌else◌}
use Rattle.std.specs.Str.{bytes_eq}
use Rattle.std.specs.List.{list_all, list_any, flat_map, cons_option}
use Rattle.std.specs.BTreeMap.{insert_entry}
use Rattle.std.specs.Cmp.Lexicographic.{slice_cmp}
use Rattle.std.specs.Ordering.{nat_cmp, match_ordering}
use Rattle.std.specs.declared.cmp.Ordering.{Ordering}
use Rattle.std.specs.declared.cmp.Ordering.TheVariants.{Less, Equal, Greater}
use Rattle.std.proofs.Common.{inl, inr, refl, sym, ap, ◌∙◌, subst, append_assoc}
use Rattle.std.proofs.lemmas.Bool.{and_from, and_parts, or_left, or_right}
use Rattle.std.proofs.lemmas.List.{append-nil}
use Rattle.std.proofs.lemmas.List.Folds.{list_all-append, list_any-append}
use Rattle.std.proofs.lemmas.Slice.Eq.{bytes_eq-Decides}
use Rattle.gitbase_core.specs.Objects.{ObjectsById}
use Rattle.gitbase_core.specs.Path.{is_empty}
use Rattle.glob_rules.specs.AttributeLines.{lines}
use Rattle.glob_rules.specs.AttributeNames.{AddsSomeFirstNames, macro_names_of_head, is_text_in_list, attribute_names_of_line, attribute_names_of_lines, names_of_assignments, names_with_name_added_once, names_with_names_added_once}
use Rattle.glob_rules.specs.Attributes.{AttributeList, MacroDefinition, attribute_list_from_lines, path_line_unless_macro, lines_about_paths, macros_with_definition_of_head, macros_with_definitions_of_lines}
use Rattle.glob_rules.specs.declared.attributes.line.Head.{Head}
use Rattle.glob_rules.specs.declared.attributes.line.Head.TheVariants.{Paths, Macro}
use Rattle.glob_rules.specs.declared.attributes.line.Line.{Line}
use Rattle.glob_rules.specs.declared.attributes.list.PathLine.{PathLine}
use Rattle.glob_rules.specs.declared.attributes.word.Assigned.{Assigned}
use Rattle.glob_rules.proofs.SeenNames.{part-back, part-front, part_all, part_none, with_names-append}
use Rattle.worktree_fs.specs.Paths.{slash_joined_components}
use Rattle.worktree_fs.specs.Tree.{Names}
use Rattle.worktree_stack.specs.declared.error.AtPathError.{AtPathError}
use Rattle.worktree_stack.specs.HeldOut.{AreLowestLists}
use Rattle.worktree_stack.specs.Reading.{TreeAndObjects, Tells, RulesPlace, RulesRefusal, RulesText, attribute_places_of_directory, attribute_list_of_text, first_rules_text_of_places, places_of_info_file, rules_text_or_none}
use Rattle.worktree_stack.specs.SeenNames.{AppendsNamesOnce, HasSeenAllListNames, AppendsReadNamesAsSeen, are_all_list_names_seen, info_file_names_at_root, info_file_names_of_setup, attribute_names_of_list, attribute_names_of_text, attribute_names_of_setup, gitattributes_names_of_setup}
use Rattle.worktree_stack.specs.Setup.{AttributesSetup, HeldAttributeLists, StackSetup, setup_of_held_attributes, held_attribute_lists, seen_attribute_names, held_without_highest_list, held_without_lists_of_directory, push_list}
use Rattle.worktree_stack.specs.Stacked.{StackModel}

-- ---- names that come behind others

among-more : (n m : List ℕ) (names : List (List ℕ)) → is_text_in_list n names ≡ true → is_text_in_list n (names_with_name_added_once names m) ≡ true
among-more n m names there = go (is_text_in_list m names)
  where
    go : (b : Bool) → is_text_in_list n (if b then names else names ++ m ∷ []) ≡ true
    go true = there
    go false = list_any-append (bytes_eq n) names (m ∷ []) ∙ or_left (is_text_in_list n names) (list_any (bytes_eq n) (m ∷ [])) there

among-all : (n : List ℕ) (names more : List (List ℕ)) → is_text_in_list n names ≡ true → is_text_in_list n (names_with_names_added_once names more) ≡ true
among-all n names [] there = there
among-all n names (m ∷ more) there = among-all n (names_with_name_added_once names m) more (among-more n m names there)

among-itself : (n : List ℕ) (names : List (List ℕ)) → is_text_in_list n (names_with_name_added_once names n) ≡ true
among-itself n names = go (is_text_in_list n names) refl
  where
    go : (b : Bool) → is_text_in_list n names ≡ b → is_text_in_list n (if b then names else names ++ n ∷ []) ≡ true
    go true e = e
    go false e =
        list_any-append (bytes_eq n) names (n ∷ [])
        ∙ or_right (is_text_in_list n names) (list_any (bytes_eq n) (n ∷ [])) (or_left (bytes_eq n n) false ((bytes_eq-Decides n n).1 refl))

-- names that are seen are all among those that were seen
all-given : (names given : List (List ℕ)) → list_all (λ n. is_text_in_list n (names_with_names_added_once names given)) given ≡ true
all-given names [] = refl
all-given names (m ∷ given) =
    and_from (is_text_in_list m (names_with_names_added_once (names_with_name_added_once names m) given)) (list_all (λ n. is_text_in_list n (names_with_names_added_once (names_with_name_added_once names m) given)) given)
    (among-all m (names_with_name_added_once names m) given (among-itself m names)) (all-given (names_with_name_added_once names m) given)

pub adds-none : (a b : List (List ℕ)) → b ≡ a → AppendsNamesOnce a b
adds-none a b e = record { more = []; behind = e ∙ sym (append-nil a); once = e }

pub adds-then : (a b c : List (List ℕ)) → AppendsNamesOnce a b → AppendsNamesOnce b c → AppendsNamesOnce a c
adds-then a b c x y =
    record {
      more = x.more ++ y.more;
      behind = y.behind ∙ ap (λ (l : List (List ℕ)). l ++ y.more) x.behind ∙ append_assoc a x.more y.more;
      once = y.once ∙ ap (λ (l : List (List ℕ)). names_with_names_added_once l y.more) x.once ∙ sym (with_names-append a x.more y.more);
    }

adds-one : (a : List (List ℕ)) (m : List ℕ) → AppendsNamesOnce a (names_with_name_added_once a m)
adds-one a m = go (is_text_in_list m a) refl
  where
    go : (b : Bool) → is_text_in_list m a ≡ b → AppendsNamesOnce a (if b then a else a ++ m ∷ [])
    go true e = adds-none a a refl
    go false e = record { more = m ∷ []; behind = refl; once = sym (ap (λ (b : Bool). if b then a else a ++ m ∷ []) e) }

pub adds-all : (a given : List (List ℕ)) → AppendsNamesOnce a (names_with_names_added_once a given)
adds-all a [] = adds-none a a refl
adds-all a (m ∷ given) = adds-then a (names_with_name_added_once a m) (names_with_names_added_once (names_with_name_added_once a m) given) (adds-one a m) (adds-all (names_with_name_added_once a m) given)

pub adds-part : (a given b : List (List ℕ)) → AddsSomeFirstNames a given b → AppendsNamesOnce a b
adds-part a [] b e = adds-none a b e
adds-part a (m ∷ given) b (inl e) = adds-none a b e
adds-part a (m ∷ given) b (inr part) = adds-then a (names_with_name_added_once a m) b (adds-one a m) (adds-part (names_with_name_added_once a m) given b part)

-- ---- the names of a list that was read are those of its lines

module _ (p : List ℕ → Bool) where
  abbrev of_lines : List PathLine → List (List ℕ)
  of_lines ls = flat_map (λ (line : PathLine). names_of_assignments line.assignments) ls

  abbrev of_macros : List MacroDefinition → List (List ℕ)
  of_macros ms = flat_map (λ (macro : MacroDefinition). macro.0 ∷ names_of_assignments macro.1) ms

  both : (xs ys : List (List ℕ)) → list_all p (xs ++ ys) ≡ true → (list_all p xs ≡ true) × (list_all p ys ≡ true)
  both xs ys e = and_parts (list_all p xs) (list_all p ys) (sym (list_all-append p xs ys) ∙ e)

  join : (xs ys : List (List ℕ)) → list_all p xs ≡ true → list_all p ys ≡ true → list_all p (xs ++ ys) ≡ true
  join xs ys a b = list_all-append p xs ys ∙ and_from (list_all p xs) (list_all p ys) a b

  on-lines : (ls : List Line) → list_all p (attribute_names_of_lines ls) ≡ true → list_all p (of_lines (lines_about_paths ls)) ≡ true
  on-lines [] e = refl
  on-lines (line ∷ ls) e =
      let split = both (attribute_names_of_line line) (attribute_names_of_lines ls) e in
      go line.head split.0 (on-lines ls split.1)
    where
      go : (h : Head) → list_all p (macro_names_of_head h ++ names_of_assignments line.assignments) ≡ true → list_all p (of_lines (lines_about_paths ls)) ≡ true
          → list_all p (of_lines (cons_option (path_line_unless_macro line.number line.assignments h) (lines_about_paths ls))) ≡ true
      go (Paths rule) said rest = join (names_of_assignments line.assignments) (of_lines (lines_about_paths ls)) said rest
      go (Macro name) said rest = rest

  inserted : (ms : List MacroDefinition) (name : List ℕ) (said : List Assigned) → list_all p (of_macros ms) ≡ true → list_all p (name ∷ names_of_assignments said) ≡ true
      → list_all p (of_macros (insert_entry (slice_cmp nat_cmp) ms name said)) ≡ true
  inserted [] name said old new = join (name ∷ names_of_assignments said) [] new refl
  inserted (m ∷ ms) name said old new =
      let split = both (m.0 ∷ names_of_assignments m.1) (of_macros ms) old in
      go (slice_cmp nat_cmp name m.0) split.0 split.1 (inserted ms name said split.1 new)
    where
      go : (o : Ordering) → list_all p (m.0 ∷ names_of_assignments m.1) ≡ true → list_all p (of_macros ms) ≡ true → list_all p (of_macros (insert_entry (slice_cmp nat_cmp) ms name said)) ≡ true
          → list_all p (of_macros (match_ordering o ((name, said) ∷ m ∷ ms) ((m.0, said) ∷ ms) (m ∷ insert_entry (slice_cmp nat_cmp) ms name said))) ≡ true
      go Less here rest more = join (name ∷ names_of_assignments said) (of_macros (m ∷ ms)) new (join (m.0 ∷ names_of_assignments m.1) (of_macros ms) here rest)
      go Equal here rest more =
          join (m.0 ∷ names_of_assignments said) (of_macros ms)
          (and_from (p m.0) (list_all p (names_of_assignments said)) (and_parts (p m.0) (list_all p (names_of_assignments m.1)) here).0 (and_parts (p name) (list_all p (names_of_assignments said)) new).1) rest
      go Greater here rest more = join (m.0 ∷ names_of_assignments m.1) (of_macros (insert_entry (slice_cmp nat_cmp) ms name said)) here more

  on-macros : (ms : List MacroDefinition) (ls : List Line) → list_all p (of_macros ms) ≡ true → list_all p (attribute_names_of_lines ls) ≡ true → list_all p (of_macros (macros_with_definitions_of_lines ms ls)) ≡ true
  on-macros ms [] old e = old
  on-macros ms (line ∷ ls) old e =
      let split = both (attribute_names_of_line line) (attribute_names_of_lines ls) e in
      on-macros (macros_with_definition_of_head ms line.assignments line.head) ls (go line.head split.0) split.1
    where
      go : (h : Head) → list_all p (macro_names_of_head h ++ names_of_assignments line.assignments) ≡ true → list_all p (of_macros (macros_with_definition_of_head ms line.assignments h)) ≡ true
      go (Paths rule) said = old
      go (Macro name) said = inserted ms name line.assignments old said

  on-list : (ls : List Line) (source base : List ℕ) → list_all p (attribute_names_of_lines ls) ≡ true → list_all p (attribute_names_of_list (attribute_list_from_lines ls source base)) ≡ true
  on-list ls source base e = join (of_lines (lines_about_paths ls)) (of_macros (macros_with_definitions_of_lines [] ls)) (on-lines ls e) (on-macros [] ls refl e)

-- ---- the names of the lists that are held

all-weaker : {X : Type 0} (p q : X → Bool) → ((x : X) → p x ≡ true → q x ≡ true) → (xs : List X) → list_all p xs ≡ true → list_all q xs ≡ true
all-weaker p q so [] e = refl
all-weaker p q so (x ∷ xs) e =
    let split = and_parts (p x) (list_all p xs) e in
    and_from (q x) (list_all q xs) (so x split.0) (all-weaker p q so xs split.1)

known-more : (a b : List (List ℕ)) (lists : List AttributeList) → AppendsNamesOnce a b → are_all_list_names_seen a lists ≡ true → are_all_list_names_seen b lists ≡ true
unfolding are_all_list_names_seen
known-more a b lists x e =
    all-weaker (λ (list : AttributeList). list_all (λ name. is_text_in_list name a) (attribute_names_of_list list)) (λ (list : AttributeList). list_all (λ name. is_text_in_list name b) (attribute_names_of_list list))
    (λ list. all-weaker (λ name. is_text_in_list name a) (λ name. is_text_in_list name b) (λ name there. ap (is_text_in_list name) x.once ∙ among-all name a x.more there) (attribute_names_of_list list)) lists e

known-both : (a : List (List ℕ)) (front back : List AttributeList) → are_all_list_names_seen a (front ++ back) ≡ (are_all_list_names_seen a front && are_all_list_names_seen a back)
unfolding are_all_list_names_seen
known-both a front back = list_all-append (λ (list : AttributeList). list_all (λ name. is_text_in_list name a) (attribute_names_of_list list)) front back

known-one : (a : List (List ℕ)) (ls : List Line) (source base : List ℕ) → are_all_list_names_seen (names_with_names_added_once a (attribute_names_of_lines ls)) (attribute_list_from_lines ls source base ∷ []) ≡ true
unfolding are_all_list_names_seen
known-one a ls source base =
    and_from (list_all (λ name. is_text_in_list name (names_with_names_added_once a (attribute_names_of_lines ls))) (attribute_names_of_list (attribute_list_from_lines ls source base))) true
    (on-list (λ name. is_text_in_list name (names_with_names_added_once a (attribute_names_of_lines ls))) ls source base (all-given a (attribute_names_of_lines ls))) refl

-- fewer lists, and more names
pub known-lowest : (h0 h1 : Option HeldAttributeLists) → AppendsNamesOnce (seen_attribute_names h0) (seen_attribute_names h1) → AreLowestLists (held_attribute_lists h1) (held_attribute_lists h0) → HasSeenAllListNames h0 → HasSeenAllListNames h1
known-lowest h0 h1 added lowest known =
    known-more (seen_attribute_names h0) (seen_attribute_names h1) (held_attribute_lists h1) added
    (and_parts (are_all_list_names_seen (seen_attribute_names h0) (held_attribute_lists h1)) (are_all_list_names_seen (seen_attribute_names h0) lowest.above)
    (sym (known-both (seen_attribute_names h0) (held_attribute_lists h1) lowest.above) ∙ sym (ap (are_all_list_names_seen (seen_attribute_names h0)) lowest.all_is) ∙ known)).0

pub known-same : (h0 h1 : Option HeldAttributeLists) → AppendsNamesOnce (seen_attribute_names h0) (seen_attribute_names h1) → held_attribute_lists h1 ≡ held_attribute_lists h0 → HasSeenAllListNames h0 → HasSeenAllListNames h1
known-same h0 h1 added same known = ap (are_all_list_names_seen (seen_attribute_names h1)) same ∙ known-more (seen_attribute_names h0) (seen_attribute_names h1) (held_attribute_lists h0) added known

-- names stay where lists are dropped
pub names-popped : (d : List ℕ) (held : Option HeldAttributeLists) → seen_attribute_names (held_without_lists_of_directory d held) ≡ seen_attribute_names held
names-popped d None = refl
names-popped d (Some h) = refl

pub names-dropped : (held : Option HeldAttributeLists) → seen_attribute_names (held_without_highest_list held) ≡ seen_attribute_names held
names-dropped None = refl
names-dropped (Some h) = refl

-- a list of lines was pushed
pub known-pushed : (h0 : Option HeldAttributeLists) (ls : List Line) (source base : List ℕ) → HasSeenAllListNames h0 → HasSeenAllListNames (push_list (attribute_list_from_lines ls source base) (attribute_names_of_lines ls) h0)
known-pushed None ls source base known = known
known-pushed (Some h) ls source base known =
    known-both (names_with_names_added_once h.names (attribute_names_of_lines ls)) h.lists (attribute_list_from_lines ls source base ∷ [])
    ∙ and_from (are_all_list_names_seen (names_with_names_added_once h.names (attribute_names_of_lines ls)) h.lists) (are_all_list_names_seen (names_with_names_added_once h.names (attribute_names_of_lines ls)) (attribute_list_from_lines ls source base ∷ []))
    (known-more h.names (names_with_names_added_once h.names (attribute_names_of_lines ls)) h.lists (adds-all h.names (attribute_names_of_lines ls)) known)
    (known-one h.names ls source base)

-- ---- the names of a directory

pub own-named : (made : StackSetup) (setup : AttributesSetup) (s : TreeAndObjects) (d d' : List ℕ) (places : List RulesPlace) (text : Option RulesText) (macros : Bool) (a : Option AttributesSetup)
    → macros ≡ is_empty d' → d' ≡ d → a ≡ Some setup → places ≡ attribute_places_of_directory made setup d → first_rules_text_of_places s places ≡ Ok text → gitattributes_names_of_setup made a s d ≡ attribute_names_of_text macros text
own-named made setup s d d' places text macros a root same some placed read =
    ap (λ (x : Option AttributesSetup). gitattributes_names_of_setup made x s d) some
    ∙ ap (λ (ps : List RulesPlace). attribute_names_of_text (is_empty d) (rules_text_or_none (first_rules_text_of_places s ps))) (sym placed)
    ∙ ap (λ (r : Result (Option RulesText) RulesRefusal). attribute_names_of_text (is_empty d) (rules_text_or_none r)) read
    ∙ ap (λ (x : List ℕ). attribute_names_of_text (is_empty x) text) (sym same) ∙ ap (λ (m : Bool). attribute_names_of_text m text) (sym root)

pub info-named : (setup : AttributesSetup) (s : TreeAndObjects) (d path : List ℕ) (text : Option RulesText) (a : Option AttributesSetup)
    → a ≡ Some setup → setup.info ≡ Some path → d ≡ [] → first_rules_text_of_places s (places_of_info_file path) ≡ Ok text → info_file_names_of_setup a s d ≡ attribute_names_of_text true text
info-named setup s d path text a some info root read =
    ap (λ (x : Option AttributesSetup). info_file_names_of_setup x s d) some ∙ ap (λ (i : Option (List ℕ)). info_file_names_at_root i s d) info ∙ ap (info_file_names_at_root (Some path) s) root
    ∙ ap (λ (r : Result (Option RulesText) RulesRefusal). attribute_names_of_text true (rules_text_or_none r)) read

pub info-unmade : (setup : AttributesSetup) (s : TreeAndObjects) (d : List ℕ) (a : Option AttributesSetup) → a ≡ Some setup → setup.info ≡ None → info_file_names_of_setup a s d ≡ []
info-unmade setup s d a some none = ap (λ (x : Option AttributesSetup). info_file_names_of_setup x s d) some ∙ ap (λ (i : Option (List ℕ)). info_file_names_at_root i s d) none

pub info-below : (s : TreeAndObjects) (d : List ℕ) (a : Option AttributesSetup) → is_empty d ≡ false → info_file_names_of_setup a s d ≡ []
info-below s d None below = refl
info-below s d (Some setup) below = go setup.info d below
  where
    go : (info : Option (List ℕ)) (d : List ℕ) → is_empty d ≡ false → info_file_names_at_root info s d ≡ []
    go None d e = refl
    go (Some path) [] e = absurd (cc e)
    go (Some path) (b ∷ bs) e = refl

-- ---- what calls see

done : {P Q : Type 0} (r : Result (Unit {0}) AtPathError) → (P → Q) → OnOk r P → OnOk r Q
done (Ok v) g p = g p
done (Err e) g p = tt

failed : {P Q : Type 0} (r : Result (Unit {0}) AtPathError) → (P → Q) → OnErr r P → OnErr r Q
failed (Ok v) g p = tt
failed (Err e) g p = g p

never-done : (P : Type 0) (r : Result (Unit {0}) AtPathError) (e : AtPathError) → IsErrAnd r (λ x. x ≡ e) → OnOk r P
never-done P (Ok v) e said = absurd said
never-done P (Err x) e said = tt

always-failed : {P : Type 0} (r : Result (Unit {0}) AtPathError) → P → OnErr r P
always-failed (Ok v) p = tt
always-failed (Err e) p = p

always-done : {P : Type 0} (r : Result (Unit {0}) AtPathError) → P → OnOk r P
always-done (Ok v) p = p
always-done (Err e) p = tt

module _ (told : Option Names) (holds : Option ObjectsById) (read : TreeAndObjects → List (List ℕ)) (h0 h1 : Option HeldAttributeLists) where
  -- nothing is read, and nothing is seen
  pub sees-nothing : (r : Result (Unit {0}) AtPathError) → h1 ≡ h0 → ((s : TreeAndObjects) → read s ≡ []) → AppendsReadNamesAsSeen told holds read h0 h1 r
  sees-nothing r same none =
      record {
        added = adds-none (seen_attribute_names h0) (seen_attribute_names h1) (ap seen_attribute_names same);
        known = λ known. subst HasSeenAllListNames (sym same) known;
        all = λ s tells. always-done r (ap seen_attribute_names same ∙ sym (ap (names_with_names_added_once (seen_attribute_names h0)) (none s)));
        some = λ s tells. always-failed r (subst (λ (names : List (List ℕ)). AddsSomeFirstNames (seen_attribute_names h0) (read s) names) (sym (ap seen_attribute_names same)) (part_none (seen_attribute_names h0) (read s)));
      }

  -- a refusal before anything was seen
  pub sees-refused : (r : Result (Unit {0}) AtPathError) (e : AtPathError) → IsErrAnd r (λ x. x ≡ e) → h1 ≡ h0 → AppendsReadNamesAsSeen told holds read h0 h1 r
  sees-refused r e said same =
      record {
        added = adds-none (seen_attribute_names h0) (seen_attribute_names h1) (ap seen_attribute_names same);
        known = λ known. subst HasSeenAllListNames (sym same) known;
        all = λ s tells. never-done _ r e said;
        some = λ s tells. always-failed r (subst (λ (names : List (List ℕ)). AddsSomeFirstNames (seen_attribute_names h0) (read s) names) (sym (ap seen_attribute_names same)) (part_none (seen_attribute_names h0) (read s)));
      }

  -- the first names of a text were seen, and its list was not pushed
  pub sees-some : (r : Result (Unit {0}) AtPathError) (e : AtPathError) (given : List (List ℕ)) → IsErrAnd r (λ x. x ≡ e) → held_attribute_lists h1 ≡ held_attribute_lists h0 → AddsSomeFirstNames (seen_attribute_names h0) given (seen_attribute_names h1)
      → ((s : TreeAndObjects) → Tells told holds s → read s ≡ given) → AppendsReadNamesAsSeen told holds read h0 h1 r
  sees-some r e given said same part are =
      let added : AppendsNamesOnce (seen_attribute_names h0) (seen_attribute_names h1) = adds-part (seen_attribute_names h0) given (seen_attribute_names h1) part in
      record {
        added = added;
        known = known-same h0 h1 added same;
        all = λ s tells. never-done _ r e said;
        some = λ s tells. always-failed r (subst (λ (g : List (List ℕ)). AddsSomeFirstNames (seen_attribute_names h0) g (seen_attribute_names h1)) (sym (are s tells)) part);
      }

  -- what was refused once more after that has not seen more
  pub sees-front : (read' : TreeAndObjects → List (List ℕ)) (e : AtPathError) → AppendsReadNamesAsSeen {T = Unit {0}} told holds read h0 h1 (Err e)
      → ((s : TreeAndObjects) → Tells told holds s → (more : List (List ℕ)) × (read' s ≡ read s ++ more)) → AppendsReadNamesAsSeen {T = Unit {0}} told holds read' h0 h1 (Err e)
  sees-front read' e x more =
      record {
        added = x.added;
        known = x.known;
        all = λ s tells. tt;
        some = λ s tells.
            let rest = more s tells in
            subst (λ (g : List (List ℕ)). AddsSomeFirstNames (seen_attribute_names h0) g (seen_attribute_names h1)) (sym rest.1) (part-front (seen_attribute_names h0) (read s) rest.0 (seen_attribute_names h1) (x.some s tells));
      }

  -- of names that are these
  pub sees-as : (read' : TreeAndObjects → List (List ℕ)) (r : Result (Unit {0}) AtPathError) → ((s : TreeAndObjects) → Tells told holds s → read' s ≡ read s) → AppendsReadNamesAsSeen told holds read h0 h1 r → AppendsReadNamesAsSeen told holds read' h0 h1 r
  sees-as read' r same x =
      record {
        added = x.added;
        known = x.known;
        all = λ s tells. done r (λ e. e ∙ ap (names_with_names_added_once (seen_attribute_names h0)) (sym (same s tells))) (x.all s tells);
        some = λ s tells. failed r (λ part. subst (λ (g : List (List ℕ)). AddsSomeFirstNames (seen_attribute_names h0) g (seen_attribute_names h1)) (sym (same s tells)) part) (x.some s tells);
      }

-- a refusal of any answer, before anything was seen
pub sees-none : {T : Type 0} (told : Option Names) (holds : Option ObjectsById) (read : TreeAndObjects → List (List ℕ)) (h : Option HeldAttributeLists) (e : AtPathError) → AppendsReadNamesAsSeen {T = T} told holds read h h (Err e)
sees-none told holds read h e = record { added = adds-none (seen_attribute_names h) (seen_attribute_names h) refl; known = λ known. known; all = λ s tells. tt; some = λ s tells. part_none (seen_attribute_names h) (read s) }

-- the list of a text was pushed
pub sees-pushed : (told : Option Names) (holds : Option ObjectsById) (read : TreeAndObjects → List (List ℕ)) (h0 h1 : Option HeldAttributeLists) (h : HeldAttributeLists) (ls : List Line) (source base : List ℕ)
    → h0 ≡ Some h → h1 ≡ push_list (attribute_list_from_lines ls source base) (attribute_names_of_lines ls) h0 → ((s : TreeAndObjects) → Tells told holds s → read s ≡ attribute_names_of_lines ls) → AppendsReadNamesAsSeen {T = Unit {0}} told holds read h0 h1 (Ok tt)
sees-pushed told holds read h0 h1 h ls source base some pushed are =
    let names : seen_attribute_names h1 ≡ names_with_names_added_once (seen_attribute_names h0) (attribute_names_of_lines ls) =
    ap seen_attribute_names pushed ∙ ap (λ (x : Option HeldAttributeLists). seen_attribute_names (push_list (attribute_list_from_lines ls source base) (attribute_names_of_lines ls) x)) some ∙ sym (ap (λ (x : Option HeldAttributeLists). names_with_names_added_once (seen_attribute_names x) (attribute_names_of_lines ls)) some) in
    record {
      added = subst (AppendsNamesOnce (seen_attribute_names h0)) (sym names) (adds-all (seen_attribute_names h0) (attribute_names_of_lines ls));
      known = λ known. subst HasSeenAllListNames (sym pushed) (known-pushed h0 ls source base known);
      all = λ s tells. names ∙ ap (names_with_names_added_once (seen_attribute_names h0)) (sym (are s tells));
      some = λ s tells. tt;
    }

-- the same of a text, whether there is one or none
pub sees-text : (told : Option Names) (holds : Option ObjectsById) (read : TreeAndObjects → List (List ℕ)) (h0 h1 : Option HeldAttributeLists) (h : HeldAttributeLists) (macros : Bool) (d : List ℕ) (text : Option RulesText)
    → h0 ≡ Some h → h1 ≡ push_list (attribute_list_of_text macros d text) (attribute_names_of_text macros text) h0 → ((s : TreeAndObjects) → Tells told holds s → read s ≡ attribute_names_of_text macros text) → AppendsReadNamesAsSeen {T = Unit {0}} told holds read h0 h1 (Ok tt)
sees-text told holds read h0 h1 h macros d None some pushed are = sees-pushed told holds read h0 h1 h (lines macros []) [] d some pushed are
sees-text told holds read h0 h1 h macros d (Some text) some pushed are = sees-pushed told holds read h0 h1 h (lines macros text.bytes) text.source d some pushed are

-- what was pushed is dropped again
pub sees-undone : (told : Option Names) (holds : Option ObjectsById) (read : TreeAndObjects → List (List ℕ)) (h0 h1 h2 : Option HeldAttributeLists) (e : AtPathError) → AppendsReadNamesAsSeen {T = Unit {0}} told holds read h0 h1 (Err e)
    → seen_attribute_names h2 ≡ seen_attribute_names h1 → held_attribute_lists h2 ≡ held_attribute_lists h0 → AppendsReadNamesAsSeen {T = Unit {0}} told holds read h0 h2 (Err e)
sees-undone told holds read h0 h1 h2 e x same lists =
    let added : AppendsNamesOnce (seen_attribute_names h0) (seen_attribute_names h2) = subst (AppendsNamesOnce (seen_attribute_names h0)) (sym same) x.added in
    record {
      added = added;
      known = known-same h0 h2 added lists;
      all = λ s tells. tt;
      some = λ s tells. subst (λ (names : List (List ℕ)). AddsSomeFirstNames (seen_attribute_names h0) (read s) names) (sym same) (x.some s tells);
    }

-- what was seen before another call was refused
pub sees-before : (told : Option Names) (holds : Option ObjectsById) (read : TreeAndObjects → List (List ℕ)) (h0 h1 : Option HeldAttributeLists) (e : AtPathError) → AppendsReadNamesAsSeen {T = Unit {0}} told holds read h0 h1 (Ok tt) → AppendsReadNamesAsSeen {T = Unit {0}} told holds read h0 h1 (Err e)
sees-before told holds read h0 h1 e x =
    record { added = x.added; known = x.known; all = λ s tells. tt; some = λ s tells. part_all (seen_attribute_names h0) (read s) (seen_attribute_names h1) (x.all s tells) }

-- lists are dropped, and names stay
pub sees-dropped : (told : Option Names) (holds : Option ObjectsById) (h0 h1 : Option HeldAttributeLists) → seen_attribute_names h1 ≡ seen_attribute_names h0 → AreLowestLists (held_attribute_lists h1) (held_attribute_lists h0) → AppendsReadNamesAsSeen {T = Unit {0}} told holds (λ s. []) h0 h1 (Ok tt)
sees-dropped told holds h0 h1 same lowest =
    let added : AppendsNamesOnce (seen_attribute_names h0) (seen_attribute_names h1) = adds-none (seen_attribute_names h0) (seen_attribute_names h1) same in
    record { added = added; known = known-lowest h0 h1 added lowest; all = λ s tells. same; some = λ s tells. tt }

-- one call behind another
pub sees-then : (told0 told1 : Option Names) (holds0 holds1 : Option ObjectsById) (read0 read1 read : TreeAndObjects → List (List ℕ)) (h0 h1 h2 : Option HeldAttributeLists) (r : Result (Unit {0}) AtPathError)
    → AppendsReadNamesAsSeen {T = Unit {0}} told0 holds0 read0 h0 h1 (Ok tt)
    → ((s : TreeAndObjects) → Tells told0 holds0 s → (after : TreeAndObjects) × Tells told1 holds1 after × (read s ≡ read0 s ++ read1 after))
    → AppendsReadNamesAsSeen told1 holds1 read1 h1 h2 r → AppendsReadNamesAsSeen told0 holds0 read h0 h2 r
sees-then told0 told1 holds0 holds1 read0 read1 read h0 h1 h2 r first after second =
    record {
      added = adds-then (seen_attribute_names h0) (seen_attribute_names h1) (seen_attribute_names h2) first.added second.added;
      known = λ known. second.known (first.known known);
      all = λ s tells.
          let x = after s tells in
          done r (λ e. e ∙ ap (λ (names : List (List ℕ)). names_with_names_added_once names (read1 x.0)) (first.all s tells) ∙ sym (with_names-append (seen_attribute_names h0) (read0 s) (read1 x.0)) ∙ ap (names_with_names_added_once (seen_attribute_names h0)) (sym x.2)) (second.all x.0 x.1);
      some = λ s tells.
          let x = after s tells in
          failed r (λ part.
          subst (λ (g : List (List ℕ)). AddsSomeFirstNames (seen_attribute_names h0) g (seen_attribute_names h2)) (sym x.2)
          (part-back (seen_attribute_names h0) (read0 s) (read1 x.0) (seen_attribute_names h2) (subst (λ (names : List (List ℕ)). AddsSomeFirstNames names (read1 x.0) (seen_attribute_names h2)) (first.all s tells) part))) (second.some x.0 x.1);
    }

-- a directory's own file, and the info file
pub sees-both : (told0 told1 : Option Names) (holds0 holds1 : Option ObjectsById) (made : StackSetup) (old mid : StackModel) (h2 : Option HeldAttributeLists) (r : Result (Unit {0}) AtPathError) → told1 ≡ told0 → holds1 ≡ holds0
    → setup_of_held_attributes mid.attributes ≡ setup_of_held_attributes old.attributes → mid.current ≡ old.current
    → AppendsReadNamesAsSeen {T = Unit {0}} told0 holds0 (λ s. gitattributes_names_of_setup made (setup_of_held_attributes old.attributes) s (slash_joined_components old.current)) old.attributes mid.attributes (Ok tt)
    → AppendsReadNamesAsSeen told1 holds1 (λ s. info_file_names_of_setup (setup_of_held_attributes mid.attributes) s (slash_joined_components mid.current)) mid.attributes h2 r
    → AppendsReadNamesAsSeen told0 holds0 (λ s. attribute_names_of_setup made (setup_of_held_attributes old.attributes) s (slash_joined_components old.current)) old.attributes h2 r
sees-both told0 told1 holds0 holds1 made old mid h2 r same_told same_holds setup current first second =
    sees-then told0 told1 holds0 holds1 (λ s. gitattributes_names_of_setup made (setup_of_held_attributes old.attributes) s (slash_joined_components old.current)) (λ s. info_file_names_of_setup (setup_of_held_attributes mid.attributes) s (slash_joined_components mid.current))
    (λ s. attribute_names_of_setup made (setup_of_held_attributes old.attributes) s (slash_joined_components old.current)) old.attributes mid.attributes h2 r first
    (λ s tells. (
      s,
      record { tree_is = same_told ∙ tells.tree_is; objects_are = same_holds ∙ tells.objects_are },
      ap (λ (a : Option AttributesSetup). gitattributes_names_of_setup made (setup_of_held_attributes old.attributes) s (slash_joined_components old.current) ++ info_file_names_of_setup a s (slash_joined_components old.current)) (sym setup)
          ∙ ap (λ (n : List (List ℕ)). gitattributes_names_of_setup made (setup_of_held_attributes old.attributes) s (slash_joined_components old.current) ++ info_file_names_of_setup (setup_of_held_attributes mid.attributes) s (slash_joined_components n)) (sym current),
    ))
    second
