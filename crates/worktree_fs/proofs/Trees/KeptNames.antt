-- The names of a tree stay as they are kept.
use Rattle.std.proofs.Common.{◌≡◌, ◌∙◌, ℕ, Bool, true, false, ◌||◌, List, [], ◌∷◌, ◌++◌, reverse, Option, Some, None, Result, Ok, Err, IfOk, All, refl, sym, ap, subst, if◌then◌else◌}
use Rattle.std.specs.Prelude.{MatchResult, chars, encode_utf8_all}
use Rattle.std.specs.List.{AllByRecursion, list_any}
use Rattle.std.specs.Ordering.{is_lt}
use Rattle.std.specs.Str.{bytes_eq, is_utf8}
use Rattle.std.proofs.lemmas.List.Elements.{All-from_recursion}
use Rattle.std.proofs.lemmas.Slice.Eq.{bytes_eq-Decides}
use mathlib.Core.List.{reverse-cons}
use Rattle.unicode_normalization.specs.Forms.{nfc}
use Rattle.gitbase_core.specs.Path.{components}
use Rattle.worktree_fs.specs.Tree.{Names, Node, PathResolution, reached, missing, nowhere, endless, file, link, directory, other, none, named, entry_names_in_order, child_by_name, is_directory, is_nil, look, resolution_of_path}
use Rattle.worktree_fs.specs.Answers.{ListErrorFitsLookup}
use Rattle.worktree_fs.specs.Changes.{slash_before_each_reversed_name, entries_with_directory_added, entries_after_make_dir, node_without_descendant, entries_without_descendant, entries_after_remove_node}
use Rattle.worktree_fs.specs.Composed.{nfc_if_composing, IsComponentOfComposedText, NodeHasComposedNames, EntriesHaveComposedNames}
use Rattle.worktree_fs.specs.Disk.{IsComposedIfComposing}
use Rattle.worktree_fs.specs.Grow.{node_with_descendant_added, entries_with_node_at_name, entries_of_node_if_directory, is_absolute_path_of_valid_names, add_error_at_path, tree_node_of_new_node}
use Rattle.worktree_fs.specs.Memory.{names_reversed_if, ListsDirectoryNamesInOrder}
use Rattle.worktree_fs.specs.Naming.{IsValidEntryName, IsValidTree, AreDistinctValidEntryNames}
use Rattle.worktree_fs.specs.Order.{compare_path_bytes}
use Rattle.worktree_fs.specs.declared.answers.ListError.{ListError}
use Rattle.worktree_fs.specs.declared.memory.grow.AddError.{AddError}
use Rattle.worktree_fs.specs.declared.memory.grow.NewNode.{NewNode}
use Rattle.worktree_fs.specs.declared.memory.grow.NewNode.TheVariants as new
use Rattle.worktree_fs.proofs.Routes.MissingNames.{MissesName, missed-name, from_all, components-slashed}
use Rattle.worktree_fs.proofs.Paths.NameParts.{pieces-name}
use Rattle.worktree_fs.proofs.Trees.Subtree.{tree-leaf, tree-inside}
use Rattle.worktree_fs.proofs.Paths.TextPieces.{utf8-from_full, utf8-from_name}
use Rattle.worktree_fs.proofs.Paths.Texts.{pieces-join}
use Rattle.worktree_fs.proofs.Trees.Within.{Leads, leads-spot, leads-look}

all-append : (P : List ℕ → Type 0) (xs ys : List (List ℕ)) → AllByRecursion P xs → AllByRecursion P ys → AllByRecursion P (xs ++ ys)
all-append P [] ys a b = b
all-append P (x ∷ xs) ys a b = (a.0, all-append P xs ys a.1 b)

all-reverse : (P : List ℕ → Type 0) (xs : List (List ℕ)) → AllByRecursion P xs → AllByRecursion P (reverse xs)
all-reverse P [] all = all
all-reverse P (x ∷ xs) all = subst (AllByRecursion P) (sym (reverse-cons x xs)) (all-append P (reverse xs) (x ∷ []) (all-reverse P xs all.1) (all.0, tt))

all-weaker : (P Q : List ℕ → Type 0) → ((x : List ℕ) → P x → Q x) → (xs : List (List ℕ)) → AllByRecursion P xs → AllByRecursion Q xs
all-weaker P Q f [] all = tt
all-weaker P Q f (x ∷ xs) all = (f x all.0, all-weaker P Q f xs all.1)

-- each element is in its list
abbrev IsIn : List (List ℕ) → List ℕ → Type 0
IsIn xs x = list_any (bytes_eq x) xs ≡ true

in_more : (x : List ℕ) (xs : List (List ℕ)) (y : List ℕ) → IsIn xs y → IsIn (x ∷ xs) y
in_more x xs y e = go (bytes_eq y x)
  where
    go : (b : Bool) → (b || list_any (bytes_eq y) xs) ≡ true
    go true = refl
    go false = e

in_first : (x : List ℕ) (xs : List (List ℕ)) → IsIn (x ∷ xs) x
in_first x xs = ap (λ b. b || list_any (bytes_eq x) xs) ((bytes_eq-Decides x x).1 refl)

all_in : (xs : List (List ℕ)) → AllByRecursion (IsIn xs) xs
all_in [] = tt
all_in (x ∷ xs) = (in_first x xs, all-weaker (IsIn xs) (IsIn (x ∷ xs)) (in_more x xs) xs (all_in xs))

-- the components of a text as it is kept
each_kept : (c : Bool) (path : List ℕ) → is_utf8 path ≡ true → AllByRecursion (IsComponentOfComposedText c) (components (nfc_if_composing c path))
each_kept c path text =
    let parts = components (nfc_if_composing c path) in
    all-weaker (IsIn parts) (IsComponentOfComposedText c) (λ name is. record { path = path; is_text = text; is_part = is }) parts (all_in parts)

-- what is kept with names for its components is a text
given-text : (c : Bool) (path : List ℕ) → ((bytes : List ℕ) → bytes ≡ nfc_if_composing c path → is_utf8 bytes ≡ true) → is_utf8 path ≡ true
given-text false path text = text path refl
given-text true path text = go (is_utf8 path) refl text
  where
    go : (b : Bool) → is_utf8 path ≡ b → ((bytes : List ℕ) → bytes ≡ (if b then encode_utf8_all (nfc (chars path)) else path) → is_utf8 bytes ≡ true) → is_utf8 path ≡ true
    go true e text = e
    go false e text = text path refl

pub kept-components : (c : Bool) (path : List ℕ) → is_absolute_path_of_valid_names (nfc_if_composing c path) ≡ true → AllByRecursion (IsComponentOfComposedText c) (components (nfc_if_composing c path))
kept-components c path full = each_kept c path (given-text c path (λ bytes e. utf8-from_full bytes (ap is_absolute_path_of_valid_names e ∙ full)))

-- a name that is kept so
pub kept-given : (c : Bool) (given name : List ℕ) → IsValidEntryName name → name ≡ nfc_if_composing c given → IsComponentOfComposedText c name
kept-given c given name is same = record {
  path = given;
  is_text = given-text c given (λ bytes e. utf8-from_name bytes (subst IsValidEntryName (same ∙ sym e) is));
  is_part = ap (λ (l : List ℕ). list_any (bytes_eq name) (components l)) (sym same) ∙ ap (list_any (bytes_eq name)) (pieces-name name is) ∙ in_first name [];
}

-- names that are listed so
pub kept-listing : (c : Bool) (r : Result (List (List ℕ)) ListError) → IfOk r AreDistinctValidEntryNames → IfOk r (All (IsComposedIfComposing c)) → IfOk r (All (IsComponentOfComposedText c))
kept-listing c (Err error) names given = tt
kept-listing c (Ok listed) names given =
    let each = All-from_recursion IsValidEntryName listed names.each in
    λ k d lt. let name = given k d lt in kept-given c name.0 _ (each k d lt) name.1

-- a node in a directory, and its name
kept-inside : (c : Bool) (names : Names) (name : List ℕ) (node : Node) → EntriesHaveComposedNames c names → child_by_name names name ≡ Some node → NodeHasComposedNames c node × IsComponentOfComposedText c name
kept-inside c none name node all e = absurd (cc e)
kept-inside c (named n first rest) name node all e = go (bytes_eq n name) refl e (kept-inside c rest name node all.2)
  where
    go : (b : Bool) → bytes_eq n name ≡ b → (if b then Some first else child_by_name rest name) ≡ Some node → (child_by_name rest name ≡ Some node → NodeHasComposedNames c node × IsComponentOfComposedText c name) → NodeHasComposedNames c node × IsComponentOfComposedText c name
    go true same e ih = (subst (NodeHasComposedNames c) (cc e) all.1, subst (IsComponentOfComposedText c) ((bytes_eq-Decides n name).0 same) all.0)
    go false same e ih = ih e

kept-leaf : (c : Bool) (node : Node) → is_directory node ≡ false → NodeHasComposedNames c node
kept-leaf c (file bytes) e = tt
kept-leaf c (link target) e = tt
kept-leaf c (directory names) e = absurd (cc e)
kept-leaf c other e = tt

-- a tree with such names, and such a name
abbrev Sound : Bool → Node → Type 0
Sound c node = IsValidTree node × NodeHasComposedNames c node

abbrev Both : Bool → List ℕ → Type 0
Both c name = IsValidEntryName name × IsComponentOfComposedText c name

sound-leaf : (c : Bool) (node : Node) → is_directory node ≡ false → Sound c node
sound-leaf c node e = (tree-leaf node e, kept-leaf c node e)

sound-inside : (c : Bool) (names : Names) (name : List ℕ) (node : Node) → Sound c (directory names) → child_by_name names name ≡ Some node → Sound c node × Both c name
sound-inside c names name node is there =
    let tree = tree-inside names name node is.0 there in
    let kept = kept-inside c names name node is.1 there in
    ((tree.0, kept.0), (tree.1, kept.1))

-- with one node more
kept-put : (c : Bool) (name : List ℕ) (node : Node) (names : Names) → IsComponentOfComposedText c name → NodeHasComposedNames c node → EntriesHaveComposedNames c names → EntriesHaveComposedNames c (entries_with_node_at_name name node names)
kept-put c name node none is made all = (is, made, tt)
kept-put c name node (named n old rest) is made all = go (bytes_eq n name) (is_lt (compare_path_bytes name n)) (kept-put c name node rest is made all.2)
  where
    go : (same before : Bool) → EntriesHaveComposedNames c (entries_with_node_at_name name node rest) → EntriesHaveComposedNames c (if same then named name node rest else if before then named name node (named n old rest) else named n old (entries_with_node_at_name name node rest))
    go true before ih = (is, made, all.2)
    go false true ih = (is, made, all)
    go false false ih = (all.0, all.1, ih)

abbrev MayKeep : Bool → Option Node → Type 0
MayKeep c None = Unit {0}
MayKeep c (Some node) = NodeHasComposedNames c node

kept-children_of : (c : Bool) (o : Option Node) → MayKeep c o → EntriesHaveComposedNames c (entries_of_node_if_directory o)
kept-children_of c None is = tt
kept-children_of c (Some (directory names)) is = is
kept-children_of c (Some (file bytes)) is = tt
kept-children_of c (Some (link target)) is = tt
kept-children_of c (Some other) is = tt

kept-child : (c : Bool) (names : Names) (name : List ℕ) → EntriesHaveComposedNames c names → MayKeep c (child_by_name names name)
kept-child c names name all = go (child_by_name names name) refl
  where
    go : (o : Option Node) → child_by_name names name ≡ o → MayKeep c o
    go None e = tt
    go (Some node) e = (kept-inside c names name node all e).0

kept-grown : (c : Bool) (names : List (List ℕ)) (node : Node) (old : Option Node) → AllByRecursion (IsComponentOfComposedText c) names → NodeHasComposedNames c node → MayKeep c old → NodeHasComposedNames c (node_with_descendant_added names node old)
kept-grown c [] node old all is from = is
kept-grown c (name ∷ rest) node old all is from =
    let here = kept-children_of c old from in
    kept-put c name (node_with_descendant_added rest node (child_by_name (entries_of_node_if_directory old) name)) (entries_of_node_if_directory old) all.0
    (kept-grown c rest node (child_by_name (entries_of_node_if_directory old) name) all.1 is (kept-child c (entries_of_node_if_directory old) name here)) here

-- a new node has no names in it
pub kept-new : (c : Bool) (node : NewNode) → NodeHasComposedNames c (tree_node_of_new_node node)
kept-new c (new.File bytes) = tt
kept-new c (new.Link target) = tt
kept-new c new.Directory = tt
kept-new c new.Other = tt

-- a node is added to a tree
pub kept-added : (c : Bool) (t after : Names) (names : List (List ℕ)) (node : Node) → AllByRecursion (IsComponentOfComposedText c) names → NodeHasComposedNames c node → EntriesHaveComposedNames c t → directory after ≡ node_with_descendant_added names node (Some (directory t)) → EntriesHaveComposedNames c after
kept-added c t after names node all is kept e = subst (NodeHasComposedNames c) (sym e) (kept-grown c names node (Some (directory t)) all is kept)

-- without a node
kept-cases : (c same last : Bool) (n : List ℕ) (node less : Node) (more fewer : Names) → EntriesHaveComposedNames c (named n node more) → NodeHasComposedNames c less → EntriesHaveComposedNames c fewer
    → EntriesHaveComposedNames c (if same then (if last then more else named n less more) else named n node fewer)
kept-cases c true true n node less more fewer all a b = all.2
kept-cases c true false n node less more fewer all a b = (all.0, a, all.2)
kept-cases c false last n node less more fewer all a b = (all.0, all.1, b)

mutual
  kept-cut : (c : Bool) (names : List (List ℕ)) (node : Node) → NodeHasComposedNames c node → NodeHasComposedNames c (node_without_descendant names node)
  kept-cut c [] node is = is
  kept-cut c (name ∷ rest) (directory names) is = kept-cut_names c name rest names is
  kept-cut c (name ∷ rest) (file bytes) is = tt
  kept-cut c (name ∷ rest) (link target) is = tt
  kept-cut c (name ∷ rest) other is = tt

  kept-cut_names : (c : Bool) (name : List ℕ) (rest : List (List ℕ)) (names : Names) → EntriesHaveComposedNames c names → EntriesHaveComposedNames c (entries_without_descendant name rest names)
  kept-cut_names c name rest none all = tt
  kept-cut_names c name rest (named n node more) all =
      kept-cases c (bytes_eq n name) (is_nil rest) n node (node_without_descendant rest node) more (entries_without_descendant name rest more) all (kept-cut c rest node all.1) (kept-cut_names c name rest more all.2)

pub kept-after_remove : (c : Bool) (t : Names) (at : PathResolution) → EntriesHaveComposedNames c t → EntriesHaveComposedNames c (entries_after_remove_node t at)
kept-after_remove c t (reached names node) all = go (is_directory node)
  where
    go : (b : Bool) → EntriesHaveComposedNames c (if b then t else entries_of_node_if_directory (Some (node_without_descendant (reverse names) (directory t))))
    go true = all
    go false = kept-children_of c (Some (node_without_descendant (reverse names) (directory t))) (kept-cut c (reverse names) (directory t) all)
kept-after_remove c t (missing names rest) all = all
kept-after_remove c t nowhere all = all
kept-after_remove c t endless all = all

-- a directory is made
kept-path : (c : Bool) (name : List ℕ) (below : List (List ℕ)) → IsValidEntryName name → AllByRecursion (Both c) below → AllByRecursion (IsComponentOfComposedText c) (components (slash_before_each_reversed_name (nfc_if_composing c name ∷ below)))
kept-path c name below is all =
    let names = all-weaker (Both c) IsValidEntryName (λ n both. both.0) below all in
    let kept = all-weaker (Both c) (IsComponentOfComposedText c) (λ n both. both.1) below all in
    subst (AllByRecursion (IsComponentOfComposedText c))
    (sym (pieces-join (slash_before_each_reversed_name below) (nfc_if_composing c name) ∙ ap (λ (l : List (List ℕ)). l ++ components (nfc_if_composing c name)) (components-slashed below (from_all below names))))
    (all-append (IsComponentOfComposedText c) (reverse below) (components (nfc_if_composing c name)) (all-reverse (IsComponentOfComposedText c) below kept) (each_kept c name (utf8-from_name name is)))

kept-with : (c : Bool) (t : Names) (path : List ℕ) (refusal : Option AddError) → EntriesHaveComposedNames c t → AllByRecursion (IsComponentOfComposedText c) (components path) → EntriesHaveComposedNames c (entries_with_directory_added refusal t path)
kept-with c t path None all parts =
    kept-children_of c (Some (node_with_descendant_added (components path) (directory none) (Some (directory t)))) (kept-grown c (components path) (directory none) (Some (directory t)) parts tt all)
kept-with c t path (Some refusal) all parts = all

either : (c last : Bool) (x y : Names) → EntriesHaveComposedNames c x → EntriesHaveComposedNames c y → EntriesHaveComposedNames c (if last then x else y)
either c true x y a b = a
either c false x y a b = b

made : (c : Bool) (t : Names) → EntriesHaveComposedNames c t → (at : PathResolution) → Leads (Sound c) (Both c) (sound-leaf c) (sound-inside c) at → MissesName at → EntriesHaveComposedNames c (entries_after_make_dir c t at)
made c t all (reached names node) leads is = all
made c t all (missing [] rest) leads is = either c (is_nil rest) t t all all
made c t all (missing (name ∷ below) rest) leads is =
    let path = slash_before_each_reversed_name (nfc_if_composing c name ∷ below) in
    either c (is_nil rest) (entries_with_directory_added (add_error_at_path t path) t path) t (kept-with c t path (add_error_at_path t path) all (kept-path c name below is leads)) all
made c t all nowhere leads is = all
made c t all endless leads is = all

pub kept-after_make : (c : Bool) (t : Names) (path : List ℕ) → IsValidTree (directory t) → EntriesHaveComposedNames c t → EntriesHaveComposedNames c (entries_after_make_dir c t (resolution_of_path t path false))
kept-after_make c t path tree all =
    made c t all (resolution_of_path t path false) (leads-spot (Sound c) (Both c) (sound-leaf c) (sound-inside c) t path false (tree, all)) (missed-name t path false)

-- a directory is listed
all-named : (c : Bool) (names : Names) → EntriesHaveComposedNames c names → AllByRecursion (IsComponentOfComposedText c) (entry_names_in_order names)
all-named c none all = tt
all-named c (named name node rest) all = (all.0, all-named c rest all.2)

ordered : (c is_reversed : Bool) (names : Names) → EntriesHaveComposedNames c names → AllByRecursion (IsComponentOfComposedText c) (names_reversed_if is_reversed names)
ordered c true names all = all-reverse (IsComponentOfComposedText c) (entry_names_in_order names) (all-named c names all)
ordered c false names all = all-named c names all

pub kept-listed : (c is_reversed : Bool) (t : Names) (path : List ℕ) (follow : Bool) (r : Result (List (List ℕ)) ListError) → EntriesHaveComposedNames c t
    → MatchResult r (ListsDirectoryNamesInOrder is_reversed (look t path follow)) (ListErrorFitsLookup (look t path follow)) → IfOk r (All (IsComponentOfComposedText c))
kept-listed c is_reversed t path follow (Err error) all h = tt
kept-listed c is_reversed t path follow (Ok listed) all h =
    let below = leads-look (NodeHasComposedNames c) (IsComponentOfComposedText c) (kept-leaf c) (kept-inside c) t path follow (directory h.names) all h.directory_found in
    subst (All (IsComponentOfComposedText c)) (sym h.order) (All-from_recursion (IsComponentOfComposedText c) (names_reversed_if is_reversed h.names) (ordered c is_reversed h.names below))
