-- A refusal that is handed on, and what it says of the rules.
use Rattle.std.proofs.Common.{◌≡◌, ◌∙◌, ap, ℕ, List, [], ◌∷◌, ◌++◌, map, Bool, true, false, not, ◌&&◌, Option, Some, None, refl, inl, inr}
use Rattle.std.specs.Prelude.{is_some, Err, IsSomeAnd, ◌⊎◌}
use Rattle.std.specs.List.{list_all}
use Rattle.gitbase_core.specs.Path.{components}
use Rattle.worktree_fs.specs.Paths.{slash_joined_components, all_prefixes_shortest_first, all_but_last}
use Rattle.worktree_stack.specs.Reading.{TreeAndObjects, RulesRefusal, Tells, rules_texts_of_directory, is_read_without_refusal}
use Rattle.worktree_stack.specs.Setup.{StackSetup}
use Rattle.worktree_stack.specs.declared.error.AtPathError.{AtPathError}
use Rattle.worktree_stack.specs.declared.error.AtPathError.TheVariants as inner
use Rattle.worktree_stack.specs.declared.error.BlobWhy.TheVariants as blob_whys
use Rattle.worktree_stack.specs.declared.error.RulesWhy.TheVariants as whys
use Rattle.worktree_stack.specs.Refused as lookups
use Rattle.dir_classify.specs.declared.error.Error.{Error}
use Rattle.dir_classify.specs.declared.error.Error.TheVariants as errors
use Rattle.dir_classify.specs.declared.error.MetadataWhy.TheVariants as metadata
use Rattle.dir_classify.specs.declared.error.ReadWhy.TheVariants as reads
use Rattle.dir_classify.specs.Layers.{is_some_rules_file_unread}
use Rattle.dir_classify.specs.Refused.{IsClassErrorAboutPath, IsErrorOfUnreadableRules, HoldsIfExcludesError, HoldsIfFaultError}

-- ---- a refused question

pub on-access : (P : Type 0) → P → (e : Error) → HoldsIfExcludesError P e
on-access P p errors.Interrupted = tt
on-access P p (errors.WorktreeRootIsFile root) = tt
on-access P p (errors.NormalizeRoot root) = tt
on-access P p (errors.SymlinkInRoot root worktree_root index) = tt
on-access P p (errors.ExcludesAccess e) = p
on-access P p (errors.ReadDir path why) = tt
on-access P p (errors.DirEntry path) = tt
on-access P p (errors.SymlinkMetadata path why) = tt
on-access P p (errors.TooDeep path) = tt
on-access P p errors.OutOfMemory = tt

some-of : {T : Type 0} (Q : T → Type 0) (o : Option T) → IsSomeAnd o Q → is_some o ≡ true
some-of Q None e = absurd e
some-of Q (Some x) e = refl

-- rules were given, as a rules file was refused
pub on-access-by : (made : Option StackSetup) (path : List ℕ) (P : Type 0) → (is_some made ≡ true → P) → (e : Error) → IsClassErrorAboutPath made path e → HoldsIfExcludesError P e
on-access-by made path P p errors.Interrupted about = tt
on-access-by made path P p (errors.WorktreeRootIsFile root) about = tt
on-access-by made path P p (errors.NormalizeRoot root) about = tt
on-access-by made path P p (errors.SymlinkInRoot root worktree_root index) about = tt
on-access-by made path P p (errors.ExcludesAccess e) about = p (some-of _ made about)
on-access-by made path P p (errors.ReadDir directory why) about = tt
on-access-by made path P p (errors.DirEntry directory) about = tt
on-access-by made path P p (errors.SymlinkMetadata missing why) about = tt
on-access-by made path P p (errors.TooDeep directory) about = tt
on-access-by made path P p errors.OutOfMemory about = tt

-- ---- a refusal, handed on

pub lookup-weaker : (P Q P' Q' : Type 0) (e : AtPathError) → (P → P') → (Q → Q') → lookups.HoldsOnFaultError P Q e → lookups.HoldsOnFaultError P' Q' e
lookup-weaker P Q P' Q' inner.NotNormal f g h = tt
lookup-weaker P Q P' Q' (inner.Component why) f g h = tt
lookup-weaker P Q P' Q' (inner.Collision path) f g h = tt
lookup-weaker P Q P' Q' (inner.Directory path why) f g h = tt
lookup-weaker P Q P' Q' (inner.RulesFile path whys.Link) f g h = tt
lookup-weaker P Q P' Q' (inner.RulesFile path whys.LinkLimit) f g h = tt
lookup-weaker P Q P' Q' (inner.RulesFile path whys.Special) f g h = tt
lookup-weaker P Q P' Q' (inner.RulesFile path whys.Fault) f g h = f h
lookup-weaker P Q P' Q' (inner.Blob id blob_whys.Missing) f g h = tt
lookup-weaker P Q P' Q' (inner.Blob id blob_whys.NotABlob) f g h = tt
lookup-weaker P Q P' Q' (inner.Blob id blob_whys.Fault) f g h = g h
lookup-weaker P Q P' Q' inner.OutOfMemory f g h = tt

pub OnFault-weaker : (P Q P' Q' : Type 0) (e : Error) → (P → P') → (Q → Q') → HoldsIfFaultError P Q e → HoldsIfFaultError P' Q' e
OnFault-weaker P Q P' Q' errors.Interrupted f g h = tt
OnFault-weaker P Q P' Q' (errors.WorktreeRootIsFile path) f g h = tt
OnFault-weaker P Q P' Q' (errors.NormalizeRoot root) f g h = tt
OnFault-weaker P Q P' Q' (errors.SymlinkInRoot root worktree_root index) f g h = tt
OnFault-weaker P Q P' Q' (errors.ExcludesAccess e) f g h = lookup-weaker P Q P' Q' e f g h
OnFault-weaker P Q P' Q' (errors.ReadDir path reads.Absent) f g h = tt
OnFault-weaker P Q P' Q' (errors.ReadDir path reads.NotADirectory) f g h = tt
OnFault-weaker P Q P' Q' (errors.ReadDir path reads.Fault) f g h = f h
OnFault-weaker P Q P' Q' (errors.DirEntry path) f g h = f h
OnFault-weaker P Q P' Q' (errors.SymlinkMetadata path metadata.Absent) f g h = tt
OnFault-weaker P Q P' Q' (errors.SymlinkMetadata path metadata.Fault) f g h = f h
OnFault-weaker P Q P' Q' (errors.TooDeep path) f g h = tt
OnFault-weaker P Q P' Q' errors.OutOfMemory f g h = tt

pub OnAccess-weaker : (P Q : Type 0) (e : Error) → (P → Q) → HoldsIfExcludesError P e → HoldsIfExcludesError Q e
OnAccess-weaker P Q errors.Interrupted f h = tt
OnAccess-weaker P Q (errors.WorktreeRootIsFile root) f h = tt
OnAccess-weaker P Q (errors.NormalizeRoot root) f h = tt
OnAccess-weaker P Q (errors.SymlinkInRoot root worktree_root index) f h = tt
OnAccess-weaker P Q (errors.ExcludesAccess e) f h = f h
OnAccess-weaker P Q (errors.ReadDir path why) f h = tt
OnAccess-weaker P Q (errors.DirEntry path) f h = tt
OnAccess-weaker P Q (errors.SymlinkMetadata path why) f h = tt
OnAccess-weaker P Q (errors.TooDeep path) f h = tt
OnAccess-weaker P Q errors.OutOfMemory f h = tt

-- ---- a refusal of the rules

all-map : {X Y : Type 0} (p : Y → Bool) (f : X → Y) (xs : List X) → list_all p (map f xs) ≡ list_all (λ x. p (f x)) xs
all-map p f [] = refl
all-map p f (x ∷ xs) = ap (λ b. p (f x) && b) (all-map p f xs)

and-right : (a b : Bool) → b ≡ false → (a && b) ≡ false
and-right true b e = e
and-right false b e = refl

tail_is : {X : Type 0} {x y : X} {xs ys : List X} → x ∷ xs ≡ y ∷ ys → xs ≡ ys
tail_is e = cc

head_is : {X : Type 0} {x y : X} {xs ys : List X} → x ∷ xs ≡ y ∷ ys → x ≡ y
head_is e = cc

-- a test that a front fails is failed by the fronts together
all-front : (p : List (List ℕ) → Bool) (names front rest : List (List ℕ)) → names ≡ front ++ rest → p front ≡ false → list_all p (all_prefixes_shortest_first names) ≡ false
all-front p [] [] rest e fails = ap (λ b. b && true) fails
all-front p (name ∷ names) [] rest e fails = ap (λ b. b && list_all p (map (λ f. name ∷ f) (all_prefixes_shortest_first names))) fails
all-front p [] (x ∷ front) rest e fails = absurd (cc e)
all-front p (name ∷ names) (x ∷ front) rest e fails =
    and-right (p []) (list_all p (map (λ f. name ∷ f) (all_prefixes_shortest_first names)))
    (all-map p (λ f. name ∷ f) (all_prefixes_shortest_first names) ∙ all-front (λ f. p (name ∷ f)) names front rest (tail_is e) (ap (λ (n : List ℕ). p (n ∷ front)) (head_is e) ∙ fails))

-- the rules of a directory above a path are refused
pub unread-ancestor : (s : TreeAndObjects) (rules : StackSetup) (path : List ℕ) (refusal : RulesRefusal) (Holds : List ℕ → Type 0) → lookups.HoldsOfSomeAncestor (components path) Holds
    → ((d : List ℕ) → Holds d → rules_texts_of_directory rules s d ≡ Err refusal) → is_some_rules_file_unread (Some rules) s path ≡ true
unfolding is_some_rules_file_unread
unread-ancestor s rules path refusal Holds h is =
    ap not
    (all-front (λ directory. is_read_without_refusal (rules_texts_of_directory rules s (slash_joined_components directory))) (all_but_last (components path)) h.ancestor h.rest h.above (ap is_read_without_refusal (is (slash_joined_components h.ancestor) h.holds)))

told-so : (s : TreeAndObjects) → Tells (Some s.tree) (Some s.objects) s
told-so s = record { tree_is = refl; objects_are = refl }

-- A lookup that is refused without a fault of the worktree is one of a path of which some rules cannot be read, unless the store
-- failed.
unread-lookup : (s : TreeAndObjects) (rules : StackSetup) (path : List ℕ) (TreeFailed StoreFailed : Type 0) (e : AtPathError) → (TreeFailed → ⊥)
    → lookups.ExplainsLookupErrorInTree s rules (components path) e → lookups.IsErrorOnWayToPath rules (components path) e → (e ≡ inner.OutOfMemory → ⊥) → lookups.HoldsOnFaultError TreeFailed StoreFailed e
    → (is_some_rules_file_unread (Some rules) s path ≡ true) ⊎ StoreFailed
unread-lookup s rules path TreeFailed StoreFailed inner.NotNormal quiet refused about some cause = absurd refused
unread-lookup s rules path TreeFailed StoreFailed (inner.Component why) quiet refused about some cause = absurd refused
unread-lookup s rules path TreeFailed StoreFailed (inner.Collision p) quiet refused about some cause = absurd refused
unread-lookup s rules path TreeFailed StoreFailed (inner.Directory p why) quiet refused about some cause = absurd refused
unread-lookup s rules path TreeFailed StoreFailed (inner.RulesFile p whys.Link) quiet refused about some cause =
    inl (unread-ancestor s rules path _ _ refused (λ d r. r.why_is.1 s (told-so s)))
unread-lookup s rules path TreeFailed StoreFailed (inner.RulesFile p whys.LinkLimit) quiet refused about some cause =
    inl (unread-ancestor s rules path _ _ refused (λ d r. r.why_is s (told-so s)))
unread-lookup s rules path TreeFailed StoreFailed (inner.RulesFile p whys.Special) quiet refused about some cause =
    inl (unread-ancestor s rules path _ _ refused (λ d r. r.why_is s (told-so s)))
unread-lookup s rules path TreeFailed StoreFailed (inner.RulesFile p whys.Fault) quiet refused about some cause = absurd (quiet cause)
unread-lookup s rules path TreeFailed StoreFailed (inner.Blob id blob_whys.Missing) quiet refused about some cause =
    inl (unread-ancestor s rules path _ _ refused (λ d r. r.why_is s (told-so s)))
unread-lookup s rules path TreeFailed StoreFailed (inner.Blob id blob_whys.NotABlob) quiet refused about some cause =
    inl (unread-ancestor s rules path _ _ refused (λ d r. r.why_is s (told-so s)))
unread-lookup s rules path TreeFailed StoreFailed (inner.Blob id blob_whys.Fault) quiet refused about some cause = inr cause
unread-lookup s rules path TreeFailed StoreFailed inner.OutOfMemory quiet refused about some cause = absurd (some refl)

pub unread-refused : (s : TreeAndObjects) (made : Option StackSetup) (path : List ℕ) (TreeFailed StoreFailed : Type 0) (e : Error) → (TreeFailed → ⊥)
    → IsClassErrorAboutPath made path e → IsErrorOfUnreadableRules s made path e → HoldsIfFaultError TreeFailed StoreFailed e → HoldsIfExcludesError ((is_some_rules_file_unread made s path ≡ true) ⊎ StoreFailed) e
unread-refused s made path TreeFailed StoreFailed errors.Interrupted quiet about refused cause = tt
unread-refused s made path TreeFailed StoreFailed (errors.WorktreeRootIsFile root) quiet about refused cause = tt
unread-refused s made path TreeFailed StoreFailed (errors.NormalizeRoot root) quiet about refused cause = tt
unread-refused s made path TreeFailed StoreFailed (errors.SymlinkInRoot root worktree_root index) quiet about refused cause = tt
unread-refused s made path TreeFailed StoreFailed (errors.ExcludesAccess e) quiet about refused cause = go made about refused
  where
    go : (k : Option StackSetup) → IsClassErrorAboutPath k path (errors.ExcludesAccess e) → IsErrorOfUnreadableRules s k path (errors.ExcludesAccess e) → (is_some_rules_file_unread k s path ≡ true) ⊎ StoreFailed
    go None a r = absurd a
    go (Some rules) a r = unread-lookup s rules path TreeFailed StoreFailed e quiet r a.on_way (λ is. absurd (a.some_memory is)) cause
unread-refused s made path TreeFailed StoreFailed (errors.ReadDir directory why) quiet about refused cause = tt
unread-refused s made path TreeFailed StoreFailed (errors.DirEntry directory) quiet about refused cause = tt
unread-refused s made path TreeFailed StoreFailed (errors.SymlinkMetadata missing why) quiet about refused cause = tt
unread-refused s made path TreeFailed StoreFailed (errors.TooDeep directory) quiet about refused cause = tt
unread-refused s made path TreeFailed StoreFailed errors.OutOfMemory quiet about refused cause = tt

-- two things that hold where a class asked the rules
pub OnAccess-both : (P Q R : Type 0) (e : Error) → (P → Q → R) → HoldsIfExcludesError P e → HoldsIfExcludesError Q e → HoldsIfExcludesError R e
OnAccess-both P Q R errors.Interrupted f p q = tt
OnAccess-both P Q R (errors.WorktreeRootIsFile root) f p q = tt
OnAccess-both P Q R (errors.NormalizeRoot root) f p q = tt
OnAccess-both P Q R (errors.SymlinkInRoot root worktree_root index) f p q = tt
OnAccess-both P Q R (errors.ExcludesAccess e) f p q = f p q
OnAccess-both P Q R (errors.ReadDir path why) f p q = tt
OnAccess-both P Q R (errors.DirEntry path) f p q = tt
OnAccess-both P Q R (errors.SymlinkMetadata path why) f p q = tt
OnAccess-both P Q R (errors.TooDeep path) f p q = tt
OnAccess-both P Q R errors.OutOfMemory f p q = tt
