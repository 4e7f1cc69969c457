-- Rules that are refused, of a directory above a path.
use Rattle.std.proofs.Common.{◌≡◌, ℕ, List, [], ◌∷◌, ◌++◌, Bool, true, false, not, ◌&&◌, map, Some, refl, ap, ◌∙◌}
use Rattle.std.specs.List.{list_all}
use Rattle.gitbase_core.specs.Path.{components}
use Rattle.worktree_fs.specs.Paths.{slash_joined_components, all_prefixes_shortest_first, all_but_last}
use Rattle.std.specs.Prelude.{Err}
use Rattle.worktree_stack.specs.Setup.{StackSetup}
use Rattle.worktree_stack.specs.Reading.{TreeAndObjects, Tells, RulesRefusal, rules_texts_of_directory, is_read_without_refusal}
use Rattle.worktree_stack.specs.Refused.{HoldsOfSomeAncestor}
use Rattle.dir_classify.specs.Layers.{is_some_rules_file_unread}

-- a tree and objects are told as what they are
pub told-so : (s : TreeAndObjects) → Tells (Some s.tree) (Some s.objects) s
told-so s = record { tree_is = refl; objects_are = refl }

all-map : {X Y : Type 0} (p : Y → Bool) (f : X → Y) (xs : List X) → list_all p (map f xs) ≡ list_all (λ x. p (f x)) xs
all-map p f [] = refl
all-map p f (x ∷ xs) = ap (λ b. p (f x) && b) (all-map p f xs)

and-right : (a b : Bool) → b ≡ false → (a && b) ≡ false
and-right true b e = e
and-right false b e = refl

tail_is : {X : Type 0} {x y : X} {xs ys : List X} → x ∷ xs ≡ y ∷ ys → xs ≡ ys
tail_is e = cc

head_is : {X : Type 0} {x y : X} {xs ys : List X} → x ∷ xs ≡ y ∷ ys → x ≡ y
head_is e = cc

-- a test that a front fails is failed by the fronts together
all-front : (p : List (List ℕ) → Bool) (names front rest : List (List ℕ)) → names ≡ front ++ rest → p front ≡ false → list_all p (all_prefixes_shortest_first names) ≡ false
all-front p [] [] rest e fails = ap (λ b. b && true) fails
all-front p (name ∷ names) [] rest e fails = ap (λ b. b && list_all p (map (λ f. name ∷ f) (all_prefixes_shortest_first names))) fails
all-front p [] (x ∷ front) rest e fails = absurd (cc e)
all-front p (name ∷ names) (x ∷ front) rest e fails =
    and-right (p []) (list_all p (map (λ f. name ∷ f) (all_prefixes_shortest_first names)))
    (all-map p (λ f. name ∷ f) (all_prefixes_shortest_first names) ∙ all-front (λ f. p (name ∷ f)) names front rest (tail_is e) (ap (λ (n : List ℕ). p (n ∷ front)) (head_is e) ∙ fails))

pub unread-ancestor : (s : TreeAndObjects) (rules : StackSetup) (path : List ℕ) (Holds : List ℕ → Type 0) (refusal : RulesRefusal) → HoldsOfSomeAncestor (components path) Holds
    → ((d : List ℕ) → Holds d → rules_texts_of_directory rules s d ≡ Err refusal) → is_some_rules_file_unread (Some rules) s path ≡ true
unfolding is_some_rules_file_unread
unread-ancestor s rules path Holds refusal h is =
    ap not
    (all-front (λ directory. is_read_without_refusal (rules_texts_of_directory rules s (slash_joined_components directory))) (all_but_last (components path)) h.ancestor h.rest h.above (ap is_read_without_refusal (is (slash_joined_components h.ancestor) h.holds)))
