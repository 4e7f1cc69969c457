-- How readings follow each other.
use Rattle.std.specs.Prelude.{◌≡◌, ◌⊎◌, ◌≤◌, ℕ, ◌+◌, Bool, true, List, [], ◌∷◌, ◌++◌, Option, Result, Ok, Err, IsErrAnd, IfErr, IfOk, OnOk}
use Rattle.std.proofs.Common.{inl, inr, refl, sym, ap, ◌∙◌, subst, append_assoc, arith}
use Rattle.std.proofs.lemmas.List.{append-nil}
use Rattle.gitbase_core.specs.Objects.{ObjectsById}
use Rattle.gitbase_core.specs.declared.find.Find.{Ghosts as FindOf}
use Rattle.worktree_fs.specs.declared.worktree.Worktree.{Ghosts as WorktreeOf}
use Rattle.worktree_fs.specs.Causes.{CountIncreasedOrSaturated}
use Rattle.worktree_fs.specs.Kept.{KeepsTreeAndListCounts, KeepsStoredObjects}
use Rattle.worktree_fs.specs.Tree.{Names}
use Rattle.worktree_stack.specs.declared.error.AtPathError.{AtPathError}
use Rattle.worktree_stack.specs.declared.error.AtPathError.TheVariants as errors
use Rattle.worktree_stack.specs.declared.error.RulesWhy.{RulesWhy}
use Rattle.worktree_stack.specs.declared.error.RulesWhy.TheVariants as whys
use Rattle.worktree_stack.specs.declared.error.BlobWhy.{BlobWhy}
use Rattle.worktree_stack.specs.declared.error.BlobWhy.TheVariants as blob_whys
use Rattle.worktree_stack.specs.declared.statistics.Statistics.{Statistics}
use Rattle.worktree_stack.specs.declared.statistics.RulesStatistics.{RulesStatistics}
use Rattle.worktree_stack.specs.Counted.{rules_counts_of_kind, rules_counts_after_readings, tried_files_after_readings, tried_files_after_places, number_of_files_in_readings, number_of_blobs_in_readings, number_of_worktree_places, number_of_store_places, places_of_reading_if_of_kind, places_if_same_kind, rules_counts_after_places, with_tried_files_counted}
use Rattle.worktree_stack.specs.Placed.{CountsReadingsOfKind, CountsAllReadings, CountsTriedPlaces, CountsRefusedPlaces, StopsAtRefusedReading, StopsReadingByError, IsFileAmongPlaces, IsBlobAmongPlaces, AnswersReadings}
use Rattle.worktree_stack.specs.Reading.{TreeAndObjects, Tells, RulesRefusal, RulesPlace, in_tree, in_store, RulesText, RulesTextsOrRefusal, RulesKind, of_attributes, of_ignore, RulesReading, first_rules_text_of_places, rules_texts_of_readings, prepend_text_unless_refused, places_of_readings, is_read_without_refusal}
use Rattle.worktree_stack.specs.Refused.{IsPlaceAmong, ExplainsRefusedFile, ExplainsRefusedBlob, IsReadingRefused}
use Rattle.worktree_stack.proofs.Refusals.{on-weaker, on-both, rose-earlier}

-- ---- lists of readings

places-append : (a b : List RulesReading) → places_of_readings (a ++ b) ≡ places_of_readings a ++ places_of_readings b
places-append [] b = refl
places-append (r ∷ a) b = ap (λ (l : List RulesPlace). r.places ++ l) (places-append a b) ∙ sym (append_assoc r.places (places_of_readings a) (places_of_readings b))

pub files-two : (a b : List RulesPlace) → number_of_worktree_places (a ++ b) ≡ number_of_worktree_places a + number_of_worktree_places b
files-two [] b = omega arith
files-two (in_tree path follow ∷ a) b = omega (arith, files-two a b)
files-two (in_store path id ∷ a) b = files-two a b

blobs-two : (a b : List RulesPlace) → number_of_store_places (a ++ b) ≡ number_of_store_places a + number_of_store_places b
blobs-two [] b = omega arith
blobs-two (in_tree path follow ∷ a) b = blobs-two a b
blobs-two (in_store path id ∷ a) b = omega (arith, blobs-two a b)

pub files-both : (a b : List RulesReading) → number_of_worktree_places (places_of_readings (a ++ b)) ≡ number_of_worktree_places (places_of_readings a) + number_of_worktree_places (places_of_readings b)
files-both a b = ap number_of_worktree_places (places-append a b) ∙ files-two (places_of_readings a) (places_of_readings b)

pub blobs-both : (a b : List RulesReading) → number_of_store_places (places_of_readings (a ++ b)) ≡ number_of_store_places (places_of_readings a) + number_of_store_places (places_of_readings b)
blobs-both a b = ap number_of_store_places (places-append a b) ∙ blobs-two (places_of_readings a) (places_of_readings b)

among-left : (a b : List RulesPlace) (p : RulesPlace) → IsPlaceAmong a p → IsPlaceAmong (a ++ b) p
among-left a b p is =
    record { before = is.before; after = is.after ++ b; among = ap (λ (l : List RulesPlace). l ++ b) is.among ∙ append_assoc is.before (p ∷ is.after) b }

among-right : (a b : List RulesPlace) (p : RulesPlace) → IsPlaceAmong b p → IsPlaceAmong (a ++ b) p
among-right a b p is =
    record { before = a ++ is.before; after = is.after; among = ap (λ (l : List RulesPlace). a ++ l) is.among ∙ sym (append_assoc a is.before (p ∷ is.after)) }

-- ---- what they give

texts-left : (s : TreeAndObjects) (a b : List RulesReading) (refusal : RulesRefusal) → rules_texts_of_readings s a ≡ Err refusal → rules_texts_of_readings s (a ++ b) ≡ Err refusal
texts-left s [] b refusal e = absurd (cc e)
texts-left s (r ∷ a) b refusal e = go (first_rules_text_of_places s r.places) (rules_texts_of_readings s a) refl (texts-left s a b) e
  where
    go : (x : Result (Option RulesText) RulesRefusal) (rest : RulesTextsOrRefusal) → rules_texts_of_readings s a ≡ rest → ((other : RulesRefusal) → rules_texts_of_readings s a ≡ Err other → rules_texts_of_readings s (a ++ b) ≡ Err other)
        → prepend_text_unless_refused x rest ≡ Err refusal → prepend_text_unless_refused x (rules_texts_of_readings s (a ++ b)) ≡ Err refusal
    go (Err other) rest is on e = e
    go (Ok text) (Ok texts) is on e = absurd (cc e)
    go (Ok text) (Err other) is on e = ap (prepend_text_unless_refused (Ok text)) (on other is) ∙ e

texts-right : (s : TreeAndObjects) (a b : List RulesReading) (refusal : RulesRefusal) → is_read_without_refusal (rules_texts_of_readings s a) ≡ true → rules_texts_of_readings s b ≡ Err refusal → rules_texts_of_readings s (a ++ b) ≡ Err refusal
texts-right s [] b refusal read e = e
texts-right s (r ∷ a) b refusal read e = go (first_rules_text_of_places s r.places) (rules_texts_of_readings s a) refl (λ one. texts-right s a b refusal one e) read
  where
    go : (x : Result (Option RulesText) RulesRefusal) (rest : RulesTextsOrRefusal) → rules_texts_of_readings s a ≡ rest → (is_read_without_refusal (rules_texts_of_readings s a) ≡ true → rules_texts_of_readings s (a ++ b) ≡ Err refusal)
        → is_read_without_refusal (prepend_text_unless_refused x rest) ≡ true → prepend_text_unless_refused x (rules_texts_of_readings s (a ++ b)) ≡ Err refusal
    go (Err other) rest is on read = absurd (cc read)
    go (Ok text) (Err other) is on read = absurd (cc read)
    go (Ok text) (Ok texts) is on read = ap (prepend_text_unless_refused (Ok text)) (on (ap is_read_without_refusal is))

texts-both : (s : TreeAndObjects) (a b : List RulesReading) → is_read_without_refusal (rules_texts_of_readings s a) ≡ true → is_read_without_refusal (rules_texts_of_readings s b) ≡ true → is_read_without_refusal (rules_texts_of_readings s (a ++ b)) ≡ true
texts-both s [] b one two = two
texts-both s (r ∷ a) b one two = go (first_rules_text_of_places s r.places) (rules_texts_of_readings s a) refl (rules_texts_of_readings s (a ++ b)) refl (λ first. texts-both s a b first two) one
  where
    go : (x : Result (Option RulesText) RulesRefusal) (rest : RulesTextsOrRefusal) → rules_texts_of_readings s a ≡ rest → (all : RulesTextsOrRefusal) → rules_texts_of_readings s (a ++ b) ≡ all → (is_read_without_refusal (rules_texts_of_readings s a) ≡ true → is_read_without_refusal (rules_texts_of_readings s (a ++ b)) ≡ true)
        → is_read_without_refusal (prepend_text_unless_refused x rest) ≡ true → is_read_without_refusal (prepend_text_unless_refused x all) ≡ true
    go (Err other) rest is all all_is on read = absurd (cc read)
    go (Ok text) (Err other) is all all_is on read = absurd (cc read)
    go (Ok text) (Ok texts) is (Ok alls) all_is on read = refl
    go (Ok text) (Ok texts) is (Err other) all_is on read = absurd (cc (sym (ap is_read_without_refusal all_is) ∙ on (ap is_read_without_refusal is)))

-- ---- why they are refused

module _ (told : Option Names) (holds : Option ObjectsById) where
  module _ {A B : Type 0} (read : TreeAndObjects → Result A RulesRefusal) (read' : TreeAndObjects → Result B RulesRefusal)
      (so : (s : TreeAndObjects) → Tells told holds s → (refusal : RulesRefusal) → read s ≡ Err refusal → read' s ≡ Err refusal) where
    file-so : (Failed Failed' : Type 0) → (Failed → Failed') → (path : List ℕ) (follow : Bool) (why : RulesWhy) → ExplainsRefusedFile told holds Failed read path follow why → ExplainsRefusedFile told holds Failed' read' path follow why
    file-so F F' f path follow whys.Link is = (is.0, λ s tells. so s tells _ (is.1 s tells))
    file-so F F' f path follow whys.LinkLimit is = λ s tells. so s tells _ (is s tells)
    file-so F F' f path follow whys.Special is = λ s tells. so s tells _ (is s tells)
    file-so F F' f path follow whys.Fault is = f is

    blob-so : (Failed Failed' : Type 0) → (Failed → Failed') → (id : List ℕ) (why : BlobWhy) → ExplainsRefusedBlob told holds Failed read id why → ExplainsRefusedBlob told holds Failed' read' id why
    blob-so F F' f id blob_whys.Missing is = λ s tells. so s tells _ (is s tells)
    blob-so F F' f id blob_whys.NotABlob is = λ s tells. so s tells _ (is s tells)
    blob-so F F' f id blob_whys.Fault is = f is

    -- refused in some places, so refused in more
    pub refused-so : (places places' : List RulesPlace) → ((p : RulesPlace) → IsPlaceAmong places p → IsPlaceAmong places' p) → (TF TF' SF SF' : Type 0) → (TF → TF') → (SF → SF') → (e : AtPathError)
        → IsReadingRefused told holds TF SF places read e → IsReadingRefused told holds TF' SF' places' read' e
    refused-so places places' more TF TF' SF SF' tree store e said =
        on-weaker e
        (λ path why r. record { follow = r.follow; place = more _ r.place; why_is = file-so TF TF' tree path r.follow why r.why_is })
        (λ id why r. record { path = r.path; place = more _ r.place; why_is = blob-so SF SF' store id why r.why_is })
        (λ m. m) said

  -- ---- what is counted of them

  each-none : (kind : RulesKind) (old new : RulesStatistics) → new ≡ old → CountsReadingsOfKind told holds kind [] old new
  each-none kind old new same =
      record {
        tried = ap (λ (s : RulesStatistics). s.tried_pattern_files) same;
        buffers = omega (arith, ap (λ (s : RulesStatistics). s.patterns_buffers) same);
        most_buffers = omega (arith, ap (λ (s : RulesStatistics). s.patterns_buffers) same);
        files = omega (arith, ap (λ (s : RulesStatistics). s.pattern_files) same);
        most_files = omega (arith, ap (λ (s : RulesStatistics). s.pattern_files) same);
        exact = λ s tells. same;
      }

  pub counts-none : (old new : Statistics) → ((kind : RulesKind) → rules_counts_of_kind kind new ≡ rules_counts_of_kind kind old) → CountsAllReadings told holds [] old new
  counts-none old new same = λ kind. each-none kind (rules_counts_of_kind kind old) (rules_counts_of_kind kind new) (same kind)

  module _ (kind : RulesKind) where
    try-append : (count : ℕ) (a b : List RulesReading) → tried_files_after_readings kind count (a ++ b) ≡ tried_files_after_readings kind (tried_files_after_readings kind count a) b
    try-append count [] b = refl
    try-append count (r ∷ a) b = try-append (tried_files_after_places count (places_of_reading_if_of_kind kind r)) a b

    count-append : (sources : TreeAndObjects) (s : RulesStatistics) (a b : List RulesReading) → rules_counts_after_readings kind sources s (a ++ b) ≡ rules_counts_after_readings kind sources (rules_counts_after_readings kind sources s a) b
    count-append sources s [] b = refl
    count-append sources s (r ∷ a) b = count-append sources (rules_counts_after_places sources s (places_of_reading_if_of_kind kind r)) a b

    files-append : (a b : List RulesReading) → number_of_files_in_readings kind (a ++ b) ≡ number_of_files_in_readings kind a + number_of_files_in_readings kind b
    files-append [] b = omega arith
    files-append (r ∷ a) b = omega (arith, files-append a b)

    blobs-append : (a b : List RulesReading) → number_of_blobs_in_readings kind (a ++ b) ≡ number_of_blobs_in_readings kind a + number_of_blobs_in_readings kind b
    blobs-append [] b = omega arith
    blobs-append (r ∷ a) b = omega (arith, blobs-append a b)

    each-then : (a b : List RulesReading) (s0 s1 s2 : RulesStatistics) → CountsReadingsOfKind told holds kind a s0 s1 → CountsReadingsOfKind told holds kind b s1 s2 → CountsReadingsOfKind told holds kind (a ++ b) s0 s2
    each-then a b s0 s1 s2 first second =
        record {
          tried = second.tried ∙ ap (λ n. tried_files_after_readings kind n b) first.tried ∙ sym (try-append s0.tried_pattern_files a b);
          buffers = omega (arith, first.buffers, second.buffers);
          most_buffers = omega (arith, first.most_buffers, second.most_buffers, blobs-append a b);
          files = omega (arith, first.files, second.files);
          most_files = omega (arith, first.most_files, second.most_files, files-append a b);
          exact = λ s tells. second.exact s tells ∙ ap (λ c. rules_counts_after_readings kind s c b) (first.exact s tells) ∙ sym (count-append s s0 a b);
        }

  counts-then : (a b : List RulesReading) (s0 s1 s2 : Statistics) → CountsAllReadings told holds a s0 s1 → CountsAllReadings told holds b s1 s2 → CountsAllReadings told holds (a ++ b) s0 s2
  counts-then a b s0 s1 s2 first second = λ kind. each-then kind a b (rules_counts_of_kind kind s0) (rules_counts_of_kind kind s1) (rules_counts_of_kind kind s2) (first kind) (second kind)

  -- ---- where they are cut off

  module _ (s0 s1 s2 : Statistics) (a b : List RulesReading) (Asks' : List RulesPlace → Type 0) (Tried : List RulesPlace → RulesStatistics → RulesStatistics → Type 0) where
    cut-left : StopsAtRefusedReading told holds a s0 s2 Asks' Tried → StopsAtRefusedReading told holds (a ++ b) s0 s2 Asks' Tried
    cut-left c =
        record {
          done = c.done;
          refused = c.refused;
          left = c.left ++ b;
          before = c.before;
          split = ap (λ (l : List RulesReading). l ++ b) c.split ∙ append_assoc c.done (c.refused ∷ c.left) b;
          read = c.read;
          asks = c.asks;
          tried = c.tried;
        }

    cut-right : CountsAllReadings told holds a s0 s1 → StopsAtRefusedReading told holds b s1 s2 Asks' Tried → StopsAtRefusedReading told holds (a ++ b) s0 s2 Asks' Tried
    cut-right first c =
        record {
          done = a ++ c.done;
          refused = c.refused;
          left = c.left;
          before = c.before;
          split = ap (λ (l : List RulesReading). a ++ l) c.split ∙ sym (append_assoc a c.done (c.refused ∷ c.left));
          read = counts-then a c.done s0 s1 c.before first c.read;
          asks = c.asks;
          tried = c.tried;
        }

  off-left : (s0 s2 : Statistics) (a b : List RulesReading) (e : AtPathError) → StopsReadingByError told holds a s0 s2 e → StopsReadingByError told holds (a ++ b) s0 s2 e
  off-left s0 s2 a b e said = on-weaker e (λ path why c. cut-left s0 s0 s2 a b _ _ c) (λ id why c. cut-left s0 s0 s2 a b _ _ c) (λ c. cut-left s0 s0 s2 a b _ _ c) said

  off-right : (s0 s1 s2 : Statistics) (a b : List RulesReading) (e : AtPathError) → CountsAllReadings told holds a s0 s1 → StopsReadingByError told holds b s1 s2 e → StopsReadingByError told holds (a ++ b) s0 s2 e
  off-right s0 s1 s2 a b e first said = on-weaker e (λ path why c. cut-right s0 s1 s2 a b _ _ first c) (λ id why c. cut-right s0 s1 s2 a b _ _ first c) (λ c. cut-right s0 s1 s2 a b _ _ first c) said

-- ---- all that they answer and leave

module _ {W F : Type 0} (w : WorktreeOf W) (f : FindOf F) where
  leaves-none : (w0 : W) → KeepsTreeAndListCounts w w0 w0
  leaves-none w0 = record { tree = refl; faults = omega arith; list_faults = refl; reads = omega arith; lists = refl; precomposes = refl }

  store-none : (o0 : F) → KeepsStoredObjects f o0 o0
  store-none o0 = record { holds = refl; faults = omega arith }

  leaves-next : (a b c : W) → KeepsTreeAndListCounts w a b → KeepsTreeAndListCounts w b c → KeepsTreeAndListCounts w a c
  leaves-next a b c first second =
      record {
        tree = second.tree ∙ first.tree;
        faults = omega (arith, first.faults, second.faults);
        list_faults = second.list_faults ∙ first.list_faults;
        reads = omega (arith, first.reads, second.reads);
        lists = second.lists ∙ first.lists;
        precomposes = second.precomposes ∙ first.precomposes;
      }

  store-next : (a b c : F) → KeepsStoredObjects f a b → KeepsStoredObjects f b c → KeepsStoredObjects f a c
  store-next a b c first second = record { holds = second.holds ∙ first.holds; faults = omega (arith, first.faults, second.faults) }

  -- there is nothing to read
  pub reads-none : {T : Type 0} (w0 : W) (o0 : F) (readings : List RulesReading) (old new : Statistics) (v : T) → readings ≡ [] → new ≡ old → AnswersReadings w f w0 w0 o0 o0 readings old new (Ok v)
  reads-none w0 o0 readings old new v none same =
      subst (λ (rs : List RulesReading). AnswersReadings w f w0 w0 o0 o0 rs old new (Ok v)) (sym none)
      (record {
        read = λ s tells. refl;
        refused = tt;
        counted = counts-none (w.told w0) (f.holds o0) old new (λ kind. ap (rules_counts_of_kind kind) same);
        tried = tt;
        untouched = λ e. refl;
        store_untouched = λ e. refl;
        leaves = leaves-none w0;
        leaves_store = store-none o0;
        reads = omega arith;
      })

  -- nothing was read for want of memory
  pub reads-unread : {T : Type 0} (w0 : W) (o0 : F) (readings left : List RulesReading) (r : RulesReading) (old new : Statistics) (result : Result T AtPathError)
      → IsErrAnd result (λ e. e ≡ errors.OutOfMemory) → readings ≡ r ∷ left → new ≡ old → AnswersReadings w f w0 w0 o0 o0 readings old new result
  reads-unread w0 o0 readings left r old new (Ok v) memory some same = absurd memory
  reads-unread w0 o0 readings left r old new (Err e) memory some same =
      record {
        read = λ s tells. tt;
        refused = subst (λ (x : AtPathError). IsReadingRefused (w.told w0) (f.holds o0) (CountIncreasedOrSaturated (w.faults w0) (w.faults w0)) (CountIncreasedOrSaturated (f.faults o0) (f.faults o0)) (places_of_readings readings) (λ s. rules_texts_of_readings s readings) x) (sym memory) tt;
        counted = tt;
        tried = subst (λ x. StopsReadingByError (w.told w0) (f.holds o0) readings old new x) (sym memory)
            (record {
              done = [];
              refused = r;
              left = left;
              before = old;
              split = some;
              read = counts-none (w.told w0) (f.holds o0) old old (λ kind. refl);
              asks = tt;
              tried = λ kind. inl (ap (rules_counts_of_kind kind) same);
            });
        untouched = λ e. refl;
        store_untouched = λ e. refl;
        leaves = leaves-none w0;
        leaves_store = store-none o0;
        reads = omega arith;
      }

  -- readings that were refused, and more that were not done
  pub reads-cut : {T U : Type 0} (w0 w1 : W) (o0 o1 : F) (a b : List RulesReading) (s0 s1 : Statistics) (e : AtPathError)
      → AnswersReadings {T = T} w f w0 w1 o0 o1 a s0 s1 (Err e) → AnswersReadings {T = U} w f w0 w1 o0 o1 (a ++ b) s0 s1 (Err e)
  reads-cut w0 w1 o0 o1 a b s0 s1 e first =
      let told : Option Names = w.told w0 in
      let holds : Option ObjectsById = f.holds o0 in
      let more : number_of_worktree_places (places_of_readings (a ++ b)) ≡ number_of_worktree_places (places_of_readings a) + number_of_worktree_places (places_of_readings b) = files-both a b in
      let more_blobs : number_of_store_places (places_of_readings (a ++ b)) ≡ number_of_store_places (places_of_readings a) + number_of_store_places (places_of_readings b) = blobs-both a b in
      record {
        read = λ s tells. tt;
        refused = refused-so told holds (λ s. rules_texts_of_readings s a) (λ s. rules_texts_of_readings s (a ++ b)) (λ s tells refusal is. texts-left s a b refusal is)
            (places_of_readings a) (places_of_readings (a ++ b)) (λ p is. subst (λ (ps : List RulesPlace). IsPlaceAmong ps p) (sym (places-append a b)) (among-left (places_of_readings a) (places_of_readings b) p is))
            _ _ _ _ (λ x. x) (λ x. x) e first.refused;
        counted = tt;
        tried = off-left told holds s0 s1 a b e first.tried;
        untouched = λ none. first.untouched (omega (arith, none, more));
        store_untouched = λ none. first.store_untouched (omega (arith, none, more_blobs));
        leaves = first.leaves;
        leaves_store = first.leaves_store;
        reads = omega (arith, first.reads, more);
      }

  pub later : (w0 w1 : W) (o0 o1 : F) (s : TreeAndObjects) → KeepsTreeAndListCounts w w0 w1 → KeepsStoredObjects f o0 o1 → Tells (w.told w0) (f.holds o0) s → Tells (w.told w1) (f.holds o1) s
  later w0 w1 o0 o1 s leaves store tells = record { tree_is = leaves.tree ∙ tells.tree_is; objects_are = store.holds ∙ tells.objects_are }

  module _ {T U : Type 0} (w0 w1 w2 : W) (o0 o1 o2 : F) (a b : List RulesReading) (s0 s1 s2 : Statistics) (v : T) (first : AnswersReadings w f w0 w1 o0 o1 a s0 s1 (Ok v)) where
    read-on : (s : TreeAndObjects) → Tells (w.told w0) (f.holds o0) s → (r : Result U AtPathError) → OnOk r (is_read_without_refusal (rules_texts_of_readings s b) ≡ true) → OnOk r (is_read_without_refusal (rules_texts_of_readings s (a ++ b)) ≡ true)
    read-on s tells (Ok x) read = texts-both s a b (first.read s tells) read
    read-on s tells (Err x) read = tt

    refused-on : (r : Result U AtPathError)
        → IfErr r (IsReadingRefused (w.told w1) (f.holds o1) (CountIncreasedOrSaturated (w.faults w1) (w.faults w2)) (CountIncreasedOrSaturated (f.faults o1) (f.faults o2)) (places_of_readings b) (λ s. rules_texts_of_readings s b))
        → IfErr r (IsReadingRefused (w.told w0) (f.holds o0) (CountIncreasedOrSaturated (w.faults w0) (w.faults w2)) (CountIncreasedOrSaturated (f.faults o0) (f.faults o2)) (places_of_readings (a ++ b)) (λ s. rules_texts_of_readings s (a ++ b)))
    refused-on (Ok x) said = tt
    refused-on (Err x) said =
        refused-so (w.told w0) (f.holds o0) (λ s. rules_texts_of_readings s b) (λ s. rules_texts_of_readings s (a ++ b)) (λ s tells refusal is. texts-right s a b refusal (first.read s tells) is)
        (places_of_readings b) (places_of_readings (a ++ b)) (λ p is. subst (λ (ps : List RulesPlace). IsPlaceAmong ps p) (sym (places-append a b)) (among-right (places_of_readings a) (places_of_readings b) p is))
        _ _ _ _ (rose-earlier (w.faults w0) (w.faults w1) (w.faults w2) first.leaves.faults) (rose-earlier (f.faults o0) (f.faults o1) (f.faults o2) first.leaves_store.faults) x
        (subst (λ t. IsReadingRefused t (f.holds o0) (CountIncreasedOrSaturated (w.faults w1) (w.faults w2)) (CountIncreasedOrSaturated (f.faults o1) (f.faults o2)) (places_of_readings b) (λ s. rules_texts_of_readings s b) x) first.leaves.tree
        (subst (λ h. IsReadingRefused (w.told w1) h (CountIncreasedOrSaturated (w.faults w1) (w.faults w2)) (CountIncreasedOrSaturated (f.faults o1) (f.faults o2)) (places_of_readings b) (λ s. rules_texts_of_readings s b) x) first.leaves_store.holds said))

    counted-on : (r : Result U AtPathError) → OnOk r (CountsAllReadings (w.told w1) (f.holds o1) b s1 s2) → OnOk r (CountsAllReadings (w.told w0) (f.holds o0) (a ++ b) s0 s2)
    counted-on (Err x) said = tt
    counted-on (Ok x) said =
        counts-then (w.told w0) (f.holds o0) a b s0 s1 s2 first.counted
        (subst (λ t. CountsAllReadings t (f.holds o0) b s1 s2) first.leaves.tree (subst (λ h. CountsAllReadings (w.told w1) h b s1 s2) first.leaves_store.holds said))

    tried-on : (r : Result U AtPathError) → IfErr r (StopsReadingByError (w.told w1) (f.holds o1) b s1 s2) → IfErr r (StopsReadingByError (w.told w0) (f.holds o0) (a ++ b) s0 s2)
    tried-on (Ok x) said = tt
    tried-on (Err x) said =
        off-right (w.told w0) (f.holds o0) s0 s1 s2 a b x first.counted
        (subst (λ t. StopsReadingByError t (f.holds o0) b s1 s2 x) first.leaves.tree (subst (λ h. StopsReadingByError (w.told w1) h b s1 s2 x) first.leaves_store.holds said))

    -- readings that were done, and more
    pub reads-then : (result : Result U AtPathError) → AnswersReadings w f w1 w2 o1 o2 b s1 s2 result → AnswersReadings w f w0 w2 o0 o2 (a ++ b) s0 s2 result
    reads-then result second =
        let more : number_of_worktree_places (places_of_readings (a ++ b)) ≡ number_of_worktree_places (places_of_readings a) + number_of_worktree_places (places_of_readings b) = files-both a b in
        let more_blobs : number_of_store_places (places_of_readings (a ++ b)) ≡ number_of_store_places (places_of_readings a) + number_of_store_places (places_of_readings b) = blobs-both a b in
        record {
          read = λ s tells. read-on s tells result (second.read s (later w0 w1 o0 o1 s first.leaves first.leaves_store tells));
          refused = refused-on result second.refused;
          counted = counted-on result second.counted;
          tried = tried-on result second.tried;
          untouched = λ none. second.untouched (omega (arith, none, more)) ∙ first.untouched (omega (arith, none, more));
          store_untouched = λ none. second.store_untouched (omega (arith, none, more_blobs)) ∙ first.store_untouched (omega (arith, none, more_blobs));
          leaves = leaves-next w0 w1 w2 first.leaves second.leaves;
          leaves_store = store-next o0 o1 o2 first.leaves_store second.leaves_store;
          reads = omega (arith, first.reads, second.reads, more);
        }

  -- a reading that was done, whose text was not kept for want of memory
  pub reads-lost : {T U : Type 0} (w0 w1 : W) (o0 o1 : F) (readings : List RulesReading) (r : RulesReading) (s0 s1 : Statistics) (v : T) (result : Result U AtPathError)
      → readings ≡ r ∷ [] → IsErrAnd result (λ e. e ≡ errors.OutOfMemory) → AnswersReadings w f w0 w1 o0 o1 readings s0 s1 (Ok v) → AnswersReadings w f w0 w1 o0 o1 readings s0 s1 result
  reads-lost w0 w1 o0 o1 readings r s0 s1 v (Ok x) one memory first = absurd memory
  reads-lost w0 w1 o0 o1 readings r s0 s1 v (Err e) one memory first =
      let told : Option Names = w.told w0 in
      let holds : Option ObjectsById = f.holds o0 in
      record {
        read = λ s tells. tt;
        refused = subst (λ (x : AtPathError). IsReadingRefused told holds (CountIncreasedOrSaturated (w.faults w0) (w.faults w1)) (CountIncreasedOrSaturated (f.faults o0) (f.faults o1)) (places_of_readings readings) (λ s. rules_texts_of_readings s readings) x) (sym memory) tt;
        counted = tt;
        tried = subst (λ (x : AtPathError). StopsReadingByError told holds readings s0 s1 x) (sym memory)
            (record {
              done = [];
              refused = r;
              left = [];
              before = s0;
              split = one;
              read = counts-none told holds s0 s0 (λ kind. refl);
              asks = tt;
              tried = λ kind. inr (inr (one-of kind (subst (λ (rs : List RulesReading). CountsReadingsOfKind told holds kind rs (rules_counts_of_kind kind s0) (rules_counts_of_kind kind s1)) one (first.counted kind))));
            });
        untouched = first.untouched;
        store_untouched = first.store_untouched;
        leaves = first.leaves;
        leaves_store = first.leaves_store;
        reads = first.reads;
      }
    where
      one-of : (kind : RulesKind) → CountsReadingsOfKind (w.told w0) (f.holds o0) kind (r ∷ []) (rules_counts_of_kind kind s0) (rules_counts_of_kind kind s1)
          → CountsTriedPlaces (w.told w0) (f.holds o0) (places_of_reading_if_of_kind kind r) (rules_counts_of_kind kind s0) (rules_counts_of_kind kind s1)
      one-of kind c =
          record {
            tried = c.tried;
            buffers = c.buffers;
            most_buffers = omega (arith, c.most_buffers);
            files = c.files;
            most_files = omega (arith, c.most_files);
            exact = c.exact;
          }

-- ---- one reading

-- what is counted of other kinds is as it was
abbrev pub Others : RulesKind → Statistics → Statistics → Type 0
Others kind old new = (k : RulesKind) (places : List RulesPlace) → ((k ≡ kind) × (places_if_same_kind k kind places ≡ places)) ⊎ ((places_if_same_kind k kind places ≡ []) × (rules_counts_of_kind k new ≡ rules_counts_of_kind k old))

pub only-attributes : (old new : Statistics) → new.ignore ≡ old.ignore → Others of_attributes old new
only-attributes old new same of_attributes places = inl (refl, refl)
only-attributes old new same of_ignore places = inr (refl, same)

pub only-ignore : (old new : Statistics) → new.attributes ≡ old.attributes → Others of_ignore old new
only-ignore old new same of_ignore places = inl (refl, refl)
only-ignore old new same of_attributes places = inr (refl, same)

module _ (told : Option Names) (holds : Option ObjectsById) (places : List RulesPlace) where
  each-one : (kind k : RulesKind) (old new : RulesStatistics) → places_if_same_kind k kind places ≡ places → CountsTriedPlaces told holds places old new
      → CountsReadingsOfKind told holds k (record { kind = kind; places = places } ∷ []) old new
  each-one kind k old new is c =
      let d : CountsTriedPlaces told holds (places_if_same_kind k kind places) old new = subst (λ (ps : List RulesPlace). CountsTriedPlaces told holds ps old new) (sym is) c in
      record {
        tried = d.tried;
        buffers = d.buffers;
        most_buffers = omega (arith, d.most_buffers);
        files = d.files;
        most_files = omega (arith, d.most_files);
        exact = d.exact;
      }

  each-other : (kind k : RulesKind) (old new : RulesStatistics) → places_if_same_kind k kind places ≡ [] → new ≡ old → CountsReadingsOfKind told holds k (record { kind = kind; places = places } ∷ []) old new
  each-other kind k old new none same =
      let gone : ℕ → ℕ = λ n. tried_files_after_places n (places_if_same_kind k kind places) in
      record {
        tried = ap (λ (s : RulesStatistics). s.tried_pattern_files) same ∙ sym (ap (λ (ps : List RulesPlace). tried_files_after_places old.tried_pattern_files ps) none);
        buffers = omega (arith, ap (λ (s : RulesStatistics). s.patterns_buffers) same);
        most_buffers = omega (arith, ap (λ (s : RulesStatistics). s.patterns_buffers) same);
        files = omega (arith, ap (λ (s : RulesStatistics). s.pattern_files) same);
        most_files = omega (arith, ap (λ (s : RulesStatistics). s.pattern_files) same);
        exact = λ s tells. same ∙ sym (ap (λ (ps : List RulesPlace). rules_counts_after_places s old ps) none);
      }

  module _ (kind : RulesKind) (old new : Statistics) (others : Others kind old new) where
    counts-one : CountsTriedPlaces told holds places (rules_counts_of_kind kind old) (rules_counts_of_kind kind new) → CountsAllReadings told holds (record { kind = kind; places = places } ∷ []) old new
    counts-one c k =
        elim (others k places) [
          | inl same ↦ each-one kind k (rules_counts_of_kind k old) (rules_counts_of_kind k new) same.1 (subst (λ (x : RulesKind). CountsTriedPlaces told holds places (rules_counts_of_kind x old) (rules_counts_of_kind x new)) (sym same.0) c)
          | inr other ↦ each-other kind k (rules_counts_of_kind k old) (rules_counts_of_kind k new) other.0 other.1
        ]

    module _ (Tried : List RulesPlace → RulesStatistics → RulesStatistics → Type 0) (none : (s : RulesStatistics) → Tried [] s s) where
      tried-one : Tried places (rules_counts_of_kind kind old) (rules_counts_of_kind kind new) → (k : RulesKind) → Tried (places_if_same_kind k kind places) (rules_counts_of_kind k old) (rules_counts_of_kind k new)
      tried-one c k =
          elim (others k places) [
            | inl same ↦ subst (λ (ps : List RulesPlace). Tried ps (rules_counts_of_kind k old) (rules_counts_of_kind k new)) (sym same.1)
                (subst (λ (x : RulesKind). Tried places (rules_counts_of_kind x old) (rules_counts_of_kind x new)) (sym same.0) c)
            | inr other ↦ subst (λ (ps : List RulesPlace). Tried ps (rules_counts_of_kind k old) (rules_counts_of_kind k new)) (sym other.0)
                (subst (λ (s : RulesStatistics). Tried [] (rules_counts_of_kind k old) s) (sym other.1) (none (rules_counts_of_kind k old)))
          ]

      cut-one : (Asks' : List RulesPlace → Type 0) → Asks' places → Tried places (rules_counts_of_kind kind old) (rules_counts_of_kind kind new)
          → StopsAtRefusedReading told holds (record { kind = kind; places = places } ∷ []) old new Asks' Tried
      cut-one Asks' asks c =
          record {
            done = [];
            refused = record { kind = kind; places = places };
            left = [];
            before = old;
            split = refl;
            read = counts-none told holds old old (λ k. refl);
            asks = asks;
            tried = tried-one c;
          }

    off-one : {A : Type 0} (TF SF : Type 0) (read : TreeAndObjects → Result A RulesRefusal) (e : AtPathError) → IsReadingRefused told holds TF SF places read e
        → CountsRefusedPlaces told holds places (rules_counts_of_kind kind old) (rules_counts_of_kind kind new) e → StopsReadingByError told holds (record { kind = kind; places = places } ∷ []) old new e
    off-one TF SF read e refused tried =
        on-both e
        (λ path why r c. cut-one (λ ps before after. after ≡ before) (λ s. refl) (IsFileAmongPlaces path) (record { follow = r.follow; place = r.place }) c)
        (λ id why r c. cut-one (λ ps before after. after ≡ with_tried_files_counted ps before) (λ s. refl) (IsBlobAmongPlaces id) (record { path = r.path; place = r.place }) c)
        (λ m c. cut-one (λ ps before after. (after ≡ before) ⊎ ((after ≡ with_tried_files_counted ps before) ⊎ CountsTriedPlaces told holds ps before after)) (λ s. inl refl) (λ ps. Unit {0}) tt c)
        refused tried

text-read : (s : TreeAndObjects) (kind : RulesKind) (places : List RulesPlace) (text : Option RulesText) → first_rules_text_of_places s places ≡ Ok text → is_read_without_refusal (rules_texts_of_readings s (record { kind = kind; places = places } ∷ [])) ≡ true
text-read s kind places text e = ap (λ (x : Result (Option RulesText) RulesRefusal). is_read_without_refusal (prepend_text_unless_refused x (Ok []))) e

text-refused : (s : TreeAndObjects) (kind : RulesKind) (places : List RulesPlace) (refusal : RulesRefusal) → first_rules_text_of_places s places ≡ Err refusal → rules_texts_of_readings s (record { kind = kind; places = places } ∷ []) ≡ Err refusal
text-refused s kind places refusal e = ap (λ (x : Result (Option RulesText) RulesRefusal). prepend_text_unless_refused x (Ok [])) e

one-place : (kind : RulesKind) (places : List RulesPlace) → places_of_readings (record { kind = kind; places = places } ∷ []) ≡ places
one-place kind places = append-nil places

module _ {W F T : Type 0} (w : WorktreeOf W) (f : FindOf F) (w0 w1 : W) (o0 o1 : F) (kind : RulesKind) (places : List RulesPlace) (old new : Statistics) (others : Others kind old new) (Text' : T → Option RulesText) where
  -- what is told of one reading
  pub reads-one : (result : Result T AtPathError)
      → ((s : TreeAndObjects) → Tells (w.told w0) (f.holds o0) s → IfOk result (λ v. first_rules_text_of_places s places ≡ Ok (Text' v)))
      → IfErr result (IsReadingRefused (w.told w0) (f.holds o0) (CountIncreasedOrSaturated (w.faults w0) (w.faults w1)) (CountIncreasedOrSaturated (f.faults o0) (f.faults o1)) places (λ s. first_rules_text_of_places s places))
      → OnOk result (CountsTriedPlaces (w.told w0) (f.holds o0) places (rules_counts_of_kind kind old) (rules_counts_of_kind kind new))
      → IfErr result (CountsRefusedPlaces (w.told w0) (f.holds o0) places (rules_counts_of_kind kind old) (rules_counts_of_kind kind new))
      → (number_of_worktree_places places ≡ 0 → w1 ≡ w0) → (number_of_store_places places ≡ 0 → o1 ≡ o0) → KeepsTreeAndListCounts w w0 w1 → KeepsStoredObjects f o0 o1 → w.reads w1 ≤ w.reads w0 + number_of_worktree_places places
      → AnswersReadings w f w0 w1 o0 o1 (record { kind = kind; places = places } ∷ []) old new result
  reads-one (Ok v) text refused counted tried untouched store_untouched leaves leaves_store reads =
      record {
        read = λ s tells. text-read s kind places (Text' v) (text s tells);
        refused = tt;
        counted = counts-one (w.told w0) (f.holds o0) places kind old new others counted;
        tried = tt;
        untouched = λ none. untouched (omega (arith, none, ap number_of_worktree_places (one-place kind places)));
        store_untouched = λ none. store_untouched (omega (arith, none, ap number_of_store_places (one-place kind places)));
        leaves = leaves;
        leaves_store = leaves_store;
        reads = omega (arith, reads, ap number_of_worktree_places (one-place kind places));
      }
  reads-one (Err e) text refused counted tried untouched store_untouched leaves leaves_store reads =
      record {
        read = λ s tells. tt;
        refused = refused-so (w.told w0) (f.holds o0) (λ s. first_rules_text_of_places s places) (λ s. rules_texts_of_readings s (record { kind = kind; places = places } ∷ []))
            (λ s tells refusal is. text-refused s kind places refusal is)
            places (places_of_readings (record { kind = kind; places = places } ∷ [])) (λ p is. subst (λ (ps : List RulesPlace). IsPlaceAmong ps p) (sym (one-place kind places)) is)
            _ _ _ _ (λ x. x) (λ x. x) e refused;
        counted = tt;
        tried = off-one (w.told w0) (f.holds o0) places kind old new others _ _ (λ s. first_rules_text_of_places s places) e refused tried;
        untouched = λ none. untouched (omega (arith, none, ap number_of_worktree_places (one-place kind places)));
        store_untouched = λ none. store_untouched (omega (arith, none, ap number_of_store_places (one-place kind places)));
        leaves = leaves;
        leaves_store = leaves_store;
        reads = omega (arith, reads, ap number_of_worktree_places (one-place kind places));
      }
