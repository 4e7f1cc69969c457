-- Files of configuration are read in order, and no further than to the one for which there is a refusal.
use Rattle.std.proofs.Common.{◌≡◌, ◌≤◌, ◌<◌, ◌+◌, get_or, ℕ, suc, List, [], ◌∷◌, ◌++◌, Bool, true, false, take, drop, length, Option, Some, Result, Ok, Err, IfErr, OnOk, if◌then◌else◌, refl, sym, ap, ◌∙◌, subst, arith}
use Rattle.std.proofs.Math.Seq.{drop-cons, take-length, take-suc}
use Rattle.std.proofs.lemmas.List.{length-take-le}
use Rattle.std.proofs.lemmas.List.Sums.{count_by_more_no, count_by_more_yes, sum_by-take-le}
use Rattle.git_config_lite.specs.Sections.{Configuration}
use Rattle.worktree_fs.specs.declared.worktree.Worktree.{Ghosts as WorktreeOf}
use Rattle.worktree_fs.specs.Causes.{saturating_sum}
use Rattle.worktree_fs.specs.Tree.{Names}
use Rattle.worktree_report.specs.declared.error.ReportError.{ReportError}
use Rattle.worktree_report.specs.declared.error.ReportError.TheVariants as errors
use Rattle.worktree_report.specs.declared.known.Known.{Known}
use Rattle.worktree_report.specs.declared.modules.Modules.{Modules}
use Rattle.worktree_report.specs.declared.permissions.Permissions.{Permissions}
use Rattle.worktree_report.specs.declared.refusal.Misread.{Misread}
use Rattle.worktree_report.specs.declared.setup.Setup.{Setup}
use Rattle.worktree_report.specs.ConfigFiles.{ConfigFile}
use Rattle.worktree_report.specs.Loading.{count_admitted_configs, continue_unless_misread, count_files_if_submodules_asked, count_files_for_submodules, empty_configuration, append_config_if_admitted, append_admitted_configs}
use Rattle.worktree_report.specs.Loads.{ReadsFilesAtMost, IsErrorOfReadingConfig, IsErrorOfLoadingKnown, IsErrorOfReadingModules}
use Rattle.worktree_report.specs.Outside.{IsMisreadOfActiveSpec, IsMisreadOfNumberedConfig, IsMisreadOfGitmodules, HoldsOfMisread, StopsReadingAtError}
use Rattle.worktree_report.specs.Permissions.{admits}

-- ---- one configuration more

unchanged : {B : Type 0} (r : Result B Misread) → continue_unless_misread (λ (b : B). Ok b) r ≡ r
unchanged (Ok b) = refl
unchanged (Err why) = refl

-- what follows a good answer
follows : {A B : Type 0} (more : A → Result B Misread) (r : Result A Misread) (b : B) → continue_unless_misread more r ≡ Ok b → (a : A) × (r ≡ Ok a) × (more a ≡ Ok b)
follows more (Ok a) b is = (a, refl, is)
follows more (Err why) b is = absurd cc

-- some configurations are in their grammar, and so is the one behind them
pub with_configs-behind : (t : Names) (permissions : Permissions) (at number : ℕ) (xs : List ConfigFile) (y : ConfigFile) (config before after : Configuration)
    → number ≡ at + length xs → append_admitted_configs t permissions at xs config ≡ Ok before → append_config_if_admitted t permissions number y before ≡ Ok after
    → append_admitted_configs t permissions at (xs ++ y ∷ []) config ≡ Ok after
with_configs-behind t permissions at number [] y config before after same is last =
    let here : number ≡ at = omega (arith, same) in
    let start : config ≡ before = cc is in
    unchanged (append_config_if_admitted t permissions at y config) ∙ ap (λ (n : ℕ). append_config_if_admitted t permissions n y config) (sym here)
    ∙ ap (λ (c : Configuration). append_config_if_admitted t permissions number y c) start ∙ last
with_configs-behind t permissions at number (x ∷ xs) y config before after same is last =
    let first = follows (append_admitted_configs t permissions (at + 1) xs) (append_config_if_admitted t permissions at x config) before is in
    ap (continue_unless_misread (append_admitted_configs t permissions (at + 1) (xs ++ y ∷ []))) first.1
    ∙ with_configs-behind t permissions (at + 1) number xs y first.0 before after (omega (arith, same)) first.2 last

pub read_more : (t : Names) (permissions : Permissions) (xs : List ConfigFile) (i : ℕ) (d : ConfigFile) (before after : Configuration) → i < length xs
    → append_admitted_configs t permissions 1 (take i xs) empty_configuration ≡ Ok before → append_config_if_admitted t permissions (i + 1) (get_or xs i d) before ≡ Ok after
    → append_admitted_configs t permissions 1 (take (i + 1) xs) empty_configuration ≡ Ok after
read_more t permissions xs i d before after inside is last =
    let next : i + 1 ≡ suc i = omega arith in
    ap (λ (n : ℕ). append_admitted_configs t permissions 1 (take n xs) empty_configuration) next
    ∙ ap (λ (ys : List ConfigFile). append_admitted_configs t permissions 1 ys empty_configuration) (take-suc xs i d inside)
    ∙ with_configs-behind t permissions 1 (i + 1) (take i xs) (get_or xs i d) empty_configuration before after
    (let so = length-take-le i xs (omega (arith, inside)) in omega (arith, so)) is last

-- what is left of them gives the same
pub same_more : (t : Names) (permissions : Permissions) (xs : List ConfigFile) (i : ℕ) (d : ConfigFile) (before after : Configuration) (total : Result Configuration Misread) → i < length xs
    → append_admitted_configs t permissions (i + 1) (drop i xs) before ≡ total → append_config_if_admitted t permissions (i + 1) (get_or xs i d) before ≡ Ok after
    → append_admitted_configs t permissions (i + 1 + 1) (drop (i + 1) xs) after ≡ total
same_more t permissions xs i d before after total inside same last =
    let next : i + 1 ≡ suc i = omega arith in
    ap (λ (n : ℕ). append_admitted_configs t permissions (i + 1 + 1) (drop n xs) after) next
    ∙ sym (ap (continue_unless_misread (append_admitted_configs t permissions (i + 1 + 1) (drop (suc i) xs))) last)
    ∙ sym (ap (λ (ys : List ConfigFile). append_admitted_configs t permissions (i + 1) ys before) (drop-cons xs i d inside)) ∙ same

admitted_so : (permissions : Permissions) (xs : List ConfigFile) (i : ℕ) (d : ConfigFile) (b : Bool) → i < length xs → admits permissions (get_or xs i d).0 ≡ b
    → count_admitted_configs permissions (take (i + 1) xs) ≡ count_admitted_configs permissions (take i xs) + (if b then 1 else 0)
admitted_so permissions xs i d true inside is = count_by_more_yes (λ (named : ConfigFile). admits permissions named.0) xs i d inside is
admitted_so permissions xs i d false inside is = let same = count_by_more_no (λ (named : ConfigFile). admits permissions named.0) xs i d inside is in omega (arith, same)

-- so many are admitted
admitted_more : (permissions : Permissions) (xs : List ConfigFile) (i : ℕ) (d : ConfigFile) → i < length xs
    → count_admitted_configs permissions (take (i + 1) xs) ≡ count_admitted_configs permissions (take i xs) + (if admits permissions (get_or xs i d).0 then 1 else 0)
admitted_more permissions xs i d inside = admitted_so permissions xs i d (admits permissions (get_or xs i d).0) inside refl

-- and read
pub LoadsFiles-more : {W : Type 0} (w : WorktreeOf W) (w0 wl w1 : W) (permissions : Permissions) (xs : List ConfigFile) (i : ℕ) (d : ConfigFile) → i < length xs
    → ReadsFilesAtMost w w0 wl (count_admitted_configs permissions (take i xs)) → ReadsFilesAtMost w wl w1 (if admits permissions (get_or xs i d).0 then 1 else 0)
    → ReadsFilesAtMost w w0 w1 (count_admitted_configs permissions (take (i + 1) xs))
LoadsFiles-more w w0 wl w1 permissions xs i d inside before now =
    record {
      tree = now.tree ∙ before.tree;
      faults = omega (arith, before.faults, now.faults);
      list_faults = now.list_faults ∙ before.list_faults;
      lists = now.lists ∙ before.lists;
      precomposes = now.precomposes ∙ before.precomposes;
      reads = let more = admitted_more permissions xs i d inside in omega (arith, before.reads, now.reads, more);
      reads_kept = omega (arith, before.reads_kept, now.reads_kept);
    }

-- so many readings were made, and so many more
pub reads-more : (permissions : Permissions) (xs : List ConfigFile) (i : ℕ) (d : ConfigFile) (before middle now : ℕ) → i < length xs
    → saturating_sum before (count_admitted_configs permissions (take i xs)) ≤ middle → saturating_sum middle (if admits permissions (get_or xs i d).0 then 1 else 0) ≤ now
    → saturating_sum before (count_admitted_configs permissions (take (i + 1) xs)) ≤ now
reads-more permissions xs i d before middle now inside first later = let more = admitted_more permissions xs i d inside in omega (arith, first, later, more)

-- what holds where a call answers, and holds in any case
pub on_ok : {T E P : Type 0} (result : Result T E) → P → OnOk result P
on_ok (Ok answer) p = p
on_ok (Err e) p = tt

-- and one file more, where it is read
pub reads-one_more : {T E : Type 0} (result : Result T E) (before middle now files : ℕ) → saturating_sum before files ≤ middle → OnOk result (saturating_sum middle 1 ≤ now)
    → OnOk result (saturating_sum before (files + 1) ≤ now)
reads-one_more (Ok answer) before middle now files first later = omega (arith, first, later)
reads-one_more (Err e) before middle now files first later = tt

-- where submodules are asked for all files are read
pub reads-asked : (setup : Setup) (before now : ℕ) → setup.options.submodules ≡ true → saturating_sum before (count_files_for_submodules setup) ≤ now → saturating_sum before (count_files_if_submodules_asked setup) ≤ now
reads-asked setup before now asked read = subst (λ (b : Bool). saturating_sum before (if b then count_files_for_submodules setup else 0) ≤ now) (sym asked) read

-- no more than all of them are
pub LoadsFiles-within : {W : Type 0} (w : WorktreeOf W) (w0 w1 : W) (permissions : Permissions) (xs : List ConfigFile) (n : ℕ)
    → ReadsFilesAtMost w w0 w1 (count_admitted_configs permissions (take n xs)) → ReadsFilesAtMost w w0 w1 (count_admitted_configs permissions xs)
LoadsFiles-within w w0 w1 permissions xs n loads =
    record {
      tree = loads.tree;
      faults = loads.faults;
      list_faults = loads.list_faults;
      lists = loads.lists;
      precomposes = loads.precomposes;
      reads = let few = sum_by-take-le (λ (named : ConfigFile). if admits permissions named.0 then 1 else 0) xs n in omega (arith, loads.reads, few);
      reads_kept = loads.reads_kept;
    }

-- ---- refusals

at_most_one : (b : Bool) → (if b then 1 else 0) ≤ 1
at_most_one true = omega arith
at_most_one false = omega arith

module _ {W : Type 0} (w : WorktreeOf W) (w0 wl w1 : W) (setup : Setup) where
  -- a configuration is refused, and those before it are read
  pub Stops-config : (Failed : Type 0) (before : ℕ) (named : ConfigFile) (config : Configuration) (e : ReportError)
      → IsErrorOfReadingConfig Failed e → HoldsOfMisread (IsMisreadOfNumberedConfig setup.options.permissions (before + 1) named) e
      → ((t : Names) → w.told w0 ≡ Some t → append_admitted_configs t setup.options.permissions 1 (take before setup.configs) empty_configuration ≡ Ok config)
      → w.reads wl ≤ w.reads w0 + count_admitted_configs setup.options.permissions (take before setup.configs)
      → w.reads w1 ≤ w.reads wl + (if admits setup.options.permissions named.0 then 1 else 0)
      → (d : ConfigFile) → before < length setup.configs → get_or setup.configs before d ≡ named → StopsReadingAtError w w0 w1 setup e
  Stops-config Failed before named config (errors.Config at line) of is read loaded once d inside named_is =
      let more : count_admitted_configs setup.options.permissions (take (before + 1) setup.configs)
      ≡ count_admitted_configs setup.options.permissions (take before setup.configs) + (if admits setup.options.permissions named.0 then 1 else 0) =
      subst
      (λ (x : ConfigFile). count_admitted_configs setup.options.permissions (take (before + 1) setup.configs)
      ≡ count_admitted_configs setup.options.permissions (take before setup.configs) + (if admits setup.options.permissions x.0 then 1 else 0))
      named_is (admitted_more setup.options.permissions setup.configs before d inside) in
      subst (λ (n : ℕ). w.reads w1 ≤ w.reads w0 + count_admitted_configs setup.options.permissions (take n setup.configs)) (sym is.0) (omega (arith, loaded, once, more))
  Stops-config Failed before named config (errors.Modules line) of is read loaded once d inside named_is = absurd of
  Stops-config Failed before named config (errors.ActiveSpec at) of is read loaded once d inside named_is = absurd of
  Stops-config Failed before named config errors.ReadFault of is read loaded once d inside named_is =
      λ t told. record { before = before; config = config; read = read t told; reads = let few = at_most_one (admits setup.options.permissions named.0) in omega (arith, loaded, once, few) }
  Stops-config Failed before named config (errors.Walk e) of is read loaded once d inside named_is = absurd of
  Stops-config Failed before named config errors.OutOfMemory of is read loaded once d inside named_is = tt

  -- `.gitmodules` is refused, and all configurations are read
  pub Stops-modules : (Failed : Type 0) (root : List ℕ) (config : Configuration) (result : Result Modules ReportError) → IfErr result (IsErrorOfReadingModules Failed) → IfErr result (HoldsOfMisread (IsMisreadOfGitmodules root))
      → ((t : Names) → w.told w0 ≡ Some t → append_admitted_configs t setup.options.permissions 1 setup.configs empty_configuration ≡ Ok config)
      → w.reads wl ≤ w.reads w0 + count_admitted_configs setup.options.permissions setup.configs → w.reads w1 ≤ w.reads wl + 1 → IfErr result (StopsReadingAtError w w0 w1 setup)
  Stops-modules Failed root config (Ok modules) of is read loaded once = tt
  Stops-modules Failed root config (Err (errors.Config at line)) of is read loaded once = absurd is
  Stops-modules Failed root config (Err (errors.Modules line)) of is read loaded once = omega (arith, loaded, once)
  Stops-modules Failed root config (Err (errors.ActiveSpec at)) of is read loaded once = absurd of
  Stops-modules Failed root config (Err errors.ReadFault) of is read loaded once =
      λ t told.
      let all : take (length setup.configs) setup.configs ≡ setup.configs = take-length setup.configs in
      record {
        before = length setup.configs;
        config = config;
        read = ap (λ (xs : List ConfigFile). append_admitted_configs t setup.options.permissions 1 xs empty_configuration) all ∙ read t told;
        reads = subst (λ (xs : List ConfigFile). w.reads w1 ≤ w.reads w0 + count_admitted_configs setup.options.permissions xs + 1) (sym all) (omega (arith, loaded, once));
      }
  Stops-modules Failed root config (Err (errors.Walk e)) of is read loaded once = absurd of
  Stops-modules Failed root config (Err errors.OutOfMemory) of is read loaded once = tt

  -- a value of `submodule.active` is refused, and all files are read
  pub Stops-specs : (folds : Bool) (result : Result (Option Known) ReportError) → IfErr result (IsErrorOfLoadingKnown ⊥) → IfErr result (HoldsOfMisread (IsMisreadOfActiveSpec folds))
      → w.reads w1 ≤ w.reads w0 + count_files_for_submodules setup → IfErr result (StopsReadingAtError w w0 w1 setup)
  Stops-specs folds (Ok known) of is loaded = tt
  Stops-specs folds (Err (errors.Config at line)) of is loaded = absurd is
  Stops-specs folds (Err (errors.Modules line)) of is loaded = absurd is
  Stops-specs folds (Err (errors.ActiveSpec at)) of is loaded = loaded
  Stops-specs folds (Err errors.ReadFault) of is loaded = absurd of
  Stops-specs folds (Err (errors.Walk e)) of is loaded = absurd of
  Stops-specs folds (Err errors.OutOfMemory) of is loaded = tt
