use Rattle.tizhagor.specs.Asking.{found_around_asked_directory}
use Rattle.tizhagor.proofs.Here.{by_found, by_root}
use Rattle.tizhagor.proofs.texts.find_setup_and_make_call_text.Goals as goal

pub returns : goal.returns
returns g c =
    let read = c.in_ok-found.ensures.finds in
    by_found g.W.Worktree g.I.Interrupt g.O.Owners _ _ _ _ _ _ (λ t owned. found_around_asked_directory t owned c.args.here.now.current.now c.args.here.now.variables.now c.args.here.now.directory.now c.args.asked.now) c.args.call c.make_call_text-answer.result c.text_result_with_here_refusal.result c.text_result_with_here_refusal.ensures
    (record {
      here = c.in_ok-found.found;
      is = read.gives;
      loaded = c.find_work_tree_around_asked_directory.new.worktree;
      asks = read.keeps;
      unfaulted = read.unfaulted;
      owners = read.owners;
      owners_unfaulted = read.owners_unfaulted;
      made = by_root g.W.Worktree g.I.Interrupt g.O.Owners c.args.worktree.now _ _ _ c.args.owners.now c.find_work_tree_around_asked_directory.new.owners c.args.call c.make_call_text-answer.result c.in_ok-found.found c.find_work_tree_around_asked_directory.new.worktree _ c.as_bytes.ensures c.make_call_text-answer.ensures;
    })
