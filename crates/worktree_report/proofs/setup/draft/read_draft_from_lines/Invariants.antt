use Rattle.std.proofs.Common.{◌≡◌, [], map, take, drop}
use Rattle.worktree_report.specs.SetupText.{draft_of_lines, number_of_first_bad_line}
use Rattle.worktree_report.proofs.setup.draft.read_draft_from_lines.Given as goal

abbrev pub invariant-loop-i : goal.invariant-loop-i
invariant-loop-i l =
    let lines = map (λ line. line.now) l.lines in
    record {
      draft : l.draft ≡ draft_of_lines (take l.i lines);
      outside : number_of_first_bad_line (take l.i lines) (drop l.i lines) ≡ number_of_first_bad_line [] lines;
    }
