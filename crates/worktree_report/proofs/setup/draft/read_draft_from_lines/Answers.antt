use Rattle.std.proofs.Common.{arith, sym, ◌∙◌, map}
use Rattle.std.proofs.lemmas.List.{length-map}
use Rattle.worktree_report.proofs.SetupLines.{refused_ref, goes_on_ref, all_read}
use Rattle.worktree_report.proofs.setup.draft.read_draft_from_lines.Goals as goal

pub returns-in-None : goal.returns-in-None
returns-in-None c = refused_ref c.args.lines.now _ c.loop-i.i c.loop-i.draft c.loop-i-test.true c.loop-i.invariant.draft c.loop-i.invariant.outside (sym c.in_ok-next.ensures ∙ c.in-None.is)

pub loop-i-preserved : goal.loop-i-preserved
loop-i-preserved c =
    let more = goes_on_ref c.args.lines.now _ c.loop-i.i c.loop-i.draft c.loop-i-test.true c.loop-i.invariant.draft c.loop-i.invariant.outside c.in-Some.next (sym c.in_ok-next.ensures ∙ c.in-Some.is) in
    record { draft = more.0; outside = more.1 }

pub returns : goal.returns
returns c = all_read (map (λ line. line.now) c.args.lines.now) c.loop-i.i c.loop-i.draft (omega (arith, length-map c.args.lines.now (λ line. line.now))) c.loop-i.invariant.draft c.loop-i.invariant.outside
