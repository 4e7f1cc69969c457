use Rattle.std.proofs.Common.{◌≡◌, ◌≤◌, ◌^◌, ◌+◌, length, sym, subst, rules, arith}
use Rattle.std.specs.Prelude.{IfSome}
use Rattle.worktree_fs.proofs.Lists.Taken.{all_given, if_answered}
use Rattle.worktree_fs.proofs.disk.node.read_to_end_within_limit.Goals as goal

pub returns-in-Ok-clause-whole : goal.returns-in-Ok-clause-whole
returns-in-Ok-clause-whole g c =
    let buf = c.read_to_end.new.buf in
    let bytes = buf.items in
    let known = g.R.Read.remaining c.args.reader in
    let whole : length bytes ≤ 2 ^ 30 → IfSome known (λ given. bytes ≡ given) = λ fits.
    let limit : c.take.result.limit ≡ 2 ^ 30 + 1 = search rules in
    subst (λ reader. IfSome (g.R.Read.remaining reader) (λ given. bytes ≡ given)) c.take.ensures.inner
    (all_given (g.R.Read.remaining c.take.result.inner) c.take.result.limit c.new-bytes.result.items bytes c.new-bytes.ensures.items c.in-Ok.ensures.bytes (omega (arith, limit, fits))) in
    if_answered c.bytes_if_within_file_limit.result (λ kept. (kept ≡ buf) × (length bytes ≤ 2 ^ 30)) (λ kept. IfSome known (λ given. kept.items ≡ given)) _
    (λ kept is. subst (λ v. IfSome known (λ given. v.items ≡ given)) (sym is.0) (whole is.1)) c.bytes_if_within_file_limit.ensures
