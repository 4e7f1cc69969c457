use Rattle.std.proofs.Common.{◌≡◌, ◌∙◌, ap, sym, List, ℕ, ◌∷◌, ◌++◌, []}
use Rattle.check_ignore.specs.Unquoted.{unquote_c_style_after_opening_quote}
use Rattle.check_ignore.proofs.Unquoting.{behind, one_more}
use Rattle.check_ignore.proofs.quotes.unquote_c_style_after_opening_quote.Goals as goal

pub loop-rest-preserved : goal.loop-rest-preserved
loop-rest-preserved c =
    ap (λ (text : List ℕ). behind text (unquote_c_style_after_opening_quote 0 c.bytes_after_count-rest.result.now)) c.in_ok-push.ensures.items
    ∙ ap (λ (rest : List ℕ). behind (c.loop-rest.text.items ++ c.in-Some.meant.byte ∷ []) (unquote_c_style_after_opening_quote 0 rest)) c.bytes_after_count-rest.ensures
    ∙ one_more c.loop-rest.text.items c.loop-rest.rest.now c.in-Some.meant c.if-first-eq34.false (sym c.in-Some.ensures.value) c.in-Some.ensures.some
    ∙ c.loop-rest.invariant
