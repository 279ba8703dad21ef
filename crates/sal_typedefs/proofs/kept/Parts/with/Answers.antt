use Rattle.std.proofs.Common.{◌∙◌, sym}
use Rattle.sal_typedefs.proofs.SettledLists.{parts-more, both-true}
use Rattle.sal_typedefs.proofs.kept.Parts.with.Goals as goal

pub returns : goal.returns
returns c w sites site are is =
    parts-more w sites site c.args.self _ c.args.one are is c.in_ok-append.ensures c.greater-deepest.ensures.first c.greater-deepest.ensures.second c.greater-highest.ensures.first c.greater-highest.ensures.second
    (λ e. both-true c.args.self.plain c.args.one.plain (sym c.both.ensures ∙ e))
