use Rattle.std.proofs.Common.{◌≡◌, ◌≤◌, ℕ, length, ap, sym, ◌∙◌, subst}
use Rattle.std.specs.Option.{unwrap_or}
use Rattle.sal_note.specs.Clients.{first_from}
use Rattle.sal_note.proofs.Ascending.{found-place, within-place}
use Rattle.sal_note.proofs.clients.first_from.Goals as goal

pub returns : goal.returns
returns c =
    let place : c.unwrap_or.result ≡ first_from c.args.client c.args.list.now = c.unwrap_or.ensures ∙ ap (λ o. unwrap_or o (length c.args.list.now)) c.not_below.ensures ∙ found-place c.args.client c.args.list.now in
    record {
      place = place;
      within = subst (λ (n : ℕ). n ≤ length c.args.list.now) (sym place) (within-place c.args.client c.args.list.now);
    }
