-- The commits of its domain after its version are those that a take would reach.
use Rattle.std.proofs.Common.{◌≡◌, ◌-◌, ◌<◌, ◌≤◌, true, false, Some, get_or, length, ap, sym, ◌∙◌, arith, nat_lt}
use Rattle.std.specs.Prelude.{slice_get}
use Rattle.std.proofs.lemmas.Grind.{common_steps}
use Rattle.sal_hub.specs.Current.{known_of}
use Rattle.sal_hub.specs.Listeners.{has_in}
use Rattle.sal_hub.proofs.Heard.{named_at, number_within}
use Rattle.sal_hub.proofs.Listed.{slice_get_at}
use Rattle.sal_hub.proofs.Taking.{domain_within}
use Rattle.sal_hub.proofs.Waiting.{commits_wait, none_wait}
use Rattle.sal_hub.proofs.listeners.Listeners.has_commits.Goals as goal

pub has-requires-clause-high : goal.has-requires-clause-high
has-requires-clause-high c =
    let high : c.args.id.number ≤ length c.args.self.now.list.items = number_within (known_of c.args.journal.now c.args.pipeline.now) c.args.self.now c.requires.listeners c.args.id c.requires.token in
    omega (arith, high, c.number-number.ensures)

pub returns-then-not-has : goal.returns-then-not-has
returns-then-not-has c =
    let j = c.args.journal.now in
    let p = c.args.pipeline.now in
    let ls = c.args.self.now in
    let one = named_at (known_of j p) ls c.requires.listeners c.args.id c.requires.token in
    let gone : has_in ls.list.items c.args.client (c.args.id.number - 1) ≡ false = ap (λ n. has_in ls.list.items c.args.client (n - 1)) (sym c.number-number.ensures) ∙ sym c.has.ensures ∙ c.if-not-has.true in
    none_wait j p c.requires.kept ls c.requires.listeners c.args.client c.args.id.number one.0 c.requires.token.0 one.1 gone

pub index-listener-requires : goal.index-listener-requires
index-listener-requires c =
    let high : c.args.id.number ≤ length c.args.self.now.list.items = number_within (known_of c.args.journal.now c.args.pipeline.now) c.args.self.now c.requires.listeners c.args.id c.requires.token in
    let within : c.number-number.result - 1 < length c.args.self.now.list.items = omega (arith, high, c.number-number.ensures, c.requires.token.0) in
    grind (arith, common_steps, within)

pub index-domain-requires : goal.index-domain-requires
index-domain-requires c =
    let j = c.args.journal.now in
    let p = c.args.pipeline.now in
    let ls = c.args.self.now in
    let l = c.index-listener.result.now in
    let n = c.args.id.number in
    let high : n ≤ length ls.list.items = number_within (known_of j p) ls c.requires.listeners c.args.id c.requires.token in
    let at : slice_get ls.list.items (n - 1) ≡ Some l = slice_get_at ls.list.items (n - 1) l (omega (arith, high, c.requires.token.0)) (c.index-listener.ensures ∙ ap (λ k. get_or ls.list.items (k - 1) l) c.number-number.ensures) in
    let within : l.domain < length p.domains.items = domain_within j p c.requires.kept ls c.requires.listeners n l c.requires.token.0 at in
    grind (arith, common_steps, within)

pub returns : goal.returns
returns c =
    let j = c.args.journal.now in
    let p = c.args.pipeline.now in
    let ls = c.args.self.now in
    let l = c.index-listener.result.now in
    let d = c.index-domain.result.now in
    let n = c.args.id.number in
    let high : n ≤ length ls.list.items = number_within (known_of j p) ls c.requires.listeners c.args.id c.requires.token in
    let at : slice_get ls.list.items (n - 1) ≡ Some l = slice_get_at ls.list.items (n - 1) l (omega (arith, high, c.requires.token.0)) (c.index-listener.ensures ∙ ap (λ k. get_or ls.list.items (k - 1) l) c.number-number.ensures) in
    let within : l.domain < length p.domains.items = domain_within j p c.requires.kept ls c.requires.listeners n l c.requires.token.0 at in
    let own : has_in ls.list.items c.args.client (n - 1) ≡ true = ap (λ k. has_in ls.list.items c.args.client (k - 1)) (sym c.number-number.ensures) ∙ sym c.has.ensures ∙ c.if-not-has.false in
    let count : c.len.result ≡ length d.commits.items = grind (arith, common_steps) in
    ap (λ k. nat_lt l.version (k - 1)) count ∙ commits_wait j p c.requires.kept ls c.requires.listeners c.args.client n l c.requires.token.0 at d within c.index-domain.ensures own
