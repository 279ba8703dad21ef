-- Without candidates none is removed.
use Rattle.std.proofs.Common.{◌≡◌, ℕ, [], true, false, None, Some, refl, ap, sym, ◌∙◌, cond, nat_eq, if◌then◌else◌}
use Rattle.std.specs.Prelude.{is_some, not}
use Rattle.std.specs.BTreeMap.{is_at}
use Rattle.std.specs.List.{filter}
use Rattle.std.specs.Map.{lookup}
use Rattle.std.specs.Option.{option_copied_mut, unwrap_or}
use Rattle.sal_owner.specs.Kept.{queue_at, text_cmp}
use Rattle.sal_owner.proofs.Maps.{itself, same}
use Rattle.sal_owner.proofs.ids.take_out.Goals as goal

pub returns-in-None-clause-queues : goal.returns-in-None-clause-queues
returns-in-None-clause-queues c = λ i.
    let none : lookup (is_at (text_cmp c.args.id.now)) c.args.map.now.entries ≡ None = sym c.get_mut.ensures.value ∙ ap option_copied_mut c.in-None.is in
    let empty : queue_at c.args.map.now.entries c.args.id.now ≡ [] = ap (λ o. unwrap_or o []) none in
    ap (λ (map : _). queue_at map.entries i) c.get_mut.follows.holds-at-none
    ∙ elim (is_at (text_cmp c.args.id.now) i) as (λ b. is_at (text_cmp c.args.id.now) i ≡ b → queue_at c.args.map.now.entries i ≡ (if b then filter (λ (k : ℕ). not (nat_eq c.args.client k)) (queue_at c.args.map.now.entries c.args.id.now) else queue_at c.args.map.now.entries i)) [
      | true ↦ λ e. ap (queue_at c.args.map.now.entries) (sym (same c.args.id.now i e)) ∙ empty ∙ sym (ap (filter (λ (k : ℕ). not (nat_eq c.args.client k))) empty)
      | false ↦ λ e. refl
    ] refl

pub returns-in-Some-clause-empty : goal.returns-in-Some-clause-empty
returns-in-Some-clause-empty c = λ none.
    let found : lookup (is_at (text_cmp c.args.id.now)) c.args.map.now.entries ≡ Some c.in-Some.queue.now = sym c.get_mut.ensures.value ∙ ap option_copied_mut c.in-Some.is in
    ap (λ o. unwrap_or o []) (((c.get_mut.follows.holds c.remove.new.self).3 (ap is_some found)).0 c.args.id.now)
    ∙ ap (λ b. unwrap_or (cond b (Some c.remove.new.self) (lookup (is_at (text_cmp c.args.id.now)) c.args.map.now.entries)) []) (itself c.args.id.now) ∙ c.is_empty.ensures none
