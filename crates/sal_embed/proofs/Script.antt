-- The steps of all clients are a script, played in the order of the log.
use Rattle.std.proofs.Common.{◌≡◌, ℕ, zero, suc, ◌+◌, ◌<◌, ◌≤◌, Bool, if◌then◌else◌, List, [], ◌∷◌, ◌++◌, length, map, Option, None, Some, refl, ap, sym, ◌∙◌, subst, arith, inl, inr}
use Rattle.std.specs.Prelude.{nat_eq, slice_get}
use Rattle.std.specs.List.{range_with_len}
use Rattle.std.proofs.lemmas.Bool.{cases_lt, ne_eqb}
use Rattle.std.proofs.lemmas.List.{length-map}
use Rattle.std.proofs.lemmas.List.Sums.{sum_by-cons}
use Rattle.std.proofs.lemmas.List.FromFn.{length-range_with_len}
use Rattle.std.proofs.lemmas.Option.{same_Some}
use Rattle.sal_history.specs.declared.call.Entry.{Entry}
use Rattle.sal_history.specs.History.{entries_of}
use Rattle.sal_history.specs.World.{Domain}
use Rattle.sal_script.specs.declared.reply.StepReply.{StepReply}
use Rattle.sal_script.specs.Along.{AreLogOf, PerformsAlong, new_run}
use Rattle.sal_script.specs.Moves.{Move}
use Rattle.sal_script.specs.Play.{new_client}
use Rattle.sal_script.specs.Tables.{Versions, versions_of}
use Rattle.sal_script.proofs.Along.{at_end, at_others, at_start}
use Rattle.sal_script.proofs.Left.{what_is_left_is_one_order}
use Rattle.sal_script.proofs.Listed.{get_some}
use Rattle.sal_hub.specs.HubHistory.{HubHistory}
use Rattle.sal_embed.specs.declared.caller.Caller.{Caller}
use Rattle.sal_embed.specs.declared.clients.Clients.{Clients}
use Rattle.sal_embed.specs.Broker.{AreThrough, IsThrough}
use Rattle.sal_embed.specs.Laws.{AreAScript}
use Rattle.sal_embed.specs.Scripts.{Each, Programs, Replies, listed}

-- ---- lists of a function

get_range : {A : Type 0} (f : ℕ → A) (start n i : ℕ) (x : A) → slice_get (map f (range_with_len start n)) i ≡ Some x → (i < n) × (x ≡ f (start + i))
get_range f start zero i x at = cc
get_range f start (suc n) zero x at = let e : start ≡ start + 0 = omega arith in (omega arith, sym (same_Some (f start) x at) ∙ ap f e)
get_range f start (suc n) (suc i) x at =
    let rest = get_range f (start + 1) n i x at in
    let e : (start + 1) + i ≡ start + suc i = omega arith in
    (omega (arith, rest.0), rest.1 ∙ ap f e)

pub get_listed : {A : Type 0} (lists : Each A) (n i : ℕ) (x : List A) → slice_get (listed n lists) i ≡ Some x → (i < n) × (x ≡ lists i)
get_listed lists n i x at =
    let found = get_range lists 0 n i x at in
    let e : 0 + i ≡ i = omega arith in
    (found.0, found.1 ∙ ap lists e)

pub length_listed : {A : Type 0} (lists : Each A) (n : ℕ) → length (listed n lists) ≡ n
length_listed lists n = length-map (range_with_len 0 n) lists ∙ length-range_with_len 0 n

-- ---- a client without a place

pub none_in : (log : List Entry) (c : ℕ) → ((i : ℕ) (e : Entry) → slice_get log i ≡ Some e → e.client ≡ c → ⊥) → entries_of log c ≡ 0
none_in [] c other = refl
none_in (e ∷ log) c other =
    sum_by-cons (λ (x : Entry). if nat_eq x.client c then 1 else 0) e log
    ∙ ap (λ (own : Bool). (if own then 1 else 0) + entries_of log c) (ne_eqb e.client c (λ own. other 0 e refl own))
    ∙ (let rest = none_in log c (λ i x at own. other (suc i) x at own) in let e : 0 + entries_of log c ≡ 0 = omega (arith, rest) in e)

module _ (known : HubHistory) (callers : List Caller) (programs : Programs) (replies : Replies) (come : AreThrough known callers programs replies) where
  abbrev tables : List Versions
  tables = versions_of known.world

  pub beyond : (c : ℕ) → length callers ≤ c → IsThrough known.world known.log c (programs c) (replies c)
  beyond c out =
      let none = come.beyond c out in
      let fresh : IsThrough known.world known.log c [] [] = record {
        client = new_client;
        at = at_others tables known.world c [] known.log [] (new_run []) (none_in known.log c (λ i e at own. let placed = come.placed i e at in omega (arith, placed, out, own))) (at_start tables known.world c []);
        replies = refl;
      } in
      subst (λ (rs : List StepReply). IsThrough known.world known.log c (programs c) rs) (sym none.1) (subst (λ (steps : List Move). IsThrough known.world known.log c steps []) (sym none.0) fresh)

  pub through : (c : ℕ) → IsThrough known.world known.log c (programs c) (replies c)
  through c =
      elim (cases_lt c (length callers)) [
        | inl less ↦ let caller = get_some callers c less in (come.stands c caller.0 caller.1).through
        | inr more ↦ beyond c (omega (arith, more))
      ]

  pub performs : (c : ℕ) → PerformsAlong tables known.world c known.log (programs c) (replies c)
  performs c = subst (λ (rs : List StepReply). PerformsAlong tables known.world c known.log (programs c) rs) (through c).replies (at_end tables known.world c (programs c) known.log (through c).client (through c).at)

  pub left : (n : ℕ) → length callers ≤ n → AreLogOf known.world (listed n programs) known.log (listed n replies)
  left n long = record {
    known = λ i e at. let placed = come.placed i e at in omega (arith, placed, long, length_listed programs n);
    all = length_listed replies n ∙ sym (length_listed programs n);
    each = λ c steps rs at at_rs.
        let mine = get_listed programs n c steps at in
        let his = get_listed replies n c rs at_rs in
        subst (λ (ps : List Move). PerformsAlong tables known.world c known.log ps rs) (sym mine.1) (subst (λ (us : List StepReply). PerformsAlong tables known.world c known.log (programs c) us) (sym his.1) (performs c));
  }

pub are_a_script : (it : Clients) → AreAScript it
are_a_script it programs replies n come long = what_is_left_is_one_order it.hub.world (listed n programs) it.hub.log (listed n replies) (left it.hub it.callers.items programs replies come n long)
