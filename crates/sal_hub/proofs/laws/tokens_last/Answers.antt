-- The front of the log stays; submissions and chains are only added.
use Rattle.std.proofs.Common.{◌-◌, ◌∷◌, [], List, ℕ, ap, sym, if◌then◌else◌, nat_eq, ◌∙◌, arith, length-append}
use Rattle.std.specs.Prelude.{slice_get}
use Rattle.std.specs.Option.{option_to_list}
use Rattle.sal_history.specs.Versions.{version_at}
use Rattle.sal_history.proofs.Versions.{version_at-stays}
use Rattle.sal_history.specs.History.{Answered, chain_domains, history, opened_chain, reply_to}
use Rattle.sal_hub.specs.Begins.{mode_by, on_by}
use Rattle.sal_hub.proofs.Histories.{began_at-push, chains-push, found-push, history-push, length-history, now_of}
use Rattle.sal_hub.proofs.Listed.{slice_get_more}
use Rattle.sal_hub.proofs.Listened.{named_last, made_last}
use Rattle.sal_hub.proofs.Routed.{call_last}
use Rattle.sal_hub.proofs.Settling.{given_last}
use Rattle.sal_hub.proofs.laws.tokens_last.Goals as goal

pub returns-clause-begun : goal.returns-clause-begun
returns-clause-begun c = λ known e begun mode base was. record {
  before = omega (arith, was.before, length-append known.log (e ∷ []));
  began = began_at-push known.world known.log e begun.place was.before ∙ was.began;
  schema = was.schema;
  version =
      was.version
      ∙ ap (λ v. if nat_eq begun.domain 0 then v else 0)
      (sym (ap (λ (answered : List Answered). version_at answered begun.place) (history-push known.world known.log e)
      ∙ version_at-stays (history known.world known.log) (now_of known.world (history known.world known.log) e) begun.place (omega (arith, was.before, length-history known.world known.log))));
  mode = found-push known.world (λ (a : Answered). mode_by a.entry.call) known.log e begun.place mode was.mode;
  on = found-push known.world (λ (a : Answered). on_by a.reply) known.log e begun.place begun.on was.on;
}

pub returns-clause-given : goal.returns-clause-given
returns-clause-given c = λ known e receipt was. given_last known e receipt was

pub returns-clause-opened : goal.returns-clause-opened
returns-clause-opened c = λ known e chain was. (
  was.0,
  ap (λ (ds : List ℕ). slice_get ds (chain.id - 1)) (chains-push known.world known.log e)
      ∙ slice_get_more (chain_domains (history known.world known.log)) (option_to_list (opened_chain e.call (reply_to known.world (history known.world known.log) e.client e.call))) (chain.id - 1) chain.domain was.1,
)

pub returns-clause-listener : goal.returns-clause-listener
returns-clause-listener c = λ known e id was. named_last known e id was

pub returns-clause-called : goal.returns-clause-called
returns-clause-called c = λ known e id was. call_last known e id was

pub returns-clause-made : goal.returns-clause-made
returns-clause-made c = λ known e id l was. made_last known e id.number l was
