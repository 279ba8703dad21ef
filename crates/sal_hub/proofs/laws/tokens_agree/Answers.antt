-- Each has the trees of the entry at its place.
use Rattle.std.proofs.Common.{◌≡◌, ap, sym, ◌∙◌, if◌then◌else◌, nat_eq}
use Rattle.std.proofs.lemmas.Option.{same_Some}
use Rattle.sal_tx.specs.Views.{rows_in}
use Rattle.sal_history.specs.History.{began_at, history}
use Rattle.sal_history.specs.Submissions.{Base}
use Rattle.sal_history.specs.Versions.{version_at}
use Rattle.sal_history.specs.World.{table_of}
use Rattle.sal_hub.specs.Begins.{mode_at, on_at}
use Rattle.sal_hub.proofs.laws.tokens_agree.Goals as goal

pub returns : goal.returns
returns c = λ known a b mode mode' trees trees' same one other.
    let answered = history known.world known.log in
    let first : Base = record { domain = a.domain; commit = a.base_commit; chain = a.chain; trees = rows_in trees } in
    let second : Base = record { domain = b.domain; commit = b.base_commit; chain = b.chain; trees = rows_in trees' } in
    let base : first ≡ second = same_Some first second (sym one.began ∙ ap (began_at answered) same ∙ other.began) in
    let domain : a.domain ≡ b.domain = ap (λ (x : Base). x.domain) base in
    let version : a.version ≡ b.version = one.version ∙ (λ i. if nat_eq (domain i) 0 then version_at answered (same i) else 0) ∙ sym other.version in
    record {
      mode = same_Some mode mode' (sym one.mode ∙ ap (mode_at answered) same ∙ other.mode);
      on = same_Some a.on b.on (sym one.on ∙ ap (on_at answered) same ∙ other.on);
      domain = domain;
      commit = ap (λ (x : Base). x.commit) base;
      chain = ap (λ (x : Base). x.chain) base;
      version = version;
      schema = one.schema ∙ (λ i. table_of known.world (version i) (domain i)) ∙ sym other.schema;
      rows = λ s. ap (λ (x : Base). x.trees s) base;
    }
