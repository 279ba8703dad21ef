-- Each submission of a hub is of a transaction that began, and lawful.
use Rattle.std.proofs.Common.{List, subst}
use Rattle.sal_history.specs.History.{Answered, history, outcomes, sents}
use Rattle.sal_history.specs.World.{opening_of}
use Rattle.sal_history_laws.specs.Logs.{AreSentLawful, AreSound}
use Rattle.sal_history_laws.specs.Serial.{IsOfBegun}
use Rattle.sal_hub.specs.Begins.{AreOfWriters}
use Rattle.sal_hub.specs.HubHistory.{HubHistory}
use Rattle.sal_hub.proofs.Writers.{all_serial, sents_begun}
use Rattle.sal_hub.proofs.hub.Hub.stays_serialisable.Goals as goal

pub returns : goal.returns
returns c =
    let known = c.args.self.now in
    let answered : List Answered = history known.world known.log in
    let laws = c.checked_runs_are_serialisable.ensures in
    let current = c.self.invariant.kept.current in
    let sound : AreSound known.world = subst (λ (k : HubHistory). AreSound k.world) c.self.view_is current.openings in
    let lawful : AreSentLawful known.world answered = subst (λ (k : HubHistory). AreSentLawful k.world (history k.world k.log)) c.self.view_is current.lawful in
    let writers : AreOfWriters answered = subst (λ (k : HubHistory). AreOfWriters (history k.world k.log)) c.self.view_is current.writers in
    let serial = laws.log known.world known.log in record {
      log = serial;
      reads = λ domain. all_serial (IsOfBegun answered) domain (sents answered) (outcomes answered) (sents_begun answered writers) (opening_of known.world domain) (serial.reads domain);
      receipt = λ i t commit done. laws.receipt known.world known.log i t commit done.0 done.1 (sents_begun answered writers i t done.0);
      read = λ i t commit s path ops more done is. laws.read known.world known.log i t commit s path ops more done.0 done.1 (sents_begun answered writers i t done.0) is;
      writes = λ i t commit done. c.accepted_writes_stand.ensures.log known.world known.log i t commit sound lawful done.0 done.1;
    }
