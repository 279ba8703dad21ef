-- The entry is the log's next.
use Rattle.std.proofs.Common.{◌≡◌, ◌+◌, ◌-◌, length, Some, None, refl, ap, sym, ◌∙◌, subst}
use Rattle.sal_tx.specs.declared.begun.Begun.{Begun}
use Rattle.sal_history.specs.declared.call.Call.TheVariants.{Submit}
use Rattle.sal_history.specs.declared.reply.Reply.TheVariants.{Receipt}
use Rattle.sal_hub.specs.declared.receipt.Receipt.{Receipt as Given}
use Rattle.sal_hub.specs.Answers.{Made}
use Rattle.sal_hub.specs.Current.{known_of}
use Rattle.sal_hub.specs.Journals.{mark_at}
use Rattle.sal_hub.specs.HubHistory.{entry_of}
use Rattle.sal_hub.specs.Submits.{refusal_of}
use Rattle.sal_hub.specs.Tokens.{IsGiven}
use Rattle.sal_hub.proofs.Settling.{few}
use Rattle.sal_hub.proofs.Submitting.{accepted_given, accepted_kept, accepted_made, fails_by, refused_kept, refused_made}
use Rattle.sal_hub.proofs.submit.submit.Goals as goal

pub returns-in-Ok : goal.returns-in-Ok
returns-in-Ok c =
    let j = c.args.journal.now in
    let p = c.args.pipeline.now in
    let tx = c.args.tx in
    let pending = p.gone + length p.waiting.items - length p.outcomes.items in
    let why : refusal_of pending (mark_at j.marks tx.begun.place) ≡ Some c.in-Some.fault =
    sym (c.refusal.ensures ∙ ap (λ (b : Begun). refusal_of pending (mark_at j.marks b.place)) c.begun.ensures) ∙ c.in-Some.is in
    record {
      kept = refused_kept j c.note.new.journal p c.requires.kept c.args.client tx.begun.place tx.changes c.in-Ok.ensures.log c.in-Some.fault why c.in-Ok.ensures.marks;
      answer = (
        refl,
        fails_by (known_of j p) (known_of c.note.new.journal p) (entry_of (known_of j p) c.args.client (Submit tx.begun.place tx.changes)) pending (mark_at j.marks tx.begun.place) c.in-Some.fault why
            (refused_made j c.note.new.journal p c.requires.kept c.args.client tx.begun.place tx.changes c.in-Ok.ensures.log c.in-Some.fault c.requires.room why),
      );
      given = tt;
    }

pub returns-in-Ok-accept : goal.returns-in-Ok-accept
returns-in-Ok-accept c =
    let j = c.args.journal.now in
    let p = c.args.pipeline.now in
    let tx = c.args.tx in
    let pending = p.gone + length p.waiting.items - length p.outcomes.items in
    let free : refusal_of pending (mark_at j.marks tx.begun.place) ≡ None =
    sym (c.refusal.ensures ∙ ap (λ (b : Begun). refusal_of pending (mark_at j.marks b.place)) c.begun.ensures) ∙ c.in-None.is in
    let done = c.in-Ok-accept.ensures in
    record {
      kept = accepted_kept j c.accept.new.journal p c.accept.new.pipeline c.requires.kept c.args.client tx c.requires.token done.right done.waiting.0 done.waiting.1 done.log free c.requires.member done.domains done.failures done.outcomes done.gone done.waiting.2 done.marks;
      answer = subst (λ (r : Given). Made (known_of j p) (known_of c.accept.new.journal c.accept.new.pipeline) (entry_of (known_of j p) c.args.client (Submit tx.begun.place tx.changes)) (Receipt r.number)) (sym done.receipt)
          (accepted_made j c.accept.new.journal p c.accept.new.pipeline c.requires.kept c.args.client tx c.requires.token done.right done.waiting.0 done.waiting.1 done.log free c.requires.member done.domains done.failures done.outcomes done.gone done.waiting.2 done.marks c.requires.room);
      given = subst (λ (r : Given). IsGiven (known_of c.accept.new.journal c.accept.new.pipeline) r) (sym done.receipt)
          (accepted_given j c.accept.new.journal p c.accept.new.pipeline c.requires.kept c.args.client tx c.requires.token done.right done.waiting.0 done.waiting.1 done.log free c.requires.member done.domains done.failures done.outcomes done.gone done.waiting.2 done.marks);
    }

pub accept-requires-clause-few : goal.accept-requires-clause-few
accept-requires-clause-few c = few c.args.journal.now c.args.pipeline.now c.requires.kept

pub refusal-requires : goal.refusal-requires
refusal-requires c = c.requires.kept.let_go
