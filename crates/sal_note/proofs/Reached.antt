-- Whom an offer reaches.
use Rattle.std.proofs.Common.{◌≡◌, ℕ, List, [], ◌∷◌, ◌++◌, refl, ap, ◌∙◌}
use Rattle.sal_note.specs.declared.call.NoteCall.TheVariants.{Offer}
use Rattle.sal_note.specs.declared.call.NoteReply.{NoteReply}
use Rattle.sal_note.specs.declared.call.NoteReply.TheVariants.{Refused}
use Rattle.sal_note.specs.Laws.{OfferedToEach, RefusedToAll}
use Rattle.sal_note.specs.Queues.{Made, queue, subscribers}
use Rattle.sal_note.proofs.Queued.{offered-one, queue-same}

pub offered-to-each : OfferedToEach
offered-to-each made client note count rows e c =
    ap (λ (r : NoteReply). queue (made ++ record { client = client; call = Offer note rows; reply = r; subscribed = subscribers made note } ∷ []) c) e
    ∙ offered-one made client note rows count c (subscribers made note)

pub refused-to-all : RefusedToAll
refused-to-all made client note rows fault e c =
    ap (λ (r : NoteReply). queue (made ++ record { client = client; call = Offer note rows; reply = r; subscribed = subscribers made note } ∷ []) c) e
    ∙ queue-same made (record { client = client; call = Offer note rows; reply = Refused fault; subscribed = subscribers made note }) c refl refl
