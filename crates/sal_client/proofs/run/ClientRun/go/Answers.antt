-- The client answers its local steps, and makes the next shared call.
use Rattle.std.proofs.Common.{ℕ, List, Option, subst}
use Rattle.sal_script.specs.Tables.{Versions}
use Rattle.sal_client.specs.Wishes.{ReadBy}
use Rattle.sal_client.specs.declared.wish.Wish.{Wish}
use Rattle.sal_client.specs.Clients.{client_of}
use Rattle.sal_client.specs.Runs.{Comes, MakesNext}
use Rattle.sal_client.proofs.Going.{goes}
use Rattle.sal_client.proofs.Soundness.{HasSchema-sound}
use Rattle.sal_client.proofs.run.ClientRun.go.Goals as goal

pub next-requires-clause-schema : goal.next-requires-clause-schema
next-requires-clause-schema g c κs _ = HasSchema-sound c.args.readers.now c.args.hub.now c.args.self.now.client c.requires.run.sound.steady c.requires.tables

pub returns-in-Ok-clause-goes : goal.returns-in-Ok-clause-goes
returns-in-Ok-clause-goes g c =
    let tables = c.args.readers.now in
    let steps = c.args.steps.now in
    let known = c.args.hub.now in
    let old = c.args.self.now in
    let mid = c.next.new.self in
    let wish = c.in-Some.wish in
    let comes = subst (λ (o : Option Wish). Comes tables steps old o mid) c.in-Some.is c.in_ok-next.ensures.comes in
    goes tables old.client.number known c.make.new.hub wish steps old mid c.make.new.self comes
    (λ read. subst (λ (n : ℕ). MakesNext tables n known wish (client_of mid.client) c.make.new.hub (client_of c.make.new.self.client)) c.in_ok-next.ensures.number (c.in-Ok.ensures.makes tables read)) c.in-Ok.ensures.at c.requires.run.sound c.requires.tables

pub make-requires-clause-read : goal.make-requires-clause-read
make-requires-clause-read g c =
    let comes = subst (λ (o : Option Wish). Comes c.args.readers.now c.args.steps.now c.args.self.now o c.next.new.self) c.in-Some.is c.in_ok-next.ensures.comes in
    subst (λ (tables : List Versions). ReadBy tables c.in-Some.wish) c.requires.tables comes.2
