-- The step is answered, or its call is made; or the log is full, and the client is unchanged.
use Rattle.std.proofs.Common.{◌≡◌, ℕ, List, [], ◌∷◌, Option, None, Some, ap, sym, ◌∙◌, subst}
use Rattle.sal_script.specs.declared.script.ScriptStep.{ScriptStep}
use Rattle.sal_script.specs.Moves.{move_of}
use Rattle.sal_script.specs.Play.{make}
use Rattle.sal_script.specs.Tables.{Versions}
use Rattle.sal_client.specs.Wishes.{GrowsAtMost, ReadBy}
use Rattle.sal_client.specs.declared.wish.Wish.{Wish}
use Rattle.sal_client.specs.Clients.{client_of}
use Rattle.sal_client.specs.Runs.{Comes, IsProgram, MakesNext, moves_from}
use Rattle.sal_embed.proofs.OneStep.{begun, by_call, by_itself, on_fault, on_ok, one_program, stops_by}
use Rattle.sal_embed.proofs.Wished.{asks_as_before}
use Rattle.sal_client.proofs.Soundness.{HasSchema-sound}
use Rattle.sal_embed.proofs.stepping.step_client.Goals as goal

pub next-requires-clause-schema : goal.next-requires-clause-schema
next-requires-clause-schema c κs = HasSchema-sound c.args.readers.now c.args.hub.now c.args.run.now.client c.requires.sound.steady c.requires.tables

pub next-requires-clause-program : goal.next-requires-clause-program
next-requires-clause-program c κs =
    subst (λ (ss : List ScriptStep). IsProgram ss (begun c.args.run.now.client)) (sym c.from_ref.ensures.value) (one_program c.args.step.now c.args.run.now.client c.requires.json)

pub returns-in-Ok-None-clause-answers : goal.returns-in-Ok-None-clause-answers
returns-in-Ok-None-clause-answers c =
    let tables = c.args.readers.now in
    let known = c.args.hub.now in
    let old = c.args.run.now.client in
    let new = c.next.new.self in
    let step = c.args.step.now in
    let is : c.from_ref.result.now ≡ step ∷ [] = c.from_ref.ensures.value in
    let comes =
    subst (λ (ss : List ScriptStep). Comes tables ss (begun old) None new) is
    (subst (λ (o : Option Wish). Comes tables c.from_ref.result.now (begun old) o new) c.in-Ok-None.field-0-is c.in-Ok-None.ensures.comes) in
    by_itself tables known (move_of step) old new.client (comes known c.requires.sound.steady c.requires.tables)

pub returns-in-Ok-Some-clause-answers : goal.returns-in-Ok-Some-clause-answers
returns-in-Ok-Some-clause-answers c =
    let tables = c.args.readers.now in
    let known = c.args.hub.now in
    let old = c.args.run.now.client in
    let mid = c.next.new.self in
    let new = c.make_call.new.run in
    let step = c.args.step.now in
    let wish = c.in-Ok-Some.wish in
    let rest = moves_from mid.at (step ∷ []) in
    let is : c.from_ref.result.now ≡ step ∷ [] = c.from_ref.ensures.value in
    let comes =
    subst (λ (ss : List ScriptStep). Comes tables ss (begun old) (Some wish) mid) is
    (subst (λ (o : Option Wish). Comes tables c.from_ref.result.now (begun old) o mid) c.in-Ok-Some.field-0-is c.in-Ok-Some.ensures.comes) in
    on_ok c.make_call.result
    (λ makes.
    let made = subst (λ (n : ℕ). MakesNext tables n known wish (client_of mid.client) c.make_call.new.hub (client_of new.client)) c.in-Ok-Some.ensures.number (makes tables comes.2) in
    by_call tables known (move_of step) old new.client c.make_call.new.hub rest
    (ap (make tables known.world known.log old.number) (comes.0 known c.requires.sound.steady c.requires.tables) ∙ made.0 rest) made.1)
    c.make_call.ensures.makes

pub returns-in-Ok-Some-clause-stops : goal.returns-in-Ok-Some-clause-stops
returns-in-Ok-Some-clause-stops c =
    let tables = c.args.readers.now in
    let known = c.args.hub.now in
    let old = c.args.run.now.client in
    let mid = c.next.new.self in
    let step = c.args.step.now in
    let wish = c.in-Ok-Some.wish in
    let is : c.from_ref.result.now ≡ step ∷ [] = c.from_ref.ensures.value in
    let comes =
    subst (λ (ss : List ScriptStep). Comes tables ss (begun old) (Some wish) mid) is
    (subst (λ (o : Option Wish). Comes tables c.from_ref.result.now (begun old) o mid) c.in-Ok-Some.field-0-is c.in-Ok-Some.ensures.comes) in
    on_fault c.make_call.result
    (stops_by known c.make_call.new.hub old mid c.make_call.new.run (record {
      client = asks_as_before tables known.world known.log old mid.client (move_of step) wish (moves_from mid.at (step ∷ [])) comes.1 comes.2 (comes.0 known c.requires.sound.steady c.requires.tables);
      number = c.in-Ok-Some.ensures.number;
      sound = c.in-Ok-Some.ensures.sound.sound known c.requires.sound;
    }))
    c.make_call.ensures.refuses

pub make_call-requires-clause-sound : goal.make_call-requires-clause-sound
make_call-requires-clause-sound c = c.in-Ok-Some.ensures.sound.sound c.args.hub.now c.requires.sound

pub make_call-requires-clause-can : goal.make_call-requires-clause-can
make_call-requires-clause-can c =
    (subst (λ (o : Option Wish). Comes c.args.readers.now c.from_ref.result.now (begun c.args.run.now.client) o c.next.new.self) c.in-Ok-Some.field-0-is c.in-Ok-Some.ensures.comes).1

pub make_call-requires-clause-read : goal.make_call-requires-clause-read
make_call-requires-clause-read c =
    let comes = subst (λ (o : Option Wish). Comes c.args.readers.now c.from_ref.result.now (begun c.args.run.now.client) o c.next.new.self) c.in-Ok-Some.field-0-is c.in-Ok-Some.ensures.comes in
    subst (λ (tables : List Versions). ReadBy tables c.in-Ok-Some.wish) c.requires.tables comes.2

pub returns-in-Ok-None-clause-sound : goal.returns-in-Ok-None-clause-sound
returns-in-Ok-None-clause-sound c = c.in-Ok-None.ensures.sound.sound c.args.hub.now c.requires.sound

pub returns-in-Ok-Some-clause-number : goal.returns-in-Ok-Some-clause-number
returns-in-Ok-Some-clause-number c = on_ok c.make_call.result (λ number. number ∙ c.in-Ok-Some.ensures.number) c.make_call.ensures.number

pub returns-in-Ok-Some-clause-grows : goal.returns-in-Ok-Some-clause-grows
returns-in-Ok-Some-clause-grows c = subst (λ (n : ℕ). GrowsAtMost n c.args.hub.now c.make_call.new.hub) c.in-Ok-Some.ensures.number c.make_call.ensures.grows
