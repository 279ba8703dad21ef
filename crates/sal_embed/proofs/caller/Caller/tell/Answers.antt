-- The line of the waiting reply is added, and the reply is dropped.
use Rattle.std.proofs.Common.{◌≡◌, ◌++◌, List, Option, ℕ, refl, ap, ◌∙◌, subst}
use Rattle.std.specs.Prelude.{string_bytes}
use Rattle.sal_prepare.specs.Scripted.{tables_in}
use Rattle.sal_embed.specs.declared.caller.Caller.{Caller}
use Rattle.sal_embed.specs.Callers.{IsTold, line_with}
use Rattle.sal_embed.proofs.Turns.{emptied_told, follows_bytes, follows_same, told_follows}
use Rattle.sal_embed.proofs.caller.Caller.tell.Goals as goal

pub returns-in_err-text-clause-follows : goal.returns-in_err-text-clause-follows
returns-in_err-text-clause-follows c = follows_same (tables_in c.args.schemas.now) c.args.self.now c.args.self.now refl

pub returns-in_default-clause-follows : goal.returns-in_default-clause-follows
returns-in_default-clause-follows c = follows_same (tables_in c.args.schemas.now) c.args.self.now c.args.self.now refl

pub returns-in_err-next-clause-follows : goal.returns-in_err-next-clause-follows
returns-in_err-next-clause-follows c =
    let old = c.args.self.now in
    let mid : Caller = record old { lines = c.add_line.new.lines } in
    follows_bytes (tables_in c.args.schemas.now) old mid refl refl refl c.in_err-next.ensures.same

pub returns-clause-told : goal.returns-clause-told
returns-clause-told c = subst (IsTold (tables_in c.args.schemas.now) c.args.self.now) c.in-Some.is c.in_ok-text.ensures

pub returns-clause-none : goal.returns-clause-none
returns-clause-none c = emptied_told c.args.self.now.run c.forget.new.self.run c.forget.ensures.run

pub returns-clause-follows : goal.returns-clause-follows
returns-clause-follows c =
    let old = c.args.self.now in
    let (r, waits, is) = subst (IsTold (tables_in c.args.schemas.now) old) c.in-Some.is c.in_ok-text.ensures in
    let mid : Caller = record old { lines = c.add_line.new.lines; told = c.in_ok-next.next } in
    told_follows (tables_in c.args.schemas.now) old mid c.forget.new.self r refl refl c.in_ok-next.ensures.next
    (c.in_ok-next.ensures.line ∙ ap (λ (t : List ℕ). string_bytes old.lines ++ line_with old.number old.told t) is) waits c.forget.ensures
