-- The reply of one client more is written.
use Rattle.std.proofs.Common.{◌≡◌, ◌≤◌, ◌<◌, ℕ, List, [], length, arith, sym, ap, ◌∙◌, subst}
use Rattle.sal_script.specs.declared.reply.StepReply.{StepReply}
use Rattle.sal_prepare.specs.Scripted.{tables_in}
use Rattle.sal_embed.specs.Broker.{untold}
use Rattle.sal_embed.proofs.Following.{all_told, follow_none, follow_set, near_set, told_set}
use Rattle.sal_embed.proofs.Made.{get_at}
use Rattle.sal_embed.proofs.clients.tell_all.Goals as goal

pub loop-i-init : goal.loop-i-init
loop-i-init c = record {
  follow = follow_none (tables_in c.args.schemas.now) c.args.callers.now.items;
  near = c.requires;
  told = λ k caller below at. absurd (omega (arith, below));
}

pub tell-requires : goal.tell-requires
tell-requires c =
    let mids = c.loop-i.callers.items in
    let i = c.loop-i.i in
    let mid = c.index_mut-caller.result.now in
    let was = c.loop-i.invariant in
    let within : i < length mids = omega (arith, c.len-i-end.ensures, was.follow.long) in
    record { few = was.near i mid (get_at mids i mid within c.index_mut-caller.ensures.value) }

pub returns-in_err-tell-clause-follow : goal.returns-in_err-tell-clause-follow
returns-in_err-tell-clause-follow c =
    let mids = c.loop-i.callers.items in
    let i = c.loop-i.i in
    let mid = c.index_mut-caller.result.now in
    let was = c.loop-i.invariant in
    let within : i < length mids = omega (arith, c.len-i-end.ensures, was.follow.long) in
    follow_set (tables_in c.args.schemas.now) c.args.callers.now.items mids i mid c.tell.new.self was.follow within c.index_mut-caller.ensures.value c.tell.ensures.follows

pub loop-i-preserved : goal.loop-i-preserved
loop-i-preserved c =
    let mids = c.loop-i.callers.items in
    let i = c.loop-i.i in
    let mid = c.index_mut-caller.result.now in
    let new = c.tell.new.self in
    let was = c.loop-i.invariant in
    let within : i < length mids = omega (arith, c.len-i-end.ensures, was.follow.long) in
    let none : untold new ≡ [] = c.in_ok-tell.ensures.none in
    record {
      follow = follow_set (tables_in c.args.schemas.now) c.args.callers.now.items mids i mid new was.follow within c.index_mut-caller.ensures.value c.tell.ensures.follows;
      near = near_set mids i new was.near (subst (λ (rs : List StepReply). length rs ≤ 1) (sym none) (omega arith));
      told = told_set mids i new was.told none;
    }

pub returns-clause-told : goal.returns-clause-told
returns-clause-told c =
    let mids = c.loop-i.callers.items in
    let was = c.loop-i.invariant in
    all_told mids c.loop-i.i (omega (arith, c.loop-i-test.false, c.len-i-end.ensures, was.follow.long)) was.told
