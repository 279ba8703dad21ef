-- Each kind of call, for the wish that it is for.
use Rattle.std.proofs.Common.{subst}
use Rattle.sal_script.specs.Tables.{versions_of}
use Rattle.sal_client.specs.declared.wish.Wish.{Wish}
use Rattle.sal_client.specs.Wishes.{ReadBy}
use Rattle.sal_client.proofs.Leaving.{leaves_for}
use Rattle.sal_client.proofs.client.ClientState.call.Goals as goal

pub returns-in-Begin : goal.returns-in-Begin
returns-in-Begin c = leaves_for c.args.wish _ c.args.hub.now c.begin.new.hub c.args.self.now c.begin.new.self c.begin.result c.in-Begin.is c.begin.ensures

pub returns-in-Submit : goal.returns-in-Submit
returns-in-Submit c = leaves_for c.args.wish _ c.args.hub.now c.submit.new.hub c.args.self.now c.submit.new.self c.submit.result c.in-Submit.is c.submit.ensures

pub returns-in-Cancel : goal.returns-in-Cancel
returns-in-Cancel c = leaves_for c.args.wish _ c.args.hub.now c.cancel.new.hub c.args.self.now c.cancel.new.self c.cancel.result c.in-Cancel.is c.cancel.ensures

pub returns-in-Settle : goal.returns-in-Settle
returns-in-Settle c = leaves_for c.args.wish _ c.args.hub.now c.settle.new.hub c.args.self.now c.args.self.now c.settle.result c.in-Settle.is c.settle.ensures

pub returns-in-OpenChain : goal.returns-in-OpenChain
returns-in-OpenChain c = leaves_for c.args.wish _ c.args.hub.now c.open_chain.new.hub c.args.self.now c.open_chain.new.self c.open_chain.result c.in-OpenChain.is c.open_chain.ensures

pub returns-in-ChainBegin : goal.returns-in-ChainBegin
returns-in-ChainBegin c = leaves_for c.args.wish _ c.args.hub.now c.chain_begin.new.hub c.args.self.now c.chain_begin.new.self c.chain_begin.result c.in-ChainBegin.is c.chain_begin.ensures

pub returns-in-CloseChain : goal.returns-in-CloseChain
returns-in-CloseChain c = leaves_for c.args.wish _ c.args.hub.now c.close_chain.new.hub c.args.self.now c.args.self.now c.close_chain.result c.in-CloseChain.is c.close_chain.ensures

pub returns-in-Pump : goal.returns-in-Pump
returns-in-Pump c = leaves_for c.args.wish _ c.args.hub.now c.pump.new.hub c.args.self.now c.args.self.now c.pump.result c.in-Pump.is c.pump.ensures

pub returns-in-Listen : goal.returns-in-Listen
returns-in-Listen c = leaves_for c.args.wish _ c.args.hub.now c.listen.new.hub c.args.self.now c.listen.new.self c.listen.result c.in-Listen.is c.listen.ensures

pub returns-in-Take : goal.returns-in-Take
returns-in-Take c = leaves_for c.args.wish _ c.args.hub.now c.take.new.hub c.args.self.now c.take.new.self c.take.result c.in-Take.is c.take.ensures

pub returns-in-Unlisten : goal.returns-in-Unlisten
returns-in-Unlisten c = leaves_for c.args.wish _ c.args.hub.now c.unlisten.new.hub c.args.self.now c.args.self.now c.unlisten.result c.in-Unlisten.is c.unlisten.ensures

pub returns-in-Rpc : goal.returns-in-Rpc
returns-in-Rpc c = leaves_for c.args.wish _ c.args.hub.now c.call_rpc.new.hub c.args.self.now c.call_rpc.new.self c.call_rpc.result c.in-Rpc.is c.call_rpc.ensures

pub returns-in-Note : goal.returns-in-Note
returns-in-Note c = leaves_for c.args.wish _ c.args.hub.now c.call_note.new.hub c.args.self.now c.args.self.now c.call_note.result c.in-Note.is c.call_note.ensures

pub returns-in-Mount : goal.returns-in-Mount
returns-in-Mount c = leaves_for c.args.wish _ c.args.hub.now c.call_mount.new.hub c.args.self.now c.args.self.now c.call_mount.result c.in-Mount.is c.call_mount.ensures

pub returns-in-Mark : goal.returns-in-Mark
returns-in-Mark c = leaves_for c.args.wish _ c.args.hub.now c.mark.new.hub c.args.self.now c.args.self.now c.mark.result c.in-Mark.is c.mark.ensures

pub returns-in-After : goal.returns-in-After
returns-in-After c = leaves_for c.args.wish _ c.args.hub.now c.after.new.hub c.args.self.now c.args.self.now c.after.result c.in-After.is c.after.ensures

pub returns-in-Upgrade : goal.returns-in-Upgrade
returns-in-Upgrade c = leaves_for c.args.wish _ c.args.hub.now c.upgrade.new.hub c.args.self.now c.args.self.now c.upgrade.result c.in-Upgrade.is c.upgrade.ensures

pub upgrade-requires-clause-read : goal.upgrade-requires-clause-read
upgrade-requires-clause-read c = subst (λ (w : Wish). ReadBy (versions_of c.args.hub.now.world) w) c.in-Upgrade.is c.requires.read
