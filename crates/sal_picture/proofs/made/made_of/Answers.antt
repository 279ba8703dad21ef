-- The domains of a hub have their commits' receipts as its log gives them.
use Rattle.std.proofs.Common.{◌≡◌, ℕ, List, ap, sym, ◌∙◌}
use Rattle.std.specs.Prelude.{Option, Vec, map}
use Rattle.std.specs.declared.alloc.Global.{Global}
use Rattle.std.specs.List.{range_with_len}
use Rattle.std.proofs.lemmas.Result.{IfOk-weaker}
use Rattle.sal_history.specs.History.{history, outcomes, sents}
use Rattle.sal_hub.specs.CommitReceipts.{commit_receipts}
use Rattle.sal_draw.specs.Acts.{made_in}
use Rattle.sal_shapes.specs.declared.scene.Made.{Made}
use Rattle.sal_picture.specs.Made.{made_among, made_at, receipts_in, receipts_of}
use Rattle.sal_picture.proofs.Tables.{all_receipts, zero_plus}
use Rattle.sal_picture.proofs.made.made_of.Goals as goal

pub made_among-requires : goal.made_among-requires
made_among-requires c = λ n d lt is. (c.domains.ensures.each n d lt is).number

pub returns : goal.returns
returns c =
    let known = c.args.hub.now in
    let ds = c.domains.result.now in
    let f : ℕ → List ℕ = λ domain. commit_receipts domain (sents (history known.world known.log)) (outcomes (history known.world known.log)) in
    let same : map receipts_in ds ≡ receipts_of known = all_receipts f ds 0 (λ k d lt is. (c.domains.ensures.each k d lt is).receipts ∙ ap f (zero_plus k)) ∙ ap (λ (n : ℕ). map f (range_with_len 0 n)) c.domains.ensures.all in
    IfOk-weaker c.made_among.result (λ (table : Vec (Option Made) Global). (i : ℕ) → made_in table.items i ≡ made_among 0 (map receipts_in ds) i) (λ (table : Vec (Option Made) Global). (i : ℕ) → made_in table.items i ≡ made_at known i) (λ table h i. h i ∙ ap (λ (rs : List (List ℕ)). made_among 0 rs i) same) c.made_among.ensures
