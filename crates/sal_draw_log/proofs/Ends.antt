-- Walks over two lists, of which the second one is at its end, or one of them.
use Rattle.std.proofs.Common.{◌≡◌, ℕ, ◌≤◌, List, [], ◌∷◌, drop, length, min, refl}
use Rattle.sal_history.specs.declared.call.Entry.{Entry}
use Rattle.sal_history.specs.declared.reply.Reply.{Reply}
use Rattle.sal_retell.specs.declared.front.Footing.{Footing}
use Rattle.sal_retell.proofs.Walks.{both_all}
use Rattle.sal_draw_log.specs.Drawn.{made_on, saids_of}

pub made_none : (fs : List Footing) → made_on fs [] ≡ []
made_none [] = refl
made_none (f ∷ fs) = refl

saids_none : (es : List Entry) → saids_of es [] ≡ []
saids_none [] = refl
saids_none (e ∷ es) = refl

pub saids_past : (es : List Entry) (replies : List Reply) (i : ℕ) → min (length es) (length replies) ≤ i → saids_of (drop i es) (drop i replies) ≡ []
saids_past es replies i end = both_all saids_of [] (λ ys. refl) saids_none es replies i end
