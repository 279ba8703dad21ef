-- A session whose stand-by leads, or stays.
use Rattle.std.proofs.Common.{◌≡◌, ℕ, [], Result, Ok, Err, refl, ap, sym, subst, ◌∙◌}
use Rattle.sal_cluster.specs.declared.leader.Leader.{Leader}
use Rattle.sal_session.specs.declared.answer.Answer.{Answer}
use Rattle.sal_session.specs.declared.role.Role.{Role}
use Rattle.sal_session.specs.declared.role.Role.TheVariants.{Broker, Closed, StandBy}
use Rattle.sal_session.specs.declared.session.Session.{Session}
use Rattle.sal_session.specs.declared.text.Text.{Text}
use Rattle.sal_session.specs.Streams.{IsLead, IsLed, LeadsIf}
use Rattle.sal_session.specs.Texts.{told}

-- the stand-by is the broker
pub led_to : (role : Role) (version : ℕ) (it : Leader) (new : Session) → IsLed role version (Ok it) → new.role ≡ Broker it → told new.text ≡ [] → LeadsIf role version new 0
led_to Closed version it new is same text = absurd is
led_to (Broker old) version it new is same text = absurd is
led_to (StandBy old) version it new is same text = (Ok it, is, (refl, same, text))

-- it stays, or there was none
pub stays : (role : Role) (version : ℕ) (it : Answer) (new : Session) (n : ℕ) → IsLed role version (Err it) → n ≡ it.number → new.text ≡ it.text → new.role ≡ role → LeadsIf role version new n
stays Closed version it new n is number text same = (number ∙ is.0, same, ap told text ∙ is.1)
stays (Broker old) version it new n is number text same = (number ∙ is.0, same, ap told text ∙ is.1)
stays (StandBy old) version it new n is number text same =
    (Err is.0, is.1, (same, subst (λ (m : ℕ). IsLead is.0 m (told new.text)) (sym number) (subst (λ (t : Text). IsLead is.0 it.number (told t)) (sym text) is.2)))
