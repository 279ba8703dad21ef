-- The results of a look for a mark and of a pump, as replies.
use Rattle.std.specs.Prelude.{◌≡◌, ℕ, Option, None, Some}
use Rattle.sal_rows.specs.declared.outcome.Outcome.{Outcome}
use Rattle.sal_history.specs.declared.reply.Reply.{Reply}
use Rattle.sal_history.specs.declared.reply.Reply.TheVariants.{Decided, Nothing, Found as SaysFound, Late as SaysLate}
use Rattle.sal_hub.specs.declared.receipt.Receipt.{Receipt}
use Rattle.sal_hub.specs.declared.seen.Seen.{Seen}
use Rattle.sal_hub.specs.declared.seen.Seen.TheVariants.{Found, Late}

abbrev pub seen_reply : Seen → Reply
seen_reply Found = SaysFound
seen_reply (Late looks front) = SaysLate

-- a log of this length was looked at once
abbrev pub LooksOnce : ℕ → Seen → Type 0
LooksOnce long Found = Unit {0}
LooksOnce long (Late looks front) = (looks ≡ 1) × (front ≡ long)

abbrev pub pump_reply : Option (Receipt × Outcome) → Reply
pump_reply None = Nothing
pump_reply (Some decided) = Decided decided.0.number decided.0.domain decided.1
