-- A fault on the way is the fault of all.
use Rattle.std.proofs.Common.{◌≡◌, Result, Ok, Err, ap, sym, ◌∙◌, subst, refl}
use Rattle.std.specs.Prelude.{IfOk}
use Rattle.std.specs.Result.{IsErrAnd}
use Rattle.sal_types.specs.declared.memory.NoMemory.{NoMemory as Wanting}
use Rattle.sal_types.specs.Reading.{◌>>=◌}
use Rattle.sal_script.specs.declared.reply.StepRefusal.{StepRefusal}
use Rattle.sal_script.specs.declared.reply.StepReply.{StepReply}
use Rattle.sal_script.specs.declared.reply.StepReply.TheVariants as reply
use Rattle.sal_client.specs.declared.fault.StepFault.{StepFault}
use Rattle.sal_client.specs.declared.fault.StepFault.TheVariants.{Refused, NoMemory}
use Rattle.sal_client.specs.Faults.{IsRefusal, Refuses}

-- of what is read before the rest
pub refuses_on : {X Y : Type 0} (fault : StepFault) (read : Result X StepRefusal) (f : X → Result Y StepRefusal) → Refuses fault read → Refuses fault (read >>= f)
refuses_on (Refused refusal) read f is = ap (λ r. r >>= f) is
refuses_on NoMemory read f is = tt

-- and of what is read after it
pub refuses_behind : {X Y : Type 0} (fault : StepFault) (read : Result X StepRefusal) (x : X) (f : X → Result Y StepRefusal) → read ≡ Ok x → Refuses fault (f x) → Refuses fault (read >>= f)
refuses_behind (Refused refusal) read x f here is = ap (λ r. r >>= f) here ∙ is
refuses_behind NoMemory read x f here is = tt

-- the refusal, where it is one
pub refuses_is : {X : Type 0} (fault : StepFault) (refusal : StepRefusal) (read : Result X StepRefusal) → fault ≡ Refused refusal → Refuses fault read → read ≡ Err refusal
refuses_is fault refusal read e is = subst (λ (f : StepFault). Refuses f read) e is

-- what holds of the reply to each refusal holds of the reply to the fault
pub if_refused : (fault : StepFault) (result : Result StepReply Wanting) (P : StepReply → Type 0) → IsRefusal fault result → ((refusal : StepRefusal) → fault ≡ Refused refusal → P (reply.Refused refusal)) → IfOk result P
if_refused (Refused refusal) (Ok r) P is so = subst P (sym is) (so refusal refl)
if_refused (Refused refusal) (Err wanting) P is so = tt
if_refused NoMemory (Ok r) P is so = absurd is
if_refused NoMemory (Err wanting) P is so = tt

-- what follows from what holds of an Ok
pub if_ok : {T E : Type 0} (r : Result T E) (P Q : T → Type 0) → ((x : T) → P x → Q x) → IfOk r P → IfOk r Q
if_ok (Ok x) P Q f p = f x p
if_ok (Err e) P Q f p = tt

-- what a fault that is handed on leaves
pub err_so : {X E : Type 0} (P : Result X E → Type 0) (result : Result X E) (e : E) → IsErrAnd result (λ d. d ≡ e) → P (Err e) → P result
err_so P (Ok x) e is holds = absurd is
err_so {X} {E} P (Err d) e is holds = subst (λ (f : E). P (Err f)) (sym is) holds
