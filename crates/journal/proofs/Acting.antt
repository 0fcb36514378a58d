-- Runs put together from runs. Assumes nothing.
use Rattle.std.proofs.Common.{◌≡◌, List, ◌++◌, Ok, Err, sym, ap, ◌∙◌}
use Rattle.device.specs.State.{DevState}
use Rattle.device.specs.Steps.{Answer}
use Rattle.device.specs.Actions.{Action, Ran, then, run}
use Rattle.device.specs.declared.fault.DeviceFault.{DeviceFault}
use Rattle.device.proofs.Runs.{run_on}

-- what a run answered and left
abbrev pub ran : Answer → DevState → Ran
ran r d = record { answer = r; after = d }

-- after a run that was accepted comes the next
pub goes_on : (xs ys : List Action) (d e : DevState) (r : Answer) → run xs d ≡ ran r e → r ≡ Ok tt → run (xs ++ ys) d ≡ run ys e
goes_on xs ys d e r h a =
    run_on xs ys d e r h ∙ ap (λ q. then q e (run ys e)) a

-- and after one that stopped nothing: q is the refusal that is handed on
pub ends_there : (xs ys : List Action) (d e : DevState) (r q : Answer) (f y : DeviceFault) → run xs d ≡ ran r e → r ≡ Err f → q ≡ Err y → y ≡ f → run (xs ++ ys) d ≡ ran q e
ends_there xs ys d e r q f y h stop back same =
    run_on xs ys d e r h ∙ ap (λ x. then x e (run ys e)) stop ∙ ap (λ z. ran (Err z) e) (sym same) ∙ ap (λ z. ran z e) (sym back)
