-- What the journal's causes mean, and what a refusal tells. Assumes nothing.
use Rattle.std.specs.Prelude.{Ok, Err, Result}
use Rattle.model.specs.Refusals.{refusal, by_device, by_record, by_transaction, by_item, by_session, device_refusal, Outcome}
use Rattle.model.specs.Refusals.{Layer as Place, Refusal as Meant}
use Rattle.faults.specs.declared.cause.Fault.{Fault}
use Rattle.faults.specs.declared.cause.Fault.TheVariants.{Device, Label}
use Rattle.faults.specs.declared.refusal.Layer.{Layer}
use Rattle.faults.specs.declared.refusal.Layer.TheVariants.{Device as InDevice, Record, Transaction, Item, Session}
use Rattle.faults.specs.declared.refusal.Refusal.{Refusal}

-- the refusal that each cause is: the device's own, told as it was; 1 for a label that breaks a limit
abbrev pub meaning : Fault → Meant
meaning (Device f) = device_refusal f
meaning Label = refusal 1 by_session 0 0

-- what a call answered, with the refusal that it means
abbrev pub outcome : {A : Type 0} → Result A Fault → Outcome A
outcome (Ok x) = Ok x
outcome (Err f) = Err (meaning f)

-- who refuses
abbrev pub layer_of : Place → Layer
layer_of by_device = InDevice
layer_of by_record = Record
layer_of by_transaction = Transaction
layer_of by_item = Item
layer_of by_session = Session

-- number, layer and place of a cause
abbrev pub refusal_of : Fault → Refusal
refusal_of f = record { number = (meaning f).number; layer = layer_of (meaning f).layer; sector = (meaning f).sector; byte = (meaning f).byte }
