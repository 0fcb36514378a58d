-- What the causes of this layer mean. Assumes nothing.
use Rattle.std.specs.Prelude.{Ok, Err, Result}
use Rattle.model.specs.Refusals.{Refusal, refusal, by_record, by_session, device_refusal, Outcome, ◌>>=◌}
use Rattle.label.specs.declared.label.Label.{Label}
use Rattle.label.specs.declared.geometry.Geometry.{Geometry}
use Rattle.volume_log.specs.declared.cause.LogFault.{LogFault}
use Rattle.volume_log.specs.declared.cause.LogFault.TheVariants.{Device, Label as BadLabel, Buffer, Disorder, Empty, Unsound, Chain, Checksum}

-- the refusal that each cause is: the device's own, told as it was; or a number, its layer and the sector that is named
abbrev pub meaning : LogFault → Refusal
meaning (Device f) = device_refusal f
meaning BadLabel = refusal 1 by_session 0 0
meaning Buffer = refusal 4 by_session 0 0
meaning (Disorder i) = refusal 5 by_record i 0
meaning Empty = refusal 6 by_record 0 0
meaning (Unsound i) = refusal 7 by_record i 0
meaning (Chain i) = refusal 8 by_record i 0
meaning (Checksum i) = refusal 9 by_record i 0

-- what was answered, with the refusal that it means
abbrev pub outcome : {A : Type 0} → Result A LogFault → Outcome A
outcome (Ok x) = Ok x
outcome (Err f) = Err (meaning f)

-- a label that was read; its limits are told with it
abbrev pub labelled : Result Geometry LogFault → Outcome Label
labelled r = outcome r >>= λ g. Ok g.label
