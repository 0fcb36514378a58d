-- The laws, from their lemmas.
use Rattle.std.proofs.Common.{rules}
use Rattle.crc.proofs.Linear.{crc_append}
use Rattle.crc.proofs.Sums.{crc_of_lt, crc_lt}
use Rattle.crc.proofs.laws.crc_laws.Goals as goal

pub returns-clause-laws : goal.returns-clause-laws
returns-clause-laws c = record { pieces = crc_append; state_small = crc_of_lt; small = crc_lt }

pub returns-clause-joined : goal.returns-clause-joined
returns-clause-joined c = search (rules, crc_append)
