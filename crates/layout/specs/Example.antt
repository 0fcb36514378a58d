-- A life on a volume of 64 sectors: labelled, replayed, a patch committed, and what one more replay then reads. Assumes nothing.
use Rattle.std.specs.Prelude.{◌≡◌, ℕ, Some, Ok}
use Rattle.device.specs.State.{Sector, sector_at}
use Rattle.item.specs.Built.{built}
use Rattle.model.specs.Calls.{Session, replay_call}
use Rattle.model.specs.Cases.{label_here, labelled}
use Rattle.layout.specs.Real.{Usable}
use Rattle.layout.specs.Volumes.{Volume}
use Rattle.layout.specs.Lives.{Life}

-- what the sectors hold right after the label
abbrev pub base_here : ℕ → Sector
base_here = sector_at labelled

-- a point of a life with a session, at which one more replay is accepted: it reads the clearing record and one transaction, whose patch is applied
pub record ExampleLives : Type 0 where
  pub volume : Volume
  pub session : Session
  pub usable : Usable label_here 64
  pub life : Life label_here 64 built base_here volume (Some session)
  pub accepted : (replay_call volume.device (Some session) built 65536).answer
      ≡ Ok (record { records = 2; transactions = 1; applied = 1; skipped = 0; intents = 0 })
