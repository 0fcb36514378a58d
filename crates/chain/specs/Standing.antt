-- A record that was read is what the reading of a chain has of it. Assumes nothing.
use Rattle.std.specs.Prelude.{◌≡◌, ℕ, List, Ok}
use Rattle.label.specs.declared.label.Label.{Label}
use Rattle.record.specs.Record.{restored}
use Rattle.model.specs.Refusals.{◌>>=◌}
use Rattle.model.specs.View.{at, log_header}
use Rattle.model.specs.Reading.{data_sectors, stored_data, record_stands}
use Rattle.chain.specs.Rows.{over}
use Rattle.chain.specs.Records.{Left}

-- in a log with these sectors it stands, or is refused as there; and where it stands, its data is at the front of the buffer
pub record Stands (L : Label) (log : List (List ℕ)) (e x : ℕ) (old : List ℕ) (l : Left) : Type 0 where
  pub answer : l.answer ≡ (record_stands L log e x >>= λ _. Ok (log_header L log x))
  pub restores : record_stands L log e x ≡ Ok tt
      → l.buffer ≡ over (data_sectors (log_header L log x)) (restored (data_sectors (log_header L log x)) (at L log x) (stored_data L log (log_header L log x) x)) old
