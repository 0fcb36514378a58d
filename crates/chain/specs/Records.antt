-- What reading one record answers, and what it leaves in the buffer. Assumes nothing.
use Rattle.std.specs.Prelude.{ℕ, ◌+◌, Bool, cond, List, length, Ok, Err, Result, ◌==◌, nat_le}
use Rattle.codec.specs.Fields.{joined}
use Rattle.device.specs.State.{DevState}
use Rattle.device.specs.Steps.{read}
use Rattle.device.specs.declared.fault.DeviceFault.{DeviceFault}
use Rattle.label.specs.declared.label.Label.{Label}
use Rattle.label.specs.Position.{volume_sector}
use Rattle.record.specs.declared.header.RecordHeader.{RecordHeader}
use Rattle.record.specs.Record.{is_header, header_of, sound, end_of, checksum, restored}
use Rattle.model.specs.Refusals.{refusal, by_record, by_session, device_refusal, Outcome, ◌>>=◌, need, from_device}
use Rattle.model.specs.Reading.{data_sectors}
use Rattle.chain.specs.Rows.{row, sectors_on, read_before, over}

-- a record is due at x and ends by e: no header there is 8, one that is not sound 7, one that ends later 8
abbrev pub header_due : Label → ℕ → ℕ → List ℕ → Outcome (Unit {0})
header_due L e x b =
    need (is_header b) (refusal 8 by_record (volume_sector L x) 0) >>= λ _.
    need (sound L (header_of b) x) (refusal 7 by_record (volume_sector L x) 0) >>= λ _.
    need (nat_le (end_of (header_of b) x) e) (refusal 8 by_record (volume_sector L x) 0)

-- the header that is due there
abbrev pub due_answer : Label → ℕ → ℕ → List ℕ → Outcome RecordHeader
due_answer L e x b = header_due L e x b >>= λ _. Ok (header_of b)

-- the sector of the header that is due at x: 4 without room for the most data, 3 where it cannot be read, then as above
abbrev pub header_on : DevState → Label → ℕ → ℕ → ℕ → Outcome (List ℕ)
header_on d L e x room =
    need (nat_le L.most room) (refusal 4 by_session 0 0) >>= λ _.
    from_device (read d (volume_sector L x)) >>= λ b.
    header_due L e x b >>= λ _. Ok b

-- the checksum that the header b tells is that of the data as stored
abbrev pub sum_right : List ℕ → List ℕ → Bool
sum_right b stored = checksum b stored == (header_of b).sum

-- else 9 at the header
abbrev pub sum_answer : Label → ℕ → List ℕ → List ℕ → Outcome (Unit {0})
sum_answer L x b stored = need (sum_right b stored) (refusal 9 by_record (volume_sector L x) 0)

-- and the header, where it is right
abbrev pub header_answer : Label → ℕ → List ℕ → List ℕ → Outcome RecordHeader
header_answer L x b stored = sum_answer L x b stored >>= λ _. Ok (header_of b)

-- the data with the saved words put back where the checksum is right, else as stored
abbrev pub restored_data : List ℕ → List ℕ → List ℕ
restored_data b stored = cond (sum_right b stored) (restored (data_sectors (header_of b)) b stored) stored

-- an answer, and what a buffer holds after it
pub record Left : Type 0 where
  pub answer : Outcome RecordHeader
  pub buffer : List ℕ

abbrev pub left : Outcome RecordHeader → List ℕ → Left
left a b = record { answer = a; buffer = b }

-- the data sectors as the device gave them: judged and restored, or the device's refusal behind those that were read before it
abbrev pub data_on : DevState → Label → ℕ → List ℕ → List ℕ → Result (List (List ℕ)) DeviceFault → Left
data_on d L x b old (Ok bs) =
    left (header_answer L x b (joined bs)) (over (data_sectors (header_of b)) (restored_data b (joined bs)) old)
data_on d L x b old (Err f) =
    let k = read_before d L (x + 1) (data_sectors (header_of b)) in
    left (Err (device_refusal f)) (over k (joined (row d L (x + 1) k)) old)

-- the record, by the sector of its header
abbrev pub record_by : DevState → Label → ℕ → List ℕ → Outcome (List ℕ) → Left
record_by d L x old (Ok b) = data_on d L x b old (sectors_on d L (x + 1) (data_sectors (header_of b)))
record_by d L x old (Err r) = left (Err r) old

-- the record that is due at x and ends by e, read to the front of a buffer that held `old`
abbrev pub read_record : DevState → Label → ℕ → ℕ → List ℕ → Left
read_record d L e x old = record_by d L x old (header_on d L e x (length old))
