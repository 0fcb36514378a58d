-- What is found in a log on a device. Assumes nothing.
use Rattle.std.specs.Prelude.{ℕ, Bool, false, cond, List, Some, None, Option, Ok, nat_le}
use Rattle.device.specs.State.{DevState}
use Rattle.label.specs.declared.label.Label.{Label}
use Rattle.label.specs.Position.{volume_sector}
use Rattle.record.specs.declared.header.RecordHeader.{RecordHeader}
use Rattle.record.specs.Record.{is_header, header_of, sound, end_of}
use Rattle.model.specs.Refusals.{refusal, by_record, Outcome, ◌>>=◌, need}
use Rattle.model.specs.View.{read_log, search_log, tail_of, tail_stands}
use Rattle.model.specs.View.{Found as Seen}
use Rattle.volume_log.specs.declared.found.Found.{Found}

-- the numbers that are found, without the sectors
abbrev pub numbers : Seen → Found
numbers f = record { greatest = f.M; head = f.h; newest = f.n; end = f.e; tail = f.t }

-- the log is read, then looked through
abbrev pub found_on : DevState → Label → Outcome Found
found_on d L = read_log d L >>= λ log. search_log L log >>= λ f. Ok (numbers f)

-- the header at x, by the sector b: none where b is no header, 7 where it is not sound. On a sector of zeros it is none
abbrev pub sound_header : Label → ℕ → List ℕ → Outcome (Option RecordHeader)
sound_header L x b =
    cond (is_header b)
    (need (sound L (header_of b) x) (refusal 7 by_record (volume_sector L x) 0) >>= λ _. Ok (Some (header_of b)))
    (Ok None)

-- whether the record of a header at x, if there is one, ends by h
abbrev pub ends_in : ℕ → ℕ → Option RecordHeader → Bool
ends_in h x None = false
ends_in h x (Some r) = nat_le (end_of r x) h

-- whether the newest record stands at x below the head h, by the sector b: b is a header, and its record ends by h; 7 where it
-- is not sound
abbrev pub look_at : Label → ℕ → ℕ → List ℕ → Outcome Bool
look_at L h x b = sound_header L x b >>= λ o. Ok (ends_in h x o)

-- e and t by the newest record's header r
abbrev pub ends_by : Label → ℕ → ℕ → ℕ → RecordHeader → Outcome Found
ends_by L M h n r =
    need (tail_stands L r M (end_of r n)) (refusal 8 by_record (volume_sector L n) 0) >>= λ _.
    Ok (record { greatest = M; head = h; newest = n; end = end_of r n; tail = tail_of L r })
