-- What the sectors of a log tell: the positions held, the head, the newest record, its end and the tail. Assumes nothing.
use Rattle.std.specs.Prelude.{ℕ, zero, suc, ◌+◌, ◌-◌, ◌*◌, ◌/◌, max, Bool, cond, not, ◌&&◌, ◌||◌, List, [], Ok, Err, ◌==◌, nat_le, nat_lt, slice_index_or}
use Rattle.model.specs.Refusals.{refusal, by_record, by_session, Outcome, ◌>>=◌, need, from_device}
use Rattle.device.specs.State.{DevState}
use Rattle.device.specs.Steps.{read, reads}
use Rattle.label.specs.declared.label.Label.{Label}
use Rattle.record.specs.declared.header.RecordHeader.{RecordHeader}
use Rattle.label.specs.Label.{label_of, limits}
use Rattle.label.specs.Position.{position, log_sector, volume_sector}
use Rattle.record.specs.Record.{is_header, held_cycle, held_position, header_of, sound, end_of}

-- the label of a volume: 1 with no sector at all, 3 where it cannot be read, 1 where a field breaks its limit
abbrev pub read_label : DevState → Outcome Label
read_label d =
    need (nat_lt 0 d.size) (refusal 1 by_session 0 0) >>= λ _.
    from_device (read d 0) >>= λ b.
    need (limits (label_of b) d.size) (refusal 1 by_session 0 0) >>= λ _.
    Ok (label_of b)

-- the sectors of the log: 3 for the first that cannot be read
abbrev pub read_log : DevState → Label → Outcome (List (List ℕ))
read_log d L = from_device (reads d L.start L.count)

-- the log's sector for a position
abbrev pub at : Label → List (List ℕ) → ℕ → List ℕ
at L log x = slice_index_or log (log_sector L x) []

-- the position that a log sector holds
abbrev pub held_by : Label → List (List ℕ) → ℕ → ℕ
held_by L log i = held_position L i (slice_index_or log i [])

-- the header at a position of the log, where one stands there
abbrev pub log_header : Label → List (List ℕ) → ℕ → RecordHeader
log_header L log x = header_of (at L log x)

-- position x is held
abbrev pub held : Label → List (List ℕ) → ℕ → Bool
held L log x = held_by L log (log_sector L x) == x

-- the greatest position that the first n log sectors hold
abbrev pub greatest_of : Label → List (List ℕ) → ℕ → ℕ
greatest_of L log zero = 0
greatest_of L log (suc n) = max (greatest_of L log n) (held_by L log n)

-- M, the greatest position held; it is at least count - 1, the least that the last log sector can hold
abbrev pub greatest : Label → List (List ℕ) → ℕ
greatest L log = greatest_of L log L.count

-- the greatest position up to M that log sector i can hold; i is at most count - 1, so M - i cuts nothing off.
-- Example: at count 32 and M 39, log sector 5 is due 37 and log sector 9 is due 9
abbrev pub due : Label → ℕ → ℕ → ℕ
due L M i = i + L.count * ((M - i) / L.count)

-- a log sector is in order: it holds its due position, or the one a turn before where that is among the last `window`; and its cycle is below 2^31
abbrev pub in_order : Label → List (List ℕ) → ℕ → ℕ → Bool
in_order L log M i =
    (held_by L log i == due L M i || (held_by L log i + L.count == due L M i && nat_lt M (due L M i + L.window)))
    && nat_lt (held_cycle (slice_index_or log i [])) 2147483648

-- 5 at the first of n log sectors from i on that is not in order
abbrev pub coherent_from : Label → List (List ℕ) → ℕ → ℕ → ℕ → Outcome (Unit {0})
coherent_from L log M i zero = Ok tt
coherent_from L log M i (suc n) = need (in_order L log M i) (refusal 5 by_record (L.start + i) 0) >>= λ _. coherent_from L log M (i + 1) n

-- 5 at the first log sector that is not in order
abbrev pub coherent : Label → List (List ℕ) → Outcome (Unit {0})
coherent L log = coherent_from L log (greatest L log) 0 L.count

-- the first position of n from x on that is not held, or the one after them
abbrev pub first_free : Label → List (List ℕ) → ℕ → ℕ → ℕ
first_free L log x zero = x
first_free L log x (suc n) = cond (held L log x) (first_free L log (x + 1) n) x

-- h, the head: the least position from M + 1 - window on that is not held (M + 1 never is); the window is at most half the log,
-- so nothing is cut off
abbrev pub head : Label → List (List ℕ) → ℕ → ℕ
head L log M = first_free L log (M + 1 - L.window) L.window

-- the way back ends at a header that is not sound, or whose record ends by h
abbrev pub stops : Label → List (List ℕ) → ℕ → ℕ → Bool
stops L log h x = is_header (at L log x) && (not (sound L (log_header L log x) x) || nat_le (end_of (log_header L log x) x) h)

-- the newest record's position among n positions from low on, searched from the last back: 7 at a header that is not sound, 6 where there is none
abbrev pub newest_of : Label → List (List ℕ) → ℕ → ℕ → ℕ → Outcome ℕ
newest_of L log h low zero = Err (refusal 6 by_record 0 0)
newest_of L log h low (suc n) =
    cond (stops L log h (low + n))
    (need (sound L (log_header L log (low + n)) (low + n)) (refusal 7 by_record (volume_sector L (low + n)) 0) >>= λ _. Ok (low + n))
    (newest_of L log h low n)

-- from h - 1 back to M + 1 - count, which cuts nothing off: M is at least count - 1, and h at least M + 1 - window
abbrev pub newest : Label → List (List ℕ) → ℕ → ℕ → Outcome ℕ
newest L log M h = newest_of L log h (M + 1 - L.count) (h - (M + 1 - L.count))

-- the position of the tail that a header tells
abbrev pub tail_of : Label → RecordHeader → ℕ
tail_of L r = position L r.tail.0 r.tail.1

-- the tail that a header tells lies in the log and before the end e
abbrev pub tail_stands : Label → RecordHeader → ℕ → ℕ → Bool
tail_stands L r M e = nat_lt r.tail.1 L.count && nat_le (M + 1) (tail_of L r + L.count) && nat_lt (tail_of L r) e

-- what is found in a log: the log's sectors, the greatest position held M, the head h, the newest record's position n, its end e and the tail t
pub record Found : Type 0 where
  pub log : List (List ℕ)
  pub M : ℕ
  pub h : ℕ
  pub n : ℕ
  pub e : ℕ
  pub t : ℕ

-- e and t by the newest record, which stands at n; 8 at its header where the tail is out of range
abbrev pub ended : Label → List (List ℕ) → ℕ → ℕ → ℕ → Outcome Found
ended L log M h n =
    let r = log_header L log n in
    need (tail_stands L r M (end_of r n)) (refusal 8 by_record (volume_sector L n) 0) >>= λ _.
    Ok (record { log = log; M = M; h = h; n = n; e = end_of r n; t = tail_of L r })

-- all of them in turn: 5, then 7 or 6, then 8
abbrev pub search_log : Label → List (List ℕ) → Outcome Found
search_log L log =
    let M = greatest L log in
    let h = head L log M in
    coherent L log >>= λ _. newest L log M h >>= λ n. ended L log M h n
