-- Reading a chain of records: ops, open transactions, and transactions committed. Assumes nothing.
use Rattle.std.specs.Prelude.{ℕ, zero, suc, ◌+◌, ◌-◌, ◌/◌, Bool, false, cond, not, ◌&&◌, List, [], ◌∷◌, ◌++◌, map, length, drop, Some, None, Ok, Err, Option, ◌==◌, nat_eq, nat_le, nat_lt, slice_index_or, slice_set}
use Rattle.std.specs.Bool.{beq}
use Rattle.model.specs.Refusals.{Refusal, refusal, by_record, by_transaction, Outcome, ◌>>=◌, need}
use Rattle.codec.specs.Fields.{le32, joined}
use Rattle.device.specs.State.{DevState}
use Rattle.keys.specs.Keys.{place_of}
use Rattle.label.specs.declared.label.Label.{Label}
use Rattle.record.specs.declared.header.RecordHeader.{RecordHeader}
use Rattle.label.specs.Position.{volume_sector}
use Rattle.record.specs.Record.{is_header, sound, end_of, checksum, restored}
use Rattle.item.specs.Meaning.{Meaning, Bank}
use Rattle.model.specs.View.{at, log_header, Found}
use Rattle.model.specs.Items.{Region, Item, items_after, Book, empty_book, without, replay_order, check_all, reading, verdict, meant}
use Rattle.model.specs.Ops.{Sort, start, commit, region, idle, Op, op_at, after_op}

-- an open transaction: its number, the place of its start among the ops seen, and whether a region is in parts
pub record Open : Type 0 where
  pub number : ℕ
  pub from : ℕ
  pub parted : Bool

-- a transaction that was committed: its regions after the first, and what its items mean, in replay order
pub record Transaction : Type 0 where
  pub regions : List (List ℕ)
  pub items : List Meaning

-- what a reading has so far: the records read, the ops seen, the transactions that are open, those committed, and the book
pub record Reading : Type 0 where
  pub records : ℕ
  pub seen : List Op
  pub pending : List Open
  pub done : List Transaction
  pub book : Book

-- nothing read yet
abbrev pub begun : Reading
begun = record { records = 0; seen = []; pending = []; done = []; book = empty_book }

-- one more op was seen, and the open transactions are these
abbrev pub saw : Op → List Open → Reading → Reading
saw o open_ones r = record { records = r.records; seen = r.seen ++ (o ∷ []); pending = open_ones; done = r.done; book = r.book }

-- The regions of a transaction, from the ops since its start.

-- an op that brings a region of the transaction, or the first part of one
abbrev pub begins : Sort → Bool
begins start = false
begins commit = false
begins (region b e) = b
begins idle = false

-- an op that brings a later part of one
abbrev pub goes_on : Sort → Bool
goes_on start = false
goes_on commit = false
goes_on (region b e) = not b
goes_on idle = false

-- the test holds, and the op has the number n
abbrev pub mine : Bool → ℕ → Op → Bool
mine b n o = b && o.number == n

-- the later parts of a region: all of the transaction up to its next region
abbrev pub later_parts : ℕ → List Op → List ℕ
later_parts n [] = []
later_parts n (o ∷ os) = cond (mine (goes_on o.sort) n o) o.bytes [] ++ cond (mine (begins o.sort) n o) [] (later_parts n os)

-- the regions of the transaction with number n, each with the place of its first op
abbrev pub regions_of : ℕ → List Op → List Region
regions_of n [] = []
regions_of n (o ∷ os) =
    cond (mine (begins o.sort) n o) (record { bytes = o.bytes ++ later_parts n os; sector = o.sector; byte = o.byte } ∷ []) []
    ++ regions_of n os

-- The end of a transaction.

-- the first region of a transaction has 16 bytes: a magic number, type, the op's number, item count; type and count are not looked at
abbrev pub heads : ℕ → List Region → Bool
heads n [] = false
heads n (r ∷ rs) = length r.bytes == 16 && le32 r.bytes 0 == 0x5452414E && le32 r.bytes 8 == n

-- items that were checked, and the book after them, join a reading as a transaction of these regions
abbrev pub joins : Bank → List Region → List Item → Book → Reading → Reading
joins bank rs is b r = record {
  records = r.records;
  seen = r.seen;
  pending = r.pending;
  book = b;
  done = r.done ++ (record { regions = map (λ x. x.bytes) rs; items = map (λ i. meant (verdict bank i)) is } ∷ []);
}

-- a commit: 10 at it where the first region is missing or wrong, 10 at an item that is not framed; then the items in replay order
abbrev pub committed : DevState → Label → Bank → Op → List Region → Reading → Outcome Reading
committed d L bank o rs r =
    need (heads o.number rs) (refusal 10 by_transaction o.sector o.byte) >>= λ _.
    items_after 0 (drop 1 rs) >>= λ is.
    check_all reading d L bank (replay_order bank is) r.book >>= λ b.
    Ok (joins bank (drop 1 rs) (replay_order bank is) b r)

-- One op.

-- 10 at an op
abbrev pub bad : Op → Refusal
bad o = refusal 10 by_transaction o.sector o.byte

-- the open transaction at place j
abbrev pub pending_at : ℕ → Reading → Open
pending_at j r = slice_index_or r.pending j (record { number = 0; from = 0; parted = false })

-- start: 10 for a number that is open, 14 with 32 open
abbrev pub starts : Op → Option ℕ → Reading → Outcome Reading
starts o (Some j) r = Err (bad o)
starts o None r =
    need (nat_lt (length r.pending) 32) (refusal 14 by_transaction o.sector o.byte) >>= λ _.
    Ok (saw o (r.pending ++ (record { number = o.number; from = length r.seen; parted = false } ∷ [])) r)

-- a region or a part: 10 where a part is out of order; of a number that is not open it is skipped
abbrev pub brings : Bool → Bool → Op → Option ℕ → Reading → Outcome Reading
brings b e o None r = Ok (saw o r.pending r)
brings b e o (Some j) r =
    need (beq (pending_at j r).parted (not b)) (bad o) >>= λ _.
    Ok (saw o (slice_set r.pending j (record { number = o.number; from = (pending_at j r).from; parted = not e })) r)

-- commit: 10 while a region is in parts; of a number that is not open it is skipped
abbrev pub ends : DevState → Label → Bank → Op → Option ℕ → Reading → Outcome Reading
ends d L bank o None r = Ok (saw o r.pending r)
ends d L bank o (Some j) r =
    need (not (pending_at j r).parted) (bad o) >>= λ _.
    committed d L bank o (regions_of o.number (drop (pending_at j r).from r.seen)) (saw o (without j r.pending) r)

-- by the sort of the op and the place of its transaction
abbrev pub by_sort : DevState → Label → Bank → Op → Sort → Option ℕ → Reading → Outcome Reading
by_sort d L bank o start j r = starts o j r
by_sort d L bank o commit j r = ends d L bank o j r
by_sort d L bank o (region b e) j r = brings b e o j r
by_sort d L bank o idle j r = Ok (saw o r.pending r)

-- one op, by the open transaction that has its number
abbrev pub step : DevState → Label → Bank → Op → Reading → Outcome Reading
step d L bank o r = by_sort d L bank o o.sort (place_of (λ x. nat_eq x.number o.number) r.pending) r

-- n ops of a record's data b from a byte on
abbrev pub read_ops : DevState → Label → Bank → ℕ → List ℕ → ℕ → ℕ → Reading → Outcome Reading
read_ops d L bank sector b from zero r = Ok r
read_ops d L bank sector b from (suc n) r =
    op_at sector b from >>= λ o. step d L bank o r >>= λ r'. read_ops d L bank sector b (after_op o) n r'

-- Records.

-- the n log sectors from position x on
abbrev pub sectors_from : Label → List (List ℕ) → ℕ → ℕ → List (List ℕ)
sectors_from L log x zero = []
sectors_from L log x (suc n) = at L log x ∷ sectors_from L log (x + 1) n

-- how many data sectors a record has
abbrev pub data_sectors : RecordHeader → ℕ
data_sectors h = h.length / 512

-- the data sectors, as stored, of the record whose header h stands at x, one after the other
abbrev pub stored_data : Label → List (List ℕ) → RecordHeader → ℕ → List ℕ
stored_data L log h x = joined (sectors_from L log (x + 1) (data_sectors h))

-- a record is due at x and ends by e: no header there is 8, one that is not sound 7, one that ends later 8, a wrong checksum 9
abbrev pub record_stands : Label → List (List ℕ) → ℕ → ℕ → Outcome (Unit {0})
record_stands L log e x =
    let h = log_header L log x in
    need (is_header (at L log x)) (refusal 8 by_record (volume_sector L x) 0) >>= λ _.
    need (sound L h x) (refusal 7 by_record (volume_sector L x) 0) >>= λ _.
    need (nat_le (end_of h x) e) (refusal 8 by_record (volume_sector L x) 0) >>= λ _.
    need (checksum (at L log x) (stored_data L log h x) == h.sum) (refusal 9 by_record (volume_sector L x) 0)

-- one more record
abbrev pub counted : Reading → Reading
counted r = record { records = r.records + 1; seen = r.seen; pending = r.pending; done = r.done; book = r.book }

-- the record at x, its ops in order
abbrev pub read_record : DevState → Label → Bank → List (List ℕ) → ℕ → ℕ → Reading → Outcome Reading
read_record d L bank log e x r =
    let h = log_header L log x in
    record_stands L log e x >>= λ _.
    read_ops d L bank (volume_sector L x) (restored (data_sectors h) (at L log x) (stored_data L log h x)) 0 h.ops (counted r)

-- records one after the other from x up to e, at most n of them
abbrev pub read_records : DevState → Label → Bank → List (List ℕ) → ℕ → ℕ → ℕ → Reading → Outcome Reading
read_records d L bank log e x zero r = Ok r
read_records d L bank log e x (suc n) r =
    cond (nat_le e x) (Ok r)
    (read_record d L bank log e x r >>= λ r'. read_records d L bank log e (end_of (log_header L log x) x) n r')

-- the chain from t to e; a record takes at least one position, and search_log found t < e, so nothing is cut off
abbrev pub read_chain : DevState → Label → Bank → Found → Outcome Reading
read_chain d L bank f = read_records d L bank f.log f.e f.t (f.e - f.t) begun

-- all items of a reading, in replay order
abbrev pub all_items : List Transaction → List Meaning
all_items [] = []
all_items (x ∷ xs) = x.items ++ all_items xs
