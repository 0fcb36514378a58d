-- The five calls. Each decides on a refusal or a plan from what is passed in, and then acts up to the first action refused. Assumes nothing.
use Rattle.std.specs.Prelude.{ℕ, suc, ◌+◌, ◌-◌, ◌*◌, ◌%◌, ◌^◌, Bool, true, not, ◌&&◌, List, [], ◌∷◌, ◌++◌, map, length, Some, Ok, Err, Option, ◌==◌, nat_le, nat_lt}
use Rattle.model.specs.Refusals.{refusal, by_record, by_transaction, by_session, Outcome, ◌>>=◌, need, device_refusal}
use Rattle.codec.specs.Fields.{le32_bytes, zeros, part, same, joined}
use Rattle.device.specs.State.{DevState}
use Rattle.device.specs.Steps.{Answer}
use Rattle.device.specs.Actions.{Action, write, force, run, zero_writes}
use Rattle.label.specs.declared.label.Label.{Label}
use Rattle.label.specs.Label.{label_bytes, limits}
use Rattle.label.specs.Position.{cycle, log_sector, volume_sector}
use Rattle.record.specs.Record.{packed, sectors_for}
use Rattle.model.specs.View.{read_label, read_log, search_log, Found}
use Rattle.item.specs.Meaning.{Bank}
use Rattle.model.specs.Items.{Region, items_after, Book, empty_book, committing, check_all, replay_order, applied, skipped}
use Rattle.model.specs.Ops.{op_bytes}
use Rattle.model.specs.Reading.{Reading, read_chain, all_items}
use Rattle.model.specs.Lay.{lays, blanks, record_writes}

-- a session: the label, the end e and the tail t of the log, the end a at the last accepted force, clear or replay, the log sector of the
-- newest record, and the book
pub record Session : Type 0 where
  pub label : Label
  pub e : ℕ
  pub t : ℕ
  pub a : ℕ
  pub newest : ℕ
  pub book : Book

-- a plan: what to do, what is answered if all of it is accepted, and the session then
pub record Plan (A S : Type 0) : Type 0 where
  pub actions : List Action
  pub answer : A
  pub session : S

-- what a call leaves: its answer, the device and the session
pub record Left (A S : Type 0) : Type 0 where
  pub answer : Outcome A
  pub device : DevState
  pub session : S

-- a run that was accepted brings the plan's answer and session; a refused one leaves the session as it was
abbrev pub finished : {A S : Type 0} → Plan A S → S → Answer → DevState → Left A S
finished p s (Ok x) d = record { answer = Ok p.answer; device = d; session = p.session }
finished p s (Err f) d = record { answer = Err (device_refusal f); device = d; session = s }

-- a call: refused with nothing done, or its plan is run
abbrev pub acted : {A S : Type 0} → Outcome (Plan A S) → S → DevState → Left A S
acted (Err r) s d = record { answer = Err r; device = d; session = s }
acted (Ok p) s d = finished p s (run p.actions d).answer (run p.actions d).after

-- Records that are written.

-- the op of a clearing record, which has no effect: number 0, client 0xAA, flags 0x20, a region of 8 bytes
abbrev pub clearing_op : List ℕ
clearing_op = op_bytes 0 0xAA 0x20 (0x6E ∷ 0x55 ∷ zeros 6)

-- a clearing record at x: its tail is its own position
abbrev pub clearing : Label → ℕ → ℕ → List (List ℕ)
clearing L x previous = packed L x x previous 1 clearing_op

-- Label: 1 where a field breaks its limit, as one does on a device with no sector.

-- the writes of a log's first record: a clearing record at the first position of cycle 1, with no record before it
abbrev pub first_writes : Label → List Action
first_writes L = record_writes L L.count (clearing L L.count 0xFFFFFFFF)

-- the actions of label: the label's sector, a log of zeros, the first record, a force
abbrev pub label_actions : Label → List Action
label_actions L = write 0 (label_bytes L) ∷ (zero_writes L.start L.count ++ (first_writes L ++ (force ∷ [])))

-- what label decides
abbrev pub label_plan : DevState → Label → Outcome (Plan (Unit {0}) (Unit {0}))
label_plan d L =
    need (limits L d.size) (refusal 1 by_session 0 0) >>= λ _.
    Ok (record { actions = label_actions L; answer = tt; session = tt })

-- label gives no session
abbrev pub label_call : DevState → Label → Left (Unit {0}) (Unit {0})
label_call d L = acted (label_plan d L) tt d

-- Replay.

-- what pass one finds: the label, the log, and the reading of its chain
pub record Passed : Type 0 where
  pub label : Label
  pub found : Found
  pub read : Reading

-- the label, the log, and what is found in it
abbrev pub searched : DevState → Outcome (Label × Found)
searched d = read_label d >>= λ L. read_log d L >>= λ log. search_log L log >>= λ f. Ok (L, f)

-- all refusals of a replay but 2, in order
abbrev pub pass_one : DevState → Bank → Outcome Passed
pass_one d bank = searched d >>= λ x. read_chain d x.0 bank x.1 >>= λ r. Ok (record { label = x.0; found = x.1; read = r })

-- what replay answers besides a session: records from the tail, transactions, patches applied and skipped, open intents
pub record Counts : Type 0 where
  pub records : ℕ
  pub transactions : ℕ
  pub applied : ℕ
  pub skipped : ℕ
  pub intents : ℕ

-- the counts of a reading
abbrev pub counts : Reading → Counts
counts r = record {
  records = r.records;
  transactions = length r.done;
  applied = length (applied (all_items r.done));
  skipped = skipped (all_items r.done);
  intents = length r.book.intents;
}

-- the writes of all patches applied
abbrev pub patches : DevState → Reading → List Action
patches d r = lays (applied (all_items r.done)) d.contents

-- 4 for a short work buffer, then the refusals of pass one. Force; the patches; blanks on the positions from e to M that are held;
-- force. search_log found e at most h, and h at most M + 1, so M + 1 - e cuts nothing off
abbrev pub replay_plan : DevState → Bank → ℕ → Outcome (Plan Counts (Option Session))
replay_plan d bank work =
    need (nat_le 65536 work) (refusal 4 by_session 0 0) >>= λ _.
    pass_one d bank >>= λ p.
    let f = p.found in
    Ok (record {
      actions = force ∷ patches d p.read ++ blanks p.label f.log f.e (f.M + 1 - f.e) ++ (force ∷ []);
      answer = counts p.read;
      session = Some (record { label = p.label; e = f.e; t = f.t; a = f.e; newest = log_sector p.label f.n; book = p.read.book });
    })

-- an accepted replay uses up the session before; a refused one leaves it
abbrev pub replay_call : DevState → Option Session → Bank → ℕ → Left Counts (Option Session)
replay_call d s bank work = acted (replay_plan d bank work) s d

-- Commit.

-- regions (offset, length) inside n bytes, sorted, not overlapping, lengths positive multiples of 4
abbrev pub regions_in : ℕ → ℕ → List (ℕ × ℕ) → Bool
regions_in n from [] = true
regions_in n from (r ∷ rs) =
    nat_le from r.0 && nat_le 1 r.1 && r.1 % 4 == 0 && nat_le (r.0 + r.1) n && regions_in n (r.0 + r.1) rs

-- the bytes of each region
abbrev pub region_bytes : List ℕ → List (ℕ × ℕ) → List (List ℕ)
region_bytes b rs = map (λ r. part r.0 r.1 b) rs

-- the regions for the checks: the place is the sector of the header to be, and the region's index
abbrev pub placed : ℕ → ℕ → List (List ℕ) → List Region
placed sector k [] = []
placed sector k (b ∷ bs) = record { bytes = b; sector = sector; byte = k } ∷ placed sector (suc k) bs

-- the number of a transaction is its record's position modulo 2^32
abbrev pub number_of : ℕ → ℕ
number_of x = x % 2 ^ 32

-- the first region of a transaction: type 40 and the number of items
abbrev pub first_region : ℕ → ℕ → List ℕ
first_region number items = le32_bytes 0x5452414E ++ le32_bytes 40 ++ le32_bytes number ++ le32_bytes items

-- start, the first region, the regions, commit
abbrev pub commit_ops : ℕ → ℕ → List (List ℕ) → List ℕ
commit_ops number items rs =
    op_bytes number 0x69 0x01 [] ++ op_bytes number 0x69 0x00 (first_region number items)
    ++ joined (map (λ r. op_bytes number 0x69 0x00 r) rs) ++ op_bytes number 0x69 0x02 []

-- the ops have more bytes than a record may
abbrev pub too_long : Label → List ℕ → Bool
too_long L b = nat_lt L.most (length b)

-- the position of the last sector of a record of these bytes at x
abbrev pub last_of : ℕ → List ℕ → ℕ
last_of x b = x + sectors_for (length b)

-- the position after it
abbrev pub end_after : ℕ → List ℕ → ℕ
end_after x b = last_of x b + 1

-- a sector at this position would have a cycle above 2^31 - 1
abbrev pub worn_out : Label → ℕ → Bool
worn_out L x = nat_le 2147483648 (cycle L x)

-- the in-flight window is exceeded by a record that ends at b
abbrev pub window_full : Session → ℕ → Bool
window_full s b = nat_lt (s.a + s.label.window) b

-- a record that ends at b leaves no room for a clearing record and two sectors for each of o intents
abbrev pub log_full : Session → ℕ → ℕ → Bool
log_full s b o = nat_lt (s.t + s.label.count) (b + 2 + 2 * o)

-- the session after a record that ends at b, with this book
abbrev pub lengthened : Session → ℕ → Book → Session
lengthened s b book = record { label = s.label; e = b; t = s.t; a = s.a; newest = log_sector s.label s.e; book = book }

-- 1 where the log is not on the device, 20 for the regions, 10 for an item that is not framed, 14 for a record that is too long, the
-- checks of the items, 19, 16, 17; then one record is written, unforced
abbrev pub commit_plan : DevState → Session → Bank → List ℕ → List (ℕ × ℕ) → Outcome (Plan ℕ Session)
commit_plan d s bank bytes regions =
    let L = s.label in
    let at = volume_sector L s.e in
    let rs = region_bytes bytes regions in
    let number = number_of s.e in
    need (nat_le (L.start + L.count) d.size) (refusal 1 by_session 0 0) >>= λ _.
    need (regions_in (length bytes) 0 regions) (refusal 20 by_session 0 0) >>= λ _.
    items_after 0 (placed at 0 rs) >>= λ is.
    let ops = commit_ops number (length is) rs in
    let b = end_after s.e ops in
    need (not (too_long L ops)) (refusal 14 by_transaction at 0) >>= λ _.
    check_all committing d L bank (replay_order bank is) s.book >>= λ book.
    need (not (worn_out L (last_of s.e ops))) (refusal 19 by_session 0 0) >>= λ _.
    need (not (window_full s b)) (refusal 16 by_session 0 0) >>= λ _.
    need (not (log_full s b (length book.intents))) (refusal 17 by_session 0 0) >>= λ _.
    Ok (record {
      actions = record_writes L s.e (packed L s.e s.t s.newest (3 + length rs) ops);
      answer = number;
      session = lengthened s b book;
    })

-- commit
abbrev pub commit_call : DevState → Session → Bank → List ℕ → List (ℕ × ℕ) → Left ℕ Session
commit_call d s bank bytes regions = acted (commit_plan d s bank bytes regions) s d

-- Force.

-- the session after an accepted force: all up to its end is safe
abbrev pub settles : Session → Session
settles s = record { label = s.label; e = s.e; t = s.t; a = s.e; newest = s.newest; book = s.book }

-- force forces the device, and checks nothing
abbrev pub force_call : DevState → Session → Left (Unit {0}) Session
force_call d s = acted (Ok (record { actions = force ∷ []; answer = tt; session = settles s })) s d

-- Clear.

-- two labels are the same
abbrev pub same_label : Label → Label → Bool
same_label L K =
    (L.start == K.start) && L.count == K.count && L.window == K.window && L.most == K.most && same L.uuid K.uuid

-- what was found is what the session knows
abbrev pub same_log : Session → Label → Found → Bool
same_log s L f = same_label L s.label && f.e == s.e && f.t == s.t

-- the session after a clearing record at its end
abbrev pub cleared : Session → Session
cleared s = record { label = s.label; e = s.e + 2; t = s.e; a = s.e + 2; newest = log_sector s.label s.e; book = empty_book }

-- 4, 18, 19, 17, then as replay, with 8 after search_log where the log is not the session's; force; the patches; force; the clearing record; force
abbrev pub clear_plan : DevState → Session → Bank → ℕ → Outcome (Plan (Unit {0}) Session)
clear_plan d s bank work =
    need (nat_le 65536 work) (refusal 4 by_session 0 0) >>= λ _.
    need (length s.book.intents == 0) (refusal 18 by_session 0 0) >>= λ _.
    need (not (worn_out s.label (s.e + 1))) (refusal 19 by_session 0 0) >>= λ _.
    need (nat_le (s.e + 2) (s.t + s.label.count)) (refusal 17 by_session 0 0) >>= λ _.
    searched d >>= λ x.
    need (same_log s x.0 x.1) (refusal 8 by_record 0 0) >>= λ _.
    read_chain d x.0 bank x.1 >>= λ r.
    Ok (record {
      actions = force ∷ patches d r ++ (force ∷ record_writes s.label s.e (clearing s.label s.e s.newest) ++ (force ∷ []));
      answer = tt;
      session = cleared s;
    })

-- clear
abbrev pub clear_call : DevState → Session → Bank → ℕ → Left (Unit {0}) Session
clear_call d s bank work = acted (clear_plan d s bank work) s d
