-- A record read, from what its steps left. Assumes nothing.
use Rattle.std.proofs.Common.{◌≡◌, ℕ, zero, suc, ◌+◌, ◌*◌, ◌/◌, ◌%◌, ◌≤◌, List, ◌++◌, length, take, drop, Ok, Err, Result, sym, subst, ap, ◌∙◌, append_assoc, append-nil, arith}
use Rattle.std.proofs.lemmas.List.{drop-append-le, drop_all, length-take-le, take-append-drop}
use Rattle.codec.specs.Fields.{joined}
use Rattle.device.specs.State.{DevState}
use Rattle.device.specs.Steps.{Answer, read}
use Rattle.device.specs.declared.fault.DeviceFault.{DeviceFault}
use Rattle.label.specs.declared.label.Label.{Label}
use Rattle.label.specs.Position.{volume_sector}
use Rattle.record.specs.declared.header.RecordHeader.{RecordHeader}
use Rattle.record.specs.Record.{header_of}
use Rattle.model.specs.Refusals.{Refusal, device_refusal}
use Rattle.model.specs.Reading.{data_sectors}
use Rattle.chain.specs.Rows.{row, told, sectors_on, one_more, read_before, over}
use Rattle.chain.specs.Records.{header_on, header_answer, restored_data, left, data_on, record_by, read_record}
use Rattle.chain.proofs.Positions.{on_told, told_err}

-- the header was refused
pub no_header : (d : DevState) (L : Label) (e x : ℕ) (old : List ℕ) (f : Refusal) → header_on d L e x (length old) ≡ Err f → read_record d L e x old ≡ left (Err f) old
no_header d L e x old f h = ap (record_by d L x old) h

-- what is known where its data sectors were asked for, into the front of the buffer
pub record Asked (d : DevState) (L : Label) (e x : ℕ) (old b : List ℕ) (h : RecordHeader) (r : Answer) (stored : List ℕ) : Type 0 where
  pub due : header_on d L e x (length old) ≡ Ok b
  pub whole : h.length % 512 ≡ 0
  pub room : h.length ≤ length old
  pub answer : r ≡ told (sectors_on d L (x + 1) (length (take h.length old) / 512))
  pub laid : stored ≡ over (read_before d L (x + 1) (length (take h.length old) / 512)) (joined (row d L (x + 1) (read_before d L (x + 1) (length (take h.length old) / 512)))) (take h.length old)
  pub all : r ≡ Ok tt → length (joined (row d L (x + 1) (length (take h.length old) / 512))) ≡ 512 * (length (take h.length old) / 512)

one_most : (r : Result (List ℕ) DeviceFault) (k n : ℕ) → k ≤ n → one_more r k ≤ suc n
one_most (Ok b) k n h = omega arith
one_most (Err f) k n h = omega arith

before_most : (d : DevState) (L : Label) (x n : ℕ) → read_before d L x n ≤ n
before_most d L x zero = omega arith
before_most d L x (suc n) = one_most (read d (volume_sector L x)) (read_before d L (x + 1) n) n (before_most d L (x + 1) n)

-- sectors laid over the front of a buffer leave the rest
over_front : (k l : ℕ) (J old : List ℕ) → 512 * k ≤ length (take l old) → over k J (take l old) ++ drop l old ≡ over k J old
over_front k l J old h =
    append_assoc J (drop (512 * k) (take l old)) (drop l old)
    ∙ ap (λ y. J ++ y) (sym (drop-append-le (512 * k) (take l old) (drop l old) h) ∙ ap (drop (512 * k)) (take-append-drop l old))

-- and as many as it has leave nothing of it
over_all : (k : ℕ) (J b : List ℕ) → length b ≤ 512 * k → over k J b ≡ J
over_all k J b h = ap (λ y. J ++ y) (drop_all (512 * k) b h) ∙ simp append-nil

-- a data sector was refused
NoData : (d : DevState) (L : Label) (e x : ℕ) (old b : List ℕ) → RecordHeader → Type 0
NoData d L e x old b h = (r : Answer) (f : DeviceFault) (stored : List ℕ) → Asked d L e x old b h r stored → r ≡ Err f → read_record d L e x old ≡ left (Err (device_refusal f)) (stored ++ drop h.length old)

no_data_by : (d : DevState) (L : Label) (e x : ℕ) (old b : List ℕ) → NoData d L e x old b (header_of b)
unfolding NoData
no_data_by d L e x old b r f stored a i =
    let l = (header_of b).length in
    let n = length (take l old) / 512 in
    let m = length-take-le l old a.room in
    let q : n ≡ data_sectors (header_of b) = ap (λ (y : ℕ). y / 512) m in
    let s = told_err (sectors_on d L (x + 1) n) f (sym a.answer ∙ i) in
    let k = read_before d L (x + 1) n in
    let J = joined (row d L (x + 1) k) in
    let o = over_front k l J old (omega (arith, before_most d L (x + 1) n, m)) in
    ap (record_by d L x old) a.due ∙ ap (data_on d L x b old) (ap (sectors_on d L (x + 1)) (sym q) ∙ s)
    ∙ ap (left (Err (device_refusal f))) (ap (λ i. over (read_before d L (x + 1) i) (joined (row d L (x + 1) (read_before d L (x + 1) i))) old) (sym q) ∙ sym o ∙ ap (λ y. y ++ drop l old) (sym a.laid))

pub no_data : (d : DevState) (L : Label) (e x : ℕ) (old b : List ℕ) (h : RecordHeader) (r : Answer) (f : DeviceFault) (stored : List ℕ) → h ≡ header_of b → Asked d L e x old b h r stored → r ≡ Err f
    → read_record d L e x old ≡ left (Err (device_refusal f)) (stored ++ drop h.length old)
unfolding NoData
no_data d L e x old b h r f stored q = subst (NoData d L e x old b) (sym q) (no_data_by d L e x old b) r f stored

-- all of it was read
AllData : (d : DevState) (L : Label) (e x : ℕ) (old b : List ℕ) → RecordHeader → Type 0
AllData d L e x old b h =
    (r : Answer) (stored : List ℕ) → Asked d L e x old b h r stored → r ≡ Ok tt → read_record d L e x old ≡ left (header_answer L x b stored) (restored_data b stored ++ drop h.length old)

all_data_by : (d : DevState) (L : Label) (e x : ℕ) (old b : List ℕ) → AllData d L e x old b (header_of b)
unfolding AllData
all_data_by d L e x old b r stored a i =
    let l = (header_of b).length in
    let n = length (take l old) / 512 in
    let m = length-take-le l old a.room in
    let q : n ≡ data_sectors (header_of b) = ap (λ (y : ℕ). y / 512) m in
    let s = on_told d L (x + 1) n (sym a.answer ∙ i) in
    let J = joined (row d L (x + 1) n) in
    let z : l ≡ 512 * data_sectors (header_of b) = omega (arith, a.whole) in
    let o : stored ≡ J = a.laid ∙ ap (λ k. over k (joined (row d L (x + 1) k)) (take l old)) s.1 ∙ over_all n J (take l old) (omega (arith, m, a.whole)) in
    ap (record_by d L x old) a.due ∙ ap (data_on d L x b old) (ap (sectors_on d L (x + 1)) (sym q) ∙ s.0)
    ∙ ap (λ y. left (header_answer L x b y) (restored_data b y ++ drop (512 * data_sectors (header_of b)) old)) (sym o)
    ∙ ap (λ (i : ℕ). left (header_answer L x b stored) (restored_data b stored ++ drop i old)) (sym z)

pub all_data : (d : DevState) (L : Label) (e x : ℕ) (old b : List ℕ) (h : RecordHeader) (r : Answer) (stored : List ℕ) → h ≡ header_of b → Asked d L e x old b h r stored → r ≡ Ok tt
    → read_record d L e x old ≡ left (header_answer L x b stored) (restored_data b stored ++ drop h.length old)
unfolding AllData
all_data d L e x old b h r stored q = subst (AllData d L e x old b) (sym q) (all_data_by d L e x old b) r stored
