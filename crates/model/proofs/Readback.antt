-- The record that commit builds, read where it stands. Assumes nothing.
use Rattle.std.proofs.Common.{◌≡◌, ℕ, zero, suc, ◌+◌, ◌-◌, ◌*◌, ◌≤◌, Bool, true, false, eqb, leb, List, [], ◌∷◌, length, Ok, sym, refl, ap, ◌∙◌, subst, arith, lit<, lit≤}
use Rattle.std.proofs.lemmas.Bool.{eq-eqb, le-leb, lt-leb, cond-true, cond-false}
use Rattle.model.specs.Refusals.{Refusal, refusal, by_record, Outcome, ◌>>=◌, need}
use Rattle.codec.specs.Fields.{Bytes, zeros, joined}
use Rattle.device.specs.State.{DevState}
use Rattle.label.specs.declared.label.Label.{Label}
use Rattle.label.specs.Position.{volume_sector}
use Rattle.record.specs.declared.header.RecordHeader.{RecordHeader}
use Rattle.record.specs.Record.{is_header, header_of, sound, end_of, checksum, restored, padded, sectors_for}
use Rattle.model.specs.View.{at, log_header}
use Rattle.item.specs.Meaning.{Bank}
use Rattle.model.specs.Reading.{Reading, sectors_from, data_sectors, stored_data, record_stands, counted, read_ops, read_record, read_records}
use Rattle.model.specs.Calls.{clearing_op, commit_ops}
use Rattle.model.specs.Laws.{ReadsBack, Stand, CommitRead, after_records, FrontPasses, Fits, ClearingRead}
use Rattle.codec.proofs.Allbytes.{bytes_zeros}
use Rattle.model.proofs.Outcomes.{bind_ok}
use Rattle.model.proofs.Sums.{bytes_op}
use Rattle.model.proofs.Back.{written_reads}
use Rattle.model.proofs.Opsback.{ops_read}

sectors_stand : (L : Label) (log : List (List ℕ)) (secs : List (List ℕ)) (y n : ℕ) → length secs ≡ n → Stand L log y secs → sectors_from L log y n ≡ secs
sectors_stand L log [] y zero e s = refl
sectors_stand L log [] y (suc n) e s = let x : ⊥ = omega arith in elim x [ ]
sectors_stand L log (b ∷ secs) y zero e s = let x : ⊥ = omega arith in elim x [ ]
sectors_stand L log (b ∷ secs) y (suc n) e s =
    let z : y ≡ y + 0 = omega arith in
    let t : Stand L log (y + 1) secs = λ j h. let q : y + 1 + j ≡ y + suc j = omega arith in ap (at L log) q ∙ s (suc j) (omega arith) in
    ap (λ v. v ∷ sectors_from L log (y + 1) n) (ap (at L log) z ∙ s 0 (omega arith))
    ∙ ap (λ l. b ∷ l) (sectors_stand L log secs (y + 1) n (omega arith) t)

module _ (L : Label) (log : List (List ℕ)) (e x tail previous ops : ℕ) (b h : List ℕ) (secs : List (List ℕ))
    (R : ReadsBack L x tail previous ops b h secs) (s : Stand L log x (h ∷ secs)) (l : x + 1 + sectors_for (length b) ≤ e) where
  here : at L log x ≡ h
  here = let z : x ≡ x + 0 = omega arith in ap (at L log) z ∙ s 0 (omega arith)

  data_here : stored_data L log (header_of h) x ≡ joined secs
  data_here =
      let z : data_sectors (header_of h) ≡ length secs = omega (arith, R.ends, R.as_many) in
      ap joined (sectors_stand L log secs (x + 1) (data_sectors (header_of h)) (sym z) (λ j u. let q : x + 1 + j ≡ x + suc j = omega arith in ap (at L log) q ∙ s (suc j) (omega arith)))

  stands_here : record_stands L log e x ≡ Ok tt
  stands_here =
      let f : ℕ → Refusal = λ n. refusal n by_record (volume_sector L x) 0 in
      let G : List ℕ → Outcome (Unit {0}) = λ b.
      need (is_header b) (f 8) >>= λ _. need (sound L (header_of b) x) (f 7) >>= λ _. need (leb (end_of (header_of b) x) e) (f 8) >>= λ _.
      need (eqb (checksum b (stored_data L log (header_of b) x)) (header_of b).sum) (f 9) in
      let k : RecordHeader = header_of h in
      let H : Bool → Bool → Bool → Bool → Outcome (Unit {0}) = λ p q u v. need p (f 8) >>= λ _. need q (f 7) >>= λ _. need u (f 8) >>= λ _. need v (f 9) in
      ap G here
      ∙ ap (λ p. H p (sound L k x) (leb (end_of k x) e) (eqb (checksum h (stored_data L log k x)) k.sum)) R.is_one
      ∙ ap (λ q. H true q (leb (end_of k x) e) (eqb (checksum h (stored_data L log k x)) k.sum)) R.stands
      ∙ ap (λ u. H true true u (eqb (checksum h (stored_data L log k x)) k.sum)) (le-leb (end_of k x) e (omega (arith, R.ends, l)))
      ∙ ap (λ v. H true true true v) (eq-eqb (checksum h (stored_data L log k x)) k.sum (ap (checksum h) data_here ∙ R.sums))

  pub read_here : (d : DevState) (bank : Bank) (r : Reading) →
      read_record d L bank log e x r ≡ read_ops d L bank (volume_sector L x) (padded b) 0 ops (counted r)
  read_here d bank r =
      let D : List ℕ → List ℕ → List ℕ = λ b s. restored (data_sectors (header_of b)) b s in
      ap (λ z. z >>= λ _. read_ops d L bank (volume_sector L x) (D (at L log x) (stored_data L log (log_header L log x) x)) 0 (log_header L log x).ops (counted r)) stands_here
      ∙ ap (λ b. read_ops d L bank (volume_sector L x) (D b (stored_data L log (header_of b) x)) 0 (header_of b).ops (counted r)) here
      ∙ ap (λ q. read_ops d L bank (volume_sector L x) (D h q) 0 (header_of h).ops (counted r)) data_here
      ∙ ap (λ q. read_ops d L bank (volume_sector L x) q 0 (header_of h).ops (counted r)) R.gives
      ∙ ap (λ q. read_ops d L bank (volume_sector L x) (padded b) 0 q (counted r)) R.counts

pub commit_read : CommitRead
commit_read d L bank log e x tail previous number items rs r g f low small clear s l =
    let b : List ℕ = commit_ops number items rs in
    let w = written_reads L x tail previous (3 + length rs) b g f in
    read_here L log e x tail previous (3 + length rs) b w.0 w.1 w.3 (subst (λ (z : List (List ℕ)). Stand L log x z) w.2 s) l d bank r
    ∙ ops_read d L bank (volume_sector L x) number items rs (zeros (512 * sectors_for (length b) - length b)) (counted r) low small clear

-- A clearing record.

clearing_bytes : Bytes clearing_op
clearing_bytes = bytes_op 0 0xAA 0x20 (0x6E ∷ 0x55 ∷ zeros 6) (lit< tt) (lit< tt) (lit< tt, (lit< tt, bytes_zeros 6))

pub clearing_read : ClearingRead
clearing_read d L bank log e x previous r g big begun last low s l =
    let f : Fits L x x previous 1 clearing_op = record {
      begun = begun;
      last = last;
      behind = omega arith;
      previous_low = low;
      ops_low = lit< tt;
      some = lit≤ tt;
      most = big;
      bytes = clearing_bytes;
    } in
    let w = written_reads L x x previous 1 clearing_op g f in
    read_here L log e x x previous 1 clearing_op w.0 w.1 w.3 (subst (λ (z : List (List ℕ)). Stand L log x z) w.2 s) (omega arith) d bank r

-- The front of a chain.

ends_after : (L : Label) (log : List (List ℕ)) (x k : ℕ) → x ≤ after_records L log x k
ends_after L log x zero = omega arith
ends_after L log x (suc k) = omega (arith, ends_after L log (end_of (log_header L log x) x) k)

-- a record that ends by e, and by y too
nearer : (L : Label) (log : List (List ℕ)) (e y x : ℕ) → record_stands L log e x ≡ Ok tt → end_of (log_header L log x) x ≤ y → record_stands L log y x ≡ Ok tt
nearer L log e y x s h =
    go (is_header (at L log x)) (sound L b x) (leb (end_of b x) e) (leb (end_of b x) y) (eqb (checksum (at L log x) (stored_data L log b x)) b.sum) (le-leb (end_of b x) y h) s
  where
    b : RecordHeader
    b = log_header L log x

    go : (p q u v w : Bool) → v ≡ true →
        (need p (refusal 8 by_record (volume_sector L x) 0) >>= λ _. need q (refusal 7 by_record (volume_sector L x) 0) >>= λ _.
        need u (refusal 8 by_record (volume_sector L x) 0) >>= λ _. need w (refusal 9 by_record (volume_sector L x) 0)) ≡ Ok tt →
        (need p (refusal 8 by_record (volume_sector L x) 0) >>= λ _. need q (refusal 7 by_record (volume_sector L x) 0) >>= λ _.
        need v (refusal 8 by_record (volume_sector L x) 0) >>= λ _. need w (refusal 9 by_record (volume_sector L x) 0)) ≡ Ok tt
    go false q u v w k e = cc
    go true false u v w k e = cc
    go true true false v w k e = cc
    go true true true v w k e = ap (λ z. need z (refusal 8 by_record (volume_sector L x) 0) >>= λ _. need w (refusal 9 by_record (volume_sector L x) 0)) k ∙ e

pub front_passes : FrontPasses
front_passes d L bank log e x zero k r r' p h = (r, refl)
front_passes d L bank log e x (suc n) zero r r' p h =
    (r, cond-true (leb x x) (Ok r) (read_record d L bank log x x r >>= λ q. read_records d L bank log x (end_of (log_header L log x) x) n q) (le-leb x x (omega arith)))
front_passes d L bank log e x (suc n) (suc k) r r' p h =
    let b : RecordHeader = log_header L log x in
    let y : ℕ = after_records L log (end_of b x) k in
    let l : end_of b x ≤ y = ends_after L log (end_of b x) k in
    let rest : Reading → Outcome Reading = λ q. read_records d L bank log e (end_of b x) n q in
    let p₁ : (read_record d L bank log e x r >>= rest) ≡ Ok r' = sym (cond-false (leb e x) (Ok r) (read_record d L bank log e x r >>= rest) (lt-leb e x (omega arith))) ∙ p in
    let a = bind_ok (read_record d L bank log e x r) rest r' p₁ in
    let ops : Unit {0} → Outcome Reading = λ _. read_ops d L bank (volume_sector L x) (restored (data_sectors b) (at L log x) (stored_data L log b x)) 0 b.ops (counted r) in
    let s = bind_ok (record_stands L log e x) ops a.0 a.1 in
    let t : read_record d L bank log y x r ≡ Ok a.0 = ap (λ z. z >>= ops) (nearer L log e y x s.1 l) ∙ s.2 in
    let i = front_passes d L bank log e (end_of b x) n k a.0 r' a.2 h in (
      i.0,
      cond-false (leb y x) (Ok r) (read_record d L bank log y x r >>= λ q. read_records d L bank log y (end_of b x) n q) (lt-leb y x (omega arith))
          ∙ ap (λ z. z >>= λ q. read_records d L bank log y (end_of b x) n q) t ∙ i.1,
    )
