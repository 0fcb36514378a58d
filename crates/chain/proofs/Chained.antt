-- A record that was read, by the sectors of the whole log. Assumes nothing.
use Rattle.std.proofs.Common.{◌≡◌, ℕ, zero, suc, ◌+◌, ◌≤◌, Bool, true, false, cond, leb, List, length, Ok, Err, sym, refl, ap, ◌∙◌, mod-lt, arith}
use Rattle.codec.specs.Fields.{joined}
use Rattle.device.specs.State.{DevState}
use Rattle.device.specs.Steps.{read, reads, then_read, then_rest}
use Rattle.device.proofs.Reading.{reads_each}
use Rattle.label.specs.declared.label.Label.{Label}
use Rattle.label.specs.Position.{log_sector, volume_sector}
use Rattle.record.specs.Record.{is_header, header_of, sound, end_of, restored}
use Rattle.model.specs.Refusals.{Refusal, refusal, by_record, Outcome, ◌>>=◌, need}
use Rattle.model.specs.View.{at, read_log}
use Rattle.model.specs.Reading.{sectors_from, data_sectors, record_stands}
use Rattle.model.proofs.Outcomes.{device_ok}
use Rattle.chain.specs.Rows.{sectors_on, over}
use Rattle.chain.specs.Records.{header_due, header_on, sum_right, sum_answer, data_on, record_by, read_record}
use Rattle.chain.specs.Standing.{Stands}
use Rattle.chain.proofs.Heads.{on_read}

module _ (d : DevState) (L : Label) (log : List (List ℕ)) (some : 1 ≤ L.count) (r : reads d L.start L.count ≡ Ok log) where
  read_at : (x : ℕ) → read d (volume_sector L x) ≡ Ok (at L log x)
  read_at x = (reads_each d L.start L.count log r).1 (log_sector L x) (mod-lt x some)

  on_log : (x n : ℕ) → sectors_on d L x n ≡ Ok (sectors_from L log x n)
  on_log x zero = refl
  on_log x (suc n) = ap (λ y. then_read y (sectors_on d L (x + 1) n)) (read_at x) ∙ ap (then_rest (at L log x)) (on_log (x + 1) n)

-- four checks, or three and the last
apart : (a b c : Bool) (f g h : Refusal) (k : Outcome (Unit {0})) → (need a f >>= λ _. need b g >>= λ _. need c h >>= λ _. k) ≡ ((need a f >>= λ _. need b g >>= λ _. need c h) >>= λ _. k)
apart true true true f g h k = refl
apart true true false f g h k = refl
apart true false c f g h k = refl
apart false b c f g h k = refl

-- where the sum is right the words are put back
right : (t : Bool) (f : Refusal) (a b : List ℕ) → need t f ≡ Ok tt → cond t a b ≡ a
right true f a b e = refl
right false f a b e = let z : ◌≡◌ {A = ℕ} 0 1 = cc in let y : ⊥ = omega arith in elim y [ ]

-- the record by what its header was judged
by_header : (d : DevState) (L : Label) (x : ℕ) (old b : List ℕ) (bs : List (List ℕ)) (u v : Outcome (Unit {0})) → sectors_on d L (x + 1) (data_sectors (header_of b)) ≡ Ok bs → v ≡ (u >>= λ _. sum_answer L x b (joined bs))
    → ((record_by d L x old (u >>= λ _. Ok b)).answer ≡ (v >>= λ _. Ok (header_of b)))
    × (v ≡ Ok tt → (record_by d L x old (u >>= λ _. Ok b)).buffer ≡ over (data_sectors (header_of b)) (restored (data_sectors (header_of b)) b (joined bs)) old)
by_header d L x old b bs (Ok tt) v s e =
    let n = data_sectors (header_of b) in (
      ap (λ q. (data_on d L x b old q).answer) s ∙ ap (λ y. y >>= λ _. Ok (header_of b)) (sym e),
      λ k. ap (λ q. (data_on d L x b old q).buffer) s ∙ ap (λ y. over n y old) (right (sum_right b (joined bs)) (refusal 9 by_record (volume_sector L x) 0) (restored n b (joined bs)) (joined bs) (sym e ∙ k)),
    )
by_header d L x old b bs (Err f) v s e = (sym (ap (λ y. y >>= λ _. Ok (header_of b)) e), λ k. let z : ◌≡◌ {A = ℕ} 0 1 = cc (sym e ∙ k) in let y : ⊥ = omega arith in elim y [ ])

pub stands : (d : DevState) (L : Label) (log : List (List ℕ)) (e x : ℕ) (old : List ℕ) → 1 ≤ L.count → read_log d L ≡ Ok log → L.most ≤ length old → Stands L log e x old (read_record d L e x old)
stands d L log e x old some h m =
    let r = device_ok (reads d L.start L.count) log h in
    let b = at L log x in
    let u = header_due L e x b in
    let J = sectors_from L log (x + 1) (data_sectors (header_of b)) in
    let H : header_on d L e x (length old) ≡ (u >>= λ _. Ok b) = on_read d L e x (length old) b m (read_at d L log some r x) in
    let v : record_stands L log e x ≡ (u >>= λ _. sum_answer L x b (joined J)) = apart (is_header b) (sound L (header_of b) x) (leb (end_of (header_of b) x) e) _ _ _ (sum_answer L x b (joined J)) in
    let p = by_header d L x old b J u (record_stands L log e x) (on_log d L log some r (x + 1) (data_sectors (header_of b))) v in
    record { answer = ap (λ y. (record_by d L x old y).answer) H ∙ p.0; restores = λ k. ap (λ y. (record_by d L x old y).buffer) H ∙ p.1 k }
