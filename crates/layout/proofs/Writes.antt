-- What label, commit, clear and replay write to the log, in the words of lives. Assumes nothing.
use Rattle.std.proofs.Common.{◌≡◌, ℕ, zero, suc, ◌+◌, ◌<◌, ◌≤◌, cond, eqb, List, [], ◌∷◌, ◌++◌, length, get_or, replicate, sym, refl, ap, ◌∙◌, mod-eq_of_lt, arith}
use Rattle.device.specs.State.{Sector}
use Rattle.device.specs.Actions.{write, writes}
use Rattle.label.specs.declared.label.Label.{Label}
use Rattle.label.specs.Position.{volume_sector, place}
use Rattle.record.specs.Record.{packed, padded, sectors_for, sealed, header_at, saved_words, stored, sectors}
use Rattle.model.proofs.Stamped.{length_padded}
use Rattle.item.specs.Meaning.{Bank}
use Rattle.model.specs.Lay.{blank, blanks, record_writes}
use Rattle.life.specs.Format.{Rec, size, Fits}
use Rattle.life.specs.Log as log
use Rattle.life.specs.Calls as calls
use Rattle.layout.specs.Real.{Usable, sec}
use Rattle.layout.specs.Plans.{HasLog}
use Rattle.layout.proofs.Ring.{ring}
use Rattle.layout.proofs.Secs.{sectors_whole, padded_whole, packed_is, rest_many}
use Rattle.layout.proofs.Search.{at_here}
use Rattle.layout.proofs.Real.{real}

-- a record of bytes is the record of these bytes filled up
pub packed_padded : (L : Label) (x t previous ops : ℕ) (b : List ℕ) → packed L x t previous ops (padded b) ≡ packed L x t previous ops b
packed_padded L x t previous ops b =
    let n : ℕ = sectors_for (length b) in
    let G : ℕ → List ℕ → List (List ℕ) = λ k d. sealed (header_at L (place L x) (place L t) previous ops k) (saved_words k d) (stored L (x + 1) k d) ∷ sectors k (stored L (x + 1) k d) in
    ap (λ k. G k (padded (padded b))) (sectors_whole (padded b) n (length_padded b)) ∙ ap (G n) (padded_whole (padded b) n (length_padded b))

module _ (L : Label) (n : ℕ) (bank : Bank) (u : Usable L n) where
  -- positions from x on that are given up
  pub blanks_same : (c : ℕ → Sector) (logs : List (List ℕ)) → HasLog L c logs → (x k : ℕ) → blanks L logs x k ≡ calls.blanks (real L n bank u) c x k
  blanks_same c logs has x zero = refl
  blanks_same c logs has x (suc k) =
      ap (λ y. cond (eqb y x) (write (volume_sector L x) (blank L x) ∷ []) [] ++ blanks L logs (x + 1) k) (sym (at_here L n bank u c logs has x))
      ∙ ap (λ l. cond (eqb (log.at (ring L n u) c x) x) (write (volume_sector L x) (blank L x) ∷ []) [] ++ l) (blanks_same c logs has (x + 1) k)

  -- the sectors of a record from its sector j on
  puts_same : (r : Rec) (t p j k : ℕ) (secs : List (List ℕ)) → length secs ≡ k → ((i : ℕ) → i < k → get_or secs i [] ≡ sec L r t p (j + i)) →
      record_writes L (p + j) secs ≡ calls.puts (real L n bank u) r t p j k
  puts_same r t p j zero [] e f = refl
  puts_same r t p j zero (b ∷ secs) e f = let z : ⊥ = omega arith in elim z [ ]
  puts_same r t p j (suc k) [] e f = let z : ⊥ = omega arith in elim z [ ]
  puts_same r t p j (suc k) (b ∷ secs) e f =
      let z : j + 0 ≡ j = omega arith in
      let w : p + j + 1 ≡ p + (j + 1) = omega arith in
      let h : b ≡ sec L r t p j = f 0 (omega arith) ∙ ap (sec L r t p) z in
      ap (λ x. write (volume_sector L (p + j)) x ∷ record_writes L (p + j + 1) secs) h
      ∙ ap (λ y. write (volume_sector L (p + j)) (sec L r t p j) ∷ record_writes L y secs) w
      ∙ ap (λ l. write (volume_sector L (p + j)) (sec L r t p j) ∷ l)
      (puts_same r t p (j + 1) k secs (omega (arith, e)) (λ i l. let y : j + suc i ≡ j + 1 + i = omega arith in f (suc i) (omega arith) ∙ ap (sec L r t p) y))

  -- the sectors of a record
  pub record_same : (r : Rec) (t p : ℕ) → Fits (ring L n u) r t p →
      record_writes L p (packed L p t r.previous r.ops r.payload) ≡ calls.record_writes (real L n bank u) r t p
  record_same r t p f =
      let z : p ≡ p + 0 = omega arith in
      let m : length (packed L p t r.previous r.ops r.payload) ≡ size r = ap length (packed_is L n u r t p f) ∙ ap suc (rest_many L n u r t p f) in
      ap (λ x. record_writes L x (packed L p t r.previous r.ops r.payload)) z
      ∙ puts_same r t p 0 (size r) (packed L p t r.previous r.ops r.payload) m (λ i l. let y : i ≡ 0 + i = omega arith in ap (sec L r t p) y)

  -- the log as zeros
  pub zeros_same : (x k : ℕ) → x + k ≤ L.count → writes (L.start + x) (replicate k (replicate 512 0)) ≡ calls.zero_writes (real L n bank u) x k
  zeros_same x zero h = refl
  zeros_same x (suc k) h =
      let s : L.start + x ≡ volume_sector L x = ap (λ y. L.start + y) (sym (mod-eq_of_lt (below x k h))) in
      let w : L.start + x + 1 ≡ L.start + (x + 1) = omega arith in
      ap (λ y. write y (replicate 512 0) ∷ writes (L.start + x + 1) (replicate k (replicate 512 0))) s
      ∙ ap (λ y. write (volume_sector L x) (replicate 512 0) ∷ writes y (replicate k (replicate 512 0))) w
      ∙ ap (λ l. write (volume_sector L x) (replicate 512 0) ∷ l) (zeros_same (x + 1) k (omega arith))
    where
      below : (x k : ℕ) → x + suc k ≤ L.count → x < L.count
      below x k h = omega arith
