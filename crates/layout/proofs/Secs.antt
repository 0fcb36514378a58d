-- The sectors of records and blanks: what they hold, and that they tell the record. Assumes nothing.
use Rattle.std.proofs.Common.{◌≡◌, ℕ, zero, suc, ◌+◌, ◌-◌, ◌*◌, ◌/◌, ◌<◌, ◌≤◌, true, List, [], ◌∷◌, ◌++◌, length, get_or, replicate, sym, ap, ◌∙◌, mod-eq_of_lt, div-add-mod', arith}
use native.Mathlib.Nat.{mod-eq-sub-mod}
use Rattle.std.proofs.lemmas.List.{append-nil, ext_get_or}
use Rattle.std.proofs.lemmas.Bool.{cond-true, cond-false}
use Rattle.codec.specs.Fields.{zeros, joined}
use Rattle.label.specs.declared.label.Label.{Label}
use Rattle.label.specs.Position.{position, cycle, log_sector, volume_sector}
use Rattle.record.specs.Record.{is_header, held_cycle, held_position, header_of, packed, padded, sectors_for, restored}
use Rattle.model.specs.Laws as model
use Rattle.model.specs.Lay.{blank}
use Rattle.model.specs.Reading.{data_sectors}
use Rattle.model.proofs.Back.{written_reads}
use Rattle.model.proofs.Stamped.{stamped_turns}
use Rattle.life.specs.Disk.{holds}
use Rattle.life.specs.Format.{Rec, size, Fits}
use Rattle.layout.specs.Real.{Usable, pos, len, tail, sound, sec}
use Rattle.layout.proofs.Ring.{ring, sane}

-- data of whole sectors is not filled up
pub sectors_whole : (b : List ℕ) (n : ℕ) → length b ≡ 512 * n → sectors_for (length b) ≡ n
sectors_whole b n e = omega arith

pub padded_whole : (b : List ℕ) (n : ℕ) → length b ≡ 512 * n → padded b ≡ b
padded_whole b n e =
    let z : 512 * sectors_for (length b) - length b ≡ 0 = omega arith in
    ap (λ k. b ++ zeros k) z ∙ append-nil b

-- a sector of the log that holds the cycle of position x holds x
pub held_at : (L : Label) (x : ℕ) (b : List ℕ) → held_cycle b ≡ cycle L x → pos L (volume_sector L x) (holds b) ≡ x
held_at L x b e =
    let i : volume_sector L x - L.start ≡ log_sector L x = omega arith in
    ap (λ k. held_position L k b) i ∙ ap (λ c. position L c (log_sector L x)) e ∙ div-add-mod' x L.count

module _ (L : Label) (n : ℕ) (u : Usable L n) where
  -- a record that fits as life says it fits as the model does
  pub fits : (r : Rec) (t p : ℕ) → Fits (ring L n u) r t p → model.Fits L p t r.previous r.ops r.payload
  fits r t p f =
      let m : sectors_for (length r.payload) ≡ r.more = sectors_whole r.payload r.more f.small.whole in
      record {
        begun = f.begun;
        last = omega (arith, m, f.last);
        behind = f.behind;
        previous_low = f.small.previous_low;
        ops_low = f.small.ops_low;
        some = omega (arith, f.small.whole, f.small.some);
        most = omega (arith, m, f.small.most);
        bytes = f.small.bytes;
      }

  -- its sectors, and what they say
  module _ (r : Rec) (t p : ℕ) (f : Fits (ring L n u) r t p) where
    pub head_of : List ℕ
    head_of = (written_reads L p t r.previous r.ops r.payload (sane L n u) (fits r t p f)).0

    pub rest_of : List (List ℕ)
    rest_of = (written_reads L p t r.previous r.ops r.payload (sane L n u) (fits r t p f)).1

    pub packed_is : packed L p t r.previous r.ops r.payload ≡ head_of ∷ rest_of
    unfolding head_of rest_of
    packed_is = (written_reads L p t r.previous r.ops r.payload (sane L n u) (fits r t p f)).2

    pub back : model.ReadsBack L p t r.previous r.ops r.payload head_of rest_of
    unfolding head_of rest_of
    back = (written_reads L p t r.previous r.ops r.payload (sane L n u) (fits r t p f)).3

    pub first_is : sec L r t p 0 ≡ head_of
    first_is = ap (λ l. get_or l 0 []) packed_is

    pub later_is : (j : ℕ) → sec L r t p (suc j) ≡ get_or rest_of j []
    later_is j = ap (λ l. get_or l (suc j) []) packed_is

    pub rest_many : length rest_of ≡ r.more
    rest_many = back.as_many ∙ sectors_whole r.payload r.more f.small.whole

    pub sec_whole : (j : ℕ) → j < size r → length (sec L r t p j) ≡ 512
    sec_whole zero l = ap length first_is ∙ back.whole
    sec_whole (suc j) l = ap length (later_is j) ∙ back.wholes j (omega (arith, rest_many, l))

    pub sec_pos : (j : ℕ) → j < size r → pos L (volume_sector L (p + j)) (holds (sec L r t p j)) ≡ p + j
    sec_pos zero l =
        let z : p ≡ p + 0 = omega arith in
        held_at L (p + 0) (sec L r t p 0) (ap held_cycle first_is ∙ back.turn ∙ ap (cycle L) z)
    sec_pos (suc j) l =
        let z : p + 1 + j ≡ p + suc j = omega arith in
        held_at L (p + suc j) (sec L r t p (suc j)) (ap held_cycle (later_is j) ∙ back.turns j (omega (arith, rest_many, l)) ∙ ap (cycle L) z)

    pub sec_sound : sound L p (holds (sec L r t p 0)) ≡ true
    sec_sound = ap (λ b. sound L p (holds b)) first_is ∙ back.stands

    pub sec_len : len (holds (sec L r t p 0)) ≡ size r
    sec_len =
        let m : (header_of head_of).length / 512 ≡ r.more = omega (arith, back.ends, back.as_many, rest_many) in
        ap (λ b. len (holds b)) first_is ∙ cond-true (is_header head_of) (1 + (header_of head_of).length / 512) 0 back.is_one ∙ omega (arith, m)

    pub sec_tail : tail L (holds (sec L r t p 0)) ≡ t
    sec_tail = ap (λ b. tail L (holds b)) first_is ∙ back.tells

    pub sec_data : (j : ℕ) → suc j < size r → len (holds (sec L r t p (suc j))) ≡ 0
    sec_data j l =
        ap (λ b. len (holds b)) (later_is j)
        ∙ cond-false (is_header (get_or rest_of j [])) (1 + (header_of (get_or rest_of j [])).length / 512) 0 (back.no_header j (omega (arith, rest_many, l)))

    -- the data, from its sectors
    pub sec_payload : restored (data_sectors (header_of head_of)) head_of (joined rest_of) ≡ r.payload
    sec_payload = back.gives ∙ padded_whole r.payload r.more f.small.whole

  pub sec_one : (r q : Rec) (t v p : ℕ) → Fits (ring L n u) r t p → Fits (ring L n u) q v p → ((j : ℕ) → j < size r → sec L r t p j ≡ sec L q v p j) → size r ≡ size q → r ≡ q
  sec_one r q t v p f g same e =
      let h : head_of r t p f ≡ head_of q v p g = sym (first_is r t p f) ∙ same 0 (omega arith) ∙ first_is q v p g in
      let m : r.more ≡ q.more = omega arith in
      let k : rest_of r t p f ≡ rest_of q v p g =
      ext_get_or [] (rest_of r t p f) (rest_of q v p g) (rest_many r t p f ∙ m ∙ sym (rest_many q v p g))
      (λ j l. sym (later_is r t p f j) ∙ same (suc j) (omega (arith, rest_many r t p f, l)) ∙ later_is q v p g j) in
      let D : List ℕ → List (List ℕ) → List ℕ = λ b s. restored (data_sectors (header_of b)) b (joined s) in
      let a : r.previous ≡ q.previous = sym (back r t p f).before ∙ ap (λ b. (header_of b).previous) h ∙ (back q v p g).before in
      let b : r.ops ≡ q.ops = sym (back r t p f).counts ∙ ap (λ b. (header_of b).ops) h ∙ (back q v p g).counts in
      let d : r.payload ≡ q.payload = sym (sec_payload r t p f) ∙ ap (λ b. D b (rest_of r t p f)) h ∙ ap (D (head_of q v p g)) k ∙ sec_payload q v p g in
      λ i. record { previous = a i; ops = b i; more = m i; payload = d i }

  -- a blank holds the position a turn before
  pub blank_pos : (x : ℕ) → L.count ≤ x → x < 2147483648 * L.count → pos L (volume_sector L x) (holds (blank L x)) + L.count ≡ x
  blank_pos x h l =
      let y : ℕ = x - L.count in
      let z : y + 0 ≡ y = omega arith in
      let c : held_cycle (blank L x) ≡ cycle L y = stamped_turns L y 1 (zeros 512) 0 (sane L n u).some (omega arith) (omega arith) ∙ ap (cycle L) z in
      let s : volume_sector L x ≡ volume_sector L y = ap (λ k. L.start + k) (mod-eq-sub-mod h) in
      let e : pos L (volume_sector L x) (holds (blank L x)) ≡ y = ap (λ i. pos L i (holds (blank L x))) s ∙ held_at L y (blank L x) c in
      omega (arith, e)

-- a sector of zeros holds its position in the first turn
pub zero_pos : (L : Label) (x : ℕ) → x < L.count → pos L (volume_sector L x) (holds (replicate 512 0)) ≡ x
zero_pos L x h =
    let i : volume_sector L x - L.start ≡ log_sector L x = omega arith in
    let e : log_sector L x ≡ x = mod-eq_of_lt h in
    omega (arith, i, e)
