-- A record that is written is read back. Assumes nothing.
use Rattle.std.proofs.Common.{◌≡◌, ℕ, ◌+◌, ◌*◌, ◌/◌, ◌%◌, ◌<◌, ◌≤◌, true, eqb, List, [], ◌∷◌, length, get_or, sym, refl, ap, ◌∙◌, mod-lt, div-add-mod', arith, lit<}
use Rattle.std.specs.Str.{bytes_eq}
use Rattle.std.proofs.lemmas.Bool.{eq-eqb, ne_eqb, le-leb, and_from, not_from_false}
use Rattle.codec.specs.Fields.{joined}
use Rattle.label.specs.declared.label.Label.{Label}
use Rattle.record.specs.declared.header.RecordHeader.{RecordHeader}
use Rattle.label.specs.Position.{cycle, log_sector, place}
use Rattle.record.specs.Record.{held_cycle, is_header, sound, checksum, saved_words, stored, restored, header_bytes, with_sum, header_at, sectors_for, padded, sectors}
use Rattle.record.specs.Laws.{HeaderFits}
use Rattle.record.proofs.Back.{header_reads, length_saved, record_laws}
use Rattle.model.specs.View.{tail_of}
use Rattle.model.specs.Laws.{WrittenReads}
use Rattle.model.proofs.Sums.{checksum_lt, bytes_header, bytes_saved, bytes_stored, bytes_padded}
use Rattle.model.proofs.Stamped.{cycle_low, stamped, sectors_stored, joined_sectors, length_stored, length_padded, length_stamped, stamped_turns, stamped_no, stamped_whole}

same_self : (xs : List ℕ) → bytes_eq xs xs ≡ true
same_self [] = refl
same_self (x ∷ xs) = and_from (eqb x x) (bytes_eq xs xs) (eq-eqb x x refl) (same_self xs)

-- the header of a record with n data sectors is sound
sound_one : (L : Label) (x : ℕ) (tail : ℕ × ℕ) (previous ops n sum : ℕ) → (cycle L x ≡ 0 → ⊥) → 1 ≤ n → 512 * n ≤ L.most →
    sound L (with_sum (header_at L (place L x) tail previous ops n) sum) x ≡ true
sound_one L x tail previous ops n sum some least most =
    and_from _ _ (same_self L.uuid)
    (and_from _ _ (eq-eqb (cycle L x) (cycle L x) refl)
    (and_from _ _ (eq-eqb (log_sector L x) (log_sector L x) refl)
    (and_from _ _ (not_from_false (eqb (cycle L x) 0) (ne_eqb (cycle L x) 0 some))
    (and_from _ _ (eq-eqb (512 * n % 512) 0 (omega arith))
    (and_from _ _ (le-leb 512 (512 * n) (omega arith)) (le-leb (512 * n) L.most most))))))

cycle_some : (x N : ℕ) → 1 ≤ N → N ≤ x → x / N ≡ 0 → ⊥
cycle_some x N p h z = omega (arith, sym (div-add-mod' x N) ∙ ap (λ q. q * N + x % N) z, mod-lt x p)

pub written_reads : WrittenReads
written_reads L x tail previous ops b g f =
    let n : ℕ = sectors_for (length b) in
    let d : List ℕ = padded b in
    let s : List ℕ = stored L (x + 1) n d in
    let H₀ : RecordHeader = header_at L (place L x) (place L tail) previous ops n in
    let w : List ℕ = saved_words n d in
    let sum : ℕ = checksum (header_bytes H₀ w) s in
    let H : RecordHeader = with_sum H₀ sum in
    let h : List ℕ = header_bytes H w in
    let secs : List (List ℕ) = sectors n s in
    let n-low : n ≤ 64 = omega (arith, f.most, g.short) in
    let n-some : 1 ≤ n = omega (arith, f.some) in
    let d-long : length d ≡ 512 * n = length_padded b in
    let c-low : cycle L x < 2147483648 = cycle_low L x g.some (omega (arith, f.last)) in
    let t-low : cycle L tail < 2147483648 = cycle_low L tail g.some (omega (arith, f.last, f.behind)) in
    let i-low : log_sector L x < L.count = mod-lt x g.some in
    let k-low : log_sector L tail < L.count = mod-lt tail g.some in
    let d-bytes = bytes_padded b f.bytes in
    let sum_low : sum < 4294967296 = checksum_lt (header_bytes H₀ w) s (bytes_header H₀ w g.bytes (bytes_saved n d d-bytes)) (bytes_stored L (x + 1) n d d-bytes) in
    let F : HeaderFits H = record {
      cycle = omega arith;
      version = lit< tt;
      data_length = omega arith;
      own_cycle = omega arith;
      own_sector = omega (arith, g.few);
      tail_cycle = omega arith;
      tail_sector = omega (arith, g.few);
      sum = sum_low;
      previous = f.previous_low;
      ops = f.ops_low;
      format = lit< tt;
      uuid = g.uuid;
      most = omega (arith, g.short);
    } in
    let R = header_reads H w F (length_saved n d n-low (omega arith)) in
    let half : 512 * n / 512 ≡ n = omega arith in
    let whole-data : joined (sectors n s) ≡ s = joined_sectors n s (length_stored L (x + 1) n d d-long) in
    let E : secs ≡ stamped L (x + 1) n d = sectors_stored L (x + 1) n d (omega arith) in
    let m : length secs ≡ n = ap length E ∙ length_stamped L (x + 1) n d in (
      h,
      secs,
      refl,
      record {
        is_one = R.marked;
        turn = ap (λ r. r.cycle) R.fields;
        stands = ap (λ r. sound L r x) R.fields ∙ sound_one L x (place L tail) previous ops n sum (cycle_some x L.count g.some f.begun) n-some f.most;
        ends = ap (λ r. x + 1 + r.length / 512) R.fields ∙ ap (λ k. x + 1 + k) half;
        tells = ap (λ r. tail_of L r) R.fields ∙ div-add-mod' tail L.count;
        tells_low = omega (arith, ap (λ r. r.tail.1) R.fields, k-low);
        before = ap (λ r. r.previous) R.fields;
        counts = ap (λ r. r.ops) R.fields;
        sums = ap (checksum h) whole-data ∙ sym (ap (λ r. r.sum) R.fields);
        gives = ap (λ r. restored (r.length / 512) h (joined (sectors n s))) R.fields ∙ ap (λ k. restored k h (joined (sectors n s))) half
            ∙ ap (restored n h) whole-data ∙ record_laws.words L (x + 1) n d H n-low (omega arith);
        whole = R.whole;
        wholes = λ j l. ap (λ z. length (get_or z j [])) E ∙ stamped_whole L (x + 1) n d j d-long (omega (arith, m, l));
        as_many = m;
        turns = λ j l. ap (λ z. held_cycle (get_or z j [])) E ∙ stamped_turns L (x + 1) n d j g.some (omega (arith, m, l)) (omega (arith, m, l, f.last));
        no_header = λ j l. ap (λ z. is_header (get_or z j [])) E ∙ stamped_no L (x + 1) n d j g.some (omega (arith, m, l)) (omega (arith, m, l, f.last));
      },
    )
