-- What is written is read back. Assumes nothing.
use Rattle.std.proofs.Common.{◌≡◌, ℕ, ◌+◌, ◌-◌, ◌*◌, ◌≤◌, List, [], ◌++◌, length, get_or, take, drop, sym, refl, ap, ◌∙◌, add_assoc, arith}
use Rattle.std.proofs.lemmas.List.{length-append, length-replicate, get_or-drop, take_at, drop_at, drop-drop}
use Rattle.codec.specs.Fields.{be32, le32, be32_bytes, le32_bytes, part, zeros}
use Rattle.codec.proofs.Numbers.{be_within, le_within, be_same}
use Rattle.record.specs.Record.{header_of, header_back, header_bytes, first_words, saved_words, cycle_words, with_words}
use Rattle.record.specs.Laws.{HeaderFits, HeaderBack, SumAside, WordsBack, RecordLaws}
use Rattle.record.specs.declared.header.RecordHeader.{RecordHeader}
use Rattle.record.proofs.Words.{words_back, length_words, length_cycles}

-- Headers.

-- what stands behind the saved words
at_back : (h : RecordHeader) (saved : List ℕ) → length saved ≡ 256 → drop 300 (header_bytes h saved) ≡ header_back h
at_back h saved n = drop_at saved (header_back h) 256 n

-- a number behind the saved words
behind : (b c : List ℕ) (i : ℕ) → drop 300 b ≡ c → be32 b (300 + i) ≡ be32 c i
behind b c i e = be_same 4 b c (300 + i) i (λ k l. ap (λ j. get_or b j 0) (add_assoc 300 i k) ∙ sym (get_or-drop 300 b (i + k) 0) ∙ ap (λ l. get_or l (i + k) 0) e)

module _ (h : RecordHeader) (saved : List ℕ) (f : HeaderFits h) (n : length saved ≡ 256) where
  cycle_at : be32 (header_bytes h saved) 4 ≡ h.cycle
  cycle_at = be_within 4 h.cycle (be32_bytes 0xFEEDBABE) ((be32_bytes h.version ++ be32_bytes h.length ++ be32_bytes h.own.0 ++ be32_bytes h.own.1 ++ be32_bytes h.tail.0 ++ be32_bytes h.tail.1 ++ le32_bytes h.sum ++ be32_bytes h.previous ++ be32_bytes h.ops) ++ (saved ++ header_back h)) f.cycle

  version_at : be32 (header_bytes h saved) 8 ≡ h.version
  version_at = be_within 4 h.version (be32_bytes 0xFEEDBABE ++ be32_bytes h.cycle) ((be32_bytes h.length ++ be32_bytes h.own.0 ++ be32_bytes h.own.1 ++ be32_bytes h.tail.0 ++ be32_bytes h.tail.1 ++ le32_bytes h.sum ++ be32_bytes h.previous ++ be32_bytes h.ops) ++ (saved ++ header_back h)) f.version

  length_at : be32 (header_bytes h saved) 12 ≡ h.length
  length_at = be_within 4 h.length (be32_bytes 0xFEEDBABE ++ be32_bytes h.cycle ++ be32_bytes h.version) ((be32_bytes h.own.0 ++ be32_bytes h.own.1 ++ be32_bytes h.tail.0 ++ be32_bytes h.tail.1 ++ le32_bytes h.sum ++ be32_bytes h.previous ++ be32_bytes h.ops) ++ (saved ++ header_back h)) f.data_length

  own_cycle_at : be32 (header_bytes h saved) 16 ≡ h.own.0
  own_cycle_at = be_within 4 h.own.0 (be32_bytes 0xFEEDBABE ++ be32_bytes h.cycle ++ be32_bytes h.version ++ be32_bytes h.length) ((be32_bytes h.own.1 ++ be32_bytes h.tail.0 ++ be32_bytes h.tail.1 ++ le32_bytes h.sum ++ be32_bytes h.previous ++ be32_bytes h.ops) ++ (saved ++ header_back h)) f.own_cycle

  own_sector_at : be32 (header_bytes h saved) 20 ≡ h.own.1
  own_sector_at = be_within 4 h.own.1 (be32_bytes 0xFEEDBABE ++ be32_bytes h.cycle ++ be32_bytes h.version ++ be32_bytes h.length ++ be32_bytes h.own.0) ((be32_bytes h.tail.0 ++ be32_bytes h.tail.1 ++ le32_bytes h.sum ++ be32_bytes h.previous ++ be32_bytes h.ops) ++ (saved ++ header_back h)) f.own_sector

  tail_cycle_at : be32 (header_bytes h saved) 24 ≡ h.tail.0
  tail_cycle_at = be_within 4 h.tail.0 (be32_bytes 0xFEEDBABE ++ be32_bytes h.cycle ++ be32_bytes h.version ++ be32_bytes h.length ++ be32_bytes h.own.0 ++ be32_bytes h.own.1) ((be32_bytes h.tail.1 ++ le32_bytes h.sum ++ be32_bytes h.previous ++ be32_bytes h.ops) ++ (saved ++ header_back h)) f.tail_cycle

  tail_sector_at : be32 (header_bytes h saved) 28 ≡ h.tail.1
  tail_sector_at = be_within 4 h.tail.1 (be32_bytes 0xFEEDBABE ++ be32_bytes h.cycle ++ be32_bytes h.version ++ be32_bytes h.length ++ be32_bytes h.own.0 ++ be32_bytes h.own.1 ++ be32_bytes h.tail.0) ((le32_bytes h.sum ++ be32_bytes h.previous ++ be32_bytes h.ops) ++ (saved ++ header_back h)) f.tail_sector

  sum_at : le32 (header_bytes h saved) 32 ≡ h.sum
  sum_at = le_within 4 h.sum (be32_bytes 0xFEEDBABE ++ be32_bytes h.cycle ++ be32_bytes h.version ++ be32_bytes h.length ++ be32_bytes h.own.0 ++ be32_bytes h.own.1 ++ be32_bytes h.tail.0 ++ be32_bytes h.tail.1) ((be32_bytes h.previous ++ be32_bytes h.ops) ++ (saved ++ header_back h)) f.sum

  previous_at : be32 (header_bytes h saved) 36 ≡ h.previous
  previous_at = be_within 4 h.previous (be32_bytes 0xFEEDBABE ++ be32_bytes h.cycle ++ be32_bytes h.version ++ be32_bytes h.length ++ be32_bytes h.own.0 ++ be32_bytes h.own.1 ++ be32_bytes h.tail.0 ++ be32_bytes h.tail.1 ++ le32_bytes h.sum) ((be32_bytes h.ops) ++ (saved ++ header_back h)) f.previous

  ops_at : be32 (header_bytes h saved) 40 ≡ h.ops
  ops_at = be_within 4 h.ops (be32_bytes 0xFEEDBABE ++ be32_bytes h.cycle ++ be32_bytes h.version ++ be32_bytes h.length ++ be32_bytes h.own.0 ++ be32_bytes h.own.1 ++ be32_bytes h.tail.0 ++ be32_bytes h.tail.1 ++ le32_bytes h.sum ++ be32_bytes h.previous) (saved ++ header_back h) f.ops

  format_at : be32 (header_bytes h saved) 300 ≡ h.format
  format_at = behind (header_bytes h saved) (header_back h) 0 (at_back h saved n) ∙ be_within 4 h.format [] (h.uuid ++ (be32_bytes h.most ++ zeros 188)) f.format

  uuid_at : part 304 16 (header_bytes h saved) ≡ h.uuid
  uuid_at = ap (take 16) (sym (drop-drop 4 300 (header_bytes h saved)) ∙ ap (drop 4) (at_back h saved n)) ∙ take_at h.uuid (be32_bytes h.most ++ zeros 188) 16 f.uuid

  most_at : be32 (header_bytes h saved) 320 ≡ h.most
  most_at =
      let l : 20 ≡ length (be32_bytes h.format ++ h.uuid) = omega (arith, length-append (be32_bytes h.format) h.uuid, f.uuid) in
      behind (header_bytes h saved) (header_back h) 20 (at_back h saved n) ∙ ap (λ i. be32 (header_back h) i) l
      ∙ be_within 4 h.most (be32_bytes h.format ++ h.uuid) (zeros 188) f.most

-- so the fields are read back
fields_back : (h : RecordHeader) (saved : List ℕ) → HeaderFits h → length saved ≡ 256 → header_of (header_bytes h saved) ≡ h
fields_back h saved f n =
    let b = header_bytes h saved in
    let G : ℕ → ℕ → ℕ → ℕ → ℕ → ℕ → ℕ → ℕ → ℕ → ℕ → ℕ → List ℕ → ℕ → RecordHeader = λ c v l oc os tc ts s p o m u r.
    record { cycle = c; version = v; length = l; own = (oc, os); tail = (tc, ts); sum = s; previous = p; ops = o; format = m; uuid = u; most = r } in
    ap (λ v. G v (be32 b 8) (be32 b 12) (be32 b 16) (be32 b 20) (be32 b 24) (be32 b 28) (le32 b 32) (be32 b 36) (be32 b 40) (be32 b 300) (part 304 16 b) (be32 b 320)) (cycle_at h saved f n)
    ∙ ap (λ v. G h.cycle v (be32 b 12) (be32 b 16) (be32 b 20) (be32 b 24) (be32 b 28) (le32 b 32) (be32 b 36) (be32 b 40) (be32 b 300) (part 304 16 b) (be32 b 320)) (version_at h saved f n)
    ∙ ap (λ v. G h.cycle h.version v (be32 b 16) (be32 b 20) (be32 b 24) (be32 b 28) (le32 b 32) (be32 b 36) (be32 b 40) (be32 b 300) (part 304 16 b) (be32 b 320)) (length_at h saved f n)
    ∙ ap (λ v. G h.cycle h.version h.length v (be32 b 20) (be32 b 24) (be32 b 28) (le32 b 32) (be32 b 36) (be32 b 40) (be32 b 300) (part 304 16 b) (be32 b 320)) (own_cycle_at h saved f n)
    ∙ ap (λ v. G h.cycle h.version h.length h.own.0 v (be32 b 24) (be32 b 28) (le32 b 32) (be32 b 36) (be32 b 40) (be32 b 300) (part 304 16 b) (be32 b 320)) (own_sector_at h saved f n)
    ∙ ap (λ v. G h.cycle h.version h.length h.own.0 h.own.1 v (be32 b 28) (le32 b 32) (be32 b 36) (be32 b 40) (be32 b 300) (part 304 16 b) (be32 b 320)) (tail_cycle_at h saved f n)
    ∙ ap (λ v. G h.cycle h.version h.length h.own.0 h.own.1 h.tail.0 v (le32 b 32) (be32 b 36) (be32 b 40) (be32 b 300) (part 304 16 b) (be32 b 320)) (tail_sector_at h saved f n)
    ∙ ap (λ v. G h.cycle h.version h.length h.own.0 h.own.1 h.tail.0 h.tail.1 v (be32 b 36) (be32 b 40) (be32 b 300) (part 304 16 b) (be32 b 320)) (sum_at h saved f n)
    ∙ ap (λ v. G h.cycle h.version h.length h.own.0 h.own.1 h.tail.0 h.tail.1 h.sum v (be32 b 40) (be32 b 300) (part 304 16 b) (be32 b 320)) (previous_at h saved f n)
    ∙ ap (λ v. G h.cycle h.version h.length h.own.0 h.own.1 h.tail.0 h.tail.1 h.sum h.previous v (be32 b 300) (part 304 16 b) (be32 b 320)) (ops_at h saved f n)
    ∙ ap (λ v. G h.cycle h.version h.length h.own.0 h.own.1 h.tail.0 h.tail.1 h.sum h.previous h.ops v (part 304 16 b) (be32 b 320)) (format_at h saved f n)
    ∙ ap (λ v. G h.cycle h.version h.length h.own.0 h.own.1 h.tail.0 h.tail.1 h.sum h.previous h.ops h.format v (be32 b 320)) (uuid_at h saved f n)
    ∙ ap (λ v. G h.cycle h.version h.length h.own.0 h.own.1 h.tail.0 h.tail.1 h.sum h.previous h.ops h.format h.uuid v) (most_at h saved f n)

length_header : (h : RecordHeader) (saved : List ℕ) → length h.uuid ≡ 16 → length saved ≡ 256 → length (header_bytes h saved) ≡ 512
length_header h saved u n =
    omega (arith, length-append saved (header_back h), length-append h.uuid (be32_bytes h.most ++ zeros 188))

pub header_reads : HeaderBack
header_reads h saved f n = record {
  marked = refl;
  whole = length_header h saved f.uuid n;
  fields = fields_back h saved f n;
  words = take_at saved (header_back h) 256 n;
}

sum_aside : SumAside
sum_aside h x saved d = refl

-- Data.

pub length_saved : (n : ℕ) (b : List ℕ) → n ≤ 64 → 512 * n ≤ length b → length (saved_words n b) ≡ 256
length_saved n b l h =
    omega (arith, length-append (first_words n b) (zeros (4 * (64 - n))), length_words n b h, length-replicate {A = ℕ} (4 * (64 - n)) 0)

data_back : WordsBack
data_back L x n b h l k =
    ap (λ w. with_words n w (with_words n (cycle_words L x n) b)) (take_at (saved_words n b) (header_back h) 256 (length_saved n b l k))
    ∙ words_back n b (cycle_words L x n) (zeros (4 * (64 - n))) k (omega (arith, length_cycles L x n))

pub record_laws : RecordLaws
record_laws = record {
  header = header_reads;
  sum = sum_aside;
  words = data_back;
}
