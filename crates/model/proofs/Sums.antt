-- A record that is written is bytes, so its checksum is below 2^32. Assumes nothing.
use Rattle.std.proofs.Common.{ℕ, zero, suc, ◌+◌, ◌-◌, ◌*◌, ◌<◌, List, ◌∷◌, ◌++◌, length, take, drop, lit<}
use Rattle.codec.specs.Fields.{Bytes, be32_bytes, le32_bytes, zeros, part}
use Rattle.codec.proofs.Allbytes.{bytes_append, bytes_take, bytes_drop, bytes_be, bytes_le, bytes_zeros}
use Rattle.crc.proofs.Sums.{crc_lt}
use Rattle.label.specs.declared.label.Label.{Label}
use Rattle.record.specs.declared.header.RecordHeader.{RecordHeader}
use Rattle.label.specs.Position.{cycle}
use Rattle.record.specs.Record.{first_words, saved_words, stored, header_front, header_back, header_bytes, checksum, padded, sectors_for}
use Rattle.model.specs.Ops.{op_bytes}

bytes_words : (n : ℕ) (b : List ℕ) → Bytes b → Bytes (first_words n b)
bytes_words zero b a = tt
bytes_words (suc n) b a = bytes_append (take 4 b) (first_words n (drop 512 b)) (bytes_take 4 b a) (bytes_words n (drop 512 b) (bytes_drop 512 b a))

pub bytes_saved : (n : ℕ) (b : List ℕ) → Bytes b → Bytes (saved_words n b)
bytes_saved n b a = bytes_append (first_words n b) (zeros (4 * (64 - n))) (bytes_words n b a) (bytes_zeros (4 * (64 - n)))

bytes_front : (h : RecordHeader) → Bytes (header_front h)
bytes_front h =
    let m = be32_bytes 0xFEEDBABE in
    let c = be32_bytes h.cycle in
    let v = be32_bytes h.version in
    let l = be32_bytes h.length in
    let o = be32_bytes h.own.0 in
    let k = be32_bytes h.own.1 in
    let t = be32_bytes h.tail.0 in
    let u = be32_bytes h.tail.1 in
    let s = le32_bytes h.sum in
    let p = be32_bytes h.previous in
    bytes_append (m ++ c ++ v ++ l ++ o ++ k ++ t ++ u ++ s ++ p) (be32_bytes h.ops)
    (bytes_append (m ++ c ++ v ++ l ++ o ++ k ++ t ++ u ++ s) p
    (bytes_append (m ++ c ++ v ++ l ++ o ++ k ++ t ++ u) s
    (bytes_append (m ++ c ++ v ++ l ++ o ++ k ++ t) u
    (bytes_append (m ++ c ++ v ++ l ++ o ++ k) t
    (bytes_append (m ++ c ++ v ++ l ++ o) k
    (bytes_append (m ++ c ++ v ++ l) o
    (bytes_append (m ++ c ++ v) l
    (bytes_append (m ++ c) v
    (bytes_append m c (bytes_be 4 0xFEEDBABE) (bytes_be 4 h.cycle))
    (bytes_be 4 h.version)) (bytes_be 4 h.length)) (bytes_be 4 h.own.0)) (bytes_be 4 h.own.1))
    (bytes_be 4 h.tail.0)) (bytes_be 4 h.tail.1)) (bytes_le 4 h.sum)) (bytes_be 4 h.previous)) (bytes_be 4 h.ops)

bytes_back : (h : RecordHeader) → Bytes h.uuid → Bytes (header_back h)
bytes_back h u =
    bytes_append (be32_bytes h.format) (h.uuid ++ (be32_bytes h.most ++ zeros 188)) (bytes_be 4 h.format)
    (bytes_append h.uuid (be32_bytes h.most ++ zeros 188) u
    (bytes_append (be32_bytes h.most) (zeros 188) (bytes_be 4 h.most) (bytes_zeros 188)))

pub bytes_header : (h : RecordHeader) (saved : List ℕ) → Bytes h.uuid → Bytes saved → Bytes (header_bytes h saved)
bytes_header h saved u a =
    bytes_append (header_front h) (saved ++ header_back h) (bytes_front h) (bytes_append saved (header_back h) a (bytes_back h u))

pub bytes_stored : (L : Label) (x n : ℕ) (b : List ℕ) → Bytes b → Bytes (stored L x n b)
bytes_stored L x zero b a = a
bytes_stored L x (suc n) b a =
    bytes_append (be32_bytes (cycle L x)) (part 4 508 b ++ stored L (x + 1) n (drop 512 b)) (bytes_be 4 (cycle L x))
    (bytes_append (part 4 508 b) (stored L (x + 1) n (drop 512 b)) (bytes_take 508 (drop 4 b) (bytes_drop 4 b a))
    (bytes_stored L (x + 1) n (drop 512 b) (bytes_drop 512 b a)))

pub bytes_padded : (b : List ℕ) → Bytes b → Bytes (padded b)
bytes_padded b a = bytes_append b (zeros (512 * sectors_for (length b) - length b)) a (bytes_zeros (512 * sectors_for (length b) - length b))

pub checksum_lt : (h stored : List ℕ) → Bytes h → Bytes stored → checksum h stored < 4294967296
checksum_lt h stored a s =
    crc_lt (take 32 h ++ (zeros 4 ++ (part 36 292 h ++ stored)))
    (bytes_append (take 32 h) (zeros 4 ++ (part 36 292 h ++ stored)) (bytes_take 32 h a)
    (bytes_append (zeros 4) (part 36 292 h ++ stored) (bytes_zeros 4)
    (bytes_append (part 36 292 h) stored (bytes_take 292 (drop 36 h) (bytes_drop 36 h a)) s)))

pub bytes_op : (number client flags : ℕ) (b : List ℕ) → client < 256 → flags < 256 → Bytes b → Bytes (op_bytes number client flags b)
bytes_op number client flags b c f a =
    bytes_append (be32_bytes number) (be32_bytes (length b) ++ (client ∷ flags ∷ 0 ∷ 0 ∷ b)) (bytes_be 4 number)
    (bytes_append (be32_bytes (length b)) (client ∷ flags ∷ 0 ∷ 0 ∷ b) (bytes_be 4 (length b)) (c, (f, (lit< tt, (lit< tt, a)))))
