-- The ops of a record. Assumes nothing.
use Rattle.std.specs.Prelude.{ℕ, ◌+◌, Bool, true, false, cond, ◌&&◌, ◌||◌, List, [], ◌∷◌, ◌++◌, length, take, Some, None, Ok, Err, Option, ◌==◌, nat_le, slice_index}
use Rattle.model.specs.Refusals.{refusal, by_transaction, Outcome, ◌>>=◌, need}
use Rattle.codec.specs.Fields.{be32, be32_bytes, part, same}

-- what an op does: it starts or commits a transaction, brings a region or a part of one (whether it begins the region, and
-- whether it ends it), or has no effect
pub data Sort : Type 0 where
  start : Sort
  commit : Sort
  region : Bool → Bool → Sort
  idle : Sort

-- an op, with its place: the record's header sector and the byte in its data
pub record Op : Type 0 where
  pub number : ℕ
  pub sort : Sort
  pub bytes : List ℕ
  pub sector : ℕ
  pub byte : ℕ

-- an op of a transaction by its flags: 0x01 start and 0x02 commit, both with no bytes; 0x00 a whole region, 0x04 a first part,
-- 0x0C a middle one, 0x08 or 0x18 the last
abbrev pub flag_sort : ℕ → ℕ → Option Sort
flag_sort flags n =
    cond (flags == 0x01 && n == 0) (Some start)
    (cond (flags == 0x02 && n == 0) (Some commit)
    (cond (flags == 0x00) (Some (region true true))
    (cond (flags == 0x04) (Some (region true false))
    (cond (flags == 0x0C) (Some (region false false))
    (cond (flags == 0x08 || flags == 0x18) (Some (region false true)) None)))))

-- client 0x69 has transactions; client 0xAA has one op with no effect, of flags 0x20 and 8 bytes that begin 6E 55
abbrev pub sort_of : ℕ → ℕ → List ℕ → Option Sort
sort_of client flags b =
    cond (client == 0x69) (flag_sort flags (length b))
    (cond (client == 0xAA && flags == 0x20 && length b == 8 && same (take 2 b) (0x6E ∷ 0x55 ∷ [])) (Some idle) None)

-- the op, or 10 where it is of no sort
abbrev pub sorted : Option Sort → ℕ → List ℕ → ℕ → ℕ → Outcome Op
sorted None number b sector byte = Err (refusal 10 by_transaction sector byte)
sorted (Some s) number b sector byte = Ok (record { number = number; sort = s; bytes = b; sector = sector; byte = byte })

-- the op at a byte of a record's data: a header of 12 bytes (number, length, client, flags, two unused bytes) and its region, both
-- inside the data, of a known sort; else 10
abbrev pub op_at : ℕ → List ℕ → ℕ → Outcome Op
op_at sector b at =
    let n = be32 b (at + 4) in
    let r = part (at + 12) n b in
    need (nat_le (at + 12) (length b) && nat_le (at + 12 + n) (length b)) (refusal 10 by_transaction sector at) >>= λ _.
    sorted (sort_of (slice_index b (at + 8)) (slice_index b (at + 9)) r) (be32 b at) r sector at

-- the byte after an op
abbrev pub after_op : Op → ℕ
after_op o = o.byte + 12 + length o.bytes

-- the bytes of an op that is written: number, length of the region, client, flags, two unused bytes, the region
abbrev pub op_bytes : ℕ → ℕ → ℕ → List ℕ → List ℕ
op_bytes number client flags b = be32_bytes number ++ (be32_bytes (length b) ++ (client ∷ flags ∷ 0 ∷ 0 ∷ b))
