-- Worked cases, on a volume of 64 sectors: a log of 32 from sector 32 on, window 16, records of 4096 bytes at most. Assumes nothing.
use Rattle.std.specs.Prelude.{◌≡◌, ℕ, true, false, List, [], ◌∷◌, ◌++◌, map, length, replicate, pos, Some, None, Ok, Err, Option, slice_index_or, slice_set}
use Rattle.model.specs.Refusals.{refusal, by_item, by_session, Outcome, ◌>>=◌}
use Rattle.codec.specs.Fields.{be32_bytes, le32_bytes, zeros}
use Rattle.crc.specs.Crc.{crc32c}
use Rattle.device.specs.State.{DevState, holds, unreadable}
use Rattle.device.specs.Laws.{sector_of}
use Rattle.label.specs.declared.label.Label.{Label}
use Rattle.item.specs.Meaning.{malformed, patch}
use Rattle.item.specs.Buffer.{buffer_meaning}
use Rattle.item.specs.Built.{built}
use Rattle.model.specs.Items.{empty_book}
use Rattle.model.specs.Laws.{Steady}
use Rattle.model.specs.Calls.{Session, Left, Counts, label_call, searched, replay_plan, replay_call, commit_call, commit_ops, force_call, clear_plan, clear_call}

-- The volume.

-- the cases' label
abbrev pub label_here : Label
label_here = record { start = 32; count = 32; window = 16; most = 4096; uuid = replicate 16 7 }

-- a device of zeros
abbrev pub new_volume : DevState
new_volume = record { size = 64; contents = replicate 64 (holds (zeros 512)); actions = 1000; settled = true }

-- the device after label
abbrev pub labelled : DevState
labelled = (label_call new_volume label_here).device

-- a session over it, with its end, its tail and the end at the last force
abbrev pub session_at : ℕ → ℕ → ℕ → ℕ → Session
session_at e t a newest = record { label = label_here; e = e; t = t; a = a; newest = newest; book = empty_book }

-- What is handed to commit: a buffer item, its first region with flags, length in sectors, sector and map, and its data regions.

-- count of regions, flags, length, the low half of the sector, then the high half, the map words and the map
abbrev pub first_of_buffer : ℕ → ℕ → ℕ → ℕ → List ℕ → List ℕ
first_of_buffer count flags length low high_and_map =
    0x3C ∷ 0x12 ∷ count ∷ 0 ∷ flags ∷ 0 ∷ length ∷ 0 ∷ le32_bytes low ++ high_and_map

-- a patch of chunk 0 of one sector: 128 bytes v
abbrev pub chunk_0 : ℕ → ℕ → List ℕ
chunk_0 sector v = first_of_buffer 2 0 1 sector (zeros 4 ++ le32_bytes 1 ++ le32_bytes 1) ++ replicate 128 v

-- the two regions of a patch of one chunk
abbrev pub patch_regions : List (ℕ × ℕ)
patch_regions = (0, 24) ∷ (24, 128) ∷ []

-- the same for the sector -1
abbrev pub chunk_0_below : List ℕ
chunk_0_below = first_of_buffer 2 0 1 0xFFFFFFFF (be32_bytes 0xFFFFFFFF ++ le32_bytes 1 ++ le32_bytes 1) ++ replicate 128 5

-- a cancel of (8, 1)
abbrev pub cancel_8 : List ℕ
cancel_8 = first_of_buffer 1 2 1 8 (zeros 8)

-- calls one after the other on one session
abbrev pub commits : List (List ℕ × List (ℕ × ℕ)) → DevState → Session → Left ℕ Session
commits [] d s = record { answer = Ok 0; device = d; session = s }
commits (c ∷ cs) d s =
    let l = commit_call d s built c.0 c.1 in
    commits cs l.device l.session

-- a patch of (8, 1), chunk 0
abbrev pub patch_8 : ℕ → List ℕ × List (ℕ × ℕ)
patch_8 v = (chunk_0 8 v, patch_regions)

-- M, h, e and t as they are found
abbrev pub told : DevState → Outcome (List ℕ)
told d = searched d >>= λ x. Ok (x.1.M ∷ x.1.h ∷ x.1.e ∷ x.1.t ∷ [])

-- The cases.

-- after a label M = 33, h = e = 34 and t = 32, and replay gives a session from there
pub record Case1 : Type 0 where
  pub found : told labelled ≡ Ok (33 ∷ 34 ∷ 34 ∷ 32 ∷ [])
  pub session : (replay_call labelled None built 65536).session ≡ Some (session_at 34 32 34 0)

-- one commit right after label and replay
abbrev pub one_commit : Left ℕ Session
one_commit = commit_call labelled (session_at 34 32 34 0) built (chunk_0 8 5) patch_regions

-- a commit of the buffer (8, 1), chunk 0: 228 bytes of ops, number 34, positions 34 and 35
pub record Case2 : Type 0 where
  pub bytes : length (commit_ops 34 1 (first_of_buffer 2 0 1 8 (zeros 4 ++ le32_bytes 1 ++ le32_bytes 1) ∷ replicate 128 5 ∷ [])) ≡ 228
  pub steady : Steady (session_at 34 32 34 0)
  pub number : one_commit.answer ≡ Ok 34
  pub session : one_commit.session ≡ session_at 36 32 34 2
  pub found : told one_commit.device ≡ Ok (35 ∷ 36 ∷ 36 ∷ 32 ∷ [])
  -- then a force, or a clear: the patch is laid and forced before the clearing record is written at 36 and 37
  pub forced : (force_call one_commit.device one_commit.session).session ≡ session_at 36 32 36 2
  pub clearing : (clear_plan one_commit.device one_commit.session built 65536 >>= λ p. Ok (map sector_of p.actions)) ≡ Ok (0 ∷ 8 ∷ 0 ∷ 36 ∷ 37 ∷ 0 ∷ [])
  pub cleared : (clear_call one_commit.device one_commit.session built 65536).session ≡ session_at 38 36 38 4

-- three commits, unforced
abbrev pub three : DevState
three = (commits (patch_8 1 ∷ patch_8 2 ∷ patch_8 3 ∷ []) labelled (session_at 34 32 34 0)).device

-- position 37, on sector 37, never reached the device
abbrev pub torn : DevState
torn = record { size = 64; contents = slice_set three.contents 37 (holds (zeros 512)); actions = 1000; settled = false }

-- the replay of it
abbrev pub after_torn : Left Counts (Option Session)
after_torn = replay_call torn None built 65536

-- records at 34, 36, 38 unforced, position 37 lost: h = 37 and e = 36; 36, 38 and 39 are blanked with cycle 0
pub record Case3 : Type 0 where
  pub found : told torn ≡ Ok (39 ∷ 37 ∷ 36 ∷ 32 ∷ [])
  pub actions : (replay_plan torn built 65536 >>= λ p. Ok (map sector_of p.actions)) ≡ Ok (0 ∷ 8 ∷ 36 ∷ 38 ∷ 39 ∷ 0 ∷ [])
  pub blanked : slice_index_or after_torn.device.contents 38 unreadable ≡ holds (zeros 512)
  pub laid : slice_index_or after_torn.device.contents 8 unreadable ≡ holds (replicate 128 1 ++ zeros 384)
  pub again : told after_torn.device ≡ Ok (35 ∷ 36 ∷ 36 ∷ 32 ∷ [])

-- with a = 34 a record that ends at 50 passes, and one that ends at 52 is refused 16
pub record Case4 : Type 0 where
  pub passes : (commit_call labelled (session_at 48 32 34 0) built (chunk_0 8 5) patch_regions).answer ≡ Ok 48
  pub refused : (commit_call labelled (session_at 50 32 34 0) built (chunk_0 8 5) patch_regions).answer ≡ Err (refusal 16 by_session 0 0)

-- with t = 32 and no intent a record that ends at 62 passes, and one that ends at 64 is refused 17
pub record Case5 : Type 0 where
  pub passes : (commit_call labelled (session_at 60 32 60 0) built (chunk_0 8 5) patch_regions).answer ≡ Ok 60
  pub refused : (commit_call labelled (session_at 62 32 62 0) built (chunk_0 8 5) patch_regions).answer ≡ Err (refusal 17 by_session 0 0)

-- the replay of patch, cancel, patch
abbrev pub replayed : Left Counts (Option Session)
replayed = replay_call (commits (patch_8 1 ∷ (cancel_8, (0, 20) ∷ []) ∷ patch_8 3 ∷ []) labelled (session_at 34 32 34 0)).device None built 65536

-- patch, cancel, patch of (8, 1), a transaction each: the second patch alone is applied
pub record Case6 : Type 0 where
  pub counts : replayed.answer ≡ Ok (record { records = 4; transactions = 3; applied = 1; skipped = 1; intents = 0 })
  pub laid : slice_index_or replayed.device.contents 8 unreadable ≡ holds (replicate 128 3 ++ zeros 384)

-- map 0x0000000D, length 1: regions of 128 and 256 bytes at 0 and 256; bit 4 is malformed
pub record Case7 : Type 0 where
  pub regions : buffer_meaning (first_of_buffer 3 0 1 8 (zeros 4 ++ le32_bytes 1 ++ le32_bytes 0xD) ∷ replicate 128 1 ∷ replicate 256 2 ∷ [])
      ≡ patch (record { sector = pos 8; length = 1 }) (replicate 128 (Some 1) ++ replicate 128 None ++ replicate 256 (Some 2))
  pub beyond : buffer_meaning (first_of_buffer 2 0 1 8 (zeros 4 ++ le32_bytes 1 ++ le32_bytes 0x10) ∷ replicate 128 1 ∷ []) ≡ malformed
  pub refused : (commit_call labelled (session_at 34 32 34 0) built (first_of_buffer 1 0 1 8 (zeros 4 ++ le32_bytes 1 ++ le32_bytes 0x10)) ((0, 24) ∷ [])).answer
      ≡ Err (refusal 12 by_item 34 0)

-- sector 31 passes; 0, 32 and -1 are refused 13
pub record Case8 : Type 0 where
  pub passes : (commit_call labelled (session_at 34 32 34 0) built (chunk_0 31 5) patch_regions).answer ≡ Ok 34
  pub zero : (commit_call labelled (session_at 34 32 34 0) built (chunk_0 0 5) patch_regions).answer ≡ Err (refusal 13 by_item 34 0)
  pub in_log : (commit_call labelled (session_at 34 32 34 0) built (chunk_0 32 5) patch_regions).answer ≡ Err (refusal 13 by_item 34 0)
  pub negative : (commit_call labelled (session_at 34 32 34 0) built chunk_0_below patch_regions).answer ≡ Err (refusal 13 by_item 34 0)

-- the table as a whole
pub record Table : Type 0 where
  pub one : Case1
  pub two : Case2
  pub three : Case3
  pub four : Case4
  pub five : Case5
  pub six : Case6
  pub seven : Case7
  pub eight : Case8
  -- the published checksum of the text 123456789
  pub vector : crc32c (0x31 ∷ 0x32 ∷ 0x33 ∷ 0x34 ∷ 0x35 ∷ 0x36 ∷ 0x37 ∷ 0x38 ∷ 0x39 ∷ []) ≡ 0xE3069283
