-- The life of the example, by computation. Assumes nothing.
use Rattle.std.proofs.Common.{◌≡◌, ℕ, zero, suc, Bool, true, ◌&&◌, ltb, List, [], ◌∷◌, length, get_or, replicate, Some, None, refl, arith}
use Rattle.std.proofs.lemmas.Bool.{and_parts, ltb-true}
use Rattle.codec.specs.Fields.{Bytes, zeros}
use Rattle.device.specs.State.{holds, unreadable}
use Rattle.item.specs.Built.{built}
use Rattle.model.specs.Calls.{Session, label_plan, replay_plan, replay_call, commit_plan}
use Rattle.model.specs.Cases.{label_here, new_volume, session_at, chunk_0, patch_regions}
use Rattle.layout.specs.Real.{Usable}
use Rattle.layout.specs.Volumes.{Volume, served}
use Rattle.layout.specs.Lives.{fresh, Life, labelled, commits, replays}
use Rattle.layout.specs.Example.{base_here, ExampleLives}
use Rattle.layout.proofs.Sizes.{holds_sized}

-- each is a byte
abbrev low : List ℕ → Bool
low [] = true
low (x ∷ b) = ltb x 256 && low b

usable_here : Usable label_here 64
usable_here = record { small = omega arith; kept = refl; uuid = refl; bytes = seven 16 }
  where
    seven : (k : ℕ) → Bytes (replicate k 7)
    seven zero = tt
    seven (suc k) = (omega arith, seven k)

-- all sectors of the new volume have 512 bytes
full_here : (k i : ℕ) (b : List ℕ) → get_or (replicate k (holds (zeros 512))) i unreadable ≡ holds b → length b ≡ 512
full_here zero i b e = let z : ◌≡◌ {A = ℕ} 0 1 = cc in let y : ⊥ = omega arith in elim y [ ]
full_here (suc k) zero b e = holds_sized (zeros 512) refl b e
full_here (suc k) (suc i) b e = full_here k i b e

bytes_here : Bytes (chunk_0 8 1)
bytes_here = all_bytes (chunk_0 8 1) refl
  where
    all_bytes : (b : List ℕ) → low b ≡ true → Bytes b
    all_bytes [] e = tt
    all_bytes (x ∷ b) e = let p = and_parts (ltb x 256) (low b) e in (ltb-true x 256 p.0, all_bytes b p.1)

first : Life label_here 64 built base_here (served (label_plan new_volume label_here) (fresh new_volume)) None
first = labelled new_volume (record { size = refl; listed = refl; full = full_here 64 }) refl (λ i. refl)

-- replayed, a patch of (8, 1) committed, forced
abbrev v1 : Volume
v1 = served (label_plan new_volume label_here) (fresh new_volume)

second : Life label_here 64 built base_here (served (replay_plan v1.device built 65536) v1) (replay_call v1.device None built 65536).session
second = replays first 65536

abbrev v2 : Volume
v2 = served (replay_plan v1.device built 65536) v1

abbrev s2 : Session
s2 = session_at 34 32 34 0

replayed : Life label_here 64 built base_here v2 (Some s2)
replayed = second

abbrev v3 : Volume
v3 = served (commit_plan v2.device s2 built (chunk_0 8 1) patch_regions) v2

committed : Life label_here 64 built base_here v3 (Some (session_at 36 32 34 2))
committed = commits replayed (chunk_0 8 1) patch_regions bytes_here

-- one more replay is accepted, reads the transaction and applies its patch
pub example_lives : ExampleLives
example_lives = record { volume = v3; session = session_at 36 32 34 2; usable = usable_here; life = committed; accepted = refl }
