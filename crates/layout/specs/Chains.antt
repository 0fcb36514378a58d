-- What the reading of a chain gives, in the words of lives. Assumes nothing.
use Rattle.std.specs.Prelude.{◌≡◌, ℕ, true, ◌⊎◌, List, [], map, length, Ok, Err}
use Rattle.device.specs.State.{DevState, sector_at, holds}
use Rattle.label.specs.declared.label.Label.{Label}
use Rattle.item.specs.Meaning.{Bank}
use Rattle.model.specs.Refusals.{Refusal, Outcome}
use Rattle.model.specs.View.{Found}
use Rattle.model.specs.Reading.{Reading, read_chain, all_items}
use Rattle.life.specs.Items.{open_ids}
use Rattle.life.specs.Format.{Rec, Format, chain_items}
use Rattle.life.specs.Calls.{Plan, Readable}
use Rattle.layout.specs.Read.{unread, progress, asked}
use Rattle.layout.specs.Plans.{HasLog}

-- a refusal because a sector cannot be read
abbrev pub Three : {A : Type 0} → Outcome A → Type 0
Three m = (e : Refusal) × (m ≡ Err e) × (e.number ≡ 3)

-- each sector that can be read gives 512 bytes
abbrev pub Full : DevState → Type 0
Full d = (i : ℕ) (b : List ℕ) → sector_at d i ≡ holds b → length b ≡ 512

-- a reading has read just the records of a chain, and no transaction is open
pub record ChainRead (L : Label) (n : ℕ) (bank : Bank) (F : Format) (chain : List Rec) (r : Reading) : Type 0 where
  pub closed : r.pending ≡ []
  pub records : r.records ≡ length chain
  pub transactions : map (λ x. x.regions) r.done ≡ F.reads chain
  pub items : asked (all_items r.done) ≡ chain_items F chain
  pub book : r.book ≡ (progress n L bank chain unread).reading.book
  pub intents : r.book.intents ≡ open_ids (chain_items F chain)

-- where a device of n sectors has a plan and every check passes on its chain: the chain is read, and each sector that its items cover can be read; or one
-- of them cannot, and that is the refusal
abbrev pub ChainReads : Label → ℕ → Bank → Format → Type 0
ChainReads L n bank F = (d : DevState) (f : Found) (chain : List Rec) → d.size ≡ n → Full d → HasLog L (sector_at d) f.log →
    Plan F (sector_at d) f.M f.h f.n f.e f.t chain → F.pass chain ≡ true →
    ((r : Reading) × (read_chain d L bank f ≡ Ok r) × ChainRead L n bank F chain r × Readable (sector_at d) (chain_items F chain)) ⊎ Three (read_chain d L bank f)
