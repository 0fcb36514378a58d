-- A life by the calls, shown as a life over the real layout. Assumes nothing.
use Rattle.std.proofs.Common.{◌≡◌, ℕ, ◌<◌, Bool, true, false, cond, List, length, Some, None, Ok, Err, Option, sym, refl, ap, ◌∙◌, subst, arith}
use Rattle.std.specs.List.{AllByRecursion}
use Rattle.device.specs.State.{DevState, Sector, sector_at, holds}
use Rattle.device.specs.Steps.{Answer}
use Rattle.device.specs.Actions.{Action, run}
use Rattle.device.specs.declared.fault.DeviceFault.{DeviceFault}
use Rattle.device.specs.declared.fault.Cause.TheVariants.{Spent}
use Rattle.label.specs.declared.label.Label.{Label}
use Rattle.label.specs.Label.{label_bytes}
use Rattle.label.specs.Position.{volume_sector}
use Rattle.item.specs.Meaning.{Bank}
use Rattle.model.specs.Refusals.{Outcome}
use Rattle.model.specs.Reading.{Transaction, Reading}
use Rattle.model.specs.Calls.{Session, Plan, finished, acted}
use Rattle.life.specs.Disk.{Disk, Writes, Whole}
use Rattle.life.specs.Disk as disk
use Rattle.life.specs.Calls.{book_ids, Inside}
use Rattle.life.specs.Calls as calls
use Rattle.life.specs.Life.{Entry, Finds}
use Rattle.life.specs.Life as life
use Rattle.life.specs.Items.{open_ids}
use Rattle.life.proofs.Disk.{Kept}
use Rattle.life.proofs.Lists.{in_all}
use Rattle.life.proofs.Second.{life_stands}
use Rattle.layout.specs.Read.{unread, progress}
use Rattle.layout.specs.Real.{Usable}
use Rattle.layout.specs.Chains.{Full}
use Rattle.layout.specs.Volumes.{Volume, accepted, after_run, served, disk_of}
use Rattle.layout.specs.Lives.{Life, Account, went}
use Rattle.layout.proofs.Items.{Told}
use Rattle.layout.proofs.More.{progress_long}
use Rattle.layout.proofs.Books.{progress_booked}
use Rattle.layout.proofs.Chains.{asked_all}
use Rattle.layout.proofs.Real.{real}
use Rattle.layout.proofs.Runs.{run_disk, run_answer, run_size}
use Rattle.layout.proofs.Sizes.{SizedAt, all_sized, now_sized}
use Rattle.layout.proofs.Matches.{Matches}

-- Calls that act.

-- a call that acts is accepted where its actions are, and leaves what they leave
pub acted_went : {A S : Type 0} (p : Plan A S) (s : S) (d : DevState) → went (acted (Ok p) s d).answer ≡ accepted (run p.actions d).answer
acted_went p s d = go (run p.actions d).answer
  where
    go : (a : Answer) → went (finished p s a (run p.actions d).after).answer ≡ accepted a
    go (Ok x) = refl
    go (Err f) = refl

pub acted_session : {A S : Type 0} (p : Plan A S) (s : S) (d : DevState) → (acted (Ok p) s d).session ≡ cond (accepted (run p.actions d).answer) p.session s
acted_session p s d = go (run p.actions d).answer
  where
    go : (a : Answer) → (finished p s a (run p.actions d).after).session ≡ cond (accepted a) p.session s
    go (Ok x) = refl
    go (Err f) = refl

pub acted_device : {A S : Type 0} (p : Plan A S) (s : S) (d : DevState) → (acted (Ok p) s d).device ≡ (run p.actions d).after
acted_device p s d = go (run p.actions d).answer
  where
    go : (a : Answer) → (finished p s a (run p.actions d).after).device ≡ (run p.actions d).after
    go (Ok x) = refl
    go (Err f) = refl

pub acted_answer : {A S : Type 0} (p : Plan A S) (s : S) (d : DevState) (x : A) → (acted (Ok p) s d).answer ≡ Ok x → (accepted (run p.actions d).answer ≡ true) × (p.answer ≡ x)
acted_answer p s d x e = go (run p.actions d).answer e
  where
    go : (a : Answer) → (finished p s a (run p.actions d).after).answer ≡ Ok x → (accepted a ≡ true) × (p.answer ≡ x)
    go (Ok y) e = let q : p.answer ≡ x = cc in (refl, q)
    go (Err f) e = let z : ◌≡◌ {A = ℕ} 0 1 = cc in let y : ⊥ = omega arith in elim y [ ]

-- the device of a call that was decided so
pub served_device : {A S : Type 0} (x : Outcome (Plan A S)) (s : S) (v : Volume) → (served x v).device ≡ (acted x s v.device).device
served_device (Ok p) s v = sym (acted_device p s v.device)
served_device (Err r) s v = refl

module _ (L : Label) (n : ℕ) (bank : Bank) (u : Usable L n) where
  -- sessions that match list the same intents
  pub book_listed : (s : Session) (s' : calls.Session) → Matches L n bank s s' → s.book.intents ≡ book_ids (real L n bank u) s'
  book_listed s s' m =
      let q : Reading = (progress n L bank s'.chain unread).reading in
      let v = progress_long n L bank s'.chain unread in
      let t : AllByRecursion (Told bank) q.done = subst (λ (x : List Transaction). AllByRecursion (Told bank) x) (sym v.1) v.2 in
      ap (λ b. b.intents) m.book ∙ progress_booked n L bank s'.chain unread refl ∙ ap open_ids (asked_all L n bank u q.done t)

  -- a session, if one stands, matches the one of a life
  abbrev pub Match : Option Session → Option calls.Session → Type 0
  Match None None = Unit {0}
  Match None (Some s') = ⊥
  Match (Some s) None = ⊥
  Match (Some s) (Some s') = Matches L n bank s s'

  -- a volume is the disk d, with sessions that match
  pub record Fair (v : Volume) (o : Option Session) (d : Disk) (o' : Option calls.Session) : Type 0 where
    pub shows : disk_of v ≡ d
    pub match : Match o o'
    pub size : v.device.size ≡ n
    pub listed : length v.device.contents ≡ n
    pub kept : Kept SizedAt (disk_of v)

  -- a volume after actions is the disk after them
  pub record Ran (v : Volume) (xs : List Action) : Type 0 where
    pub after : disk_of (after_run xs v) ≡ (disk.run xs (disk_of v)).0
    pub answer : accepted (run xs v.device).answer ≡ (disk.run xs (disk_of v)).1
    pub size : (after_run xs v).device.size ≡ n
    pub listed : length (after_run xs v).device.contents ≡ n
    pub kept : Kept SizedAt (disk_of (after_run xs v))
    pub spent : (f : DeviceFault) → (run xs v.device).answer ≡ Err f → f.cause ≡ Spent

  pub ran : (v : Volume) (xs : List Action) → v.device.size ≡ n → length v.device.contents ≡ n → Kept SizedAt (disk_of v) → Writes (λ i s. i < n) xs → Writes SizedAt xs → Ran v xs
  ran v xs a b k w z =
      let w' : Writes (λ i s. i < v.device.size) xs = subst (λ (m : ℕ). Writes (λ i s. i < m) xs) (sym a) w in
      let r = run_disk xs v (b ∙ sym a) w' in
      let y = run_size xs v in
      record {
        after = r.0;
        answer = r.1;
        size = y.0 ∙ a;
        listed = y.1 ∙ b;
        kept = subst (λ (d : Disk). Kept SizedAt d) (sym r.0) (all_sized xs (disk_of v) k z);
        spent = λ f e. run_answer xs v f w' e;
      }

  -- a call that acts by a life's actions X leaves a volume that is the disk after them
  module _ {A S : Type 0} (opt : S → Option Session) (p : Plan A S) (s : S) (v : Volume) (X : List Action) (same : p.actions ≡ X) (r : Ran v X) where
    pub acts_went : went (acted (Ok p) s v.device).answer ≡ (disk.run X (disk_of v)).1
    acts_went = acted_went p s v.device ∙ ap (λ l. accepted (run l v.device).answer) same ∙ r.answer

    pub acts_fair : (f : Bool → Option calls.Session) → Match (opt p.session) (f true) → Match (opt s) (f false) →
        Fair (after_run p.actions v) (opt (acted (Ok p) s v.device).session) (disk.run X (disk_of v)).0 (f (disk.run X (disk_of v)).1)
    acts_fair f a b =
        let e : (acted (Ok p) s v.device).session ≡ cond (disk.run X (disk_of v)).1 p.session s =
        acted_session p s v.device ∙ ap (λ t. cond t p.session s) (ap (λ l. accepted (run l v.device).answer) same ∙ r.answer) in
        let m : Match (opt (cond (disk.run X (disk_of v)).1 p.session s)) (f (disk.run X (disk_of v)).1) = go (disk.run X (disk_of v)).1 in
        subst (λ (l : List Action). Fair (after_run l v) (opt (acted (Ok p) s v.device).session) (disk.run X (disk_of v)).0 (f (disk.run X (disk_of v)).1)) (sym same)
        (record {
          shows = r.after;
          match = subst (λ (z : S). Match (opt z) (f (disk.run X (disk_of v)).1)) (sym e) m;
          size = r.size;
          listed = r.listed;
          kept = r.kept;
        })
      where
        go : (t : Bool) → Match (opt (cond t p.session s)) (f t)
        go true = a
        go false = b

  module _ (base : ℕ → Sector) where
    -- a life by the calls, shown as a life over the real layout: with the same accounts
    pub record Shown {v : Volume} {o : Option Session} (l : Life L n bank base v o) : Type 0 where
      pub d : Disk
      pub o' : Option calls.Session
      pub lived : life.Life (real L n bank u) base d o'
      pub fair : Fair v o d o'
      pub account : (acc : List Entry) → life.Account lived acc → Account l acc

    -- the disk is that of the volume
    pub normal : {v : Volume} {o : Option Session} (l : Life L n bank base v o) (R : Type 0) → Shown l →
        ((o' : Option calls.Session) (l' : life.Life (real L n bank u) base (disk_of v) o') → Fair v o (disk_of v) o' → ((acc : List Entry) → life.Account l' acc → Account l acc) → R) → R
    normal {v} {o} l R S f =
        let F = S.fair in
        let g : Fair v o (disk_of v) S.o' = record { shows = refl; match = F.match; size = F.size; listed = F.listed; kept = F.kept } in
        subst (λ (d : Disk). (l' : life.Life (real L n bank u) base d S.o') → ((acc : List Entry) → life.Account l' acc → Account l acc) → R) F.shows
        (λ l' a. f S.o' l' g a) S.lived S.account

    -- what is known of a volume in a life
    pub record Facts (v : Volume) : Type 0 where
      pub label : sector_at v.device 0 ≡ holds (label_bytes L)
      pub whole : (x : ℕ) → Whole (sector_at v.device (volume_sector L x))
      pub found : Finds (real L n bank u) (sector_at v.device)
      pub full : Full v.device
      pub labels : AllByRecursion (λ s. s ≡ holds (label_bytes L)) (v.past 0)

    pub facts : (v : Volume) (o' : Option calls.Session) (l' : life.Life (real L n bank u) base (disk_of v) o') → Kept SizedAt (disk_of v) → Facts v
    facts v o' l' k =
        let V = life_stands (real L n bank u) base (disk_of v) o' l' in
        record {
          label = in_all (λ s. s ≡ holds (label_bytes L)) (sector_at v.device 0) (v.past 0) V.label (k.0 0);
          whole = λ x. in_all Whole (sector_at v.device (volume_sector L x)) (v.past (volume_sector L x)) (V.log x) (k.0 (volume_sector L x));
          found = V.finds;
          full = λ i b e. now_sized (disk_of v) k i b e;
          labels = V.label;
        }
